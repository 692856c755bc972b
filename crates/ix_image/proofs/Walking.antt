-- Names that stand one behind the other: how they are read, and read again one by one.
use Rattle.std.{proofs.Common.{◌≡◌, ℕ, zero, suc, ◌-◌, true, List, [], ◌∷◌, length, Ok, Err, refl, sym, ap, ◌∙◌, arith}, specs.Result.is_ok}
use Rattle.ix_image.specs.{declared.fault.Fault.Fault, Trees.LinkOf, Reading.{Read, ◌>>=◌, many_at, link_at, links_at}, Meant.links_read}

-- none
pub none_readable : is_ok (links_at 0 []) ≡ true
unfolding many_at
none_readable = refl

pub none_read : (text : List ℕ) → links_read (links_at 0 text) ≡ []
unfolding many_at
none_read text = refl

-- names of which the first was read, from what the others gave
abbrev behind_first : LinkOf → Read (List LinkOf) → Read (List LinkOf)
behind_first l r = r >>= λ o. Ok (l ∷ o.0, o.1)

-- so many names from a text on, from what the first gave
abbrev from_first : ℕ → Read LinkOf → Read (List LinkOf)
from_first n r = r >>= λ l. behind_first l.0 (links_at n l.1)

begins_so : (n : ℕ) (text : List ℕ) → links_at (suc n) text ≡ from_first n (link_at text)
unfolding many_at
begins_so n text = refl

-- as many as were to be read
others_count : (n : ℕ) (l : LinkOf) (r : Read (List LinkOf)) → (is_ok r ≡ true → length (links_read r) ≡ n) → is_ok (behind_first l r) ≡ true → length (links_read (behind_first l r)) ≡ suc n
others_count n l (Ok o) long ok = ap suc (long refl)
others_count n l (Err f) long ok = absurd (cc ok)

first_count : (n : ℕ) (r : Read LinkOf) → ((text : List ℕ) → is_ok (links_at n text) ≡ true → length (links_read (links_at n text)) ≡ n) → is_ok (from_first n r) ≡ true
    → length (links_read (from_first n r)) ≡ suc n
first_count n (Ok l) long ok = others_count n _ (links_at n l.1) (long _) ok
first_count n (Err f) long ok = absurd (cc ok)

pub count_read : (n : ℕ) (text : List ℕ) → is_ok (links_at n text) ≡ true → length (links_read (links_at n text)) ≡ n
count_read zero text ok = ap (λ xs. length xs) (none_read _)
count_read (suc n) text ok =
    let so = begins_so n _ in
    ap (λ r. length (links_read r)) so ∙ first_count n (link_at text) (count_read n) (sym (ap is_ok so) ∙ ok)

-- ---- the first and the others
-- the others can be read, too
pub record Split (n : ℕ) (text : List ℕ) (l : LinkOf) (after : List ℕ) : Type 0 where
  pub readable : is_ok (links_at n after) ≡ true
  pub links : links_read (links_at (suc n) text) ≡ l ∷ links_read (links_at n after)

pub splits : (n : ℕ) (text : List ℕ) (l : LinkOf) (after : List ℕ) → is_ok (links_at (suc n) text) ≡ true → link_at text ≡ Ok (l, after) → Split n text l after
splits n text l after ok first =
    let so = begins_so n _ ∙ ap (from_first n) first in
    let both = go (links_at n after) (sym (ap is_ok so) ∙ ok) in
    record { readable = both.0; links = ap links_read so ∙ both.1 }
  where
    go : (r : Read (List LinkOf)) → is_ok (behind_first l r) ≡ true → (is_ok r ≡ true) × (links_read (behind_first l r) ≡ l ∷ links_read r)
    go (Ok o) ok = (refl, refl)
    go (Err f) ok = absurd (cc ok)

-- the first can always be read
pub no_fault : (n : ℕ) (text : List ℕ) (f : Fault) → is_ok (links_at (suc n) text) ≡ true → link_at text ≡ Err f → ⊥
no_fault n text f ok first =
    let no = ap is_ok (begins_so n _ ∙ ap (from_first n) first) in
    cc

-- a count that is not 0
pub one_less : (n : ℕ) → (n ≡ 0 → ⊥) → suc (n - 1) ≡ n
one_less zero some = absurd (some refl)
one_less (suc n) some = omega arith
