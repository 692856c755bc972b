-- The items of runs, as they are written one after another.
use Rattle.std.proofs.Common.{◌≡◌, ℕ, zero, suc, ◌+◌, ◌*◌, ◌/◌, ◌<◌, ◌≤◌, ◌==◌, Bool, true, false, cond, List, [], ◌∷◌, ◌++◌, length, refl, arith, append_assoc, length-append, ◌-◌, inl, inr}
use Rattle.std.{specs.{List.join_with_byte, Fmt.{decimal, digits, digits_onto, digit_glyph}}, proofs.lemmas.{Fmt.{length-decimal-le, decimal_digit, decimal_step}, Bool.Decides.eqb_tells}}
use Rattle.ix_label.specs.{Spelling.{item, items, comma, dash}, Scanning.comma_after}

either_some : (b : Bool) (xs ys : List ℕ) → 0 < length xs → 0 < length ys → 0 < length (cond b xs ys)
either_some true xs ys h k = h
either_some false xs ys h k = k

onto_some : (k n : ℕ) (acc : List ℕ) → 0 < k + length acc → 0 < length (digits_onto k 10 false n acc)
onto_some zero n acc h = omega arith
onto_some (suc k) n acc h =
    let more = digit_glyph false _ ∷ acc in
    either_some (n / 10 == 0) more (digits_onto k 10 false (n / 10) more) (omega arith) (onto_some k _ _ (omega arith))

-- each number has a digit
pub decimal_some : (n : ℕ) → 0 < length (decimal n)
unfolding digits
decimal_some n = onto_some 64 n [] (omega arith)

pub item_some : (r : ℕ × ℕ) → 0 < length (item r)
unfolding item
item_some (a, b) = either_some (a == b) (decimal a) _ (decimal_some a) (omega (arith, length-append (decimal a) (dash ∷ decimal b), decimal_some a))

pub comma_after_none : comma_after [] ≡ []
unfolding comma_after
comma_after_none = refl

pub comma_after_some : (xs : List ℕ) → 0 < length xs → comma_after xs ≡ xs ++ comma ∷ []
unfolding comma_after
comma_after_some [] h = absurd (omega arith)
comma_after_some (x ∷ xs) h = refl

joined_some : (x : List ℕ) (xs : List (List ℕ)) → 0 < length x → 0 < length (join_with_byte comma (x ∷ xs))
joined_some x [] h = h
joined_some x (y ∷ xs) h = omega (arith, length-append x (comma ∷ join_with_byte comma (y ∷ xs)))

pub items_more : (r t : ℕ × ℕ) (rs : List (ℕ × ℕ)) → items (r ∷ t ∷ rs) ≡ item r ++ comma ∷ items (t ∷ rs)
unfolding items
items_more r t rs = refl

pub items_none : items [] ≡ []
unfolding items
items_none = refl

pub items_one : (r : ℕ × ℕ) → items (r ∷ []) ≡ item r
unfolding items
items_one r = refl

pub items_some : (r : ℕ × ℕ) (rs : List (ℕ × ℕ)) → 0 < length (items (r ∷ rs))
unfolding items
items_some r rs = joined_some _ _ (item_some r)

after_comma : (x y z : List ℕ) → 0 < length y → x ++ comma ∷ (comma_after y ++ z) ≡ comma_after (x ++ comma ∷ y) ++ z
after_comma x y z h =
    let some : 0 < length (x ++ comma ∷ y) = omega (arith, length-append x (comma ∷ y)) in
    rw (comma_after_some, comma_after_some) (simp append_assoc)

-- one item more
pub items-push : (rs : List (ℕ × ℕ)) (r : ℕ × ℕ) → items (rs ++ r ∷ []) ≡ comma_after (items rs) ++ item r
items-push [] r = rw (items_one r, items_none, comma_after_none) refl
items-push (t ∷ []) r = rw (items_more t r [], items_one r, items_one t, comma_after_some (item t) (item_some t), append_assoc) refl
items-push (t ∷ u ∷ rs) r = rw (items_more t u rs, items_more t u (rs ++ r ∷ []), items-push (u ∷ rs) r) (after_comma (item t) (items (u ∷ rs)) (item r) (items_some u rs))

-- ---- lengths

length-decimal : (n : ℕ) → n < 512 → length (decimal n) ≤ 3
length-decimal n h = length-decimal-le 3 n (omega arith) (omega arith) (omega arith)

length-comma_after : (xs : List ℕ) → length (comma_after xs) ≤ length xs + 1
unfolding comma_after
length-comma_after [] = omega arith
length-comma_after (x ∷ xs) = simp length-append (omega arith)

-- an item and its comma take at most four bytes for each category of the run
pub length-item : (a b : ℕ) → a ≤ b → b < 512 → length (item (a, b)) + 1 ≤ 4 * (b + 1 - a)
unfolding item
length-item a b order small = elim (eqb_tells a b) [
  | inl one ↦ rw one.0 (omega (arith, one.1, length-decimal a (omega arith)))
  | inr more ↦
      let lt : a < b = omega (arith, more.1) in
      rw (more.0, length-append) (omega (arith, length-decimal a (omega arith), length-decimal b small))
]

pub length-more : (text : List ℕ) (a b from : ℕ) → length text ≤ 4 * from → from ≤ a → a ≤ b → b < 512 → length (comma_after text ++ item (a, b)) ≤ 4 * (b + 1)
length-more text a b from room start order small = rw length-append (omega (arith, length-comma_after text, length-item a b order small))

pub ruleset decimals = (decimal_digit, decimal_step, length-append, append_assoc)
