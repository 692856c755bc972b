-- The lane that a line names is looked for behind the place.
use Rattle.std.proofs.Common.{◌≡◌, ◌≢◌, ℕ, suc, ◌+◌, ◌≤◌, ◌&&◌, Bool, true, false, is_some, List, [], ◌∷◌, ◌++◌, length, drop, Option, Some, None, refl, sym, ap, ◌∙◌, slice_get, add-one}
use Rattle.std.{proofs.{Common.{append_assoc, Bor, if◌then◌else◌}, lemmas.{Bool.eq-eqb, List.drop_all}}, specs.Prelude.MatchOption}
use Rattle.ix_lanes.proofs.found.Indexed.{none_left, rest_is}
use Rattle.ix_judging.{specs.Names.{starts, told_from}, proofs.NamesTell.{starts_so, starts_with}}

-- ---- fronts
pub starts-cancel : (front x text : List ℕ) → starts (front ++ x) (front ++ text) ≡ starts x text
starts-cancel [] x text = refl
starts-cancel (b ∷ front) x text = ap (λ t. t && starts (front ++ x) (front ++ text)) (eq-eqb b b refl) ∙ starts-cancel front x _

starts-not : (front text : List ℕ) → ((rest : List ℕ) → text ≢ front ++ rest) → starts front text ≡ false
starts-not front text none = go _ refl
  where
    go : (t : Bool) → starts front text ≡ t → t ≡ false
    go false is = refl
    go true is = absurd (none _ (starts_so _ _ is).1)

-- what stands behind bytes, if a text begins with them
abbrev pub IsBehind : List ℕ → List ℕ → Option (Bor (List ℕ)) → Type 0
IsBehind text front o = MatchOption o ((rest : List ℕ) → text ≢ front ++ rest) (λ rest. text ≡ front ++ rest.now)

is_starts : (text front : List ℕ) (o : Option (Bor (List ℕ))) → IsBehind text front o → is_some o ≡ starts front text
is_starts text front None none = sym (starts-not _ _ none)
is_starts text front (Some rest) is = sym (ap (starts _) is ∙ starts_with front rest.now)

-- a name and a space
pub name_here : (name rest text : List ℕ) (o : Option (Bor (List ℕ))) → text ≡ name ++ rest → IsBehind rest (32 ∷ []) o
    → is_some o ≡ starts (name ++ 32 ∷ []) text
name_here name rest text o is space =
    is_starts _ (32 ∷ []) o space ∙ sym (starts-cancel name (32 ∷ []) rest) ∙ ap (starts _) (sym is)

pub name_not : (name text : List ℕ) → ((rest : List ℕ) → text ≢ name ++ rest) → false ≡ starts (name ++ 32 ∷ []) text
name_not name text none = sym (starts-not (name ++ 32 ∷ []) text (λ rest is. none (32 ∷ rest) (is ∙ append_assoc name _ rest)))

-- ---- lanes one after the other
module _ (text : List ℕ) (lanes : List (List ℕ)) (first : Option ℕ) where
  pub lane_here : (i : ℕ) (lane : List ℕ) → slice_get lanes i ≡ Some lane → starts (lane ++ 32 ∷ []) text ≡ true
      → told_from i [] (drop i lanes) text ≡ first → Some i ≡ first
  lane_here i lane at is h = rw (rest_is lanes i lane at, is) at h

  pub lane_later : (i : ℕ) (lane : List ℕ) → slice_get lanes i ≡ Some lane → starts (lane ++ 32 ∷ []) text ≡ false
      → told_from i [] (drop i lanes) text ≡ first → told_from (i + 1) [] (drop (i + 1) lanes) text ≡ first
  lane_later i lane at is h =
      ap (λ n. told_from n [] (drop (i + 1) lanes) text) (add-one i) ∙ (rw (rest_is lanes i lane at, is) at h)

  pub lane_none : (i : ℕ) → length lanes ≤ i → told_from i [] (drop i lanes) text ≡ first → None ≡ first
  lane_none i past h = rw (drop_all) at h

  pub lane_past : (i : ℕ) → slice_get lanes i ≡ None → told_from i [] (drop i lanes) text ≡ first → None ≡ first
  lane_past i none h = rw (none_left) at h

-- ---- behind a mark
pub told-behind : (n : ℕ) (mark text : List ℕ) (names : List (List ℕ)) → told_from n mark names (mark ++ text) ≡ told_from n [] names text
told-behind n mark text [] = refl
told-behind n mark text (name ∷ names) =
    (λ i. if starts-cancel mark (name ++ 32 ∷ []) text i then Some n else told-behind (suc n) mark text names i)

pub told-not : (n : ℕ) (mark line : List ℕ) (names : List (List ℕ)) → ((rest : List ℕ) → line ≢ mark ++ rest)
    → told_from n mark names line ≡ None
told-not n mark line [] none = refl
told-not n mark line (name ∷ names) none =
    rw (starts-not (mark ++ (name ++ 32 ∷ [])) line (λ rest is. none ((name ++ 32 ∷ []) ++ rest) (is ∙ append_assoc mark _ rest))) (told-not (suc n) mark line names none)
