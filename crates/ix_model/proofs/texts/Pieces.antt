-- Cutting the first piece off.
use Rattle.std.proofs.Common.{◌≡◌, ℕ, zero, suc, ◌+◌, ◌<◌, ◌==◌, Bool, true, false, cond, List, [], ◌∷◌, length, take, drop, get_or, Option, Some, None, refl, sym, ap, ◌∙◌, arith, add-one}
use Rattle.std.{specs.List.{position, position_from}, proofs.lemmas.{List.Quantifiers.position-Some, Iterator.Adapters.position_from-zero}}
use Rattle.ix_model.specs.world.Texts.{between_slashes}

abbrev slash : ℕ → Bool
slash b = b == 47

at_slash : (text : List ℕ) (k : ℕ) → k < length text → slash (get_or text k 0) ≡ true → ((j : ℕ) → j < k → slash (get_or text j 0) ≡ false)
    → between_slashes text ≡ take k text ∷ between_slashes (drop (suc k) text)
unfolding between_slashes
at_slash [] k within found before = absurd (omega arith)
at_slash (b ∷ text) zero within found before = rw found refl
at_slash (b ∷ text) (suc k) within found before =
    let first = before 0 (omega arith) in
    let rest : between_slashes text ≡ take k text ∷ between_slashes (drop (suc k) text) = at_slash _ k (omega arith) found (λ j h. before (suc j) (omega arith)) in
    rw (first, rest) refl

-- up to a slash
pub slash_at : (text : List ℕ) (k : ℕ) → position (λ b. b == 47) text ≡ Some k → between_slashes text ≡ take k text ∷ between_slashes (drop (k + 1) text)
slash_at text k h =
    let found = position-Some slash text k 0 h in
    at_slash _ k found.0 found.1 found.2 ∙ ap (λ n. take k text ∷ between_slashes (drop n text)) (sym (add-one k))

none_cases : (t : Bool) (i : ℕ) (o : Option ℕ) → cond t (Some i) o ≡ None → (t ≡ false) × (o ≡ None)
none_cases true i o h = cc
none_cases false i o h = (refl, h)

no_slash_from : (text : List ℕ) (i : ℕ) → position_from slash i text ≡ None → between_slashes text ≡ text ∷ []
unfolding between_slashes
no_slash_from [] i h = refl
no_slash_from (b ∷ text) i h =
    let p = none_cases _ i (position_from slash _ text) h in
    let rest : between_slashes text ≡ text ∷ [] = no_slash_from text (i + 1) p.1 in
    rw (p.0, rest) refl

-- where there is no slash
pub slash_none : (text : List ℕ) → position (λ b. b == 47) text ≡ None → between_slashes text ≡ text ∷ []
slash_none text h = no_slash_from _ 0 (sym (position_from-zero slash text) ∙ h)
