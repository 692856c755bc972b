-- Lines walked through by their numbers.
use Rattle.std.proofs.Common.{◌≡◌, ℕ, zero, suc, ◌+◌, ◌<◌, true, false, List, [], ◌∷◌, length, drop, get_or, Some, None, refl, sym, ap, ◌∙◌, add-one}
use Rattle.std.{specs.{List.{slice_get, position, position_from}, Option.option_map_or}, proofs.lemmas.{Bool.false≢true, Option.{none-some, same_Some, slice_get-get_or}}}
use Rattle.ix_script.specs.{lines.Before.is_policy, scripts.Scripts.policy_of, declared.line.Line.Line}
use Rattle.ix_script.specs.declared.line.Line.TheVariants as line

next : (lines : List Line) (i : ℕ) (l : Line) → slice_get lines i ≡ Some l → drop i lines ≡ l ∷ drop (suc i) lines
next [] zero l h = absurd (none-some l h)
next [] (suc i) l h = absurd (none-some l h)
next (x ∷ lines) zero l h = ap (λ y. y ∷ lines) (same_Some x l h)
next (x ∷ lines) (suc i) l h = next _ i l h

pub next_line : (lines : List Line) (i : ℕ) (l : Line) → slice_get lines i ≡ Some l → drop i lines ≡ l ∷ drop (i + 1) lines
next_line lines i l h = next _ i l h ∙ ap (λ n. l ∷ drop n lines) (sym (add-one i))

-- ---- the policy
pub policy_here : (lines : List Line) (i : ℕ) → option_map_or is_policy (slice_get lines i) false ≡ true → position_from is_policy i (drop i lines) ≡ Some i
policy_here lines i is = elim (slice_get lines i) as (λ found. slice_get lines i ≡ found → option_map_or is_policy found false ≡ true → position_from is_policy i (drop i lines) ≡ Some i) [
  | Some l ↦ λ h policy. rw (next_line lines i l h, policy) refl
  | None ↦ λ h policy. absurd (false≢true policy)
] refl is

pub policy_later : (lines : List Line) (i : ℕ) → i < length lines → option_map_or is_policy (slice_get lines i) false ≡ false
    → position_from is_policy i (drop i lines) ≡ position_from is_policy (i + 1) (drop (i + 1) lines)
policy_later lines i low none =
    let l = get_or lines i line.Skipped in
    let h = slice_get-get_or lines i line.Skipped low in
    let no = ap (λ found. option_map_or is_policy found false) (sym h) ∙ none in
    rw (next_line lines i l h, no) refl

pub not_policy : (x : Line) → ((text : List ℕ) → x ≡ line.Policy text → ⊥) → is_policy x ≡ false
not_policy (line.Policy text) other = absurd (other _ refl)
not_policy _ other = refl

pub policy_is : (lines : List Line) (i : ℕ) (text : List ℕ) → position is_policy lines ≡ Some i → slice_get lines i ≡ Some (line.Policy text) → policy_of lines ≡ Some (i + 1, text)
unfolding policy_of
policy_is lines i text place at = rw (place, at) refl

pub policy_none : (lines : List Line) → position is_policy lines ≡ None → policy_of lines ≡ None
unfolding policy_of
policy_none lines place = rw place refl
