-- A script has no more lanes than lines.
use Rattle.std.proofs.Common.{◌≡◌, ℕ, ◌+◌, ◌≤◌, Bool, true, false, List, [], ◌∷◌, ◌++◌, length, sym, ◌∙◌, arith, Some, None, slice_get}
use Rattle.std.proofs.Common.{inl, inr, fold, if◌then◌else◌, length-append}
use Rattle.std.proofs.lemmas.Option.{slice_get_cases}
use Rattle.ix_script.specs.{declared.line.Line.Line, lines.Before.{is_known, lanes_after, lanes_of}}
use Rattle.ix_script.specs.declared.line.Line.TheVariants as line

one_more : (known : Bool) (name : List ℕ) (names : List (List ℕ)) → length (if known then names else names ++ name ∷ []) ≤ length names + 1
one_more true name names = omega arith
one_more false name names = omega (arith, length-append names (name ∷ []))

after_few : (names : List (List ℕ)) (l : Line) → length (lanes_after names l) ≤ length names + 1
after_few names (line.Lane name) = one_more (is_known name names) name names
after_few names _ = omega arith

few_from : (names : List (List ℕ)) (lines : List Line) → length (fold lanes_after names lines) ≤ length names + length lines
few_from names [] = omega arith
few_from names (l ∷ lines) = omega (arith, few_from (lanes_after names l) lines, after_few names l)

pub lanes_few : (lines : List Line) → length (lanes_of lines) ≤ length lines
unfolding lanes_of
lanes_few lines = omega (arith, few_from [] lines)

-- where there is no item, and none before is past the end, the end is here
pub at_end : {A : Type 0} (xs : List A) (i : ℕ) → slice_get xs i ≡ None → i ≤ length xs → i ≡ length xs
at_end xs i none within = elim (slice_get_cases xs i).1 [
  | inl there ↦ let e : None ≡ Some there.0 = sym none ∙ there.2 in cc
  | inr past ↦ omega (arith, past.0, within)
]
