-- The names of processes, as lines are gone through.
use Rattle.std.proofs.Common.{◌≡◌, ℕ, zero, suc, ◌+◌, ◌≤◌, List, [], ◌∷◌, ◌++◌, length, drop, Some, None, refl, sym, ap, ◌∙◌, inl, inr, arith, slice_get}
use Rattle.std.proofs.lemmas.{Bool.cases_lt, List.drop_all, Option.{none-some, slice_get-get_or}}
use Rattle.ix_script.specs.{declared.line.Line.Line, lines.{Before.{proc_names, proc_name_told}, Roles.{EndsHeader, header_only, role_of}}}
use Rattle.ix_script.specs.declared.line.Line.TheVariants as line
use Rattle.ix_lanes.{specs.{asking.Asked.Numbers, histories.Serial.numbered}, proofs.found.Indexed.rest_is}

both_numbered : (n : ℕ) (names more : List (List ℕ)) (m : Numbers) → numbered (n + length names) more (numbered n names m) ≡ numbered n (names ++ more) m
both_numbered n [] more m = let same : n + 0 ≡ n = omega arith in rw same refl
both_numbered n (name ∷ names) more m =
    let same : n + suc (length names) ≡ suc n + length names = omega arith in
    rw same (both_numbered (suc n) names more _)

pub numbered_on : (count after : ℕ) (lines : List Line) (i : ℕ) (l : Line) (m : Numbers) → slice_get lines i ≡ Some l → after ≡ count + length (proc_name_told l)
    → numbered (after + 1) (proc_names (drop (i + 1) lines)) (numbered (count + 1) (proc_name_told l) m) ≡ numbered (count + 1) (proc_names (drop i lines)) m
unfolding proc_names
numbered_on count after lines i l m at is =
    let same : after + 1 ≡ (count + 1) + length (proc_name_told l) = omega (arith, is) in
    rw (same, rest_is lines i l at) (both_numbered (count + 1) (proc_name_told l) (proc_names (drop (i + 1) lines)) m)

tells_none : (l : Line) → header_only (Some l) ≡ None → proc_name_told l ≡ []
unfolding role_of
tells_none (line.Proc name label ceiling cap lic) h = absurd (none-some _ (sym h))
tells_none _ h = refl

past_header : (lines : List Line) (n k i : ℕ) → EndsHeader n lines → n ≤ i → length lines ≤ i + k → proc_names (drop i lines) ≡ []
unfolding proc_names
past_header lines n zero i ends low past = rw (drop_all i lines (omega (arith, past))) refl
past_header lines n (suc k) i ends low past = elim (cases_lt i (length lines)) [
  | inl within ↦
      let at = slice_get-get_or lines i line.Skipped within in
      rw (rest_is lines i _ at, tells_none _ (ap header_only (sym at) ∙ ends i low)) (past_header lines n k (i + 1) ends (omega (arith, low)) (omega (arith, past)))
  | inr out ↦ rw (drop_all i lines out) refl
]

pub numbered_end : (count : ℕ) (lines : List Line) (n i : ℕ) (m whole : Numbers) → EndsHeader n lines → n ≤ i → numbered (count + 1) (proc_names (drop i lines)) m ≡ whole → m ≡ whole
numbered_end count lines n i m whole ends low h = rw (past_header lines n (length lines) i ends low (omega arith)) at h
