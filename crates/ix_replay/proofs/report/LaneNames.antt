-- The names of a script's lanes.
use Rattle.std.proofs.Common.{◌≡◌, ℕ, zero, suc, ◌<◌, ◌≤◌, ◌==◌, Bool, true, false, not, List, [], ◌∷◌, ◌++◌, length, fold, if◌then◌else◌, refl, sym, ap, ◌∙◌}
use Rattle.std.proofs.Common.{arith, inl, inr, length-append}
use Rattle.std.specs.{List.list_all, Cmp.Lexicographic.bytes_decides}
use Rattle.std.proofs.Math.{ListN.get_or-append, Seq.get_or-append_seam}
use Rattle.std.proofs.lemmas.{Bool.{and_parts, cases_lt, true≢false, Decides.nat_tests}, List.Folds.list_any_at}
use Rattle.ix_model.specs.world.Naming.{same_bytes}
use Rattle.ix_script.specs.{lines.Before.{is_known, lanes_after, lanes_of}, declared.line.Line.Line}
use Rattle.ix_text.{specs.Names.{is_reserved, is_script_name, may_stand_in_script_name}, proofs.Tests.{both, list_all_weaker}}
use Rattle.ix_script.specs.declared.line.Line.TheVariants as line
use Rattle.ix_replay.{specs.report.Report.lane_name, proofs.report.Beginnings.no_space}

-- ---- names differ
-- no two of the names are the same
abbrev pub Differ : List (List ℕ) → Type 0
Differ names = (i j : ℕ) → i < length names → j < length names → lane_name names i ≡ lane_name names j → i ≡ j

-- a new name is none of the others
is_new : (name : List ℕ) (names : List (List ℕ)) (i : ℕ) → is_known name names ≡ false → i < length names → name ≡ lane_name names i → ⊥
is_new name names i new low same =
    let there : is_known name names ≡ true = list_any_at (same_bytes name) names i [] low ((bytes_decides name (lane_name names i)).1 same) in
    true≢false (sym there ∙ new)

module _ (name : List ℕ) (names : List (List ℕ)) where
  before : (i : ℕ) → i < length names → lane_name (names ++ name ∷ []) i ≡ lane_name names i
  before i low = get_or-append names (name ∷ []) [] i low

  last : (i : ℕ) → i ≡ length names → lane_name (names ++ name ∷ []) i ≡ name
  last i end = ap (lane_name (names ++ name ∷ [])) end ∙ get_or-append_seam names name [] []

  at_end : (i : ℕ) → i < length (names ++ name ∷ []) → length names ≤ i → i ≡ length names
  at_end i low past = omega (arith, low, past, length-append names (name ∷ []))

  differ_push : Differ names → is_known name names ≡ false → Differ (names ++ name ∷ [])
  differ_push differ new i j i_low j_low same = elim (cases_lt i (length names)) [
    | inl i_in ↦ elim (cases_lt j (length names)) [
      | inl j_in ↦ differ i j i_in j_in (sym (before i i_in) ∙ same ∙ before j j_in)
      | inr j_past ↦ absurd (is_new name names i new i_in (sym (last j (at_end j j_low j_past)) ∙ sym same ∙ before i i_in))
    ]
    | inr i_past ↦ elim (cases_lt j (length names)) [
      | inl j_in ↦ absurd (is_new name names j new j_in (sym (last i (at_end i i_low i_past)) ∙ same ∙ before j j_in))
      | inr j_past ↦ at_end i i_low i_past ∙ sym (at_end j j_low j_past)
    ]
  ]

  differ_more : (known : Bool) → is_known name names ≡ known → Differ names → Differ (if known then names else names ++ name ∷ [])
  differ_more true is differ = differ
  differ_more false is differ = differ_push differ is

differ_after : (names : List (List ℕ)) (l : Line) → Differ names → Differ (lanes_after names l)
differ_after names (line.Lane name) differ = differ_more name names (is_known name names) refl differ
differ_after names _ differ = differ

differ_from : (names : List (List ℕ)) (lines : List Line) → Differ names → Differ (fold lanes_after names lines)
differ_from names [] differ = differ
differ_from names (l ∷ lines) differ = differ_from (lanes_after names l) lines (differ_after names l differ)

-- each lane of a script stands once among its lanes
pub lanes_differ : (s : List Line) → Differ (lanes_of s)
unfolding lanes_of
lanes_differ s = differ_from [] s (λ i j low. absurd (omega (arith, low)))

-- ---- names have no space
no_space_byte : (b : ℕ) → may_stand_in_script_name b ≡ true → not (b == 32) ≡ true
no_space_byte b h = grind (arith, nat_tests)

name_no_space : (name : List ℕ) → is_script_name name ≡ true → no_space name ≡ true
unfolding is_script_name
name_no_space name h =
    let one = both _ (not (is_reserved name)) h in
    let two = both _ (list_all may_stand_in_script_name name) one.0 in
    list_all_weaker may_stand_in_script_name (λ b. not (b == 32)) no_space_byte name two.1

pub lane_no_space : (names : List (List ℕ)) (i : ℕ) → list_all is_script_name names ≡ true → i < length names → no_space (lane_name names i) ≡ true
lane_no_space [] i h low = absurd (omega (arith, low))
lane_no_space (name ∷ names) zero h low = name_no_space name (and_parts (is_script_name name) (list_all is_script_name names) h).0
lane_no_space (name ∷ names) (suc i) h low = lane_no_space names i (and_parts (is_script_name name) (list_all is_script_name names) h).1 (omega (arith, low))
