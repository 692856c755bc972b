-- What is kept beside the lines: what each is for, and what they cost together.
use Rattle.std.proofs.Common.{◌≡◌, ℕ, suc, ◌+◌, ◌*◌, ◌≤◌, Bool, true, false, cond, List, [], ◌∷◌, ◌++◌, length, map, refl, sym, ap, ◌∙◌, arith}
use Rattle.std.proofs.lemmas.List.{map-append}
use Rattle.ix_label.specs.declared.form.Form.{Form}
use Rattle.ix_script.specs.{lines.{Before.is_command, Roles.role_of}, declared.{line.Line.Line, role.Role.Role}}
use Rattle.ix_script.specs.scripts.{Need.{cost_of_line, need}, Packed.{IsLine, AreLines, AreSummed, line_in, between, held}}
use Rattle.ix_script.proofs.reader.Costing.{line_cheap, need_none, need_next, need_push}

-- ---- the sum stays small
at_most : (command : Bool) (cost : ℕ) → cost ≤ cond command 4352 0 → cost ≤ 4352
at_most true cost h = h
at_most false cost h = omega (arith, h)

pub costs_little : (labels : Form) (text : List ℕ) → IsLine labels text → cost_of_line (line_in labels text) ≤ 4352
costs_little labels text l = at_most (is_command (line_in labels text)) (cost_of_line (line_in labels text)) (line_cheap labels text (line_in labels text) l.said)

pub need_little : (labels : Form) (from : ℕ) (text ends : List ℕ) → AreLines labels from text ends → need (held labels from text ends) ≤ 4352 * length ends
need_little labels from text [] h = omega (arith, need_none)
need_little labels from text (end ∷ ends) h =
    omega (arith, need_next (line_in labels (between from end text)) (held labels (suc end) text ends), costs_little labels (between from end text) h.2, need_little labels (suc end) text ends h.3)

-- ---- line after line
pub summed_none : AreSummed [] [] 0
summed_none = record { by_role = refl; total = sym need_none }

pub summed_after : (lines lines2 : List Line) (l : Line) (roles roles2 : List Role) (cost cost2 : ℕ) → lines2 ≡ lines ++ l ∷ []
    → roles2 ≡ roles ++ role_of l ∷ [] → cost2 ≡ cost + cost_of_line l → AreSummed lines roles cost → AreSummed lines2 roles2 cost2
summed_after lines lines2 l roles roles2 cost cost2 more role sum was =
    record {
      by_role = role ∙ ap (λ (rs : List Role). rs ++ role_of l ∷ []) was.by_role ∙ sym (map-append role_of lines (l ∷ [])) ∙ ap (map role_of) (sym more);
      total = omega (arith, sum, was.total, need_push lines l, ap need more);
    }
