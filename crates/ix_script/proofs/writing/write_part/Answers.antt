use Rattle.std.{proofs.Common.{◌≡◌, List, ℕ, Some, ◌+◌, ◌++◌, refl, sym, ap, ◌∙◌, append_assoc}, specs.{List.slice_get, Prelude.codes}}
use Rattle.ix_script.{specs.{lines.Before.form_told, scripts.Canonical.{line_text, canonical_from, canonical_in}, declared.line.Line.Line}, proofs.reader.Walking.next_line}
use Rattle.ix_script.proofs.writing.write_part.Goals as goal

-- a line more, with its line feed
line_more : (lines : List Line) (index : ℕ) (l : Line) (start old out new : List ℕ) → slice_get lines index ≡ Some l
    → out ≡ old ++ line_text (form_told lines) l → new ≡ out ++ codes "\n" → old ++ canonical_from lines index ≡ start → new ++ canonical_from lines (index + 1) ≡ start
line_more lines index l start old out new at written ended so_far =
    let text = line_text (form_told lines) l in
    let more = canonical_from lines (index + 1) in
    let is = ended ∙ ap (λ t. t ++ codes "\n") written ∙ append_assoc old text _ in
    ap (λ t. t ++ more) is ∙ append_assoc old _ more ∙ ap (λ t. old ++ t) (sym (ap (canonical_in (form_told lines)) (next_line lines index l at))) ∙ so_far

pub lines-init : goal.lines-init
lines-init c = refl

pub lines-preserved : goal.lines-preserved
lines-preserved c =
    let lines = c.args.script.now in
    line_more lines c.lines.index _ _ _ _ _ (rw (c.unwrap-text.ensures, c.lines-lines.ensures) at c.text_at.ensures).1
    (rw (c.form.ensures, c.lines-lines.ensures) at c.in_ok-write_line.ensures) c.in_ok-push.ensures.items c.lines.invariant

pub returns-then-len-full-clause-text : goal.returns-then-len-full-clause-text
returns-then-len-full-clause-text c =
    let lines = c.args.script.now in
    line_more lines c.lines.index _ _ _ _ _ (rw (c.unwrap-text.ensures, c.lines-lines.ensures) at c.text_at.ensures).1
    (rw (c.form.ensures, c.lines-lines.ensures) at c.in_ok-write_line.ensures) c.in_ok-push.ensures.items c.lines.invariant
