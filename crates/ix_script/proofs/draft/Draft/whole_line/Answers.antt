use Rattle.std.proofs.Common.{◌≡◌, false, true, Ok, sym, ◌∙◌}
use Rattle.ix_text.specs.Bytes.{is_empty}
use Rattle.ix_script.specs.texts.Cutting.{is_skipped, is_policy_line}
use Rattle.ix_script.specs.declared.line.Line.TheVariants as line
use Rattle.ix_script.proofs.lines.Deciding.{some_lines, skipped_right, policy_right, policy_read, policy_stands, policy_late, policy_bare, policy_again}
use Rattle.ix_script.proofs.draft.Draft.whole_line.Goals as goal

pub returns-then-is_skipped : goal.returns-then-is_skipped
returns-then-is_skipped c =
    skipped_right c.args.self.now.lines.said c.args.text.now (some_lines c.args.self.now.lines.said c.len.result c.len.ensures c.if-len-eq0.false) (sym c.is_skipped.ensures ∙ c.if-is_skipped.true)

pub returns-then-self : goal.returns-then-self
returns-then-self c =
    let some : is_empty c.args.self.now.lines.said ≡ false = some_lines c.args.self.now.lines.said c.len.result c.len.ensures c.if-len-eq0.false in
    let not_skipped : is_skipped c.args.text.now ≡ false = sym c.is_skipped.ensures ∙ c.if-is_skipped.false in
    policy_stands c.args.self.now.lines.said c.args.text.now some not_skipped (rw (some, not_skipped) at c.requires.whole)
    ∙ policy_late c.args.self.now.lines.said c.args.text.now (sym c.requires.told.body.started ∙ c.if-self.true)

pub returns-then-text-le7 : goal.returns-then-text-le7
returns-then-text-le7 c =
    let some : is_empty c.args.self.now.lines.said ≡ false = some_lines c.args.self.now.lines.said c.len.result c.len.ensures c.if-len-eq0.false in
    let not_skipped : is_skipped c.args.text.now ≡ false = sym c.is_skipped.ensures ∙ c.if-is_skipped.false in
    policy_stands c.args.self.now.lines.said c.args.text.now some not_skipped (rw (some, not_skipped) at c.requires.whole)
    ∙ policy_bare c.args.self.now.lines.said c.args.text.now (sym c.requires.told.body.started ∙ c.if-self.false) c.if-text-le7.true

pub returns-then-self-2 : goal.returns-then-self-2
returns-then-self-2 c =
    let some : is_empty c.args.self.now.lines.said ≡ false = some_lines c.args.self.now.lines.said c.len.result c.len.ensures c.if-len-eq0.false in
    let not_skipped : is_skipped c.args.text.now ≡ false = sym c.is_skipped.ensures ∙ c.if-is_skipped.false in
    policy_stands c.args.self.now.lines.said c.args.text.now some not_skipped (rw (some, not_skipped) at c.requires.whole)
    ∙ policy_again c.args.self.now.lines.said c.args.text.now (sym c.requires.told.body.started ∙ c.if-self.false) c.if-text-le7.false (sym c.requires.told.header.policy ∙ c.if-self-2.true)

pub returns : goal.returns
returns c =
    let some : is_empty c.args.self.now.lines.said ≡ false = some_lines c.args.self.now.lines.said c.len.result c.len.ensures c.if-len-eq0.false in
    let not_skipped : is_skipped c.args.text.now ≡ false = sym c.is_skipped.ensures ∙ c.if-is_skipped.false in
    let policy : is_policy_line c.args.text.now ≡ true = rw (some, not_skipped) at c.requires.whole in
    policy_right c.args.self.now.lines.said c.args.text.now (Ok (line.Policy c.of_line.result)) some not_skipped policy
    (policy_read c.args.self.now.lines.said c.args.text.now c.of_line.result (sym c.requires.told.body.started ∙ c.if-self.false) c.if-text-le7.false
    (sym c.requires.told.header.policy ∙ c.if-self-2.false) c.of_line.ensures)
