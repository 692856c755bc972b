use Rattle.std.{proofs.Common.{◌≡◌, List, ℕ, Option, None, Some, false, sym, ap, ◌∙◌, subst}, specs.Option.option_map_or}
use Rattle.ix_text.specs.Bytes.{is_empty}
use Rattle.ix_script.specs.{texts.Cutting.{words_of, is_skipped, is_policy_line}, declared.{form.Form.Form, line.Line.Line}}
use Rattle.ix_script.specs.lines.{Before.form_told, Faults.{said_fault, command_fault}}
use Rattle.ix_script.specs.{lines.Forms.places, reader.{Placing.command_cost, Readers.{FormRight, IsFormed}}}
use Rattle.ix_script.proofs.{lines.Deciding.{begun_some, some_lines, text_broken, by_words, said_by_form, said_is}, lines.Readings.stand, reader.Commands.{command_said, stands_in_lane}}
use Rattle.ix_script.proofs.draft.Draft.add_line.Goals as goal

pub returns-in-Err-clause-fail : goal.returns-in-Err-clause-fail
returns-in-Err-clause-fail g c = rw (text_broken c.args.self.now.lines.said c.args.text.now _ c.in-Err.ensures) c.fault.ensures

pub add_next_lane-requires-clause-later : goal.add_next_lane-requires-clause-later
add_next_lane-requires-clause-later g c =
    begun_some c.args.self.now.lines.said (sym c.requires.grows.told.body.started ∙ (c.is_next_lane.ensures c.if-is_next_lane.true).started)

pub add_command-requires-clause-plain : goal.add_command-requires-clause-plain
add_command-requires-clause-plain g c =
    let before = c.args.self.now.lines.said in
    let text = c.args.text.now in
    let some : is_empty before ≡ false = some_lines before c.len.result c.len.ensures c.if-len-eq0.false in
    let not_skipped : is_skipped text ≡ false = sym c.is_skipped.ensures ∙ c.if-is_skipped.false in
    let no_policy : is_policy_line text ≡ false = sym c.is_policy_line.ensures ∙ c.if-is_policy_line.false in
    let right : FormRight before c.in-Ok.form (words_of text) = rw c.cut.ensures at c.in-Ok.ensures in
    let cost : command_cost c.in-Ok.form (words_of text) ≡ Some c.in-Some.cost = ap (command_cost c.in-Ok.form) (sym c.cut.ensures) ∙ sym c.command_cost.ensures ∙ c.in-Some.is in
    let e = command_said (form_told before) c.in-Ok.form (words_of text) c.in-Some.cost cost right.faultless in
    record {
      in_lane = stands_in_lane before c.in-Ok.form (words_of text) c.in-Some.cost cost right.inside;
      line = e.line;
      meant = said_by_form (form_told before) text c.in-Ok.form e.line not_skipped no_policy right.first e.says;
      fault = by_words before text c.in_default.ensures some not_skipped no_policy ∙ right.fault ∙ ap (λ (o : Option Line). option_map_or (said_fault before) o None) e.says;
      is_command = e.is_command;
      costs = e.costs;
    }

pub command_cost-requires : goal.command_cost-requires
command_cost-requires g c =
    let right : FormRight c.args.self.now.lines.said c.in-Ok.form c.cut.new.self = c.in-Ok.ensures in
    stand (places (form_told c.args.self.now.lines.said) c.in-Ok.form c.cut.new.self) right.faultless

pub returns-in-Err-form_by_words-clause-fail : goal.returns-in-Err-form_by_words-clause-fail
returns-in-Err-form_by_words-clause-fail g c =
    let before = c.args.self.now.lines.said in
    let text = c.args.text.now in
    let some : is_empty before ≡ false = some_lines before c.len.result c.len.ensures c.if-len-eq0.false in
    let broken : command_fault before (words_of text) ≡ Some c.in-Err-form_by_words.rule.0 = rw c.cut.ensures at c.in-Err-form_by_words.ensures in
    let is = by_words before text c.in_default.ensures some (sym c.is_skipped.ensures ∙ c.if-is_skipped.false) (sym c.is_policy_line.ensures ∙ c.if-is_policy_line.false) ∙ broken in
    rw is c.fault-in-Err-form_by_words.ensures

pub add_formed-requires-clause-formed : goal.add_formed-requires-clause-formed
add_formed-requires-clause-formed g c =
    let before : List Line = c.args.self.now.lines.said in
    let text : List ℕ = c.args.text.now in
    let form : Form = c.in-Ok.form in
    let some : is_empty before ≡ false = some_lines before c.len.result c.len.ensures c.if-len-eq0.false in
    let not_skipped : is_skipped text ≡ false = sym c.is_skipped.ensures ∙ c.if-is_skipped.false in
    let no_policy : is_policy_line text ≡ false = sym c.is_policy_line.ensures ∙ c.if-is_policy_line.false in
    let right : FormRight before form (words_of text) = rw c.cut.ensures at c.in-Ok.ensures in
    subst (λ (words : List (List ℕ)). IsFormed before text form words) (sym c.cut.ensures) (record {
      faultless = right.faultless;
      meant = said_is (form_told before) text form not_skipped no_policy right.first;
      fault = by_words before text c.in_default.ensures some not_skipped no_policy ∙ right.fault;
    })
