use Rattle.std.proofs.{Common.{◌≡◌, ℕ, List, [], length, drop, sym, ◌∙◌, ap, arith, subst}, lemmas.{Bool.eqb-true, List.nil_from_length, Result.err_from_is_err_and}}
use Rattle.ix_script.specs.{texts.Lines.cut, lines.Faults.fault_from, scripts.Scripts.{form_in, lines_said}}
use Rattle.ix_script.proofs.reader.{Progress.{Reading, start, goes_on, stops, faultless, all_said, lines_cut}, Staying.valid_none}
use Rattle.ix_script.{specs.scripts.Packed.FrontOf, proofs.reader.Packing.{comes_next, later_rest}}
use Rattle.ix_script.proofs.texts.Feeds.{cut_printable, first_printable}
use Rattle.ix_script.proofs.draft.Draft.add_lines.Goals as goal

pub lines-init : goal.lines-init
lines-init g c = record {
  reading = start c.args.bytes.now c.args.self.now c.requires.told (ap (λ (f : FrontOf). f.said) c.requires.none) valid_none;
  text = ap (λ (f : FrontOf). f.text) c.requires.none;
  rest = sym (ap (λ (f : FrontOf). drop f.at c.args.bytes.now) c.requires.none);
  printable = λ all. cut_printable c.args.bytes.now (sym c.all_printable_lines-printable.ensures ∙ all);
}

pub add_line-requires-clause-grows : goal.add_line-requires-clause-grows
add_line-requires-clause-grows g c =
    let reading = c.lines.invariant.reading in
    record {
      next = comes_next c.lines.self.lines c.args.bytes.now c.lines.rest.now c.first_line.result.0.now c.lines.invariant.text c.lines.invariant.rest
          (omega (arith, c.first_line.ensures.fewer)) c.first_line.ensures.line;
      told = reading.told;
      valid = reading.valid;
      few = omega (arith, reading.short, c.requires.few);
    }

pub add_line-requires-clause-printable : goal.add_line-requires-clause-printable
add_line-requires-clause-printable g c = λ all. (first_printable c.lines.rest.now c.first_line.result.0.now
    (cut c.first_line.result.1.now) c.first_line.ensures.lines (c.lines.invariant.printable all)).0

pub lines-preserved : goal.lines-preserved
lines-preserved g c =
    let more = c.in_ok-add_line.ensures.line in
    record {
      reading = goes_on (cut c.args.bytes.now) (length c.args.bytes.now)
          c.lines.rest.now c.lines.self c.add_line.new.self c.first_line.result.0.now c.first_line.result.1.now more.line c.lines.invariant.reading
          c.first_line.ensures.lines c.first_line.ensures.fewer more.right c.in_ok-add_line.ensures.told (ap (λ (f : FrontOf). f.said) more.added);
      text = ap (λ (f : FrontOf). f.text) more.added ∙ c.lines.invariant.text;
      rest = rw (c.first_line.ensures.rest, c.lines.invariant.rest, more.added) (later_rest c.lines.self.lines.at (length c.first_line.result.0.now) c.args.bytes.now);
      printable = λ all. (first_printable c.lines.rest.now c.first_line.result.0.now (cut c.first_line.result.1.now) c.first_line.ensures.lines (c.lines.invariant.printable all)).1;
    }

pub returns-in_err-add_line-clause-fail : goal.returns-in_err-add_line-clause-fail
returns-in_err-add_line-clause-fail g c =
    let p = err_from_is_err_and c.from_residual.result c.from_residual.ensures.1 in
    rw (p.1, p.2, lines_cut c.args.bytes.now c.requires.some)
    (stops (cut c.args.bytes.now) (length c.args.bytes.now) c.lines.rest.now c.lines.self c.first_line.result.0.now c.first_line.result.1.now
    c.in_err-add_line.field-0.0 c.lines.invariant.reading c.first_line.ensures.lines c.in_err-add_line.ensures.fail)

pub returns-clause-faultless : goal.returns-clause-faultless
returns-clause-faultless g c =
    let bytes : List ℕ = c.args.bytes.now in
    let none : c.lines.rest.now ≡ [] = nil_from_length c.lines.rest.now (eqb-true _ 0 (sym c.is_empty.ensures ∙ c.lines-test.false)) in
    ap (fault_from []) (lines_cut bytes c.requires.some)
    ∙ faultless (cut bytes) (length bytes) c.lines.self (subst (λ (rest : List ℕ). Reading (cut bytes) (length bytes) rest c.lines.self) none c.lines.invariant.reading)

pub returns-clause-said : goal.returns-clause-said
returns-clause-said g c =
    let bytes : List ℕ = c.args.bytes.now in
    let none : c.lines.rest.now ≡ [] = nil_from_length c.lines.rest.now (eqb-true _ 0 (sym c.is_empty.ensures ∙ c.lines-test.false)) in
    ap (λ texts. lines_said (form_in texts) texts) (lines_cut bytes c.requires.some)
    ∙ all_said (cut bytes) (length bytes) c.lines.self (subst (λ (rest : List ℕ). Reading (cut bytes) (length bytes) rest c.lines.self) none c.lines.invariant.reading)
