use Rattle.std.proofs.Common.{take, ap, ◌∙◌, add-one, arith}
use Rattle.ix_judging.specs.Bytes.{is_line}
use Rattle.ix_check.proofs.FirstLine.{is_first, no_lines}
use Rattle.ix_check.proofs.lines.first_line.Goals as goal

pub returns-in-Some-clause-line : goal.returns-in-Some-clause-line
returns-in-Some-clause-line c =
    let found = c.in-Some.ensures in
    ap is_line (c.split_at.ensures.front ∙ ap (λ n. take n c.args.text.now) (add-one c.in-Some.at)) ∙ is_first _ _ found.0.high found.1 (λ j below has. found.0.before j (omega arith) below has)

pub returns-in-None-clause-none : goal.returns-in-None-clause-none
returns-in-None-clause-none c none = no_lines _ (λ j below has. c.in-None.ensures j (omega arith) below has)
