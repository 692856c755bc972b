use Rattle.std.{proofs.{Common.{◌≡◌, List, subst, sym}, lemmas.Result.IfOk-weaker}, specs.Prelude.IfOk}
use Rattle.ix_script.specs.declared.line.Line.{Line}
use Rattle.ix_replay.specs.report.Fixed.{LanesNamed}
use Rattle.ix_check.{specs.{Judging.verdict_of, Plans.found_in}, proofs.Judged.judged}
use Rattle.ix_host.proofs.checking.judge.Goals as goal

pub returns : goal.returns
returns c =
    let script = c.in_ok-judge.ensures.script in
    let t = c.in_ok-judge.judge.printer.script.now in
    let named = subst LanesNamed (sym script) c.requires.named in
    subst (λ (s : List Line). IfOk c.text.result (λ verdict. verdict_of verdict ≡ found_in s c.args.claimed.now)) script
    (IfOk-weaker c.text.result _ _ (λ verdict is. (judged t named c.args.claimed.now (verdict_of verdict)).0 is) c.text.ensures)
