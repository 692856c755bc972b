use Rattle.std.{proofs.Common.{sym, ap, ◌∙◌}, specs.Result.{result_from_control_flow}}
use Rattle.ix_script.proofs.lines.Deciding.{first_right, some_told}
use Rattle.ix_script.proofs.rules.first_line.Goals as goal

pub returns : goal.returns
returns c = first_right _ _ (sym c.version_of.ensures ∙ some_told _ _ _ (sym c.ok_or.ensures.value ∙ c.branch-form.ensures ∙ ap result_from_control_flow c.in_ok-form.is))
