use Rattle.std.proofs.Common.{sym, ap, ◌∙◌, subst}
use Rattle.ix_model.specs.history.History.{History}
use Rattle.ix_lanes.specs.histories.History.{IsHistory}
use Rattle.ix_parallel.proofs.together.Ending.{empty_history}
use Rattle.ix_parallel.proofs.history.run_history.Goals as goal

pub returns-then-count-eq0-clause-history : goal.returns-then-count-eq0-clause-history
returns-then-count-eq0-clause-history g c =
    subst (IsHistory c.args.script.now) (sym (ap (λ (h : History). h.events) c.in_ok-core.ensures)) (empty_history c.args.script.now (sym c.lanes-count.ensures.lanes ∙ c.if-count-eq0.true))
