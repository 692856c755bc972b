use Rattle.std.proofs.Common.{◌≡◌, ◌+◌, ◌≤◌, List, length}
use Rattle.ix_model.specs.history.Made.{Made}
use Rattle.ix_asking.specs.{Asking.all_heard, Runs.{answers_of, Makes}}
use Rattle.ix_asking.proofs.making.run.Given as goal

abbrev pub invariant-turns : goal.invariant-turns
invariant-turns g l =
    (made : List Made) × Makes g.S.Sys.seat g.S.Sys.made g.S.Sys.follows (g.A.Asks.asking l.initial.asks) l.initial.sys l.sys made
    × (g.A.Asks.asking l.asks ≡ all_heard (g.A.Asks.asking l.initial.asks) (answers_of made))
    × (length made + g.A.Asks.most l.asks ≤ g.A.Asks.most l.initial.asks)
    × (g.A.Asks.kept l.asks ≡ g.A.Asks.kept l.initial.asks)
    × (g.S.Sys.stops l.sys ≡ g.S.Sys.stops l.initial.sys)

abbrev pub decreases-turns : goal.decreases-turns
decreases-turns g l = g.A.Asks.most l.asks
