use Rattle.std.proofs.Common.{[], sym, subst}
use Rattle.ix_twin.{specs.Running.Compares, proofs.Comparing.compares_first}
use Rattle.ix_twin.proofs.comparison.run_scripts.Goals as goal

pub run_both-requires-clause-begun : goal.run_both-requires-clause-begun
run_both-requires-clause-begun c =
    let one = c.in_ok-first.ensures in
    let two = c.in_ok-second.ensures in
    rw (one.script, two.script)
    (subst (λ x. Compares c.args.twin.now.at c.args.one.now c.args.two.now (record { twins = x; first = c.in_ok-first.first.calls; second = c.in_ok-second.second.calls }) [] 0 0)
    (sym c.requires.bare)
    (compares_first _ _ _ _ _ one.asks two.asks one.all two.all c.requires.alike))
