use Rattle.std.proofs.Common.{◌+◌, ◌*◌, length, ap, arith}
use Rattle.ix_policing.proofs.{Costs.{within_all}}
use Rattle.ix_policing.proofs.difference.first_difference.Goals as goal

pub returns-in-Some-clause-cost : goal.returns-in-Some-clause-cost
returns-in-Some-clause-cost g c =
    let there = ap length c.rules.ensures.rules in
    within_all c.args.steps.now c.loop-number.steps c.difference_of_rule.new.steps c.loop-number.number (length c.args.first.now + 1)
    ((length c.args.second.now + 1) * (length c.args.first.now + length c.args.second.now + 2))
    (omega (arith, there)) c.loop-number.invariant.cost c.difference_of_rule.ensures.cost
