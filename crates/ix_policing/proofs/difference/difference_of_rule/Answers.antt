use Rattle.std.proofs.Common.{sym, ◌∙◌}
use Rattle.ix_policing.proofs.Found.{first_of_rule}
use Rattle.ix_policing.proofs.difference.difference_of_rule.Goals as goal

pub returns-in-Some-clause-some : goal.returns-in-Some-clause-some
returns-in-Some-clause-some g c =
    first_of_rule c.args.sought c.args.first.now c.args.second.now c.args.other.now c.args.number c.loop-theirs.theirs c.in-Some.found
    (sym c.difference_at.ensures.difference ∙ c.in-Some.is) c.loop-theirs.invariant.none
