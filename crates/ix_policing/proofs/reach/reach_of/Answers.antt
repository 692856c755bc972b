use Rattle.std.proofs.Common.{sym, subst}
use Rattle.ix_policing.specs.Reaching.{IsReach}
use Rattle.ix_policing.specs.declared.reach.Reach.{Reach}
use Rattle.ix_policing.proofs.{Deciders.{numbered_there}, Reached.{exactly, reached}}
use Rattle.ix_policing.proofs.reach.reach_of.Goals as goal

pub returns-clause-reach : goal.returns-clause-reach
returns-clause-reach g c =
    let r = numbered_there c.args.policy.now c.args.rule c.requires.from_one c.requires.there in
    subst (λ (x : Reach). IsReach c.args.policy.now c.args.rule x) (sym c.reach_at.ensures.reach)
    (reached c.args.policy.now c.args.rule r.0 r.1 c.unnamed_user.result c.unnamed_user.ensures.user c.unnamed_user.ensures.unnamed)

pub returns-clause-dead : goal.returns-clause-dead
returns-clause-dead g c =
    let r = numbered_there c.args.policy.now c.args.rule c.requires.from_one c.requires.there in
    exactly c.args.policy.now c.args.rule r.0 r.1 c.reach_at.result (returns-clause-reach g c)
