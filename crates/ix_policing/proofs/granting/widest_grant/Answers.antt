use Rattle.std.proofs.Common.{None, sym, ap, ◌∙◌}
use Rattle.std.specs.Option.{option_copied}
use Rattle.ix_policing.specs.Granting.{widest_grant, widest_of}
use Rattle.ix_policing.proofs.Widest.{none_widest, some_widest}
use Rattle.ix_policing.proofs.granting.widest_grant.Goals as goal

pub returns-in-None-clause-widest : goal.returns-in-None-clause-widest
unfolding widest_grant
returns-in-None-clause-widest g c =
    sym (ap (widest_of c.args.policy.now c.args.rule c.args.want) (sym c.numbered.ensures ∙ ap option_copied c.in-None.is))

pub returns-in-None-clause-none : goal.returns-in-None-clause-none
returns-in-None-clause-none g c = none_widest c.args.policy.now c.args.rule c.args.want None (returns-in-None-clause-widest g c)

pub returns-in-Some-clause-widest : goal.returns-in-Some-clause-widest
unfolding widest_grant
returns-in-Some-clause-widest g c =
    c.widest_of.ensures.widest ∙ sym (ap (widest_of c.args.policy.now c.args.rule c.args.want) (sym c.numbered.ensures ∙ ap option_copied c.in-Some.is))

pub returns-in-Some-clause-some : goal.returns-in-Some-clause-some
returns-in-Some-clause-some g c = some_widest c.args.policy.now c.args.rule c.args.want c.widest_of.result (returns-in-Some-clause-widest g c)

pub returns-in-Some-clause-none : goal.returns-in-Some-clause-none
returns-in-Some-clause-none g c = none_widest c.args.policy.now c.args.rule c.args.want c.widest_of.result (returns-in-Some-clause-widest g c)
