use Rattle.std.proofs.Common.{sym, ap, is_some, ◌∙◌}
use Rattle.ix_lanes.proofs.found.Placing.{added-same, added-place, added-keeps}
use Rattle.ix_lanes.proofs.asking.places.add_name.Goals as goal

pub returns-clause-same : goal.returns-clause-same
returns-clause-same g c =
    let none = sym (c.is_some.ensures ∙ ap is_some c.get.ensures) ∙ c.if-is_some.false in
    added-same c.args.names.now c.set.new.self c.args.name.now c.set.result c.set.ensures.ok c.set.ensures.err none

pub returns-clause-place : goal.returns-clause-place
returns-clause-place g c = added-place c.args.names.now c.set.new.self c.args.name.now c.set.result c.set.ensures.ok c.set.ensures.err

pub returns-clause-keeps : goal.returns-clause-keeps
returns-clause-keeps g c = added-keeps c.args.names.now c.set.new.self c.args.name.now c.set.result c.set.ensures.ok c.set.ensures.err
