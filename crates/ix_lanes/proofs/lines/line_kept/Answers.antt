use Rattle.std.proofs.Common.{◌∙◌}
use Rattle.ix_lanes.proofs.found.{Indexed.counted_from_one, Roles.line-there}
use Rattle.ix_lanes.proofs.lines.line_kept.Goals as goal

pub returns : goal.returns
returns c = c.line.ensures ∙ counted_from_one c.args.script.now c.args.index ∙ line-there c.args.script.now c.args.index c.requires
