use Rattle.std.proofs.Common.{[], option_map, sym, ap, ◌∙◌}
use Rattle.ix_script.specs.lines.Before.{lanes_of}
use Rattle.ix_lanes.proofs.found.Indexed.{or_default}
use Rattle.ix_replay.proofs.reporting.entry.lane_name.Goals as goal

pub returns-in-None : goal.returns-in-None
returns-in-None c = or_default (lanes_of c.args.script.now) c.args.seat [] (sym c.lane.ensures ∙ ap (option_map _) c.in-None.is)
