use Rattle.std.proofs.Common.{sym, ◌∙◌, subst}
use Rattle.ix_script.{specs.scripts.Schedule.SeatsDiffer, proofs.reader.Seats.seats_differ}
use Rattle.ix_script.proofs.script.Script.of.Goals as goal

pub of-requires-clause-differ : goal.of-requires-clause-differ
of-requires-clause-differ c = subst SeatsDiffer (sym (c.as_slice.ensures ∙ c.requires.named)) (seats_differ c.args.lines.said)
