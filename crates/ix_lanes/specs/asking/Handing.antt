-- What comes of a line for its names.
use Rattle.ix_model.specs.declared.reply.Reply.{Reply}
use Rattle.ix_model.specs.declared.reply.Reply.TheVariants as reply
use Rattle.ix_asking.specs.declared.serving.outcome.Outcome.{Outcome}
use Rattle.ix_asking.specs.declared.serving.outcome.Outcome.TheVariants as outcome
use Rattle.ix_lanes.specs.declared.asking.handed.Handed.{Handed}
use Rattle.ix_lanes.specs.declared.asking.handed.Handed.TheVariants as handed

-- the number or the two descriptors that a reply gives
abbrev pub handed_in : Reply → Handed
handed_in (reply.Number n) = handed.Number n
handed_in (reply.Two f g) = handed.Two f g
handed_in _ = handed.Nothing

-- the child that a session was granted
abbrev pub who_in : Outcome → Handed
who_in (outcome.Granted rule who told) = handed.Number who.0
who_in _ = handed.Nothing
