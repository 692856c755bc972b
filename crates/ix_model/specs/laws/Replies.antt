-- What calls reply.
use Rattle.std.specs.Prelude.{◌≤◌, ℕ, length}
use Rattle.ix_model.specs.world.World.{World}
use Rattle.ix_model.specs.history.Step.{step}
use Rattle.ix_model.specs.history.Systems.{FitsCall}
use Rattle.ix_model.specs.laws.Sound.{Sound}
use Rattle.ix_model.specs.history.Events.{Op}

-- in a sound world every reply is a refusal, or what the call's row passes; the next pid, which a fork tells, has to be below 2^32
abbrev pub RepliesFitTheirCalls : Type 0
RepliesFitTheirCalls = (w : World) (place pid : ℕ) (o : Op) → Sound w → length w.frame.processes ≤ 4294967295 → FitsCall o (step w place pid o).reply
