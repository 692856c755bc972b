-- How serving ended.
use Rattle.std.specs.Prelude.{Result, Ok, Err}
use Rattle.ix_policy.specs.declared.served.Served.{Served}
use Rattle.ix_policy.specs.declared.served.Served.TheVariants as served
use Rattle.ix_asking.specs.declared.stop.Stop.{Stop}
use Rattle.ix_asking.specs.declared.stop.Stop.TheVariants as stop
use Rattle.ix_asking.specs.declared.serving.outcome.Outcome.{Outcome}
use Rattle.ix_asking.specs.declared.serving.outcome.Outcome.TheVariants as outcome

-- with an outcome, or with a stop
abbrev pub end_of : Served → Result Outcome Stop
end_of (served.Granted rule who told) = Ok (outcome.Granted rule who told)
end_of (served.Denied rule told) = Ok (outcome.Denied rule told)
end_of (served.BadRequest at told) = Ok (outcome.BadRequest at told)
end_of served.NotPrivate = Ok outcome.NotPrivate
end_of (served.Refused why step) = Ok (outcome.Refused why step)
end_of (served.Full used need cap) = Err (stop.Full used need cap)
end_of served.NoMemory = Err stop.NoMemory
