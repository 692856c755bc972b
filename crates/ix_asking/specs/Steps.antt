-- What the steps of the code mean.
use Rattle.ix_model.specs.history.Calls.{op_of}
use Rattle.ix_asking.specs.declared.asks.Step.{Step}
use Rattle.ix_asking.specs.declared.asks.Step.TheVariants as step
use Rattle.ix_asking.specs.Asking.{Next, Came, Due}

-- what stands next
abbrev pub next_of : {R : Type 0} → Step R → Next R
next_of (step.Came r) = Came r
next_of (step.Call line pid call) = Due (record { line = line; pid = pid.0; op = op_of call })
