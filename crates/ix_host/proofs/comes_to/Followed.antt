-- What `flow` tells where it is done.
use Rattle.std.proofs.Common.{ℕ, List, ◌++◌, Option, Some, ap, ◌∙◌}
use Rattle.ix_script.specs.scripts.Scripts.{config_of}
use Rattle.ix_lanes.specs.histories.Serial.{serial}
use Rattle.ix_flow.specs.Laws.{LinesAreAccountedFor}
use Rattle.ix_host.{specs.{Traced.TakesTraces, run.Inputs.script_in}, proofs.comes_to.{Done.{Takes, Tells, takes_done}, Outcomes.done_traces}}
use Rattle.ix_host.specs.declared.arguments.command.Command.TheVariants as command

-- What went out are the lines of the serial history.
abbrev pub Traces : List ℕ → List ℕ → Option (List ℕ) → Type 0
Traces bytes t after = TakesTraces (script_in bytes) t after

traces_told : LinesAreAccountedFor → Tells command.Flow Traces
traces_told law bytes t after done went = record {
  went_out = went ∙ ap (λ text. Some (t ++ text)) (done_traces bytes (serial (script_in bytes)) done);
  accounted = λ before e rest is. law (record { config = config_of (script_in bytes); events = before }) e;
}

pub takes_traces : LinesAreAccountedFor → Takes command.Flow Traces
takes_traces law = takes_done command.Flow Traces (traces_told law)
