-- What `flow` tells of a script.
use Rattle.std.specs.Prelude.{ℕ, List}
use Rattle.ix_model.specs.history.History.{History}
use Rattle.ix_script.specs.declared.line.Line.{Line}
use Rattle.ix_script.specs.scripts.Scripts.{config_of}
use Rattle.ix_lanes.specs.histories.Serial.{serial}
use Rattle.ix_flow.specs.Lines.{flow_text}

-- the serial history of a script, with its config
abbrev pub serial_run : List Line → History
serial_run s = record { config = config_of s; events = serial s }

-- where each byte came from that was read in it
abbrev pub traces : List Line → List ℕ
traces s = flow_text (serial_run s)
