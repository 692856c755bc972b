use Rattle.std.proofs.Common.{[], None, List, sym, ap, ◌∙◌}
use Rattle.ix_model.specs.history.History.{History}
use Rattle.ix_script.specs.{declared.line.Line.Line, scripts.Scripts.config_of}
use Rattle.ix_lanes.specs.histories.Serial.{first_names, serial_from}
use Rattle.ix_serial.proofs.Stepping.{stands_first}
use Rattle.ix_serial.proofs.serial.run_on.Goals as goal

pub entries-init : goal.entries-init
entries-init g c =
    let same = sym c.in_ok-calls.ensures.script in
    let first : List Line → History = λ s. record { config = config_of s; events = [] } in
    record {
      script = c.in_ok-calls.ensures.script;
      stands = stands_first c.args.core.now c.in_ok-calls.calls (c.requires.new ∙ ap first same)
          (λ w place. c.in_ok-calls.ensures.all w place ∙ ap (λ s. serial_from s w place (first_names s) None 1 s) same);
      seen = λ first known. known;
    }
