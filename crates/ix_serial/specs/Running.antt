-- A serial run of a script on its way.
use Rattle.std.specs.Prelude.{◌≡◌, ◌+◌, ◌++◌, length}
use Rattle.ix_model.specs.history.History.{History, world_of}
use Rattle.ix_script.specs.scripts.Scripts.{config_of}
use Rattle.ix_lanes.specs.histories.Serial.{serial}
use Rattle.ix_lanes.specs.running.Serially.{SerialLeft, entries_left}

-- The entries that were made from the script's config, and those that are left, are the script's serial history.
pub record Stands (h : History) (c : SerialLeft) : Type 0 where
  pub config : h.config ≡ config_of c.script
  pub whole : serial c.script ≡ h.events ++ entries_left c (world_of h) (length h.events + 1)
