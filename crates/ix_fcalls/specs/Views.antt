-- What the layer's own values mean.
use Rattle.std.specs.Prelude.{◌<◌, ℕ, Some}
use Rattle.std.proofs.Common.{option_map}
use Rattle.ix_label.specs.Category.{Categories}
use Rattle.ix_model.specs.rows.Walks as walks
use Rattle.ix_model.specs.rows.Walks.{Walk, Sought, join_all}
use Rattle.ix_fcalls.specs.declared.walks.Outcome.{Outcome}
use Rattle.ix_fcalls.specs.declared.walks.Outcome.TheVariants as outcome
use Rattle.ix_fcalls.specs.declared.walks.Walked.{Walked}
use Rattle.ix_fcalls.specs.declared.walks.Spot.{Spot}
use Rattle.ix_fcalls.specs.declared.open_file.OpenFile.{OpenFile}

-- where a walk ends
abbrev pub sought_of : Outcome → Sought
sought_of (outcome.Found obj dir) = walks.Found obj.0 (option_map (λ d. d.0) dir)
sought_of (outcome.Missing dir) = walks.Missing dir.0
sought_of outcome.NotFound = walks.NotFound
sought_of outcome.NotDir = walks.NotDir

-- where a path leads
abbrev pub spot_of : Spot → walks.Spot
spot_of s = record { object = s.object; dir = s.dir }

-- where a name is missing, or a directory was looked into, the path has a name
abbrev pub NamedWell : Outcome → ℕ → Type 0
NamedWell (outcome.Missing dir) n = 0 < n
NamedWell (outcome.Found obj (Some dir)) n = 0 < n
NamedWell _ n = Unit {0}

-- a walk with the join of the labels looked into, in the place of their list
pub record Seen : Type 0 where
  pub outcome : Sought
  pub label : Categories

abbrev pub seen_of : Walked → Seen
seen_of s = record { outcome = sought_of s.outcome; label = s.seen }

abbrev pub seen_in : Walk → Seen
seen_in w = record { outcome = w.outcome; label = join_all w.looked }

-- the open entry behind a descriptor
abbrev pub behind_of : OpenFile → walks.OpenFile
behind_of b = record { id = b.id; entry = record { object = b.object; end = b.end; mode = b.mode; label = b.label } }
