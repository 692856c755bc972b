-- What lengths and offsets tell, as the code has it, and a look at a file with its size.
use Rattle.std.specs.Prelude.{◌≡◌, ℕ, true, false, List, Option, length, slice_index_or}
use Rattle.std.specs.Option.{option_map_or}
use Rattle.ix_model.specs.world.World.{Object, Holding, at, is_file}
use Rattle.ix_model.specs.world.Contents.{holds_nothing}
use Rattle.ix_model.specs.rows.OnDescriptors as descriptors
use Rattle.ix_model.specs.declared.reply.Kind.{Kind}
use Rattle.ix_model.specs.declared.reply.Kind.TheVariants as kind
use Rattle.ix_model.specs.declared.reply.Reply.{Reply}
use Rattle.ix_model.specs.declared.reply.Reply.TheVariants as reply
use Rattle.ix_fcalls.specs.declared.length_checks.LengthChecks.{LengthChecks}

abbrev pub told_of : LengthChecks → descriptors.LengthChecks
told_of t = record { too_big = t.too_big; full = t.full; no_space = t.no_space; empty = t.empty }

-- the size that is told of an object: that of a file, or what is told already
abbrev pub size_told : List Holding → ℕ → Kind → ℕ → ℕ
size_told holdings o kind.File size = length (slice_index_or holdings o holds_nothing).first
size_told holdings o k size = size

-- a reply that tells of a file has its size
abbrev pub with_size : List Holding → Reply → Reply
with_size holdings (reply.Stat o k size links frozen cap lic) = reply.Stat o k (size_told holdings o.0 k size) links frozen cap lic
with_size holdings r = r

-- what is told to be a file is one
abbrev pub FileThere : List (Option Object) → ℕ → Kind → Type 0
FileThere objects o kind.File = option_map_or is_file (at objects o) false ≡ true
FileThere objects o k = Unit {0}

-- where a reply tells of a file, the object is one
abbrev pub TellsOfFile : List (Option Object) → Reply → Type 0
TellsOfFile objects (reply.Stat o k size links frozen cap lic) = FileThere objects o.0 k
TellsOfFile objects r = Unit {0}
