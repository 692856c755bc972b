-- What contracts see of the streams of this crate.
use Rattle.std.specs.Prelude.{ℕ, Bool, List}
use Rattle.ix_io.specs.Planned.{Plan}

-- a source in memory: the bytes left, and its faults
pub record MemoryInput : Type 0 where
  pub left : List ℕ
  pub plan : Plan

-- a sink in memory: the bytes taken, how many it has room for in all, whether it is finished, and its faults
pub record MemoryOutput : Type 0 where
  pub taken : List ℕ
  pub room : ℕ
  pub finished : Bool
  pub plan : Plan

-- a sink that only counts the bytes taken
pub record QuietOutput : Type 0 where
  pub taken : ℕ
  pub finished : Bool

-- a sink that tells only its faults
pub record StandardOutput : Type 0 where
  pub faults : ℕ
  pub finished : Bool
