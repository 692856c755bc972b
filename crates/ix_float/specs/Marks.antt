-- Marks: the generations with which a descriptor was last set fresh.
use Rattle.std.specs.Prelude.{ℕ, Option, Some, None}
use Rattle.ix_float.specs.declared.mark.Way.{Way}
use Rattle.ix_float.specs.declared.mark.Way.TheVariants.{Reading, Writing}
use Rattle.ix_float.specs.declared.mark.Generations.{Generations}

-- a mark: for each way, the generations of the process and of the object with which it was last set, if it was
pub record Marked : Type 0 where
  pub reading : Option (ℕ × ℕ)
  pub writing : Option (ℕ × ℕ)

-- what the mark was last set with for a way
abbrev pub last_set : Way → Marked → Option (ℕ × ℕ)
last_set Reading m = m.reading
last_set Writing m = m.writing

-- the mark, set for a way
abbrev pub marked : Way → ℕ × ℕ → Marked → Marked
marked Reading generations m = record m { reading = Some generations }
marked Writing generations m = record m { writing = Some generations }

-- a pair of generations as the code keeps it, and as contracts see it
abbrev pub seen : Option Generations → Option (ℕ × ℕ)
seen None = None
seen (Some g) = Some (g.proc, g.obj)

abbrev pub kept : Option (ℕ × ℕ) → Option Generations
kept None = None
kept (Some g) = Some (record { proc = g.0; obj = g.1 })
