-- What the runs of a side tell.
use Rattle.std.specs.Prelude.{◌≡◌, ◌≤◌, ◌<◌, ◌⊎◌, ℕ, zero, suc, ◌+◌, ◌-◌, ◌==◌, Bool, true, false, ◌&&◌, length, slice_index_or, nat_le, List, [], ◌∷◌, if◌then◌else◌}
use Rattle.ix_flow.specs.declared.source.Source.{Source}
use Rattle.ix_flow.specs.declared.source.Source.TheVariants as source
use Rattle.ix_flow.specs.Origins.{Origin, Written, InConfig, Gap}
use Rattle.ix_flow.specs.declared.side.Side.{Side}

-- the source of the last run that begins at or before a number, or that one
abbrev pub last_source : Source → List (ℕ × Source) → ℕ → Source
last_source d [] n = d
last_source d (run ∷ runs) n = last_source (if nat_le run.0 n then run.1 else d) runs n

-- where there is none, it is a gap
abbrev pub source_in : List (ℕ × Source) → ℕ → Source
source_in runs n = last_source source.Gap runs n

-- the origin of the byte of a number that came from there
abbrev pub origin_at : Source → ℕ → Origin
origin_at (source.Write place start label) n = Written place (n - start)
origin_at (source.File object label) n = InConfig object n
origin_at source.Gap n = Gap

-- the number at which the first byte that came from there was put
abbrev pub start_of : Source → ℕ
start_of (source.Write place start label) = start
start_of _ = 0

-- whether the two are of one write, of one file, or both of gaps, whatever the numbers of their labels
abbrev pub same_origin : Source → Source → Bool
same_origin (source.Write place start label) (source.Write that begun under) = place == that && start == begun
same_origin (source.File object label) (source.File that under) = object == that
same_origin source.Gap source.Gap = true
same_origin _ _ = false

-- ---- where runs begin
-- a run begins at the number
abbrev pub Begins : ℕ → List (ℕ × Source) → Type 0
Begins n [] = ⊥
Begins n (run ∷ runs) = (run.0 ≡ n) ⊎ Begins n runs

-- no run begins from one number on and before another
abbrev pub NoneBegins : ℕ → ℕ → List (ℕ × Source) → Type 0
NoneBegins from to [] = Unit {0}
NoneBegins from to (run ∷ runs) = (from ≤ run.0 → run.0 < to → ⊥) × NoneBegins from to runs

-- ---- what a side stands for
-- so many origins, those of the numbers from k on
unfoldable pub numbered : (ℕ → Origin) → ℕ → ℕ → List Origin
numbered origin k zero = []
numbered origin k (suc n) = origin k ∷ numbered origin (suc k) n

-- each number that is there has a source that began at or before it
abbrev pub IsProper : Side → Type 0
IsProper s = (n : ℕ) → s.front ≤ n → n < s.end → start_of (source_in s.runs.entries n) ≤ n

-- A side stands for these origins: it has as many numbers, and each has its own, from a source that began at or before it.
pub record IsLike (s : Side) (origins : List Origin) : Type 0 where
  pub long : s.front + length origins ≡ s.end
  pub each : (n : ℕ) → s.front ≤ n → n < s.end → slice_index_or origins (n - s.front) Gap ≡ origin_at (source_in s.runs.entries n) n
  pub proper : IsProper s

-- ---- what stands in a side
-- a number that is there has this source
pub record StandsIn (s : Side) (x : Source) : Type 0 where
  pub number : ℕ
  pub low : s.front ≤ number
  pub high : number < s.end
  pub is : source_in s.runs.entries number ≡ x

-- a source is a new one, or a gap, or stood in the side
pub data ComesOf (s : Side) (new x : Source) : Type 0 where
  New : x ≡ new → ComesOf s new x
  OfGap : x ≡ source.Gap → ComesOf s new x
  Stood : StandsIn s x → ComesOf s new x
