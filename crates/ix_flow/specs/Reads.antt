-- What a read of a side gives.
use Rattle.std.specs.Prelude.{◌≤◌, ℕ, ◌+◌, ◌-◌, List, take, drop}
use Rattle.ix_flow.specs.Origins.{Origin}
use Rattle.ix_flow.specs.Lines as line
use Rattle.ix_flow.specs.Sides.{origin_at}
use Rattle.ix_flow.specs.declared.piece.Piece.{Piece}
use Rattle.ix_flow.specs.declared.side.Side.{Side}
use Rattle.ix_flow.specs.declared.telling.Read.{Read}

-- of origins whose first has the number of the front, those from one number on and before another
abbrev pub between : ℕ → ℕ → ℕ → List Origin → List Origin
between front from to origins = take (to - from) (drop (from - front) origins)

-- all bytes of a read are there
pub record IsWithin (r : Read) (s : Side) : Type 0 where
  pub front : s.front ≤ r.from
  pub end : r.from + r.count ≤ s.end

-- a piece with so many bytes of the read before it
abbrev pub piece_of : ℕ → Piece → line.Piece
piece_of first p = record { first = first; count = p.count; origin = origin_at p.source p.number }
