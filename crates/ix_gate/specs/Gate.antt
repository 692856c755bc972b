-- What contracts see of a gate.
use Rattle.std.specs.Prelude.{ℕ}
use Rattle.atomic_table.specs.Seated.{TableId}

pub record GateState : Type 0 where
  -- which gate it is
  pub id : TableId
  -- how many seats it was made with
  pub seats : ℕ
