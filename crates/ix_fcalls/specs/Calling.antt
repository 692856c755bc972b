-- The process that calls lives.
use Rattle.std.specs.Prelude.{◌≡◌, ℕ, true, false, not}
use Rattle.std.specs.Option.{option_map_or}
use Rattle.ix_model.specs.world.World.{at}
use Rattle.ix_fcalls.specs.Around.{Around}

-- it is the one around which the rest of the world is, and lives there
pub record IsCalling (a : Around) (pid : ℕ) : Type 0 where
  pub is : pid ≡ a.pid
  pub lives : option_map_or (λ p. not p.ended) (at a.processes a.pid) false ≡ true
