-- What the machine's methods know of a number.
use Rattle.std.specs.Prelude.{Bool, false, not, Option}
use Rattle.std.specs.Option.{option_map_or}
use Rattle.ix_model.specs.world.World.{Object, is_pipe}

-- whether a file or a directory stands there
abbrev pub is_inode : Option Object → Bool
is_inode o = option_map_or (λ x. not (is_pipe x)) o false
