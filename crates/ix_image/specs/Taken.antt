-- The tree of a config's file systems in a world of its run: their directories, and each file that has a name.
use Rattle.std.specs.Prelude.{ℕ, ◌==◌, Bool, not, ◌&&◌, ◌||◌, List, [], ◌∷◌, length, if◌then◌else◌, bit_and}
use Rattle.std.specs.List.{flat_map, range_with_len}
use Rattle.std.specs.Option.{option_map_or}
use Rattle.ix_model.specs.world.World.{World, Object, at, is_dir, is_file}
use Rattle.ix_model.specs.world.Contents.{holding_of}
use Rattle.ix_model.specs.world.Owners.{times_named}
use Rattle.ix_model.specs.declared.config.Config.{Config}
use Rattle.ix_model.specs.declared.config.FsSpec.{FsSpec}
use Rattle.ix_model.specs.declared.privs.PrivSet.{PrivSet}
use Rattle.ix_image.specs.Trees.{TreeOf, NodeOf, Holds, Bytes, Links}

-- what an object of that number holds: names, or bytes
abbrev pub held_in : World → ℕ → Object → Holds
held_in w n x = if is_dir x then Links x.names else Bytes (holding_of w.content n).first

-- the five privileges of a set: it has no others
abbrev pub the_five : PrivSet → PrivSet
the_five set = record { 0 = bit_and set.0 31 }

-- whether an object is in the tree: a directory, or a file that has a name
abbrev pub is_kept : World → ℕ → Object → Bool
is_kept w n x = is_dir x || is_file x && not (times_named w.frame.objects n == 0)

-- an object in the tree
abbrev pub node_of : World → ℕ → Object → NodeOf
node_of w n x = record { number = n; frozen = x.frozen; cap = the_five x.cap; lic = the_five x.lic; label = x.label; holds = held_in w n x }

-- what of a number is in the tree
abbrev pub kept_at : World → ℕ → List NodeOf
kept_at w n = option_map_or (λ x. if is_kept w n x then node_of w n x ∷ [] else []) (at w.frame.objects n) []

-- the tree on some file systems, and on a config's
unfoldable pub tree_on : List FsSpec → World → TreeOf
tree_on fss w = record { fss = fss; nodes = flat_map (kept_at w) (range_with_len 0 (length w.frame.objects)) }

abbrev pub tree_of : Config → World → TreeOf
tree_of c w = tree_on c.fss w
