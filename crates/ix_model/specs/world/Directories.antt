-- The names of a directory.
use Rattle.std.specs.Prelude.{ℕ, ◌≡◌, ◌+◌, nat_lt, Bool, not, List, [], ◌∷◌, ◌++◌, filter, Option, Some, slice_get}
use Rattle.ix_model.specs.world.Naming.{same_bytes}
use Rattle.ix_model.specs.world.World.{Object, Frame}
use Rattle.ix_model.specs.world.Owners.{names_in_all}

-- the directory with one name more, at the end
abbrev pub with_name : List ℕ → ℕ → Object → Object
with_name name o d = record d { names = d.names ++ (name, o) ∷ [] }

-- the directory without a name; those after it close up
abbrev pub without_name : List ℕ → Object → Object
without_name name d = record d { names = filter (λ n. not (same_bytes n.0 name)) d.names }

-- whether one name more is within the limit on all names
unfoldable pub has_room_for_a_name : Frame → Bool
has_room_for_a_name f = nat_lt (names_in_all f.objects) f.limits.names

-- what stands behind a name that a directory has, in its order of making
abbrev pub IsBehind : List (List ℕ × ℕ) → List ℕ → Option (List ℕ × ℕ) → Type 0
IsBehind names name next = (place o : ℕ) → slice_get names place ≡ Some (name, o) → next ≡ slice_get names (place + 1)
