-- Who names an object, and who has an open entry.
use Rattle.std.specs.Prelude.{ℕ, ◌==◌, Bool, false, not, ◌&&◌, List, length, map, sum, count_by, Option, None, Some}
use Rattle.std.specs.Option.{option_map_or}
use Rattle.std.specs.List.{list_any}
use Rattle.ix_model.specs.world.World.{Frame, Object, Process, at, is_on}

-- how often a directory's list names an object, and how often all of them do
abbrev pub times_in : ℕ → Option Object → ℕ
times_in o None = 0
times_in o (Some x) = count_by (λ n. n.1 == o) x.names

-- how often the lists of all directories name it
abbrev pub times_named : List (Option Object) → ℕ → ℕ
times_named objects o = sum (map (times_in o) objects)

-- how many names there are in all
abbrev pub names_in_all : List (Option Object) → ℕ
names_in_all objects = sum (map (λ x. option_map_or (λ y. length y.names) x 0) objects)

-- whether a descriptor is on the open entry, and whether some living process has such a descriptor
abbrev pub is_at : ℕ → Option ℕ → Bool
is_at e d = option_map_or (λ x. x == e) d false

-- whether a living process has a descriptor on the open entry
abbrev pub owns : ℕ → Option Process → Bool
owns e p = option_map_or (λ q. not q.ended && list_any (is_at e) q.fds) p false

-- whether some process has
abbrev pub owned : List (Option Process) → ℕ → Bool
owned processes e = list_any (owns e) processes

-- whether a descriptor is on that end of that object, and whether the process, living, has such a descriptor
abbrev pub has_end : Frame → ℕ → ℕ → ℕ → Bool
has_end f o end p = option_map_or (λ q. not q.ended && list_any (λ d. option_map_or (λ e. is_on o end (at f.opens e)) d false) q.fds) (at f.processes p) false
