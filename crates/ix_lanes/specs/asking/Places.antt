-- Names that have a place each, in which a number stands or none yet.
use Rattle.std.specs.Prelude.{◌≡◌, ℕ, Bool, true, ◌&&◌, List, [], ◌∷◌, Option, Some, None}
use Rattle.std.specs.List.{list_all}
use Rattle.std.specs.FinMap as map
use Rattle.std.specs.Ordering.{nat_cmp}
use Rattle.std.specs.Cmp.Lexicographic.{slice_cmp}
use Rattle.ix_script.specs.lines.Before.{new_fds, new_procs}
use Rattle.ix_script.specs.declared.line.Line.{Line}
use Rattle.ix_lanes.specs.declared.asking.places.Places.{Places}
use Rattle.ix_lanes.specs.asking.Asked.{Names}

-- names, each with something
abbrev pub ByName : Type 0 → Type 0
ByName X = map.FinMap (slice_cmp nat_cmp) X

-- of names with their places, those that have something there
abbrev pub filled : {X : Type 0} → List (List ℕ × Option X) → ByName X
filled [] = map.empty
filled (e ∷ entries) = elim e.1 [
  | None ↦ map.remove (filled entries) e.0
  | Some x ↦ map.insert (filled entries) e.0 x
]

unfoldable pub given : {X : Type 0} → ByName (Option X) → ByName X
given names = filled (map.entries names)

-- what the names that have numbers in their places stand for
abbrev pub standing : Places → Names
standing places = record { procs = given places.procs; fds = given places.fds }

-- each of these names has its place
abbrev pub has_all : {X : Type 0} → ByName X → List (List ℕ) → Bool
has_all names some = list_all (λ name. map.contains_key names name) some

-- each name that a line gives has its place
unfoldable pub has_places : Places → Line → Bool
has_places places l = has_all places.fds (new_fds l) && has_all places.procs (new_procs l)

-- a name that has its place keeps it
abbrev pub KeepsNames : {X : Type 0} → ByName X → ByName X → Type 0
KeepsNames old new = (name : List ℕ) → map.contains_key old name ≡ true → map.contains_key new name ≡ true

-- so do the names that a line gives
abbrev pub KeepsPlaces : Places → Places → Type 0
KeepsPlaces old new = (l : Line) → has_places old l ≡ true → has_places new l ≡ true
