-- What an index beside a list holds.
use Rattle.std.specs.Prelude.{◌≡◌, ℕ, Bool, true, ◌&&◌, ◌||◌, not, if◌then◌else◌, List, [], map}
use Rattle.std.specs.BTreeSet.{BTreeSet, contains}
use Rattle.std.specs.Cmp.Lexicographic.{slice_cmp}
use Rattle.std.specs.List.{list_all, list_any}
use Rattle.std.specs.Ordering.{bool_cmp, nat_cmp, ordering_then}
use Rattle.std.specs.declared.cmp.Ordering.{Ordering}
use Rattle.ix_model.specs.world.Naming.{same_bytes, same_names}
use Rattle.ix_model.specs.declared.config.ObjSpec.{ObjSpec}
use Rattle.ix_model.specs.world.Texts.{names_in}
use Rattle.ix_text.specs.Names.{is_script_name}
use Rattle.ix_script.specs.declared.index.Given.{Given}
use Rattle.ix_script.specs.declared.index.Names.{Names}
use Rattle.ix_script.specs.declared.index.Place.{Place}
use Rattle.ix_script.specs.declared.index.Site.{Site}

-- by the name, and then by the lane
abbrev pub place_cmp : Place → Place → Ordering
place_cmp a b = ordering_then (slice_cmp nat_cmp a.name.name.now b.name.name.now) (slice_cmp nat_cmp a.lane.name.now b.lane.name.now)

-- a name of the list in its lane
abbrev pub is_place : Place → List ℕ × List ℕ → Bool
is_place p n = same_bytes p.lane.name.now n.0 && same_bytes p.name.name.now n.1

-- a place of that name in that lane
abbrev pub is_named : List ℕ → List ℕ → Place → Bool
is_named lane name p = same_bytes name p.name.name.now && same_bytes lane p.lane.name.now

-- among the first places, or in the tree of the others
abbrev pub is_indexed : List Place → BTreeSet Place → Place → Bool
is_indexed near index p = list_any (is_named p.lane.name.now p.name.name.now) near || contains place_cmp index p

-- they have the places of the list, and no other; the first ones have well-formed names
abbrev pub AreIndexed : Given → List (List ℕ × List ℕ) → Type 0
AreIndexed given items = ((p : Place) → is_indexed given.near.items given.index p ≡ list_any (is_place p) items)
    × (list_all (λ p. is_script_name p.name.name.now) given.near.items ≡ true)

-- so they have names, in a lane without a name
abbrev pub AreNames : Names → List (List ℕ) → Type 0
AreNames names items = AreIndexed names.given (map (λ n. ([], n)) items)

-- by the text of the names, and then files before directories
abbrev pub site_cmp : Site → Site → Ordering
site_cmp a b = ordering_then (slice_cmp nat_cmp a.names.name.now b.names.name.now) (bool_cmp a.dir b.dir)

-- made there, as a directory or as a file
abbrev pub is_site : Site → ObjSpec → Bool
is_site s o = (if s.dir then o.dir else not o.dir) && same_names o.path.names (names_in s.names.name.now)

-- the index has the sites of the list, and no other
abbrev pub AreSites : BTreeSet Site → List ObjSpec → Type 0
AreSites index objects = (s : Site) → contains site_cmp index s ≡ list_any (is_site s) objects

-- something, a directory and a file of the list is there under the names
abbrev pub is_there : List ObjSpec → List (List ℕ) → Bool
is_there objects names = list_any (λ o. same_names o.path.names names) objects

abbrev pub dir_there : List ObjSpec → List (List ℕ) → Bool
dir_there objects names = list_any (λ o. o.dir && same_names o.path.names names) objects

abbrev pub file_there : List ObjSpec → List (List ℕ) → Bool
file_there objects names = list_any (λ o. not o.dir && same_names o.path.names names) objects
