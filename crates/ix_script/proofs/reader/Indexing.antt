-- An index goes on with its list.
use Rattle.std.proofs.Common.{◌≡◌, ℕ, Option, Bool, true, false, ◌&&◌, ◌||◌, not, cond, map, List, [], ◌∷◌, ◌++◌, refl, sym, ap, ◌∙◌, None, Some, append_assoc, inl, inr}
use Rattle.std.specs.{BTreeMap.is_at, BTreeSet.{BTreeSet, Updates, contains}, Cmp.{tied_then, Lexicographic.slice_cmp}, List.{list_all, list_any}, Ordering.{bool_cmp, is_eq, nat_cmp}}
use Rattle.std.proofs.lemmas.{Bool.cases_Bool, Cmp.nat_list_eq_equiv, Map.Text.is_eq-slice_cmp, List.append-nil}
use Rattle.ix_model.{specs.{world.{Naming.{same_bytes, same_names}, Texts.names_in}, declared.config.ObjSpec.ObjSpec}, proofs.texts.Joining.same_text}
use Rattle.ix_text.{specs.Names.is_script_name, proofs.Tests.both}
use Rattle.ix_script.specs.reader.Indexed.{place_cmp, is_place, is_named, is_indexed, site_cmp, is_site, AreSites, is_there, dir_there, file_there}
use Rattle.ix_script.{specs.{declared.index.{Place.Place, Site.Site}, lines.Before.{in_lane, is_given, is_known}}, proofs.reader.Pushed.any_push}
use Rattle.std.specs.Cmp.Lexicographic as bytes

-- equal in their order means one name
pub equal_bytes : (xs ys : List ℕ) → is_eq (slice_cmp nat_cmp xs ys) ≡ same_bytes ys xs
equal_bytes xs ys = is_eq-slice_cmp xs ys ∙ nat_list_eq_equiv.symm xs ys

swapped : (a b : Bool) → (a && b) ≡ (b && a)
swapped true true = refl
swapped true false = refl
swapped false true = refl
swapped false false = refl

equal_places : (p q : Place) → is_at (place_cmp p) q ≡ is_place q (p.lane.name.now, p.name.name.now)
equal_places p q = sym (tied_then (slice_cmp nat_cmp p.name.name.now q.name.name.now) (slice_cmp nat_cmp p.lane.name.now q.lane.name.now))
    ∙ swapped (is_eq _) (is_eq _) ∙ (λ i. equal_bytes p.lane.name.now q.lane.name.now i && equal_bytes p.name.name.now q.name.name.now i)

-- what is new, or was there
new_or_there : (new was : Bool) → cond new true was ≡ (was || new)
new_or_there true true = refl
new_or_there true false = refl
new_or_there false true = refl
new_or_there false false = refl

near_or : (a b new : Bool) → ((a || new) || b) ≡ ((a || b) || new)
near_or true b new = refl
near_or false true true = refl
near_or false true false = refl
near_or false false true = refl
near_or false false false = refl

far_or : (a b new : Bool) → (a || cond new true b) ≡ ((a || b) || new)
far_or true b new = refl
far_or false b new = new_or_there _ b

-- a place more in both: among the first, or in the tree
pub near_indexed : (p : Place) (near new : List Place) (index : BTreeSet Place) (items : List (List ℕ × List ℕ)) → new ≡ near ++ p ∷ []
    → ((q : Place) → is_indexed near index q ≡ list_any (is_place q) items)
    → (q : Place) → is_indexed new index q ≡ list_any (is_place q) (items ++ (p.lane.name.now, p.name.name.now) ∷ [])
near_indexed p near new index items more was q =
    let met = is_named q.lane.name.now q.name.name.now in
    ap (λ ps. list_any met ps || contains place_cmp index q) more ∙ ap (λ b. b || contains place_cmp index q) (any_push met near p)
    ∙ near_or (list_any met near) (contains place_cmp index q) (met p)
    ∙ (λ i. was q i || swapped (same_bytes q.name.name.now p.name.name.now) (same_bytes q.lane.name.now p.lane.name.now) i)
    ∙ sym (any_push (is_place q) items (p.lane.name.now, p.name.name.now))

pub place_indexed : (p : Place) (near : List Place) (old new : BTreeSet Place) (items : List (List ℕ × List ℕ)) → Updates place_cmp old new p true
    → ((q : Place) → is_indexed near old q ≡ list_any (is_place q) items)
    → (q : Place) → is_indexed near new q ≡ list_any (is_place q) (items ++ (p.lane.name.now, p.name.name.now) ∷ [])
place_indexed p near old new items more was q =
    let met = is_named q.lane.name.now q.name.name.now in
    let this = is_place q (p.lane.name.now, p.name.name.now) in
    ap (λ b. list_any met near || b) (more.0 q ∙ (λ i. cond (equal_places p q i) true (contains place_cmp old q)))
    ∙ far_or (list_any met near) (contains place_cmp old q) this ∙ ap (λ b. b || this) (was q) ∙ sym (any_push (is_place q) items (p.lane.name.now, p.name.name.now))

-- a name that is found among well-formed ones
pub named_well : (lane word : List ℕ) (near : List Place) → list_any (is_named lane word) near ≡ true → list_all (λ p. is_script_name p.name.name.now) near ≡ true
    → is_script_name word ≡ true
named_well lane word [] met well = cc
named_well lane word (p ∷ near) met well =
    let both_well = both (is_script_name p.name.name.now) (list_all (λ q. is_script_name q.name.name.now) near) well in
    elim (cases_Bool _) [
      | inl met_here ↦
          let same = both (same_bytes _ p.name.name.now) (same_bytes lane p.lane.name.now) met_here in
          ap is_script_name (bytes.same_text word p.name.name.now (sym same.0)) ∙ both_well.0
      | inr other ↦ named_well lane word near (rw other at met) both_well.1
    ]

-- names in a lane without a name
pub in_no_lane : (word : List ℕ) (names : List (List ℕ)) → is_given (Some []) word (map (λ n. ([], n)) names) ≡ is_known word names
in_no_lane word [] = refl
in_no_lane word (name ∷ names) = ap (λ b. same_bytes word name || b) (in_no_lane _ names)

pub no_lane_push : (names : List (List ℕ)) (name : List ℕ) → map (λ n. ([], n)) names ++ in_lane (Some []) (name ∷ []) ≡ map (λ n. ([], n)) (names ++ name ∷ [])
no_lane_push [] name = refl
no_lane_push (n ∷ names) name = ap (λ ns. ([], n) ∷ ns) (no_lane_push names _)

-- ---- paths
-- equal in their order means the same names
equal_texts : (a b : List ℕ) → is_eq (slice_cmp nat_cmp a b) ≡ same_names (names_in a) (names_in b)
equal_texts a b = is_eq-slice_cmp a b ∙ sym (same_text a b)

equal_kinds : (a b : Bool) → is_eq (bool_cmp a b) ≡ cond b a (not a)
equal_kinds true true = refl
equal_kinds true false = refl
equal_kinds false true = refl
equal_kinds false false = refl

equal_sites : (s t : Site) (m : ObjSpec) → m.path.names ≡ names_in s.names.name.now → m.dir ≡ s.dir → is_at (site_cmp s) t ≡ is_site t m
equal_sites s t m names dir = sym (tied_then (slice_cmp nat_cmp s.names.name.now t.names.name.now) (bool_cmp s.dir t.dir)) ∙ swapped (is_eq _) (is_eq _)
    ∙ (λ i. equal_kinds s.dir t.dir i && equal_texts s.names.name.now t.names.name.now i)
    ∙ (λ i. cond t.dir (sym dir i) (not (sym dir i)) && same_names (sym names i) (names_in t.names.name.now))

-- a site more in both
pub site_indexed : (s : Site) (m : ObjSpec) (old new : BTreeSet Site) (made : List ObjSpec) → m.path.names ≡ names_in s.names.name.now → m.dir ≡ s.dir
    → Updates site_cmp old new s true → AreSites old made → AreSites new (made ++ m ∷ [])
site_indexed s m old new made names dir more was = λ t.
    more.0 t ∙ (λ i. cond (equal_sites s t m names dir i) true (was t i)) ∙ new_or_there (is_site t m) (list_any _ made) ∙ sym (any_push (is_site t) made m)

-- a directory is there, or a file
split : (d s a b : Bool) → ((d && s) || a) || ((not d && s) || b) ≡ (s || (a || b))
split true true a b = refl
split true false a b = refl
split false true true b = refl
split false true false b = refl
split false false a b = refl

pub dir_or_file : (objects : List ObjSpec) (names : List (List ℕ)) → (dir_there objects names || file_there objects names) ≡ is_there objects names
dir_or_file [] names = refl
dir_or_file (o ∷ objects) names = split o.dir (same_names o.path.names names) _ _ ∙ ap (λ b. same_names o.path.names names || b) (dir_or_file objects names)

by_first : (dir file all : Bool) → (dir || file) ≡ all → dir ≡ true → dir ≡ all
by_first true file all h k = h
by_first false file all h k = cc

by_second : (dir file all : Bool) → (dir || file) ≡ all → dir ≡ false → file ≡ all
by_second true file all h k = cc
by_second false file all h k = h

pub there_by_dir : (objects : List ObjSpec) (names : List (List ℕ)) (dir : Bool) → dir ≡ dir_there objects names → dir ≡ true → dir ≡ is_there objects names
there_by_dir objects names dir is yes_dir = is ∙ by_first _ (file_there objects names) _ (dir_or_file objects names) (sym is ∙ yes_dir)

pub there_by_file : (objects : List ObjSpec) (names : List (List ℕ)) (dir file : Bool) → dir ≡ dir_there objects names → dir ≡ false → file ≡ file_there objects names → file ≡ is_there objects names
there_by_file objects names dir file is no_dir also = also ∙ by_second _ _ _ (dir_or_file objects names) (sym is ∙ no_dir)

-- two names in a lane, one after the other
pub two_in_lane : (items : List (List ℕ × List ℕ)) (lane : Option (List ℕ)) (first second : List ℕ) → (items ++ in_lane lane (first ∷ []))
    ++ in_lane lane (second ∷ []) ≡ items ++ in_lane lane (first ∷ second ∷ [])
two_in_lane items None first second = append-nil _
two_in_lane items (Some lane) first second = append_assoc items _ _
