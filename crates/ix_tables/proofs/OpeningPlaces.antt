-- Each object line of a valid config finds its place in the tables that those before it have made.
use Rattle.std.proofs.Common.{◌≡◌, ◌+◌, ◌<◌, ◌≤◌, ◌&&◌, ℕ, zero, suc, Bool, true, false, List, [], ◌∷◌, ◌++◌, length, take, find, Option, Some, None, unwrap_or}
use Rattle.std.proofs.Common.{option_map, slice_get, refl, sym, ap, ◌∙◌, subst, arith, append_assoc, append-nil, length-append}
use Rattle.std.specs.{Option.{option_map_or, option_and_then}, List.list_any}
use Rattle.std.proofs.lemmas.{Bool.{and_parts, or_parts, cond-false, Decides.nat_tests}, List.take_all}
use Rattle.ix_model.specs.{world.World.{World, Object, Holding, at, fs_at, is_dir}, world.Naming.{same_bytes, same_names, last_name}, world.Owners.names_in_all}
use Rattle.ix_model.specs.{world.Numbers.{first_inode, free_inode}, rows.{Telling.{blocks_where, lies_on}, Walks.{node, nothing, child}}}
use Rattle.ix_model.specs.opening.Opening.{directory_of, placed, with_object, with_objects, bare_world, opening_world}
use Rattle.ix_model.specs.opening.Valid.{is_valid, fs_of, is_mount, blocks_taken, object_fits, objects_fit}
use Rattle.ix_model.specs.declared.config.{Config.Config, FsSpec.FsSpec, Limits.Limits, ObjSpec.ObjSpec}
use Rattle.ix_model.proofs.{tables.Inodes.{first_within, free_is}, opening.Built.Built, opening.Leading.{lead, directory_is}, opening.WaysPlaced.name_is_new}
use Rattle.ix_model.proofs.{opening.Lines.{parent_of, line_is, fs_of_child}, opening.OpenedWorlds.{world_with, lines_built}, sound.Reaching.bare_is_built}
use Rattle.ix_model.proofs.{opening.Placing.{Place, length-after}, opening.Validity.{Valid, valid_parts}}
use Rattle.ix_tables.specs.{Parts.{Parts, parts_of, homes_of}, Views.{frame_alone, vacant_inode}, Opening.{opening_after, Leads, with_line, HasPlace}}

-- ---- the lines before
fit_first : (fss : List FsSpec) (l : Limits) (before lines : List ObjSpec) (i : ℕ) → objects_fit fss l before lines ≡ true → objects_fit fss l before (take i lines) ≡ true
fit_first fss l before [] zero fit = refl
fit_first fss l before [] (suc i) fit = refl
fit_first fss l before (b ∷ lines) zero fit = refl
fit_first fss l before (b ∷ lines) (suc i) fit =
    let p = and_parts (object_fits fss l before b) (objects_fit fss l (before ++ b ∷ []) lines) fit in
    λ j. p.0 j && fit_first fss l (before ++ b ∷ []) lines i p.1 j

fit_at : (fss : List FsSpec) (l : Limits) (before lines : List ObjSpec) (i : ℕ) (b : ObjSpec) → slice_get lines i ≡ Some b
    → objects_fit fss l before lines ≡ true → object_fits fss l (before ++ take i lines) b ≡ true
fit_at fss l before [] zero b is fit = cc
fit_at fss l before [] (suc i) b is fit = cc
fit_at fss l before (x ∷ lines) zero b is fit =
    let same : x ≡ b = cc in
    let p = and_parts (object_fits fss l before x) (objects_fit fss l (before ++ x ∷ []) lines) fit in
    ap (λ (bs : List ObjSpec). object_fits fss l bs b) (append-nil before) ∙ ap (object_fits fss l before) (sym same) ∙ p.0
fit_at fss l before (x ∷ lines) (suc i) b is fit =
    let p = and_parts (object_fits fss l before x) (objects_fit fss l (before ++ x ∷ []) lines) fit in
    ap (λ (bs : List ObjSpec). object_fits fss l bs b) (sym (append_assoc before (x ∷ []) (take i lines))) ∙ fit_at fss l (before ++ x ∷ []) lines i b is p.1

take_one : (lines : List ObjSpec) (i : ℕ) (b : ObjSpec) → slice_get lines i ≡ Some b → take (suc i) lines ≡ take i lines ++ b ∷ []
take_one [] zero b is = cc
take_one [] (suc i) b is = cc
take_one (x ∷ lines) zero b is = let same : x ≡ b = cc in ap (λ y. y ∷ []) same
take_one (x ∷ lines) (suc i) b is = ap (λ bs. x ∷ bs) (take_one lines i b is)

with_last : (w : World) (lines : List ObjSpec) (b : ObjSpec) → with_objects w (lines ++ b ∷ []) ≡ with_object (with_objects w lines) b
with_last w [] b = refl
with_last w (x ∷ lines) b = with_last (with_object w x) lines b

next_is : (c : Config) (i : ℕ) (b : ObjSpec) → slice_get c.objects i ≡ Some b → with_object (opening_after i c) b ≡ opening_after (i + 1) c
next_is c i b is =
    let up : suc i ≡ i + 1 = omega arith in
    sym (ap (with_objects (bare_world c)) (take_one c.objects i b is) ∙ with_last (bare_world c) (take i c.objects) b) ∙ ap (λ (n : ℕ). opening_after n c) up

-- ---- the way to its directory
find_nothing : {A : Type 0} (p : A → Bool) (xs : List A) → list_any p xs ≡ false → find p xs ≡ None
find_nothing p [] none = refl
find_nothing p (x ∷ xs) none =
    let h = or_parts (p x) (list_any p xs) none in
    cond-false (p x) (Some x) (find p xs) h.0 ∙ find_nothing p xs h.1

leads_next : (t : List (Option Object)) (n : ℕ) (x name : List ℕ) (names : List (List ℕ)) → is_dir (node t n) ≡ true
    → Leads t (unwrap_or (child (node t n) x) n) (names ++ name ∷ []) → Leads t n (x ∷ (names ++ name ∷ []))
leads_next t n x name [] dir rest = (dir, rest)
leads_next t n x name (y ∷ names) dir rest = (dir, rest)

-- what has a child is a directory
parent_is_dir : (t : List (Option Object)) → ((d : ℕ) (x : Object) → at t d ≡ Some x → is_dir x ≡ false → x.names ≡ []) → (n m : ℕ) (name : List ℕ)
    → child (node t n) name ≡ Some m → is_dir (node t n) ≡ true
parent_is_dir t bare n m name h = go (at t n) refl h
  where
    by : (x : Object) (b : Bool) → at t n ≡ Some x → is_dir x ≡ b → child x name ≡ Some m → is_dir x ≡ true
    by x true e is h = is
    by x false e is h =
        let none : None ≡ Some m = sym (ap (λ (es : List (List ℕ × ℕ)). option_map (λ e. e.1) (find (λ e. same_bytes e.0 name) es)) (bare n x e is)) ∙ h in
        cc

    go : (x : Option Object) → at t n ≡ x → child (unwrap_or x nothing) name ≡ Some m → is_dir (unwrap_or x nothing) ≡ true
    go None e h = cc
    go (Some x) e h = by x (is_dir x) e refl h

leads_by : (t : List (Option Object)) → ((d : ℕ) (x : Object) → at t d ≡ Some x → is_dir x ≡ false → x.names ≡ [])
    → (n d : ℕ) (names : List (List ℕ)) (name : List ℕ) → lead t n names ≡ Some d → is_dir (node t d) ≡ true → Leads t n (names ++ name ∷ [])
leads_by t bare n d [] name h dir =
    let same : n ≡ d = cc in
    ap (λ m. is_dir (node t m)) same ∙ dir
leads_by t bare n d (x ∷ names) name h dir = go (child (node t n) x) refl h (λ m k. leads_by t bare m d names name k dir)
  where
    go : (y : Option ℕ) → child (node t n) x ≡ y → option_and_then (λ m. lead t m names) y ≡ Some d
        → ((m : ℕ) → lead t m names ≡ Some d → Leads t m (names ++ name ∷ [])) → Leads t n (x ∷ (names ++ name ∷ []))
    go None e k next = cc
    go (Some m) e k next = leads_next t n x name names (parent_is_dir t bare n m x e) (subst (λ (j : ℕ). Leads t j (names ++ name ∷ [])) (sym (ap (λ (z : Option ℕ). unwrap_or z n) e)) (next m k))

-- ---- the place of a line
abbrev pub dir_for : ObjSpec → Parts → ℕ
dir_for b t = directory_of t.objects 0 b.path.names

abbrev pub fs_for : ObjSpec → Parts → ℕ
fs_for b t = unwrap_or (node t.objects (dir_for b t)).fs 0

pub record Goes (b : ObjSpec) (t next : Parts) : Type 0 where
  pub leads : Leads t.objects 0 b.path.names
  pub number : ℕ
  pub vacant : vacant_inode t.fss t.objects (fs_for b t) ≡ Some number
  pub place : HasPlace b (dir_for b t) (fs_for b t) number t
  pub after : with_line b (dir_for b t) (fs_for b t) number t ≡ next

goes_by : (b : ObjSpec) (t next : Parts) (d k o : ℕ) → Leads t.objects 0 b.path.names → dir_for b t ≡ d → unwrap_or (node t.objects d).fs 0 ≡ k
    → vacant_inode t.fss t.objects k ≡ Some o → HasPlace b d k o t → with_line b d k o t ≡ next → Goes b t next
goes_by b t next d k o way dir fs vacant place line =
    let on : fs_for b t ≡ k = ap (λ e. unwrap_or (node t.objects e).fs 0) dir ∙ fs in
    record {
      leads = way;
      number = o;
      vacant = ap (vacant_inode t.fss t.objects) on ∙ vacant;
      place = subst (λ (e : ℕ). HasPlace b e (fs_for b t) o t) (sym dir) (subst (λ (j : ℕ). HasPlace b d j o t) (sym on) place);
      after = (λ i. with_line b (dir i) (on i) o t) ∙ line;
    }

object_is : (w : World) (b : ObjSpec) (d k o : ℕ) → directory_of w.frame.objects 0 b.path.names ≡ d → unwrap_or (node w.frame.objects d).fs 0 ≡ k
    → vacant_inode w.frame.fss w.frame.objects k ≡ Some o → with_object w b ≡ placed w b d k o
unfolding with_object free_inode
object_is w b d k o dir fs vacant =
    ap (λ e. let j : ℕ = unwrap_or (node w.frame.objects e).fs 0 in option_map_or (placed w b e j) (free_inode w.frame j) w) dir
    ∙ ap (λ j. option_map_or (placed w b d j) (free_inode w.frame j) w) fs
    ∙ ap (λ x. option_map_or (placed w b d k) x w) vacant

line_after : (w : World) (b : ObjSpec) (d k o : ℕ) → length (placed w b d k o).frame.objects ≡ length w.frame.objects → with_object w b ≡ placed w b d k o
    → with_line b d k o (parts_of w) ≡ parts_of (with_object w b)
line_after w b d k o long is = (λ i. record (with_line b d k o (parts_of w)) { homes = homes_of (sym long i) w.frame.processes }) ∙ ap parts_of (sym is)

within_fss : (fss : List FsSpec) (k : ℕ) → 1 ≤ (fs_at fss k).inodes → k < length fss
within_fss [] zero some = absurd (omega (arith, some))
within_fss [] (suc k) some = absurd (omega (arith, some))
within_fss (s ∷ fss) zero some = omega arith
within_fss (s ∷ fss) (suc k) some = omega (arith, within_fss fss k some)

goes_built : (c : Config) (before : List ObjSpec) (t : List (Option Object)) (hs : List Holding) (b : ObjSpec) → Built c.fss c.limits before t hs
    → object_fits c.fss c.limits before b ≡ true → Goes b (parts_of (world_with c t hs)) (parts_of (with_object (world_with c t hs) b))
goes_built c before t hs b r fits =
    let w : World = world_with c t hs in
    let line = line_is c.fss c.limits before b fits in
    let home = r.ways.dirs (parent_of b.path.names) line.dir in
    let k : ℕ = fs_of c.fss b.path.names in
    let no_root = or_parts (is_mount c.fss b.path.names) (list_any (λ x. same_names x.path.names b.path.names) before) line.new in
    let same_fs : k ≡ fs_of c.fss (parent_of b.path.names) = ap (fs_of c.fss) line.is_path
    ∙ fs_of_child c.fss (parent_of b.path.names) (last_name b.path.names) (ap (is_mount c.fss) (sym line.is_path) ∙ no_root.0) in
    let free = free_is t (first_inode c.fss k) (fs_at c.fss k).inodes (omega (arith, first_within c.fss k, r.counted.long)) (omega (arith, r.counted.taken k, line.inodes)) in
    let o : ℕ = first_inode c.fss k + free.step in
    let p : Place t o home.number = record { low = omega (arith, free.low, first_within c.fss k, r.counted.long); free = free.none; dir = home.object; is_dir = home.is_object } in
    let dir : is_dir (node t home.number) ≡ true = ap (λ (x : Option Object). is_dir (unwrap_or x nothing)) home.is_object ∙ home.dir in
    let at_dir : directory_of t 0 b.path.names ≡ home.number = ap (directory_of t 0) line.is_path ∙ directory_is t 0 home.number (parent_of b.path.names) (last_name b.path.names) home.leads in
    let fs : unwrap_or (node t home.number).fs 0 ≡ k = ap (λ (x : Option Object). unwrap_or (unwrap_or x nothing).fs 0) home.is_object ∙ ap (λ x. unwrap_or x 0) home.on ∙ sym same_fs in
    let vacant : vacant_inode c.fss t k ≡ Some o = ap (option_map (λ n. first_inode c.fss k + n)) free.found in
    let way : Leads t 0 b.path.names =
    subst (λ (ns : List (List ℕ)). Leads t 0 ns) (sym line.is_path) (leads_by t r.named.in_directories 0 home.number (parent_of b.path.names)
    (last_name b.path.names) home.leads dir) in
    let new = name_is_new c.fss c.limits before t b o k r.ways line home p refl refl in
    let absent : child (node t home.number) (last_name b.path.names) ≡ None =
    ap (λ (x : Option Object). child (unwrap_or x nothing) (last_name b.path.names)) home.is_object
    ∙ ap (option_map (λ (e : List ℕ × ℕ). e.1)) (find_nothing (λ (e : List ℕ × ℕ). same_bytes e.0 (last_name b.path.names)) home.object.names new) in
    let fewer : names_in_all t < c.limits.names = omega (arith, r.counted.names, line.names) in
    let blocks : blocks_where (lies_on (frame_alone (parts_of w)) (Some k)) 0 hs ≤ blocks_taken c.fss k before = r.counted.blocks k in
    let place : HasPlace b home.number k o (parts_of w) = record {
      named = omega (arith, ap length line.is_path, length-append (parent_of b.path.names) (last_name b.path.names ∷ []));
      dir = dir;
      absent = absent;
      room = grind (arith, nat_tests, fewer);
      fs = within_fss c.fss k (omega (arith, line.inodes));
      vacant = vacant;
      free = free.none;
      within = p.low;
      low = line.low;
      bare = line.bare;
      short = line.short;
      blocks = omega (arith, blocks, line.blocks);
    } in
    let after = line_after w b home.number k o (length-after t b o home.number k p) (object_is w b home.number k o at_dir fs vacant) in
    goes_by b (parts_of w) (parts_of (with_object w b)) home.number k o way at_dir fs vacant place after

-- each line goes into the tables after those before it
goes : (c : Config) (i : ℕ) (b : ObjSpec) → Valid c → slice_get c.objects i ≡ Some b → Goes b (parts_of (opening_after i c)) (parts_of (opening_after (i + 1) c))
goes c i b v is =
    let r = lines_built c [] (take i c.objects) (bare_world c) (bare_is_built c v) (fit_first c.fss c.limits [] c.objects i v.objects) in
    let one = goes_built c (take i c.objects) r.objects r.holdings b r.built (fit_at c.fss c.limits [] c.objects i b is v.objects) in
    let here : Goes b (parts_of (opening_after i c)) (parts_of (with_object (opening_after i c) b)) = subst (λ (w : World). Goes b (parts_of w) (parts_of (with_object w b))) (sym r.is) one in
    subst (λ (w : World). Goes b (parts_of (opening_after i c)) (parts_of w)) (next_is c i b is) here

pub goes_from : (c : Config) (i : ℕ) (b : ObjSpec) (t : Parts) → is_valid c ≡ true → slice_get c.objects i ≡ Some b → t ≡ parts_of (opening_after i c) → Goes b t (parts_of (opening_after (i + 1) c))
goes_from c i b t valid is before = subst (λ (u : Parts). Goes b u (parts_of (opening_after (i + 1) c))) (sym before) (goes c i b (valid_parts c valid) is)

-- the directory, the file system and the number that were found are those
module _ (b : ObjSpec) (t next : Parts) (g : Goes b t next) (d k : ℕ) (dir : d ≡ dir_for b t) (fs : k ≡ unwrap_or (node t.objects d).fs 0) where
  fs_is : k ≡ fs_for b t
  fs_is = fs ∙ ap (λ (e : ℕ). unwrap_or (node t.objects e).fs 0) dir

  vacant_is : vacant_inode t.fss t.objects k ≡ Some g.number
  vacant_is = ap (vacant_inode t.fss t.objects) fs_is ∙ g.vacant

  pub fs_there : k < length t.fss
  fs_there = subst (λ (j : ℕ). j < length t.fss) (sym fs_is) g.place.fs

  pub some_free : None ≡ vacant_inode t.fss t.objects k → ⊥
  some_free none = let e : None ≡ Some g.number = none ∙ vacant_is in cc

  module _ (o : ℕ) (free : Some o ≡ vacant_inode t.fss t.objects k) where
    number_is : g.number ≡ o
    number_is = let e : Some o ≡ Some g.number = free ∙ vacant_is in cc

    pub placed_there : HasPlace b d k o t
    placed_there = subst (λ (e : ℕ). HasPlace b e k o t) (sym dir) (subst (λ (j : ℕ). HasPlace b (dir_for b t) j o t) (sym fs_is)
        (subst (λ (n : ℕ). HasPlace b (dir_for b t) (fs_for b t) n t) number_is g.place))

    pub line_there : with_line b d k o t ≡ next
    line_there = (λ i. with_line b (dir i) (fs_is i) (sym number_is i) t) ∙ g.after

-- all lines are there in the end
pub all_lines : (c : Config) (i : ℕ) → length c.objects ≤ i → opening_after i c ≡ opening_world c
unfolding opening_world
all_lines c i all = ap (with_objects (bare_world c)) (take_all i c.objects all)
