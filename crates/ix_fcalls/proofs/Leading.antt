-- Where walks lead in a sound world, and what another label of an object leaves as it was.
use Rattle.std.proofs.Common.{◌≡◌, ◌<◌, ◌+◌, ℕ, true, false, true≢false, not, List, [], length, sum, take, drop, nat_lt, Option, Some, None, is_some}
use Rattle.std.proofs.Common.{is_none, option_map, unwrap_or, slice_set, length-set, refl, sym, ap, ◌∙◌, subst, arith, inl, inr}
use Rattle.std.{specs.{Option.option_map_or, List.{drop-map, take-map}}, proofs.lemmas.{Bool.cases_lt, List.{get_or_past, set-get_or}}}
use Rattle.ix_label.specs.Category.{Categories}
use Rattle.ix_model.specs.{laws.Sound.{Sound, NamesSound}, world.{Naming.{PathOf, last_name}, Contents.holds_nothing, Owners.names_in_all}, declared.{config.FsSpec.FsSpec, reply.Kind.Kind}}
use Rattle.ix_model.specs.{world.World.{Process, Object, Holding, Frame, at, put, change, is_dir, is_file, is_pipe, fs_at}, rows.Rows.affect}
use Rattle.ix_model.specs.{world.{Numbers.{first_inode, free_inode, fs_number}, Directories.has_room_for_a_name}, rows.Outcomes.{Outcome, Pass}}
use Rattle.ix_model.{specs.rows.Walks.{Spot, Sought, node, nothing, child, walked_to, found_object, vacant, missing, spot_at}, proofs.frames.Frames.{Follows, follows_itself}}
use Rattle.ix_model.proofs.{tables.Tables.{SameBut, seen_same, map_same, length_same}, words.{Keeps.Holds, Ends.{Ends, Anything}, There.child_named}}
use Rattle.ix_model.proofs.frames.{Floats.{Floats, process_but, floats_itself, floats_affect}, Gone.kinds_left}
use Rattle.ix_model.proofs.words.Walked.{Within, Leads, Along, along_itself, leads_walked_to, leads_there, leads_vacant, leads_missing, leads_found_in}
use Rattle.ix_tables.{specs.{Parts.Parts, Views.vacant_inode}, proofs.Vacant.free_by}
use Rattle.ix_fcalls.{specs.{Around.{Around, frame_of, world_of}, Counted.{IsCounted, Keeps}}, proofs.Counting.counted_same}
use Rattle.ix_model.specs.declared.reply.Kind.TheVariants as kind
use Rattle.ix_model.specs.rows.Walks as walks
use Rattle.ix_model.proofs.frames.Frames as frames

-- ---- where a walk led
passed : {A : Type 0} (o : Outcome A) (x : A) (g : Frame) (Q : A → Frame → Type 0) → o ≡ Pass x g → Ends o Anything Q → Q x g
unfolding Ends
passed {A} o x g Q is k = subst (λ out. Ends out Anything Q) is k

-- what a name leads to is no pipe; where it is no directory it is a file
named_file : (f : Frame) → NamesSound f → (o : ℕ) (dir : Option ℕ) (name : List ℕ) → Leads f name (walks.Found o dir) → (y : Object) → at f.objects o ≡ Some y → is_dir y ≡ false → is_file y ≡ true
named_file f n o None name leads y is other = absurd (true≢false (sym leads ∙ ap (λ x. option_map_or is_dir x false) is ∙ other))
named_file f n o (Some d) name leads y is other = elim (kinds_left y other) [
  | inl file ↦ file.0
  | inr pipe ↦ absurd (true≢false (sym (n.living d o leads.dir leads.is (child_named leads.dir.names name o leads.leads))
      ∙ ap (λ x. option_map_or (λ z. not (is_pipe z)) x false) is ∙ ap not pipe.1))
]

module _ (a : Around) (t : Parts) (ps qs : List (Option Process)) (path : PathOf) (s : Sound (world_of a t ps)) where
  abbrev f : Frame
  f = frame_of a t ps

  itself : Follows f f
  itself = follows_itself f (frames.frame_of _ s)

  within_missing : (d : ℕ) → missing a.pid path f ≡ Pass d (frame_of a t qs) → Within f d (last_name path.names) None
  within_missing d row = passed (missing _ path f) d _ _ row (leads_missing f _ _ _ _ itself (λ r h k. tt) (λ n h k w. w))

  pub leads_spot : (x : Spot) → spot_at a.pid path f ≡ Pass x (frame_of a t qs) → Leads f (last_name path.names) (walks.Found x.object x.dir)
  leads_spot x row = passed (spot_at a.pid path f) x _ (λ y h. Leads f (last_name path.names) (walks.Found y.object y.dir)) row
      (leads_found_in f _ _ _ _ itself (λ r h k. tt) (λ o dir h k leads. leads))

  node_of : (d : ℕ) (name : List ℕ) (c : Option ℕ) (w : Within f d name c) → w.dir ≡ node t.objects d
  node_of d name c w = sym (ap (λ o. unwrap_or o nothing) w.is)

  pub dir_missing : (d : ℕ) → missing a.pid path f ≡ Pass d (frame_of a t qs) → is_dir (node t.objects d) ≡ true
  dir_missing d row = let w = within_missing d row in sym (ap is_dir (node_of d _ _ w)) ∙ w.is_directory

  pub absent_missing : (d : ℕ) → missing a.pid path f ≡ Pass d (frame_of a t qs) → child (node t.objects d) (last_name path.names) ≡ None
  absent_missing d row = let w = within_missing d row in sym (ap (λ o. child o (last_name path.names)) (node_of d _ _ w)) ∙ w.leads

  -- the file system of what is no pipe is one of those there are
  pub fs_low : (d : ℕ) (x : Object) → at t.objects d ≡ Some x → is_pipe x ≡ false → fs_number x < length t.fss
  fs_low d x is no_pipe = go _ refl (s.limits.pipes d x is ∙ no_pipe)
    where
      go : (k : Option ℕ) → x.fs ≡ k → is_none x.fs ≡ false → fs_number x < length t.fss
      go None e none = let h = sym (ap is_none e) ∙ none in cc
      go (Some k) e none = elim (cases_lt k _) [
        | inl low ↦ subst (λ n. n < length t.fss) (sym (ap (λ o. option_map_or (λ n. n) o 0) e)) low
        | inr past ↦
            let range = s.limits.numbers d k x is e in
            let none : (fs_at t.fss k).inodes ≡ 0 = ap (λ (y : FsSpec). y.inodes) (get_or_past t.fss k _ past) in
            absurd (omega (arith, range.0, range.1, none))
      ]

  pub clean_at : (n : ℕ) → at t.objects n ≡ None → slice_set t.holdings n holds_nothing ≡ t.holdings
  clean_at n none = ap (slice_set t.holdings n) (sym (s.holdings.clean.holdings n (ap is_some none))) ∙ set-get_or t.holdings n holds_nothing

  -- a walk to a name: the directory that has it, and the object that it names
  pub within_spot : (x : Spot) (d : ℕ) → spot_at a.pid path f ≡ Pass x (frame_of a t qs) → x.dir ≡ Some d → Within f d (last_name path.names) (Some x.object)
  within_spot x d row dir = subst (λ k. Leads f (last_name path.names) (walks.Found x.object k)) dir (leads_spot x row)

  pub dir_spot : (x : Spot) (d : ℕ) → spot_at a.pid path f ≡ Pass x (frame_of a t qs) → x.dir ≡ Some d → is_dir (node t.objects d) ≡ true
  dir_spot x d row dir = let w = within_spot x d row dir in sym (ap is_dir (node_of d _ _ w)) ∙ w.is_directory

  pub child_spot : (x : Spot) (d : ℕ) → spot_at a.pid path f ≡ Pass x (frame_of a t qs) → x.dir ≡ Some d → child (node t.objects d) (last_name path.names) ≡ Some x.object
  child_spot x d row dir = let w = within_spot x d row dir in sym (ap (λ y. child y (last_name path.names)) (node_of d _ _ w)) ∙ w.leads

  pub file_spot : (x : Spot) (y : Object) → spot_at a.pid path f ≡ Pass x (frame_of a t qs) → at t.objects x.object ≡ Some y → is_dir y ≡ false → is_file y ≡ true
  file_spot x y row is other = named_file f s.names _ _ _ (leads_spot x row) y is other

  -- the processes are as before but for labels
  pub processes_spot : (x : Spot) → spot_at a.pid path f ≡ Pass x (frame_of a t qs) → SameBut process_but ps qs
  processes_spot x row = (passed (spot_at a.pid path f) x _ (λ y h. Along f h) row (leads_found_in f _ _ _ _
      itself (λ r h k. tt) (λ o dir h k leads. k))).floats.processes

-- two walks, one after the other
module _ (a : Around) (t : Parts) (ps qs rs : List (Option Process)) (target path : PathOf) (s : Sound (world_of a t ps)) (v w : Sought)
    (first : walked_to a.pid target (frame_of a t ps) ≡ Pass v (frame_of a t qs)) (second : walked_to a.pid path (frame_of a t qs) ≡ Pass w (frame_of a t rs))
  where
    abbrev start : Frame
    start = frame_of a t ps

    led : Along (frame_of a t ps) (frame_of a t qs) × Leads (frame_of a t ps) (last_name target.names) v
    led = passed (walked_to a.pid target start) v _ _ first (leads_walked_to _ _ _ _ _ (λ y h. Along start h × Leads start (last_name target.names) y)
        (along_itself start (follows_itself start (frames.frame_of (world_of a t ps) s))) (λ r h k. tt) (λ y h k leads. (k, leads)))

    led_then : Leads (frame_of a t ps) (last_name path.names) w
    led_then = passed (walked_to a.pid path (frame_of a t qs)) w _ _ second (leads_walked_to _ _ _ _ _ _ led.0 (λ r h k. tt) (λ y h k leads. leads))

    within_then : (d : ℕ) → vacant w (frame_of a t rs) ≡ Pass d (frame_of a t rs) → Within (frame_of a t ps) d (last_name path.names) None
    within_then d row = passed (vacant w _) d _ (λ n h. Within start n (last_name path.names) None) row (leads_vacant _ _ w _ _ _ led_then (λ n k. k) (λ r. tt))

    pub dir_then : (d : ℕ) → vacant w (frame_of a t rs) ≡ Pass d (frame_of a t rs) → is_dir (node t.objects d) ≡ true
    dir_then d row = let k = within_then d row in sym (ap is_dir (node_of a t ps qs path s d _ None k)) ∙ k.is_directory

    pub absent_then : (d : ℕ) → vacant w (frame_of a t rs) ≡ Pass d (frame_of a t rs) → child (node t.objects d) (last_name path.names) ≡ None
    absent_then d row = let k = within_then d row in sym (ap (λ o. child o (last_name path.names)) (node_of a t ps qs path s d _ None k)) ∙ k.leads

    pub file_then : (o : ℕ) (y : Object) → found_object v (frame_of a t rs) ≡ Pass o (frame_of a t rs) → at t.objects o ≡ Some y → is_dir y ≡ false → is_file y ≡ true
    file_then o y row is other =
        let there = passed (found_object v (frame_of a t rs)) o _ _ row (leads_there _ _ v _ _
        (λ n h. (dir : Option ℕ) × Leads start (last_name target.names) (walks.Found n dir)) led.1 (λ n dir k. (dir, k)) (λ r. tt)) in
        named_file _ s.names o _ _ there.1 y is other

-- ---- after another label
module _ (a : Around) (t u : Parts) (ps : List (Option Process)) (o : ℕ) (l : Categories) (row : affect a.pid o l (frame_of a t ps) ≡ Pass tt (frame_of a u ps)) where
  pub floated : Floats (frame_of a t ps) (frame_of a u ps)
  unfolding Holds
  floated = subst (λ out. Holds out (Floats (frame_of a t ps))) row ((floats_affect _ _ o l).led _ (floats_itself _))

  pub dir_still : (n : ℕ) → is_dir (node t.objects n) ≡ true → is_dir (node u.objects n) ≡ true
  dir_still n h = seen_same _ (λ y. is_dir (unwrap_or y nothing)) (λ y. refl) _ _ floated.objects n ∙ h

  pub file_still : (n : ℕ) → is_file (node t.objects n) ≡ true → is_file (node u.objects n) ≡ true
  file_still n h = seen_same _ (λ y. is_file (unwrap_or y nothing)) (λ y. refl) _ _ floated.objects n ∙ h

  pub child_still : (n : ℕ) (name : List ℕ) (c : Option ℕ) → child (node t.objects n) name ≡ c → child (node u.objects n) name ≡ c
  child_still n name c h = seen_same _ (λ y. child (unwrap_or y nothing) name) (λ y. refl) _ _ floated.objects n ∙ h

  pub none_still : (n : ℕ) → at t.objects n ≡ None → at u.objects n ≡ None
  none_still n h = none _ (seen_same _ is_some (λ y. refl) _ _ floated.objects n ∙ ap is_some h)
    where
      none : (x : Option Object) → is_some x ≡ false → x ≡ None
      none None k = refl
      none (Some x) k = cc

  pub long_still : length u.objects ≡ length t.objects
  long_still = length_same _ _ _ floated.objects

  pub link_still : (n : ℕ) → option_map_or is_file (at t.objects n) false ≡ true → option_map_or is_file (at u.objects n) false ≡ true
  link_still n k = seen_same _ (λ y. option_map_or is_file y false) (λ y. refl) _ _ floated.objects n ∙ k

  pub standing_still : (n : ℕ) → is_some (at u.objects n) ≡ is_some (at t.objects n)
  standing_still n = seen_same _ is_some (λ y. refl) _ _ floated.objects n

  pub room_still : nat_lt (names_in_all t.objects) t.limits.names ≡ true → nat_lt (names_in_all u.objects) u.limits.names ≡ true
  room_still h = (λ i. nat_lt (ap sum (map_same _ (λ x. option_map_or (λ y. length y.names) x 0) (λ x. refl) _ _ floated.objects) i) (floated.limits i).names) ∙ h

  pub fs_still : length u.fss ≡ length t.fss
  fs_still = ap length floated.fss

  pub vacant_still : (k : ℕ) → vacant_inode u.fss u.objects k ≡ vacant_inode t.fss t.objects k
  vacant_still k =
      let first = first_inode t.fss k in let few = (fs_at t.fss k).inodes in
      let same =
      sym (take-map is_none few _) ∙ ap (take _) (sym (drop-map is_none first u.objects))
      ∙ ap (λ bs. take few (drop first bs)) (map_same _ is_none (λ y. refl) _ _ floated.objects)
      ∙ ap (take _) (drop-map is_none first t.objects) ∙ take-map is_none few _ in
      ap (λ fss. vacant_inode fss u.objects k) floated.fss ∙ ap (option_map (λ n. first + n)) (free_by _ _ same)

-- the directory of a name that a walk found still has it
pub spot_still : (a : Around) (t u : Parts) (ps qs rs : List (Option Process)) (path : PathOf) (name : List ℕ) → Sound (world_of a t ps) → name ≡ last_name path.names → (x : Spot) (d o : ℕ)
    (l : Categories)
    → spot_at a.pid path (frame_of a t ps) ≡ Pass x (frame_of a t qs) → x.dir ≡ Some d → affect a.pid o l (frame_of a t rs) ≡ Pass tt (frame_of a u rs)
    → (is_dir (node u.objects d) ≡ true) × (child (node u.objects d) name ≡ Some x.object)
spot_still a t u ps qs rs path name s last x d o l led dir row = (
  dir_still a t u rs o l row d (dir_spot a t ps qs path s x d led dir),
  ap (child (node u.objects d)) last ∙ child_still a t u rs o l row d _ _ (child_spot a t ps qs path s x d led dir),
)

-- the file system of a directory is one of those there are
pub fs_of_dir : (a : Around) (t : Parts) (ps : List (Option Process)) → Sound (world_of a t ps) → (n : ℕ) (x : Object) → at t.objects n ≡ Some x → is_dir x ≡ true → fs_number x < length t.fss
fs_of_dir a t ps s n x is dir = fs_low a t ps ps (record { absolute = false; names = [] }) s n x is (no_pipe _ dir)
  where
    no_pipe : (k : Kind) → is_dir (record nothing { kind = k }) ≡ true → is_pipe (record nothing { kind = k }) ≡ false
    no_pipe kind.File h = refl
    no_pipe kind.Dir h = refl
    no_pipe kind.Pipe h = cc

pub fs_missing : (a : Around) (t : Parts) (ps qs : List (Option Process)) (path : PathOf) → Sound (world_of a t ps) → (d : ℕ)
    → missing a.pid path (frame_of a t ps) ≡ Pass d (frame_of a t qs) → (x : Object) → at t.objects d ≡ Some x → fs_number x < length t.fss
fs_missing a t ps qs path s d row x is = fs_of_dir a t ps s d x is (sym (ap (λ o. is_dir (unwrap_or o nothing)) is) ∙ dir_missing a t ps qs path s d row)

-- a new object keeps what is counted and held
pub counted_made : (t u : Parts) (ps : List (Option Process)) (d n : ℕ) (x : Option Object) (h : Object → Object) (hs : List Holding) → IsCounted t ps
    → u ≡ record t { objects = change (put t.objects n x) d h; holdings = hs } → IsCounted u ps
counted_made t u ps d n x h hs c is = subst (λ v. IsCounted v ps) (sym is) (counted_same t _ ps refl refl refl (length-set _ d _ ∙ length-set t.objects n x) c)

pub kept_made : (a : Around) (t u v : Parts) (ps : List (Option Process)) → Sound (world_of a t ps) → Keeps t u → (n : ℕ) (os : List (Option Object))
    → at t.objects n ≡ None → v ≡ record u { objects = os; holdings = slice_set u.holdings n holds_nothing } → Keeps t v
kept_made a t u v ps s k n os none is = record {
  holdings = ap (λ w. w.holdings) is ∙ ap (λ hs. slice_set hs n holds_nothing) k.holdings ∙ clean_at a t ps ps (record { absolute = false; names = [] }) s n none;
  offsets = ap (λ w. w.offsets) is ∙ k.offsets;
}

-- and so does another name
pub counted_named : (t u : Parts) (ps : List (Option Process)) (d : ℕ) (h : Object → Object) → IsCounted t ps → u ≡ record t { objects = change t.objects d h } → IsCounted u ps
counted_named t u ps d h c is = subst (λ v. IsCounted v ps) (sym is) (counted_same t _ ps refl refl refl (length-set t.objects d _) c)

pub kept_named : (t u v : Parts) (os : List (Option Object)) → Keeps t u → v ≡ record u { objects = os } → Keeps t v
kept_named t u v os k is = record { holdings = ap (λ w. w.holdings) is ∙ k.holdings; offsets = ap (λ w. w.offsets) is ∙ k.offsets }

-- by the kind that is told
pub no_dir : (k : Kind) → (k ≡ kind.Dir → ⊥) → is_dir (record nothing { kind = k }) ≡ false
no_dir kind.File other = refl
no_dir kind.Dir other = absurd (other refl)
no_dir kind.Pipe other = refl

-- the readers of the tables as the rows have them
pub free_is : (f : Frame) (k : ℕ) → free_inode f k ≡ vacant_inode f.fss f.objects k
unfolding free_inode
free_is f k = refl

pub room_is : (f : Frame) → has_room_for_a_name f ≡ nat_lt (names_in_all f.objects) f.limits.names
unfolding has_room_for_a_name
room_is f = refl
