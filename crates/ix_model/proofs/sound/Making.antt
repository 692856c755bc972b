-- The rows that make a file, a directory or a name leave a sound frame.
use Rattle.std.proofs.Common.{◌≡◌, ◌≢◌, ◌<◌, ◌≤◌, ◌+◌, ◌==◌, ℕ, true, false, true≢false, not, nat_lt, List, sum, length, count_by, Option, Some, None, is_none}
use Rattle.std.{proofs.{Common.{refl, sym, ap, ◌∙◌, subst, arith, inl, inr}, lemmas.{Bool.{cases_lt, not-true}, List.{get_or-set_same, get_or-set_other}}}, specs.Option.option_map_or}
use Rattle.ix_label.specs.{Category.{Categories, bottom}, Lattice.bottom-leq}
use Rattle.ix_model.specs.{world.{Naming.{PathOf, last_name}, Directories.{with_name, has_room_for_a_name}}, rows.{Rows.affect, OnPaths.{new_object, make, create_at, make_dir, link_at}}}
use Rattle.ix_model.{specs.world.{World.{fs_at, Frame, Object, at, put, change, is_dir, is_pipe}, Numbers.{first_inode, free_inode, fs_number}}, proofs.words.Ends.ends_change_object}
use Rattle.ix_model.specs.{world.Owners.{times_in, times_named, names_in_all}, declared.{config.FsSpec.FsSpec, reply.Kind.Kind}}
use Rattle.ix_model.proofs.tables.{Tables.{none_is, back, length_same, map_same, seen_same}, Finds.sum_zero, FreeNumbers.free_inode_is}
use Rattle.ix_model.proofs.{tables.SameKinds.{kinds_new, kinds_change}, words.{There.child_named, Looks.ends_affect, Endings.ends_put_object}}
use Rattle.ix_model.proofs.frames.{Floats.{Floats, object_but, floats_itself, floats_affect}, Named.named_sound, Awaiting.{IsNew, awaiting, awaiting_new, times_new, names_in_new}}
use Rattle.ix_model.proofs.{frames.Frames.{FrameSound, Follows, follows_itself, follows_affect}, sound.Logging.{Refused, Passed, holds_both}}
use Rattle.ix_model.proofs.words.Ends.{Ends, ends_kept, kept_ends, ends_bind, ends_then, ends_pass, ends_frame, ends_need, ends_some, ends_object}
use Rattle.ix_model.proofs.words.Walked.{Within, Leads, Along, along_itself, within_on, leads_walked_to, leads_there, leads_vacant, leads_missing}
use Rattle.ix_model.specs.rows.Walks as sought
use Rattle.ix_model.specs.declared.reply.Kind.TheVariants as kind

-- ---- room for a name
room_same : (f g : Frame) → names_in_all g.objects ≡ names_in_all f.objects → g.limits ≡ f.limits → has_room_for_a_name f ≡ true → has_room_for_a_name g ≡ true
unfolding has_room_for_a_name
room_same f g names limits h = (λ i. nat_lt (names i) (limits i).names) ∙ h

names_floated_in : (f g : Frame) → Floats f g → names_in_all g.objects ≡ names_in_all f.objects
names_floated_in f g r = ap sum (map_same _ _ (λ x. refl) _ _ r.objects)

none_floated : (f g : Frame) → Floats f g → (o : ℕ) → at f.objects o ≡ None → at g.objects o ≡ None
none_floated f g r o none = none_is _ (seen_same _ is_none (λ y. refl) _ _ r.objects o ∙ ap is_none none)

none_before : (f g : Frame) → Floats f g → (o : ℕ) → at g.objects o ≡ None → at f.objects o ≡ None
none_before f g r o none = none_is _ (sym (seen_same _ is_none (λ y. refl) _ _ r.objects o) ∙ ap is_none none)

-- what doesn't stand isn't named
unborn : (f : Frame) (o : ℕ) → FrameSound f → at f.objects o ≡ None → times_named f.objects o ≡ 0
unborn f o s none = sum_zero (times_in o) f.objects (λ n. go n _ refl)
  where
    go : (n : ℕ) (y : Option Object) → at f.objects n ≡ y → times_in o (at f.objects n) ≡ 0
    go n None is = ap (times_in o) is
    go n (Some y) is = ap (times_in o) is ∙ elim (cases_lt 0 (count_by (λ e. e.1 == o) y.names)) [
      | inl some ↦ absurd (true≢false (sym (s.names.living n o y is some) ∙ ap (λ z. option_map_or (λ y. not (is_pipe y)) z false) none))
      | inr few ↦ omega arith
    ]

-- ---- a new file or directory under a name
created : (f m h : Frame) → Along f m → Follows f h → Floats m h → (d o j : ℕ) (name : List ℕ) (kind : Kind) → is_pipe (new_object kind (Some j)) ≡ false
    → Within f d name None → free_inode m j ≡ Some o → has_room_for_a_name m ≡ true
    → Follows f (record h { objects = change (put h.objects o (Some (new_object kind (Some j)))) d (with_name name o) })
created f m h a b r d o j name kind no_pipe within free room =
    let x : Object = new_object kind (Some j) in
    let g : Frame = record h { objects = put h.objects o (Some (new_object kind (Some j))) } in
    let n = free_inode_is m j o free in
    let free_h : at h.objects o ≡ None = none_floated m h r o n.free in
    let free_f : at f.objects o ≡ None = none_before f m a.floats o n.free in
    let long : length h.objects ≡ length m.objects = length_same object_but m.objects h.objects r.objects in
    let inside : o < length h.objects = omega (arith, long, n.inside) in
    let range : (k : ℕ) → Some j ≡ Some k → (first_inode h.fss k ≤ o) × (o < first_inode h.fss k + (fs_at h.fss k).inodes) = λ k e. let same : j ≡ k = cc in
    subst (λ (i : ℕ). (first_inode h.fss i ≤ o) × (o < first_inode h.fss i + (fs_at h.fss i).inodes)) same
    (subst (λ (t : List FsSpec). (first_inode t j ≤ o) × (o < first_inode t j + (fs_at t j).inodes)) (sym r.fss) (n.first, n.last)) in
    let new : IsNew h o x = record {
      free = free_h;
      inside = inside;
      nameless = refl;
      unclaimed = refl;
      low = bottom-leq _;
      pipe = sym no_pipe;
      past =
          λ yes. absurd (true≢false (sym yes ∙ no_pipe));
      number = range;
    } in
    let w = within_on m h r d name None (within_on f m a.floats d name None within) in
    let apart : d ≢ o = λ e. let both : Some w.dir ≡ None = sym w.is ∙ ap (at h.objects) e ∙ free_h in cc in
    let born : at g.objects o ≡ Some x = get_or-set_same h.objects o (Some x) None inside in
    let no_root : o ≢ 0 = λ e. true≢false (sym b.sound.names.root ∙ ap (λ k. option_map_or is_dir (at h.objects k) false) (sym e) ∙ ap (λ y. option_map_or is_dir y false) free_h) in
    record {
      sound = named_sound g d o w.dir x name (get_or-set_other h.objects o d (Some x) None apart ∙ w.is) w.is_directory born no_pipe w.leads
          (room_same m g (names_in_new h o x new ∙ names_floated_in m h r) r.limits room)
          (awaiting_new h o x new b.sound)
          (λ dir. (times_new h o x new o ∙ unborn h o b.sound free_h, no_root));
      kinds = kinds_change f.objects g.objects (kinds_new f.objects h.objects b.kinds o (Some x) free_f) d (with_name name o) (λ y. record { pipe = refl; dir = refl; fs = refl });
    }

module _ (f : Frame) where
  -- affect, from a frame on the way
  pub affect_on : (m : Frame) → Follows f m → (pid d : ℕ) (through : Categories) (Q : Unit {0} → Frame → Type 0)
      → ((h : Frame) → Follows f h → Floats m h → h.processes ≡ m.processes → Q tt h) → Ends (affect pid d through m) (Refused f) Q
  affect_on m k pid d through Q next = ends_kept (λ h. (Follows f h × Floats m h) × (h.processes ≡ m.processes)) (affect pid d through m) (Refused f) Q
      (holds_both _ _ _ (holds_both _ _ _ ((follows_affect f pid d through).led m k) ((floats_affect m pid d through).led m (floats_itself m)))
      (kept_ends (λ h. h.processes ≡ m.processes) _ (ends_affect pid d through m _ _ (λ r. refl) refl (λ l x is low. refl))))
      (λ r h j. j.0.0) (λ u h j. next h j.0.0 j.0.1 j.1)

module _ (f : Frame) (s : FrameSound f) where
  make_ends : (pid : ℕ) (path : PathOf) (kind : Kind) → ((j : ℕ) → is_pipe (new_object kind (Some j)) ≡ false) → Ends (make pid path kind f) (Refused f) (Passed f)
  unfolding make
  make_ends pid path kind no_pipe =
      ends_bind _ _ f (Refused f) (Passed f) (leads_missing f pid path (Refused f) _ (follows_itself f s) (λ r h k. k) (λ d m k within.
      ends_bind _ _ m (Refused f) (Passed f) (ends_object d m (Refused f) _ (λ x is.
      ends_bind _ _ m (Refused f) (Passed f) (ends_frame m (Refused f) _ (
      ends_bind _ _ m (Refused f) (Passed f) (ends_some _ _ m (Refused f) _ (λ o free.
      ends_then _ _ m (Refused f) (Passed f) (ends_need _ _ m (Refused f) _ (λ room.
      ends_then _ _ m (Refused f) (Passed f) (affect_on f m k.follows pid d bottom _ (λ h b r same.
      ends_then _ _ h (Refused f) (Passed f) (ends_put_object o _ h (Refused f) _ (
      ends_then _ _ _ (Refused f) (Passed f) (ends_change_object d _ _ (Refused f) _ (
      ends_pass _ _ (Refused f) (Passed f) (created f m h k b r d o (fs_number x) (last_name path.names) kind (no_pipe (fs_number x)) within free room)))))))
      ) k.follows)) k.follows)))) k.follows)))

  pub create_at_ends : (pid : ℕ) (path : PathOf) → Ends (create_at pid path f) (Refused f) (Passed f)
  unfolding create_at
  create_at_ends pid path = make_ends pid path kind.File (λ j. refl)

  pub make_dir_ends : (pid : ℕ) (path : PathOf) → Ends (make_dir pid path f) (Refused f) (Passed f)
  unfolding make_dir
  make_dir_ends pid path = make_ends pid path kind.Dir (λ j. refl)

-- ---- one name more
-- what was found and is no directory is named, and so no pipe
named_no_pipe : (f : Frame) → FrameSound f → (o : ℕ) (dir : Option ℕ) (name : List ℕ) → Leads f name (sought.Found o dir)
    → option_map_or is_dir (at f.objects o) false ≡ false → option_map_or (λ y. not (is_pipe y)) (at f.objects o) false ≡ true
named_no_pipe f s o None name leads other = absurd (true≢false (sym leads ∙ other))
named_no_pipe f s o (Some d) name leads other = s.names.living d o leads.dir leads.is (child_named leads.dir.names name o leads.leads)

linked : (f m h : Frame) → FrameSound f → Along f m → Follows f h → Floats m h → (d o : ℕ) (dir : Option ℕ) (target name : List ℕ) (x : Object)
    → at m.objects o ≡ Some x → not (is_dir x) ≡ true → Leads f target (sought.Found o dir) → Within f d name None → has_room_for_a_name m ≡ true
    → Follows f (record h { objects = change h.objects d (with_name name o) })
linked f m h s a b r d o dir target name x is no_dir leads within room =
    let w = within_on m h r d name None (within_on f m a.floats d name None within) in
    let there = back object_but (λ y. refl) h.objects m.objects (record { same = sym r.objects.same }) o x is in
    let other : is_dir there.was ≡ false = sym (ap is_dir there.same) ∙ not-true _ no_dir in
    let was_no_dir : option_map_or is_dir (at f.objects o) false ≡ false =
    sym (seen_same object_but (λ y. option_map_or is_dir y false) (λ y. refl) f.objects m.objects a.floats.objects o)
    ∙ ap (λ y. option_map_or is_dir y false) is ∙ not-true _ no_dir in
    let open_pipe : option_map_or (λ y. not (is_pipe y)) (at m.objects o) false ≡ true =
    seen_same object_but (λ y. option_map_or (λ z. not (is_pipe z)) y false) (λ y. refl) f.objects m.objects a.floats.objects o
    ∙ named_no_pipe f s o dir target leads was_no_dir in
    let no_pipe : is_pipe there.was ≡ false = sym (ap is_pipe there.same) ∙ not-true _ (sym (ap (λ y. option_map_or (λ z. not (is_pipe z)) y false) is) ∙ open_pipe) in
    record {
      sound = named_sound h d o w.dir there.was name w.is w.is_directory there.is_was no_pipe w.leads
          (room_same m h (names_floated_in m h r) r.limits room) (awaiting o h b.sound)
          (λ yes. absurd (true≢false (sym yes ∙ other)));
      kinds = kinds_change f.objects h.objects b.kinds d (with_name name o) (λ y. record { pipe = refl; dir = refl; fs = refl });
    }

module _ (f : Frame) (s : FrameSound f) where
  pub link_at_ends : (pid : ℕ) (target path : PathOf) → Ends (link_at pid target path f) (Refused f) (Passed f)
  unfolding link_at
  link_at_ends pid target path =
      ends_bind _ _ f (Refused f) (Passed f) (leads_walked_to f f pid target (Refused f) _ (along_itself f (follows_itself f s)) (λ r h k. k) (λ a l k1 leads_a.
      ends_bind _ _ l (Refused f) (Passed f) (leads_walked_to f l pid path (Refused f) _ k1 (λ r h k. k) (λ b m k leads_b.
      ends_bind _ _ m (Refused f) (Passed f) (leads_there f (last_name target.names) a m (Refused f) _ leads_a (λ o dir leads.
      ends_bind _ _ m (Refused f) (Passed f) (ends_object o m (Refused f) _ (λ x is.
      ends_then _ _ m (Refused f) (Passed f) (ends_need _ _ m (Refused f) _ (λ no_dir.
      ends_bind _ _ m (Refused f) (Passed f) (leads_vacant f (last_name path.names) b m (Refused f) _ leads_b (λ d within.
      ends_bind _ _ m (Refused f) (Passed f) (ends_object d m (Refused f) _ (λ y here.
      ends_then _ _ m (Refused f) (Passed f) (ends_need _ _ m (Refused f) _ (λ one_fs.
      ends_bind _ _ m (Refused f) (Passed f) (ends_frame m (Refused f) _ (
      ends_then _ _ m (Refused f) (Passed f) (ends_need _ _ m (Refused f) _ (λ room.
      ends_then _ _ m (Refused f) (Passed f) (affect_on f m k.follows pid d bottom _ (λ h j r same.
      ends_then _ _ h (Refused f) (Passed f) (ends_change_object d _ h (Refused f) _ (
      ends_pass _ _ (Refused f) (Passed f) (linked f m h s k j r d o dir (last_name target.names) (last_name path.names) x is no_dir leads within room))))))
      k.follows)))) k.follows)) k.follows)) (λ r. k.follows))) k.follows)) k.follows)) (λ r. k.follows))))))
