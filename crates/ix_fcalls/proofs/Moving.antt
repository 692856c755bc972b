-- Another home of the caller, after a walk to it.
use Rattle.std.proofs.Common.{◌≡◌, ◌+◌, ◌-◌, ◌<◌, ◌≤◌, ◌==◌, ◌&&◌, ℕ, not, cond, true, false, List, Option, Some, None, set, get_or, length, count_by, is_some}
use Rattle.std.proofs.Common.{inl, inr, refl, sym, ap, ◌∙◌, subst, arith, length-set, slice_set, slice_index_or}
use Rattle.std.{specs.Option.option_map_or, proofs.lemmas.{Bool.Decides.eqb_tells, List.Sums.sum-map}}
use Rattle.ix_model.specs.{laws.Sound.Sound, world.{Naming.PathOf, World.{Process, Object, Frame, at, change, living, is_dir}}, rows.{OnPaths.is_home, Outcomes.Pass, Walks.object_at}}
use Rattle.ix_model.proofs.{frames.Frames.{FrameSound, Follows, follows_itself}, sound.Steadily.follows_found, words.{Keeps.Holds, Living.{is_living, not_ended}}}
use Rattle.ix_tables.specs.Parts.{Parts, owners_of, homes_of}
use Rattle.ix_fcalls.{specs.{Around.{Around, frame_of, world_of}, Counted.{IsCounted, Keeps}}, proofs.Counting.{homes_few, itself}}
use Rattle.ix_fcalls.proofs.Counting.{one, counts_are, one_more, one_less, total_put, count_changed, stands_within, owners_kept_by, homes_long, homes_at}
use Rattle.ix_model.proofs.frames.Frames as frames

-- ---- after a walk
-- the frame after a walk to an object is sound
sound_found : (f g : Frame) (pid : ℕ) (path : PathOf) (o : ℕ) → FrameSound f → object_at pid path f ≡ Pass o g → FrameSound g
unfolding Holds
sound_found f g pid path o s row = (subst (λ out. Holds out (Follows f)) row ((follows_found f _ _).led f (follows_itself f s))).sound

module _ (a : Around) (t : Parts) (ps qs : List (Option Process)) (path : PathOf) (o : ℕ) (s : Sound (world_of a t ps)) (row : object_at a.pid path (frame_of a t ps) ≡ Pass o (frame_of a t qs)) where
  found : FrameSound (frame_of a t qs)
  found = sound_found _ _ _ _ o (frames.frame_of _ s) row

  pub few_found : t.limits.procs ≤ 1024 → count_by is_some qs ≤ 1024
  few_found few = let within = found.limits.processes in omega (arith, within, few)

  pub home_found : (q : Process) → living (at qs a.pid) ≡ Some q → q.cwd < length t.objects
  home_found q lives = stands_within _ _ (there _ (found.processes.home a.pid q lives))
    where
      there : (x : Option Object) → option_map_or is_dir x false ≡ true → is_some x ≡ true
      there None h = cc
      there (Some x) h = refl

-- ---- another home
module _ (ps : List (Option Process)) (pid : ℕ) (p : Process) (is : living (at ps pid) ≡ Some p) where
  home_put : (dir o : ℕ) → count_by (is_home o) (change ps pid (λ q. record q { cwd = dir })) + one (p.cwd == o) ≡ count_by (is_home o) ps + one (dir == o)
  home_put dir o =
      let lives = not_ended _ p is in
      let w : Option Process → ℕ = λ x. cond (is_home o x) 1 0 in
      let whole = total_put w ps _ p (λ q. record q { cwd = dir }) (is_living _ p is) in
      let old = ap (λ b. one (not b && p.cwd == o)) lives in
      let new = ap (λ b. one (not b && dir == o)) lives in
      omega (arith, whole, old, new, sum-map w ps, sum-map w (change ps pid (λ q. record q { cwd = dir })))

module _ (t : Parts) (ps : List (Option Process)) (c : IsCounted t ps) (pid : ℕ) (p : Process) (is : living (at ps pid) ≡ Some p) (home : p.cwd < length t.objects) where
  pub is_there : 0 < slice_index_or t.homes p.cwd 0
  is_there =
      let none = ap one (apart p.cwd) in
      omega (arith, homes_at t ps c p.cwd home, home_put ps pid p is (p.cwd + 1) p.cwd, ap one (itself p.cwd), none)
    where
      apart : (n : ℕ) → (n + 1 == n) ≡ false
      apart n = elim (eqb_tells (n + 1) n) [ inl s ↦ absurd (omega (arith, s.1)) | inr s ↦ s.0 ]

  module _ (dir : ℕ) (within : dir < length t.objects) where
    abbrev left : List ℕ
    left = set t.homes p.cwd (get_or t.homes p.cwd 0 - 1)

    abbrev moved : List (Option Process)
    moved = change ps pid (λ q. record q { cwd = dir })

    long : length t.homes ≡ length t.objects
    long = homes_long t ps c

    after : (o : ℕ) → o < length t.objects → get_or (set left dir (get_or left dir 0 + 1)) o 0 ≡ count_by (is_home o) moved
    after o low = omega (
      arith,
      one_more left dir o (omega (arith, within, long, length-set t.homes p.cwd (get_or t.homes p.cwd 0 - 1))),
      one_less t.homes p.cwd o (omega (arith, home, long)) is_there,
      homes_at t ps c o low,
      home_put ps pid p is dir o,
    )

    -- there is room for one more
    pub few_left : count_by is_some ps ≤ 1024 → slice_index_or left dir 0 + 1 < 4294967296
    few_left few =
        let some : count_by is_some moved ≡ count_by is_some ps = count_changed _ _ (λ x. refl) ps _ in
        omega (arith, after dir within, one_more left dir dir (omega (arith, within, long, length-set t.homes p.cwd (get_or t.homes p.cwd 0 - 1))), ap one (itself dir), homes_few dir moved, some, few)

    pub homes_moved : set left dir (get_or left dir 0 + 1) ≡ homes_of (length t.objects) moved
    homes_moved = counts_are _ _ _ (length-set left dir _ ∙ length-set t.homes p.cwd _ ∙ long) after

    owners_same : (n : ℕ) → owners_of n moved ≡ owners_of n ps
    owners_same n = owners_kept_by _ (λ e x. refl) n ps _

    pub moved_is : (u v : Parts) (qs : List (Option Process)) → u ≡ record t { homes = left }
        → v ≡ record u { homes = slice_set u.homes dir (slice_index_or u.homes dir 0 + 1) } → qs ≡ moved
        → v ≡ record t { homes = homes_of (length t.objects) qs }
    moved_is u v qs less more table =
        more ∙ ap (λ w. let x : Parts = record w { homes = slice_set w.homes dir (slice_index_or w.homes dir 0 + 1) } in x) less
        ∙ ap (λ hs. let x : Parts = record t { homes = hs } in x) (homes_moved ∙ ap (homes_of (length t.objects)) (sym table))

    pub counted_moved : (v : Parts) (qs : List (Option Process)) → v ≡ record t { homes = homes_of (length t.objects) qs } → qs ≡ moved → IsCounted v qs
    counted_moved v qs new table = rw new record { owners = c.owners ∙ sym (ap (owners_of (length t.opens)) table ∙ owners_same _); homes = refl }

-- ---- what is kept
pub kept_homes : (t u : Parts) (hs : List ℕ) → u ≡ record t { homes = hs } → Keeps t u
kept_homes t u hs is = record { holdings = ap (λ v. v.holdings) is; offsets = ap (λ v. v.offsets) is }

pub ruleset moving = (few_found, home_found, kept_homes)
