-- A process gives up all of its descriptors.
use Rattle.std.proofs.Common.{◌≢◌, ◌≤◌, ◌≡◌, ◌<◌, ◌+◌, ◌-◌, ℕ, suc, true, false, true≢false, not, List, length, count_by, Option, Some, None, is_some, refl, ap}
use Rattle.std.proofs.Common.{option_map, sym, ◌∙◌, subst, arith, slice_set, slice_index_or, if◌then◌else◌, inl, inr}
use Rattle.std.{specs.{Option.option_map_or, List.range_with_len}, proofs.lemmas.Bool.{not-true, cases_lt, Decides.eqb_tells}}
use Rattle.std.proofs.lemmas.List.{set-get_or, get_or-set_other, get_or_past, FromFn.length-map-range_with_len}
use Rattle.ix_model.specs.{world.{World.{World, Frame, Process, at, put, change, living, lives, is_dir}, Contents.carried}, laws.Sound.Sound, rows.Telling.told}
use Rattle.ix_model.{specs.{history.Step.{plainly, answer, step}, rows.{Outcomes.Pass, Rows.{◌>>=◌, ◌>>◌, on_pass, pass, some, frame}}}, proofs.sound.Soundly.sound_step}
use Rattle.ix_model.specs.rows.{Walks.{OpenFile, behind, behind_of, entry_at, opened}, Lifetimes.{let_go, let_go_if_held, let_go_each, let_go_all}}
use Rattle.ix_model.specs.rows.{OnDescriptors.close_fd, Table.{row, settled, verdict}, OnPaths.is_home}
use Rattle.ix_model.proofs.{tables.{Tables.change_same, Finds.{passes_some, at_change, put_none, in_table}}, words.Living.{is_living, lives_as}}
use Rattle.ix_tables.specs.Parts.{Parts, parts_of}
use Rattle.ix_fcalls.specs.{Around.{Around, frame_of, world_of}, Counted.IsCounted, Remaining.Leaves}
use Rattle.ix_fcalls.proofs.{Remaining.{leaves_itself, leaves_twice, left_carried}, Releasing.{owners_ended, homes_fewer, at_home}}
use Rattle.ix_model.specs.history.Events as op
use Rattle.ix_model.specs.declared.refusal.Refusal.TheVariants as refusal
use Rattle.ix_model.specs.declared.reply.Reply.TheVariants as reply

-- ---- one descriptor
-- what a descriptor given up leaves is what CloseFd leaves
module _ (w : World) (pid fd : ℕ) (e : OpenFile) (g : Frame) (alive : lives w.frame pid ≡ true) (is : behind w.frame pid fd ≡ Some e) (gives : let_go pid fd e w.frame ≡ Pass tt g) where
  closes : close_fd pid fd w.frame ≡ Pass reply.Done g
  unfolding close_fd opened ◌>>=◌ ◌>>◌ on_pass frame pass some
  closes = ap (λ b. on_pass (some b refusal.BadFd w.frame) (λ x. ◌>>◌ (let_go pid fd x) (pass reply.Done))) is
      ∙ ap (λ o. on_pass o (λ x. pass reply.Done)) gives

  closed : (step w 0 pid (op.CloseFd fd)).world ≡ record { frame = g; content = carried w.frame g w.content }
  unfolding step answer plainly verdict row told
  closed =
      let decided =
      ap (λ b. if b then settled w.frame (close_fd pid fd w.frame) else record { reply = reply.No refusal.NoProcess; frame = w.frame }) alive ∙ ap (settled w.frame) closes in
      ap (λ d. let v : World = record { frame = d.frame; content = carried w.frame d.frame w.content } in v) decided

  pub sound_given_up : Sound w → Sound (record { frame = g; content = carried w.frame g w.content })
  sound_given_up s = subst (λ v. Sound v) closed (sound_step w 0 _ _ s)

-- what lives at a pid
lives_at : (o : Option Process) → option_map_or (λ p. not p.ended) o false ≡ true → (q : Process) → o ≡ Some q → living o ≡ Some q
lives_at o alive q is = lives_as o q is (not-true _ (sym (ap (λ p. option_map_or (λ y. not y.ended) p false) is) ∙ alive))

-- a descriptor with nothing behind it is free
module _ (f : Frame) (pid fd : ℕ) (alive : lives f pid ≡ true) (stands : (q : Process) (e : ℕ) → living (at f.processes pid) ≡ Some q → at q.fds fd ≡ Some e
    → is_some (at f.opens e) ≡ true) (none : behind f pid fd ≡ None) where
  free_at : (q : Process) → at f.processes pid ≡ Some q → at q.fds fd ≡ None
  unfolding behind
  free_at q is = go _ refl
    where
      here : living (at f.processes pid) ≡ Some q
      here = lives_at _ alive q is

      go : (d : Option ℕ) → at q.fds fd ≡ d → at q.fds fd ≡ None
      go None free = free
      go (Some e) on =
          let x = passes_some is_some refl _ (stands q e here on) in
          let there = ap (λ p. is_some (behind_of p f fd)) here ∙ ap (λ d. is_some (entry_at f d)) on
          ∙ ap (λ o. is_some (option_map (λ y. let b : OpenFile = record { id = e; entry = y } in b) o)) x.1 in
          absurd (true≢false (sym there ∙ ap is_some none))

  pub nothing_taken : f.processes ≡ change f.processes pid (λ q. record q { fds = put q.fds fd None })
  nothing_taken = sym (change_same _ _ _ (λ q is.
      let free = free_at q is in
      ap (λ ds. record q { fds = ds }) (ap (put q.fds fd) (sym free) ∙ set-get_or q.fds fd None)))

-- ---- one descriptor after another
-- before this one those below it are given up
pub record IsGivingUp (a : Around) (v : Parts) (ps : List (Option Process)) (fd : ℕ) (w : Parts) (qs : List (Option Process)) : Type 0 where
  pub row : let_go_each a.pid (range_with_len fd (32 - fd)) (frame_of a w qs) ≡ let_go_all a.pid (frame_of a v ps)
  pub sound : Sound (world_of a w qs)
  pub counted : IsCounted w qs
  pub leaves : Leaves (world_of a v ps) (world_of a w qs)
  pub bare : (p : Process) → at qs a.pid ≡ Some p → (n : ℕ) → n < fd → at p.fds n ≡ None

module _ (a : Around) (v : Parts) (ps : List (Option Process)) where
  pub giving_none : Sound (world_of a v ps) → IsCounted v ps → IsGivingUp a v ps 0 v ps
  unfolding let_go_all
  giving_none s c = record {
    row = refl;
    sound = s;
    counted = c;
    leaves = leaves_itself _ s.holdings.clean;
    bare = λ p is n low. absurd (omega (arith, low));
  }

  module _ (fd : ℕ) (w : Parts) (qs : List (Option Process)) (r : IsGivingUp a v ps fd w qs) where
    next_row : (u : Parts) (rs : List (Option Process)) → fd < 32 → let_go_if_held a.pid fd (frame_of a w qs) ≡ Pass tt (frame_of a u rs)
        → let_go_each a.pid (range_with_len (fd + 1) (32 - (fd + 1))) (frame_of a u rs) ≡ let_go_all a.pid (frame_of a v ps)
    unfolding let_go_each ◌>>◌ on_pass
    next_row u rs low gives =
        let count : 32 - fd ≡ suc (32 - (fd + 1)) = omega (arith, low) in
        let first = ap (λ n. let_go_each a.pid (range_with_len fd n) (frame_of a w qs)) count in
        sym (first ∙ ap (λ o. on_pass o (λ x. let_go_each a.pid (range_with_len (fd + 1) (32 - (fd + 1))))) gives) ∙ r.row

    next_bare : (rs : List (Option Process)) → rs ≡ change qs a.pid (λ q. record q { fds = put q.fds fd None }) → (p : Process) → at rs a.pid ≡ Some p → (n : ℕ) → n < fd + 1 → at p.fds n ≡ None
    next_bare rs taking p is n low = elim (at_change qs _ _ _ p (ap (λ t. at t a.pid) (sym taking) ∙ is)) [
      | inl c ↦ ap (λ (q : Process). at q.fds n) c.same ∙ elim (eqb_tells n fd) [
        | inl here ↦ ap (λ m. at (put c.was.fds fd None) m) here.1 ∙ put_none c.was.fds fd
        | inr other ↦ get_or-set_other c.was.fds fd n None None other.1 ∙ r.bare c.was c.is_was n (below n fd low other.1)
      ]
      | inr other ↦ absurd (other.0 refl)
    ]
      where
        below : (n fd : ℕ) → n < fd + 1 → n ≢ fd → n < fd
        below n fd low other = elim (cases_lt n fd) [
          | inl less ↦ less
          | inr more ↦ absurd (other (omega (arith, low, more)))
        ]

    pub giving_more : (u : Parts) (rs : List (Option Process)) → fd < 32 → let_go_if_held a.pid fd (frame_of a w qs) ≡ Pass tt (frame_of a u rs)
        → rs ≡ change qs a.pid (λ q. record q { fds = put q.fds fd None })
        → Sound (world_of a u rs) → IsCounted u rs → Leaves (world_of a w qs) (world_of a u rs) → IsGivingUp a v ps (fd + 1) u rs
    giving_more u rs low gives taking s c leaves = record {
      row = next_row u rs low gives;
      sound = s;
      counted = c;
      leaves = leaves_twice _ _ _ r.leaves leaves;
      bare = next_bare rs taking;
    }

    pub given_all : 32 ≤ fd → let_go_all a.pid (frame_of a v ps) ≡ Pass tt (frame_of a w qs)
    unfolding let_go_each pass
    given_all past =
        let none : 32 - fd ≡ 0 = omega (arith, past) in
        sym r.row ∙ ap (λ n. let_go_each a.pid (range_with_len fd n) (frame_of a w qs)) none

    pub all_bare : 32 ≤ fd → (p : Process) → at qs a.pid ≡ Some p → (n : ℕ) → n < 32 → at p.fds n ≡ None
    all_bare past p is n low = r.bare p is n (omega (arith, past, low))

-- ---- the end
-- what an ended process leaves of the counts
module _ (a : Around) (v : Parts) (qs : List (Option Process)) (p : Process) (s : Sound (world_of a v qs)) (c : IsCounted v qs) (here : living (at qs a.pid)
    ≡ Some p) (bare : (q : Process) → at qs a.pid ≡ Some q → (fd : ℕ) → fd < 32 → at q.fds fd ≡ None) where
  there : at qs a.pid ≡ Some p
  there = is_living _ p here

  all_free : (fd : ℕ) → at p.fds fd ≡ None
  all_free fd = elim (cases_lt fd 32) [
    | inl low ↦ bare p there fd low
    | inr past ↦ get_or_past p.fds fd None (omega (arith, past, s.processes.descriptors a.pid p there))
  ]

  low_home : p.cwd < length v.objects
  low_home =
      let x = passes_some (λ o. option_map_or is_dir o false) refl _ (s.processes.home a.pid p here) in
      in_table _ _ _ x.1

  pub home_within : p.cwd < length v.homes
  home_within = omega (arith, low_home, ap length c.homes, length-map-range_with_len (λ o. count_by (is_home o) qs) 0 (length v.objects))

  pub home_some : 0 < slice_index_or v.homes p.cwd 0
  home_some = omega (arith, at_home qs a.pid p here (length v.objects) low_home, ap (λ (ns : List ℕ). slice_index_or ns p.cwd 0) c.homes)

  counted_ended : IsCounted (record v { homes = slice_set v.homes p.cwd (slice_index_or v.homes p.cwd 0 - 1) }) (change qs a.pid (λ q. record q { ended = true }))
  counted_ended = record {
    owners = c.owners ∙ sym (owners_ended qs _ p here all_free _);
    homes = ap (λ ns. slice_set ns p.cwd (slice_index_or ns p.cwd 0 - 1)) c.homes ∙ sym (homes_fewer qs _ p here _ low_home);
  }

pub left_counted : (a : Around) (u w : Parts) (qs qs2 : List (Option Process)) (p : Process) → Sound (world_of a u qs2) → IsCounted u qs2
    → living (at qs2 a.pid) ≡ Some p → ((q : Process) → at qs2 a.pid ≡ Some q → (fd : ℕ) → fd < 32 → at q.fds fd ≡ None)
    → qs ≡ qs2 → w ≡ record u { homes = slice_set u.homes p.cwd (slice_index_or u.homes p.cwd 0 - 1) } → IsCounted w (change qs a.pid (λ q. record q { ended = true }))
left_counted a u w qs qs2 p s c here bare same homes =
    subst (λ v. IsCounted v (change qs a.pid (λ q. record q { ended = true }))) (sym homes)
    (subst (λ rs. IsCounted (record u { homes = slice_set u.homes p.cwd (slice_index_or u.homes p.cwd 0 - 1) })
    (change rs a.pid (λ q. record q { ended = true }))) (sym same) (counted_ended a u qs2 p s c here bare))

-- the counts of a world's own parts
pub counted_parts : (w : World) (t : Parts) (ps : List (Option Process)) → t ≡ parts_of w → ps ≡ w.frame.processes → IsCounted t ps
counted_parts w t ps parts same =
    let c : IsCounted (parts_of w) w.frame.processes = record { owners = refl; homes = refl } in
    subst (λ u. IsCounted u ps) (sym parts) (subst (λ qs. IsCounted (parts_of w) qs) (sym same) c)

-- homes are no part of what is left
pub left_content : (a : Around) (v u w : Parts) (ps ps2 qs qs2 : List (Option Process)) (hs : List ℕ) → Sound (world_of a v ps)
    → Leaves (world_of a v ps2) (world_of a u qs2) → ps2 ≡ ps → qs ≡ qs2 → w ≡ record u { homes = hs }
    → (world_of a w qs).content ≡ carried (frame_of a v ps) (frame_of a w qs) (world_of a v ps).content
left_content a v u w ps ps2 qs qs2 hs s leaves before after homes = left_carried _ _ s.holdings.clean
    (subst (λ t. Leaves (world_of a v ps) (world_of a t qs)) (sym homes)
    (subst (λ rs. Leaves (world_of a v ps) (world_of a u rs)) (sym after) (subst (λ rs. Leaves (world_of a v rs) (world_of a u qs2)) before leaves)))
