-- Past the inodes of all file systems nothing but pipes is ever made.
use Rattle.std.proofs.Common.{◌≡◌, ◌≢◌, ◌≤◌, ◌+◌, ℕ, zero, suc, Bool, true, false, not, List, [], ◌∷◌, length, map, sum, take, Option, Some, None, is_none, sym, refl, ap, ◌∙◌, arith}
use Rattle.std.{specs.Option.option_map_or, proofs.lemmas.List.{get_or-set_other, Sums.{sum_by-cons, sum-map}}}
use Rattle.ix_model.specs.{world.{World.{fs_at, World, Frame, Object, at, put, change, is_pipe}, Numbers.{first_inode, first_pipe, free_inode}}, declared.config.FsSpec.FsSpec}
use Rattle.ix_model.specs.rows.{Rows.{change_object, change_process, put_object, put_open, put_process, add_process, change_open}, Auditing.logged}
use Rattle.ix_model.specs.{rows.{OnProcesses.end_process, Telling.told}, history.{Step.step, Events.Op}, laws.Sound.WithinLimits}
use Rattle.ix_model.proofs.tables.{Tables.{seen_changed, seen_put}, FreeNumbers.free_inode_is}
use Rattle.ix_model.proofs.words.{Keeps.Holds, Lasts.decided, Rowwise.{Words, all, bears_all, changes_of, kept_row}, Answered.step_frame}

-- the inodes of one file system more
one_more : (s : FsSpec) (fss : List FsSpec) → sum (map (λ x. x.inodes) (s ∷ fss)) ≡ s.inodes + sum (map (λ x. x.inodes) fss)
one_more s fss =
    let inodes : FsSpec → ℕ = λ x. x.inodes in
    sum-map inodes (s ∷ fss) ∙ sum_by-cons inodes s fss ∙ ap (λ n. s.inodes + n) (sym (sum-map inodes fss))

-- the inodes of a file system lie before the pipes
inodes_before : (fss : List FsSpec) (k : ℕ) → first_inode fss k + (fs_at fss k).inodes ≤ first_pipe fss
inodes_before [] zero = omega arith
inodes_before [] (suc k) = omega arith
inodes_before (s ∷ fss) zero =
    let all_of : first_pipe (s ∷ fss) ≡ s.inodes + first_pipe fss = one_more s (take (length fss) fss) in
    omega (arith, all_of)
inodes_before (s ∷ fss) (suc k) =
    let some_of : first_inode (s ∷ fss) (suc k) ≡ s.inodes + first_inode fss k = one_more s (take k fss) in
    let all_of : first_pipe (s ∷ fss) ≡ s.inodes + first_pipe fss = one_more s (take (length fss) fss) in
    let rest = inodes_before fss k in
    omega (arith, some_of, all_of, rest)

-- no object past them is no pipe
abbrev pub is_other : Option Object → Bool
is_other o = option_map_or (λ x. not (is_pipe x)) o false

pub record PipesPast (f g : Frame) : Type 0 where
  pub fss : g.fss ≡ f.fss
  pub pipes : (o : ℕ) → first_pipe f.fss ≤ o → is_other (at g.objects o) ≡ false

module _ (f : Frame) where
  past_objects : (g : Frame) (t : List (Option Object)) → ((o : ℕ) → first_pipe f.fss ≤ o → is_other (at g.objects o) ≡ false → is_other (at t o) ≡ false)
      → PipesPast f g → PipesPast f (record g { objects = t })
  past_objects g t keeps r = record { fss = r.fss; pipes = λ o past. keeps o past (r.pipes o past) }

  past_changed : (g : Frame) (o : ℕ) (h : Object → Object) → ((x : Object) → (h x).kind ≡ x.kind) → PipesPast f g → PipesPast f (record g { objects = change g.objects o h })
  past_changed g o h same r = past_objects g _ (λ m past is. seen_changed is_other h (λ x. ap (λ k. is_other (Some (record x { kind = k }))) (same x)) g.objects o m ∙ is) r

  past_inode : (m g : Frame) (o k : ℕ) (x : Object) → PipesPast f m → free_inode m k ≡ Some o → PipesPast f g → PipesPast f (record g { objects = put g.objects o (Some x) })
  past_inode m g o k x is free r = past_objects g _ (λ n past here.
      let low : first_pipe m.fss ≤ n = rw is.fss past in
      let apart : n ≢ o = (let b = (free_inode_is m k o free).last in let c = inodes_before m.fss k in omega (arith, low, b, c)) in
      ap is_other (get_or-set_other g.objects o n (Some x) None apart) ∙ here) r

  past_words : (pid : ℕ) → Words all pid (PipesPast f)
  unfolding change_object change_process change_open put_object put_open put_process add_process end_process logged Holds
  past_words pid = record {
    object = λ o h same. record { led = λ g. past_changed g o h (λ x. ap (λ y. y.kind) (same x)) };
    process = λ p h same. record { led = λ g r. record { fss = r.fss; pipes = r.pipes } };
    float = λ h same. record { led = λ g r. record { fss = r.fss; pipes = r.pipes } };
    entry = λ e x low. record { led = λ g r. record { fss = r.fss; pipes = r.pipes } };
    through = λ can e l. record { led = λ g r. record { fss = r.fss; pipes = r.pipes } };
    unclaim = λ o end. record { led = λ g. past_changed g o _ (λ x. refl) };
    relabel = λ can o h same. record { led = λ g. past_changed g o h (λ x. ap (λ y. y.kind) (same x)) };
    claim = λ can o h same. record { led = λ g. past_changed g o h (λ x. ap (λ y. y.kind) (same x)) };
    log = λ can l. record { led = λ g r. record { fss = r.fss; pipes = r.pipes } };
    inode = λ can m o k kind is free. record { led = λ g. past_inode m g o k _ is free };
    pipe = λ can m o is free. record { led = λ g. past_objects g _ (λ n past here. seen_put is_other _ g.objects o _ n (λ h. refl) here) };
    gone_object = λ can o. record { led = λ g. past_objects g _ (λ n past here. seen_put is_other _ g.objects o None n (λ h. refl) here) };
    gone_open = λ can e. record { led = λ g r. record { fss = r.fss; pipes = r.pipes } };
    fork = λ can p. record { led = λ g r. record { fss = r.fss; pipes = r.pipes } };
    end = λ can. record { led = λ g r. record { fss = r.fss; pipes = r.pipes } };
    collect = λ can p. record { led = λ g r. record { fss = r.fss; pipes = r.pipes } };
  }

pub past_step : (w : World) (place pid : ℕ) (c : Op) → PipesPast w.frame w.frame → PipesPast w.frame (step w place pid c).world.frame
past_step w place pid c r =
    rw (step_frame w place pid c) (decided (PipesPast w.frame) (told w pid c) place pid c w.frame r
    ((kept_row all pid (PipesPast w.frame) (past_words w.frame pid) (told w pid c) place c (bears_all (changes_of c))).led w.frame r))

-- and so it goes on
pub past_next : (f g : Frame) → PipesPast f g → PipesPast g g
past_next f g r = record { fss = refl; pipes = λ o past. r.pipes o (rw (← r.fss) past) }

-- in a world within its limits
pub pipes_past : (f : Frame) → WithinLimits f → PipesPast f f
pipes_past f limits = record { fss = refl; pipes = λ o past. go o past (at f.objects o) refl }
  where
    on : (o k : ℕ) (x : Object) → first_pipe f.fss ≤ o → at f.objects o ≡ Some x → x.fs ≡ Some k → ⊥
    on o k x past is fs = let low = (limits.numbers o k x is fs).1 in let before = inodes_before f.fss k in omega (arith, past, low, before)

    kind : (o : ℕ) (x : Object) (fs : Option ℕ) → first_pipe f.fss ≤ o → at f.objects o ≡ Some x → x.fs ≡ fs → is_pipe x ≡ true
    kind o x None past is fs = sym (limits.pipes o x is) ∙ ap is_none fs
    kind o x (Some k) past is fs = absurd (on o k x past is fs)

    go : (o : ℕ) → first_pipe f.fss ≤ o → (x : Option Object) → at f.objects o ≡ x → is_other x ≡ false
    go o past None is = refl
    go o past (Some x) is = ap not (kind o x _ past is refl)
