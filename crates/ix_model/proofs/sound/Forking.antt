-- A fork leaves a sound frame.
use Rattle.std.proofs.Common.{◌≡◌, ◌<◌, ◌+◌, ℕ, Bool, true, false, true≢false, not, nat_lt, List, [], ◌∷◌, ◌++◌, length, replicate, count_by, cond, Option, sym}
use Rattle.std.proofs.Common.{Some, None, is_some, refl, ap, ◌∙◌, arith, inl, inr, length-set}
use Rattle.std.{specs.Option.option_map_or, proofs.lemmas.{Bool.ltb-true, List.{get_or_append_left, length-replicate, Sums.sum_by_push}}}
use Rattle.ix_model.specs.{world.{World.{Frame, Process, at, living, lives, is_dir}, Owners.owns}, rows.OnProcesses.{kept_fds, fork}, declared.call.Keep.Keep}
use Rattle.ix_model.proofs.{tables.{Finds.{at_put, at_push, in_table, any_into, passes_some}, Labels.labels_add_process}, words.Endings.ends_add_process}
use Rattle.ix_model.proofs.{words.Living.{is_living, not_ended, lives_as}, opening.Openings.all_one, sound.Logging.{Refused, Passed}}
use Rattle.ix_model.proofs.{words.Ends.{Ends, ends_bind, ends_then, ends_pass, ends_frame, ends_need, ends_caller}, frames.{Floated.has_on, Frames.{FrameSound, follows_itself}}}
use Rattle.ix_model.specs.declared.call.Keep.TheVariants as keep

-- ---- the child's descriptors
no_kept : (fd e : ℕ) → at (replicate 32 None) fd ≡ Some e → ⊥
no_kept fd e h = true≢false (sym (ap is_some h) ∙ ap is_some (all_one _ 32 fd))

-- each is one of the parent's
pub kept_is : (k : Keep) (fds : List (Option ℕ)) (fd e : ℕ) → at (kept_fds k fds) fd ≡ Some e → at fds fd ≡ Some e
kept_is keep.All fds fd e h = h
kept_is keep.Nothing fds fd e h = absurd (no_kept fd e h)
kept_is (keep.One one) fds fd e h = elim (at_put (replicate 32 None) one.0 fd _ e h) [
  | inl here ↦ ap (at fds) here.0 ∙ here.1
  | inr other ↦ absurd (no_kept fd e other.1)
]

kept_long : (k : Keep) (fds : List (Option ℕ)) → length fds ≡ 32 → length (kept_fds k fds) ≡ 32
kept_long keep.All fds h = h
kept_long keep.Nothing fds h = length-replicate {A = Option ℕ} 32 None
kept_long (keep.One one) fds h = length-set (replicate 32 None) one.0 (at fds one.0) ∙ length-replicate {A = Option ℕ} 32 None

module _ (f : Frame) (s : FrameSound f) (pid : ℕ) (p : Process) (alive : living (at f.processes pid) ≡ Some p) (k : Keep) (room : nat_lt (count_by is_some f.processes) f.limits.procs ≡ true) where
  abbrev child : Process
  child = record p { parent = Some pid; fds = kept_fds k p.fds }

  abbrev more : List (Option Process)
  more = f.processes ++ Some (record p { parent = Some pid; fds = kept_fds k p.fds }) ∷ []

  -- what stood stands
  stood : (n : ℕ) (q : Process) → at f.processes n ≡ Some q → at more n ≡ at f.processes n
  stood n q is = get_or_append_left f.processes _ None n (in_table _ n q is)

  passes_on : (test : Option Process → Bool) → test None ≡ false → (n : ℕ) → test (at f.processes n) ≡ true → test (at more n) ≡ true
  passes_on test none n h = let q = passes_some test none _ h in ap test (stood n _ q.1) ∙ h

  -- a living process is the child, or lived before
  lived : {X : Type 0} (n : ℕ) (q : Process) → living (at more n) ≡ Some q → (child ≡ q → X) → (living (at f.processes n) ≡ Some q → X) → X
  lived n q lives new old = elim (at_push _ _ n q (is_living _ q lives)) [
    | inl here ↦ new here.1
    | inr was ↦ old (lives_as _ q was (not_ended _ q lives))
  ]

  pub forked : FrameSound (record f { processes = more })
  forked = record {
    labels = labels_add_process f s.labels child (s.labels.processes pid p (is_living _ p alive));
    names = record { root = s.names.root; in_directories = s.names.in_directories; living = s.names.living; differ = s.names.differ; once = s.names.once };
    lives = record { file = s.lives.file; pipe = s.lives.pipe };
    opens = record {
      descriptor = λ n q fd e lives is. lived n q lives
          (λ same. s.opens.descriptor pid p fd e alive (kept_is k p.fds fd e (ap (λ r. at r.fds fd) same ∙ is)))
          (λ old. s.opens.descriptor n q fd e old is);
      owned = λ e stands. any_into (owns e) (owns e) refl refl f.processes more (passes_on (owns e) refl) (s.opens.owned e stands);
      target = s.opens.target;
      end = s.opens.end;
    };
    processes = record {
      none =
          let low = in_table f.processes pid p (is_living _ p alive) in
          let some : 0 < length f.processes = omega arith in
          get_or_append_left f.processes (Some child ∷ []) None 0 some ∙ s.processes.none;
      home = λ n q lives. lived n q lives
          (λ same. ap (λ r. option_map_or is_dir (at f.objects r.cwd) false) (sym same) ∙ s.processes.home pid p alive)
          (λ old. s.processes.home n q old);
      parent = λ n r q is parent. passes_on (λ z. option_map_or (λ y. not y.ended) z false) refl r (elim (at_push f.processes child n q is) [
        | inl here ↦
            let e : Some pid ≡ Some r = ap (λ y. y.parent) here.1 ∙ parent in
            let same : pid ≡ r = cc in
            ap (λ m. option_map_or (λ y. not y.ended) (at f.processes m) false) (sym same) ∙ ap (λ z. option_map_or (λ y. not y.ended) z false) (is_living _ p alive) ∙ ap not (not_ended _ p alive)
        | inr was ↦ s.processes.parent n r q was parent
      ]);
      descriptors = λ n q is. elim (at_push f.processes child n q is) [
        | inl here ↦ ap (λ y. length y.fds) (sym here.1) ∙ kept_long k p.fds (s.processes.descriptors pid p (is_living _ p alive))
        | inr was ↦ s.processes.descriptors n q was
      ];
    };
    claims = record { claimant = λ o end n x is claim. passes_on (has_on f.opens o end) refl n (s.claims.claimant o end n x is claim) };
    limits = record {
      objects = s.limits.objects;
      pipes = s.limits.pipes;
      past = s.limits.past;
      numbers = s.limits.numbers;
      opens = s.limits.opens;
      processes =
          let low = ltb-true (count_by is_some f.processes) f.limits.procs room in
          let one : count_by is_some more ≡ count_by is_some f.processes + 1 = sum_by_push (λ (q : Option Process). cond {A = ℕ} (is_some q) 1 0) f.processes (Some child) in
          omega (arith, low, one);
      names = s.limits.names;
      log = s.limits.log;
    };
  }

module _ (f : Frame) (s : FrameSound f) where
  pub fork_ends : (pid : ℕ) (k : Keep) → Ends (fork pid k f) (Refused f) (Passed f)
  unfolding fork
  fork_ends pid k =
      let t = follows_itself f s in
      ends_bind _ _ f _ _ (ends_caller _ f _ _ (λ p alive.
      ends_then _ _ f _ _ (ends_need _ _ f _ _ (λ has.
      ends_bind _ _ f _ _ (ends_frame f _ _ (
      ends_then _ _ f _ _ (ends_need _ _ f _ _ (λ room.
      ends_then _ _ f _ _ (ends_add_process _ f _ _ (
      ends_pass _ _ _ _ (record { sound = forked f s pid p alive k room; kinds = t.kinds })))) t)))) t)) t)
