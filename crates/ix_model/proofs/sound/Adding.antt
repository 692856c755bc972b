-- The rows that add descriptors and open entries leave a sound frame.
use Rattle.std.proofs.Common.{◌≡◌, ◌≢◌, ◌<◌, ◌==◌, ◌&&◌, ◌||◌, ℕ, true, false, true≢false, not, length, length-set, Some, None, is_some, refl, ap, sym, ◌∙◌, subst, arith, inl, inr}
use Rattle.std.{specs.Option.option_map_or, proofs.lemmas.{Bool.{or_left, and_from, eq-eqb, Decides.eqb_tells}, List.{get_or-set_same, get_or-set_other}}}
use Rattle.ix_label.specs.{Lattice.bottom-leq, Category.bottom}
use Rattle.ix_model.specs.world.{Naming.PathOf, World.{Frame, Object, Process, Open, at, put, change, living, lowest_free, is_file, is_dir, is_pipe}}
use Rattle.ix_model.specs.{world.Numbers.free_pipe, rows.{OnPaths.{new_object, open_at}, OnDescriptors.{dup_fd, pipe_end, make_pipe}}}
use Rattle.ix_model.{specs.{laws.Sound.{NamesSound, LivesSound, OpensSound}, declared.call.Mode.Mode}, proofs.sound.{Steadily.follows_found, Logging.{Refused, Passed, ends_next}}}
use Rattle.ix_model.proofs.{tables.{Tables.change_twice, FreeNumbers.{lowest_free_is, free_pipe_is}, Labels.labels_process}, words.Ends.{ends_put_open, ends_change_caller}}
use Rattle.ix_model.proofs.{tables.SameKinds.{kinds_itself, kinds_new}, words.{Standing.behind_is, Endings.ends_put_object}}
use Rattle.ix_model.proofs.frames.{Frames.{FrameSound, Follows, follows_itself}, Awaiting.{IsNew, Awaiting, awaiting, awaiting_new, names_all}}
use Rattle.ix_model.proofs.words.Ends.{Ends, ends_bind, ends_then, ends_pass, ends_frame, ends_need, ends_some, ends_caller, ends_object, ends_opened}
use Rattle.ix_model.proofs.frames.Given.{opens_but, or_more, either_more, entered, held_more, held_here, lives_entered, opens_entered, claims_entered, given}
use Rattle.ix_model.proofs.frames.Given.{limits_entered, processes_put_fd, limits_put_fd, given_lives, opens_given, claims_given}
use Rattle.ix_model.specs.declared.call.Mode.TheVariants as mode
use Rattle.ix_model.specs.declared.reply.Kind.TheVariants as kind

-- ---- one descriptor more
module _ (f : Frame) (pid : ℕ) (p : Process) (fd e : ℕ) (lives : living (at f.processes pid) ≡ Some p) (fd_in : fd < length p.fds) (fd_none : at p.fds fd ≡ None) where
  -- on an entry that stands
  shared : is_some (at f.opens e) ≡ true → FrameSound f → FrameSound (given f pid fd e)
  shared stands s = record {
    labels = labels_process f s.labels _ _ (λ q here. s.labels.processes pid q here);
    names = search;
    lives = search;
    opens = opens_given f _ p fd e lives fd_in fd_none (opens_but e f s.opens) stands;
    processes = processes_put_fd f _ fd _ s.processes;
    claims = claims_given f _ p fd e lives fd_in fd_none s.claims;
    limits = limits_put_fd f _ fd _ s.limits;
  }

  -- on a new entry; what is said of lives holds where the entry stands
  module _ (x : Open) (e_in : e < length f.opens) (e_none : at f.opens e ≡ None) (no_dir : option_map_or (λ y. not (is_dir y)) (at f.objects x.object) false
      ≡ true) (at_end : (x.end == 0 || x.end == 1 && option_map_or is_pipe (at f.objects x.object) false) ≡ true) where
    stands : is_some (at (put f.opens e (Some x)) e) ≡ true
    stands = ap is_some (get_or-set_same f.opens e _ None e_in)

    opens_added : OpensSound f → OpensSound (given (entered f e x) pid fd e)
    opens_added r = opens_given _ _ p fd e lives fd_in fd_none (opens_entered f e x e_in e_none no_dir at_end r) stands

    -- from a frame that may await the entry's object
    added : (o : ℕ) → NamesSound f → LivesSound (entered f e x) → Awaiting o f → FrameSound (given (entered f e x) pid fd e)
    added o n l s = record {
      labels = labels_process _ (search) _ _ (λ q here. s.labels.processes pid q here);
      names = search;
      lives = search;
      opens = opens_added s.opens;
      processes = processes_put_fd _ _ fd _ (search);
      claims = claims_given _ _ p fd e lives fd_in fd_none (claims_entered f e x e_in e_none s.claims);
      limits = limits_put_fd _ _ fd _ (limits_entered f e x e_in e_none s.limits);
    }

    added_sound : FrameSound f → FrameSound (given (entered f e x) pid fd e)
    added_sound s = added x.object s.names (lives_entered f e x e_in e_none s.lives) (awaiting _ f s)

-- ---- the rows
module _ (f : Frame) (s : FrameSound f) where
  pub open_at_ends : (pid : ℕ) (path : PathOf) (mode : Mode) → Ends (open_at pid path mode f) (Refused f) (Passed f)
  unfolding open_at
  open_at_ends pid path mode =
      ends_bind _ _ f (Refused f) (Passed f) (ends_next f _ f _ (follows_found f pid path) (follows_itself f s) (λ o m k.
      ends_bind _ _ m (Refused f) (Passed f) (ends_object o m (Refused f) _ (λ x is.
      ends_then _ _ m (Refused f) (Passed f) (ends_need _ _ m (Refused f) _ (λ no_dir.
      ends_bind _ _ m (Refused f) (Passed f) (ends_caller pid m (Refused f) _ (λ p lives.
      ends_bind _ _ m (Refused f) (Passed f) (ends_some _ _ m (Refused f) _ (λ fd free_fd.
      ends_bind _ _ m (Refused f) (Passed f) (ends_frame m (Refused f) _ (
      ends_bind _ _ m (Refused f) (Passed f) (ends_some _ _ m (Refused f) _ (λ e free.
      ends_then _ _ m (Refused f) (Passed f) (ends_put_open e _ m (Refused f) _ (
      ends_then _ _ _ (Refused f) (Passed f) (ends_change_caller pid _ _ (Refused f) _ (
      let y : Open = record { object = o; end = 0; mode = mode; label = bottom } in
      let a = lowest_free_is p.fds fd free_fd in
      let b = lowest_free_is m.opens e free in
      let no_d : option_map_or (λ z. not (is_dir z)) (at m.objects o) false ≡ true = ap (λ z. option_map_or (λ v. not (is_dir v)) z false) is ∙ no_dir in
      ends_pass _ _ (Refused f) (Passed f) (record {
        sound = added_sound m pid p fd e lives a.0 a.1 y b.0 b.1 no_d refl k.sound;
        kinds = k.kinds;
      })))))) k)))) k)) k)) k)) k)))

  pub dup_fd_ends : (pid fd : ℕ) → Ends (dup_fd pid fd f) (Refused f) (Passed f)
  unfolding dup_fd
  dup_fd_ends pid fd =
      let k = follows_itself f s in
      ends_bind _ _ f _ _ (ends_opened _ fd f _ _ (λ e is.
      ends_bind _ _ f _ _ (ends_caller _ f _ _ (λ p lives.
      ends_bind _ _ f _ _ (ends_some _ _ f _ _ (λ n free.
      ends_then _ _ f _ _ (ends_change_caller _ _ f _ _ (
      let a = lowest_free_is _ n free in
      ends_pass _ _ _ _ (record {
        sound = shared f pid p n e.id lives a.0 a.1 (ap is_some (behind_is f _ fd e is)) s;
        kinds = k.kinds;
      })))) k)) k)) k)

  -- ---- a pipe and its two ends
  module _ (pid o a b d e : ℕ) (p : Process) (lives : living (at f.processes pid) ≡ Some p) (free_o : free_pipe f ≡ Some o) (free_a : lowest_free p.fds
      ≡ Some a) (free_b : lowest_free (put p.fds a (Some 0)) ≡ Some b) (free_d : lowest_free f.opens ≡ Some d)
      (free_e : lowest_free (put f.opens d (pipe_end o 0)) ≡ Some e) where
    abbrev pipe : Object
    pipe = new_object kind.Pipe None

    abbrev end_of : ℕ → Open
    end_of end = record { object = o; end = end; mode = mode.Both; label = bottom }

    abbrev born : Frame
    born = record f { objects = put f.objects o (Some (new_object kind.Pipe None)) }

    is_new : IsNew f o pipe
    is_new =
        let n = free_pipe_is f o free_o in
        record { free = n.free; inside = n.inside; nameless = refl; unclaimed = refl; low = bottom-leq _; pipe = refl; past = λ yes. n.first; number = λ k on. let h = on in cc }

    w : Awaiting o born
    w = awaiting_new f o _ is_new s

    there : at (put f.objects o (Some (new_object kind.Pipe None))) o ≡ Some pipe
    there = get_or-set_same f.objects o _ None is_new.inside

    d_free : (d < length f.opens) × (at f.opens d ≡ None)
    d_free = lowest_free_is _ d free_d

    a_free : (a < length p.fds) × (at p.fds a ≡ None)
    a_free = lowest_free_is _ a free_a

    names_born : NamesSound born
    names_born = names_all o _ w.names (λ x is dir. let h = sym (ap (λ z. option_map_or is_dir z false) there)
        ∙ ap (λ z. option_map_or is_dir z false) is ∙ dir in absurd (true≢false (sym h)))

    lives_born : LivesSound (entered born d (end_of 0))
    lives_born = record {
      file = λ m x is kind. elim (eqb_tells m o) [
        | inl same ↦
            let here = ap (at (put f.objects o (Some pipe))) (sym same.1) ∙ is in
            let h = sym (ap (λ z. option_map_or is_file z false) there) ∙ ap (λ z. option_map_or is_file z false) here ∙ kind in
            absurd (true≢false (sym h))
        | inr other ↦ or_more _ _ _ (held_more born d _ d_free.0 d_free.1 m 0) (w.lives.file m x other.1 is kind)
      ];
      pipe = λ m x is kind. elim (eqb_tells m o) [
        | inl same ↦ or_left _ _ (held_here born d _ d_free.0 d_free.1 m 0 (and_from _ _ (eq-eqb o m (sym same.1)) refl))
        | inr other ↦ either_more _ _ _ _ (held_more born d _ d_free.0 d_free.1 m 0) (held_more born d _ d_free.0 d_free.1 m 1) (w.lives.pipe m x other.1 is kind)
      ];
    }

    no_dir : option_map_or (λ y. not (is_dir y)) (at (put f.objects o (Some (new_object kind.Pipe None))) o) false ≡ true
    no_dir = ap (λ z. option_map_or (λ y. not (is_dir y)) z false) there

    first : FrameSound (given (entered born d (end_of 0)) pid a d)
    first = added _ pid p a d lives a_free.0 a_free.1 (end_of 0) d_free.0 d_free.1 no_dir refl o names_born lives_born w

    b_free : (b < length (put p.fds a (Some d))) × (at (put p.fds a (Some d)) b ≡ None)
    b_free =
        let n = lowest_free_is _ b free_b in
        let apart : b ≢ a = λ same. true≢false (ap is_some (sym (get_or-set_same p.fds a _ None a_free.0)) ∙ ap (λ m. is_some (at (put p.fds a (Some 0)) m)) (sym same) ∙ ap is_some n.1) in
        let low = n.0 in
        (omega (arith, low, length-set p.fds a (Some 0), length-set p.fds a (Some d)), get_or-set_other p.fds a b _ None apart ∙ sym (get_or-set_other p.fds a b _ None apart) ∙ n.1)

    second : FrameSound (given (entered (given (entered born d (end_of 0)) pid a d) e (end_of 1)) pid b e)
    second =
        let e_free = lowest_free_is (put f.opens d (pipe_end o 0)) e free_e in
        added_sound (given (entered born d (end_of 0)) pid a d) pid (record p { fds = put p.fds a (Some d) }) b e
        (given_lives (entered born d (end_of 0)) pid p a d lives a_free.0 a_free.1) b_free.0 b_free.1 (end_of 1) e_free.0 e_free.1 no_dir
        (ap (λ z. option_map_or is_pipe z false) there) first

    piped : Follows f (record f {
      objects = put f.objects o (Some (new_object kind.Pipe None));
      opens =
          put (put f.opens d (pipe_end o 0)) e (pipe_end o 1);
      processes =
          change f.processes pid (λ q. record q { fds = put (put q.fds a (Some d)) b (Some e) });
    })
    piped =
        let same = change_twice _ _ _ _ in
        record {
          sound = subst (λ t. FrameSound (record f {
            objects = put f.objects o (Some (new_object kind.Pipe None));
            opens =
                put (put f.opens d (pipe_end o 0)) e (pipe_end o 1);
            processes = t;
          })) same second;
          kinds = kinds_new _ _ (kinds_itself _) o _ is_new.free;
        }

  pub make_pipe_ends : (pid : ℕ) → Ends (make_pipe pid f) (Refused f) (Passed f)
  unfolding make_pipe
  make_pipe_ends pid =
      let k = follows_itself f s in
      ends_bind _ _ f _ _ (ends_frame f _ _ (
      ends_bind _ _ f _ _ (ends_some _ _ f _ _ (λ o free_o.
      ends_bind _ _ f _ _ (ends_caller _ f _ _ (λ p lives.
      ends_bind _ _ f _ _ (ends_some _ _ f _ _ (λ a free_a.
      ends_bind _ _ f _ _ (ends_some _ _ f _ _ (λ b free_b.
      ends_bind _ _ f _ _ (ends_some _ _ f _ _ (λ d free_d.
      ends_bind _ _ f _ _ (ends_some _ _ f _ _ (λ e free_e.
      ends_then _ _ f _ _ (ends_put_object o _ f _ _ (
      ends_then _ _ _ _ _ (ends_put_open d _ _ _ _ (
      ends_then _ _ _ _ _ (ends_put_open e _ _ _ _ (
      ends_then _ _ _ _ _ (ends_change_caller _ _ _ _ _ (
      ends_pass _ _ _ _ (piped pid o a b d e p lives free_o free_a free_b free_d free_e)))))))))) k)) k)) k)) k)) k)) k)))
