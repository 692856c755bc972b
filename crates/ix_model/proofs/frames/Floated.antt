-- A frame that is a sound one but for labels and the like is sound but for labels and the log.
use Rattle.std.proofs.Common.{◌≡◌, ◌<◌, ◌≤◌, ◌+◌, ◌==◌, ℕ, Bool, true, false, not, ◌&&◌, ◌||◌, List, map, length, sum, count_by, Option, Some, None, is_some}
use Rattle.std.{proofs.{Common.{is_none, option_map, cond, refl, sym, ap, ◌∙◌, subst, arith}, lemmas.List.Sums.sum-map}, specs.{Option.option_map_or, List.list_any}}
use Rattle.ix_model.specs.world.World.{fs_at, Frame, Content, Object, Process, Open, at, living, lives, is_file, is_dir, is_pipe, is_on, held}
use Rattle.ix_model.specs.{rows.Telling.blocks_on, opening.Valid.all_differ, world.{Numbers.first_inode, Owners.{times_named, names_in_all, has_end}}}
use Rattle.ix_model.specs.laws.Sound.{NamesSound, LivesSound, OpensSound, ProcessesSound, ClaimsSound, WithinLimits, LengthsSound}
use Rattle.ix_model.proofs.tables.{Tables.{none_is, Back, back, seen_same, map_same, any_same, length_same}, Blocks.blocks_from}
use Rattle.ix_model.proofs.{frames.Floats.{Floats, object_but, process_but, open_but}, words.Living.{is_living, not_ended, lives_as}}

-- whether a process has a descriptor on that end, by a table of open entries
abbrev pub has_on : List (Option Open) → ℕ → ℕ → Option Process → Bool
has_on opens o end p = option_map_or (λ q. not q.ended && list_any (λ d. option_map_or (λ e. is_on o end (at opens e)) d false) q.fds) p false

module _ (f g : Frame) (r : Floats f g) where
  -- ---- what was there
  was : (o : ℕ) (x : Object) → at g.objects o ≡ Some x → Back object_but f.objects o x
  was o x is = back _ (λ y. refl) _ _ r.objects o x is

  was_process : (p : ℕ) (q : Process) → at g.processes p ≡ Some q → Back process_but f.processes p q
  was_process p q is = back _ (λ y. refl) _ _ r.processes p q is

  was_living : (p : ℕ) (q : Process) (lives : living (at g.processes p) ≡ Some q) → living (at f.processes p) ≡ Some (was_process p q (is_living _ q lives)).was
  was_living p q lives = let b = was_process p q (is_living _ q lives) in lives_as _ _ b.is_was (sym (ap (λ y. y.ended) b.same) ∙ not_ended _ q lives)

  seen_object : {B : Type 0} (F : Option Object → B) → ((x : Object) → F (Some (object_but x)) ≡ F (Some x)) → (o : ℕ) → F (at g.objects o) ≡ F (at f.objects o)
  seen_object F blind o = seen_same _ F blind _ _ r.objects o

  seen_process : {B : Type 0} (F : Option Process → B) → ((x : Process) → F (Some (process_but x)) ≡ F (Some x)) → (p : ℕ) → F (at g.processes p) ≡ F (at f.processes p)
  seen_process F blind p = seen_same _ F blind _ _ r.processes p

  times_floated : (o : ℕ) → times_named g.objects o ≡ times_named f.objects o
  times_floated o = ap sum (map_same _ _ (λ x. refl) _ _ r.objects)

  held_floated : (o end : ℕ) → held g.opens o end ≡ held f.opens o end
  held_floated o end = any_same _ _ (λ x. refl) _ _ r.opens

  stands_floated : (e : ℕ) → is_some (at g.opens e) ≡ is_some (at f.opens e)
  stands_floated e = seen_same _ is_some (λ x. refl) _ _ r.opens e

  on_floated : (o end : ℕ) (d : Option ℕ) → option_map_or (λ e. is_on o end (at g.opens e)) d false ≡ option_map_or (λ e. is_on o end (at f.opens e)) d false
  on_floated o end None = refl
  on_floated o end (Some e) = seen_same _ (is_on o end) (λ x. refl) _ _ r.opens e

  was_open : (e : ℕ) (x : Open) → at g.opens e ≡ Some x → Back open_but f.opens e x
  was_open e x is = back _ (λ y. refl) _ _ r.opens e x is

  -- ---- the parts
  pub names_floated : NamesSound f → NamesSound g
  names_floated n = record {
    root = seen_object (λ x. option_map_or is_dir x false) (λ x. refl) 0 ∙ n.root;
    in_directories = λ d x is other. let w = was d x is in ap (λ y. y.names) w.same ∙ n.in_directories d w.was w.is_was (sym (ap is_dir w.same) ∙ other);
    living = λ d o x is named.
        let w = was d x is in
        let e = ap (λ y. y.names) w.same in
        seen_object (λ y. option_map_or (λ z. not (is_pipe z)) y false) (λ y. refl) o ∙ n.living d o w.was w.is_was (subst (λ ns. 0 < count_by (λ n. n.1 == o) ns) e named);
    differ = λ d x is. let w = was d x is in ap (λ y. all_differ (map (λ n. n.0) y.names)) w.same ∙ n.differ d w.was w.is_was;
    once = λ o x is dir. let w = was o x is in times_floated o ∙ n.once o w.was w.is_was (sym (ap is_dir w.same) ∙ dir);
  }

  pub lives_floated : LivesSound f → LivesSound g
  lives_floated l = record {
    file = λ o x is file. let w = was o x is in (λ i. not (times_floated o i == 0) || held_floated o 0 i) ∙ l.file o w.was w.is_was (sym (ap is_file w.same) ∙ file);
    pipe = λ o x is pipe. let w = was o x is in (λ i. held_floated o 0 i || held_floated o 1 i) ∙ l.pipe o w.was w.is_was (sym (ap is_pipe w.same) ∙ pipe);
  }

  pub opens_floated : OpensSound f → OpensSound g
  opens_floated n = record {
    descriptor = λ p q fd e lives is.
        let w = was_process p q (is_living _ q lives) in
        stands_floated e ∙ n.descriptor p w.was fd e (was_living p q lives) (sym (ap (λ y. at y.fds fd) w.same) ∙ is);
    owned = λ e stands. any_same _ _ (λ x. refl) _ _ r.processes ∙ n.owned e (sym (stands_floated e) ∙ stands);
    target = λ e x is.
        let w = was_open e x is in
        seen_object (λ y. option_map_or (λ z. not (is_dir z)) y false) (λ y. refl) x.object
        ∙ ap (λ y. option_map_or (λ z. not (is_dir z)) (at f.objects y.object) false) w.same ∙ n.target e w.was w.is_was;
    end = λ e x is.
        let w = was_open e x is in
        (λ i. x.end == 0 || x.end == 1 && seen_object (λ y. option_map_or is_pipe y false) (λ y. refl) x.object i)
        ∙ ap (λ y. y.end == 0 || y.end == 1 && option_map_or is_pipe (at f.objects y.object) false) w.same ∙ n.end e w.was w.is_was;
  }

  -- the working directories are as they were
  same_cwd : ((n : ℕ) → option_map (λ (q : Process). q.cwd) (at g.processes n) ≡ option_map (λ (q : Process). q.cwd) (at f.processes n))
      → (n : ℕ) (q was : Process) → at g.processes n ≡ Some q → at f.processes n ≡ Some was → q.cwd ≡ was.cwd
  same_cwd seen n q w is is_was = let h = sym (ap (option_map (λ y. y.cwd)) is) ∙ seen n ∙ ap (option_map (λ y. y.cwd)) is_was in cc

  -- where the working directories are directories
  pub processes_moved : ((p : ℕ) (q : Process) → living (at g.processes p) ≡ Some q → option_map_or is_dir (at f.objects q.cwd) false ≡ true) → ProcessesSound f → ProcessesSound g
  processes_moved homes n = record {
    none = none_is _ (seen_process is_none (λ x. refl) 0 ∙ ap is_none n.none);
    home = λ p q lives. seen_object (λ y. option_map_or is_dir y false) (λ y. refl) q.cwd ∙ homes p q lives;
    parent = λ p k q is parent.
        let w = was_process p q is in
        seen_process (λ y. option_map_or (λ z. not z.ended) y false) (λ y. refl) k ∙ n.parent p k w.was w.is_was (sym (ap (λ y. y.parent) w.same) ∙ parent);
    descriptors = λ p q is. let w = was_process p q is in ap (λ y. length y.fds) w.same ∙ n.descriptors p w.was w.is_was;
  }

  pub processes_floated : ((n : ℕ) → option_map (λ (q : Process). q.cwd) (at g.processes n) ≡ option_map (λ (q : Process). q.cwd) (at f.processes n)) → ProcessesSound f → ProcessesSound g
  processes_floated seen n = processes_moved (λ p q lives.
      let w = was_process p q (is_living _ q lives) in
      ap (λ c. option_map_or is_dir (at f.objects c) false) (same_cwd seen p q _ (is_living _ q lives) w.is_was) ∙ n.home p w.was (was_living p q lives)) n

  claimant_floated : (o end p : ℕ) → has_end g o end p ≡ has_end f o end p
  claimant_floated o end p =
      seen_process (has_on g.opens o end) (λ y. refl) p
      ∙ (λ i. option_map_or (λ q. not q.ended && list_any (λ d. on_floated o end d i) q.fds) (at f.processes p) false)

  -- where each claim is a claimant's
  pub claims_moved : ((o end p : ℕ) (x : Object) → at g.objects o ≡ Some x → at x.claims end ≡ Some p → has_end f o end p ≡ true) → ClaimsSound g
  claims_moved claimants = record { claimant = λ o end p x is claim. claimant_floated o _ p ∙ claimants o end p x is claim }

  pub claims_floated : ((n : ℕ) → option_map (λ (x : Object). x.claims) (at g.objects n) ≡ option_map (λ (x : Object). x.claims) (at f.objects n)) → ClaimsSound f → ClaimsSound g
  claims_floated seen n = claims_moved (λ o end p x is claim.
      let w = was o x is in
      let h = sym (ap (option_map (λ y. y.claims)) is) ∙ seen o ∙ ap (option_map (λ y. y.claims)) w.is_was in
      let same : w.was.claims ≡ x.claims = cc in
      n.claimant o end p w.was w.is_was (ap (λ c. at c end) same ∙ claim))

  pub limits_floated : length g.log ≤ g.limits.log → WithinLimits f → WithinLimits g
  limits_floated log l = record {
    objects = length_same _ _ _ r.objects ∙ l.objects ∙ sym (λ i. first_inode (r.fss i) (length (r.fss i)) + (r.limits i).pipes);
    pipes = λ o x is. let w = was o x is in ap (λ y. is_none y.fs) w.same ∙ l.pipes o w.was w.is_was ∙ sym (ap is_pipe w.same);
    past = λ o x is pipe.
        let w = was o x is in
        subst (λ fss. first_inode fss (length fss) ≤ o) (sym r.fss) (l.past o w.was w.is_was (sym (ap is_pipe w.same) ∙ pipe));
    numbers = λ o k x is on.
        let w = was o x is in
        subst (λ fss. (first_inode fss k ≤ o) × (o < first_inode fss k + (fs_at fss k).inodes)) (sym r.fss) (l.numbers o k w.was w.is_was (sym (ap (λ y. y.fs) w.same) ∙ on));
    opens = length_same _ _ _ r.opens ∙ l.opens ∙ sym (ap (λ y. y.opens) r.limits);
    processes =
        let e = sym (sum-map (λ x. cond _ 1 0) g.processes)
        ∙ ap sum (map_same process_but (λ x. cond _ 1 0) (λ x. refl) f.processes g.processes r.processes)
        ∙ sum-map (λ x. cond (is_some x) 1 0) f.processes in
        let k : g.limits.procs ≡ f.limits.procs = ap (λ y. y.procs) r.limits in
        omega (arith, l.processes);
    names =
        let e : names_in_all g.objects ≡ names_in_all f.objects = ap sum (map_same object_but (λ x. option_map_or (λ y. length y.names) x 0) (λ x. refl) f.objects g.objects r.objects) in
        let k : g.limits.names ≡ f.limits.names = ap (λ y. y.names) r.limits in
        omega (arith, l.names);
    log = log;
  }

  pub lengths_floated : (c : Content) → LengthsSound (record { frame = f; content = c }) → LengthsSound (record { frame = g; content = c })
  lengths_floated c l = record {
    holdings = l.holdings ∙ sym (length_same _ _ _ r.objects);
    offsets = l.offsets ∙ sym (length_same _ _ _ r.opens);
    offset = l.offset;
    file = λ o x is file. let w = was o x is in l.file o w.was w.is_was (sym (ap is_pipe w.same) ∙ file);
    pipe = λ o x is pipe. let w = was o x is in l.pipe o w.was w.is_was (sym (ap is_pipe w.same) ∙ pipe);
    blocks = λ k.
        let e =
        blocks_from _ _ 0 c.holdings (λ m low. seen_object (λ y. option_map_or (λ z. option_map_or (λ j. j == k) z.fs false) y false) (λ y. refl) m) in
        let b : blocks_on g (Some k) ≡ blocks_on f (Some k) = ap (λ fss. (fs_at fss k).blocks) r.fss in
        omega (arith, l.blocks k);
  }
