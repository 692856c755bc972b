-- A world that a valid config's lines have made is sound.
use Rattle.std.proofs.Common.{◌≡◌, ◌<◌, ◌≤◌, ◌+◌, ℕ, zero, suc, true, false, true≢false, List, [], ◌∷◌, length, map, Option, Some, None, is_some, is_none, cond}
use Rattle.std.{proofs.{Common.{refl, sym, ap, ◌∙◌, subst, arith}, lemmas.Bool.{and_parts, or_left, not_from_false, ne_eqb}}, specs.{Option.option_map_or, List.list_all}}
use Rattle.std.proofs.lemmas.List.{length-replicate, length-map, Sums.{sum_by-cons, count_by-le-length}}
use Rattle.ix_label.specs.Category.{leq}
use Rattle.ix_model.specs.{world.{World.{fs_at, World, Object, Process, Open, Holding, at, is_dir, no_claims}, Numbers.first_inode, Owners.times_named}, laws.Sound.Sound}
use Rattle.ix_model.specs.{opening.Opening.process_of, laws.Clean.IsClean, declared.config.{Config.Config, ProcSpec.ProcSpec, ObjSpec.ObjSpec}}
use Rattle.ix_model.specs.laws.Sound.{LabelsBelow, NamesSound, LivesSound, OpensSound, ProcessesSound, ClaimsSound, WithinLimits, LengthsSound, ShapesSound}
use Rattle.ix_model.proofs.{opening.{Openings.all_one, Built.Built, OpenedWorlds.world_with}, words.Living.is_living}

none_some : {A : Type 0} (X : Type 0) (o : Option A) (x : A) → o ≡ None → o ≡ Some x → X
none_some X o x none some = let e = sym none ∙ some in cc

-- ---- a process is one of a line
pub record ProcessAt (q : Process) : Type 0 where
  pub spec : ProcSpec
  pub is : process_of spec ≡ q
  pub low : leq spec.label spec.ceiling ≡ true

abbrev processes_of : List ProcSpec → List (Option Process)
processes_of procs = map (λ p. Some (process_of p)) procs

process_in : (procs : List ProcSpec) (k : ℕ) (q : Process) → list_all (λ p. leq p.label p.ceiling) procs ≡ true → at (processes_of procs) k ≡ Some q → ProcessAt q
process_in [] k q low is = cc
process_in (p ∷ procs) zero q low is = record { spec = p; is = cc; low = (and_parts _ (list_all (λ p. leq p.label p.ceiling) procs) low).0 }
process_in (p ∷ procs) (suc k) q low is = process_in procs k q (and_parts _ (list_all (λ p. leq p.label p.ceiling) procs) low).1 is

process_at : (procs : List ProcSpec) (k : ℕ) (q : Process) → list_all (λ p. leq p.label p.ceiling) procs ≡ true → at (None ∷ processes_of procs) k ≡ Some q → ProcessAt q
process_at procs zero q low is = cc
process_at procs (suc k) q low is = process_in _ k q low is

-- ---- the parts
module _ (c : Config) (before : List ObjSpec) (t : List (Option Object)) (hs : List Holding) (r : Built c.fss c.limits before t hs)
    (low : list_all (λ p. leq p.label p.ceiling) c.procs ≡ true) (few : length c.procs ≤ c.limits.procs) where
  abbrev opened : World
  opened = world_with c t hs

  labels_sound : LabelsBelow opened.frame
  labels_sound = record {
    objects = λ o x is. (r.fits o x is).low;
    processes = λ p q is. let a = process_at _ p q low is in ap (λ x. leq x.label x.ceiling) (sym a.is) ∙ a.low;
  }

  names_sound : NamesSound opened.frame
  names_sound = search

  lives_sound : LivesSound opened.frame
  lives_sound = record {
    file = λ o x is file. or_left _ _ (not_from_false _ (ne_eqb (times_named t o) 0 (λ e. absurd (omega (arith, r.named.files o x is file)))));
    pipe = λ o x is pipe. absurd (true≢false (sym pipe ∙ (r.fits o x is).no_pipe));
  }

  not_open : (e : ℕ) (x : Open) (X : Type 0) → at opened.frame.opens e ≡ Some x → X
  not_open e x X is = none_some X _ x (all_one _ _ e) is

  opens_sound : OpensSound opened.frame
  opens_sound = record {
    descriptor = λ p q fd e lives is.
        let a = process_at _ p q low (is_living _ q lives) in
        none_some _ _ e (ap (λ x. at x.fds fd) (sym a.is) ∙ all_one _ 32 fd) is;
    owned = λ e some. absurd (true≢false (sym some ∙ ap is_some (all_one _ c.limits.opens e)));
    target = λ e x is. not_open e x _ is;
    end = λ e x is. not_open e x _ is;
  }

  processes_sound : ProcessesSound opened.frame
  processes_sound = record {
    none = refl;
    home = λ p q lives.
        let a = process_at c.procs p q low (is_living _ q lives) in
        ap (λ (x : Process). option_map_or is_dir (at t x.cwd) false) (sym a.is) ∙ r.named.root;
    parent = λ p k q is parent.
        let a = process_at c.procs p q low is in
        none_some _ _ k (ap (λ (x : Process). x.parent) (sym a.is)) parent;
    descriptors = λ p q is. let a = process_at c.procs p q low is in ap (λ (x : Process). length x.fds) (sym a.is) ∙ length-replicate {A = Option ℕ} 32 None;
  }

  no_claim : (end : ℕ) → at no_claims end ≡ None
  no_claim zero = refl
  no_claim (suc zero) = refl
  no_claim (suc (suc k)) = refl

  claims_sound : ClaimsSound opened.frame
  claims_sound = record { claimant = λ o end p x is claim. none_some _ _ p (ap (λ cs. at cs end) (r.fits o x is).unclaimed ∙ no_claim _) claim }

  limits_sound : WithinLimits opened.frame
  limits_sound = record {
    objects = r.counted.long;
    pipes = λ o x is. let f = r.fits o x is in ap is_none f.is_fs ∙ sym f.no_pipe;
    past = λ o x is pipe. absurd (true≢false (sym pipe ∙ (r.fits o x is).no_pipe));
    numbers = λ o k x is on.
        let f = r.fits o x is in
        let both = sym f.is_fs ∙ on in
        let same : f.fs ≡ k = cc in
        subst (λ j. (first_inode c.fss j ≤ o) × (o < first_inode c.fss j + (fs_at c.fss j).inodes)) same (f.from, f.to);
    opens = length-replicate c.limits.opens None;
    processes = omega (
      arith,
      sum_by-cons (λ (q : Option Process). cond {A = ℕ} (is_some q) 1 0) None (processes_of c.procs),
      count_by-le-length is_some (processes_of c.procs),
      length-map c.procs (λ p. Some (process_of p)),
    );
    names = omega (arith, r.counted.names, r.counted.few);
    log = omega arith;
  }

  lengths_sound : LengthsSound opened
  lengths_sound = record {
    holdings = r.counted.room;
    offsets = length-replicate c.limits.opens 0 ∙ sym (length-replicate c.limits.opens None);
    offset = λ e. subst (λ k. k ≤ 1048576) (sym (all_one 0 _ e)) (omega arith);
    file = λ o x is file. r.counted.short o;
    pipe = λ o x is pipe. absurd (true≢false (sym pipe ∙ (r.fits o x is).no_pipe));
    blocks = λ k. omega (arith, r.counted.blocks k, r.counted.within k);
  }

  shapes_sound : ShapesSound opened.frame
  shapes_sound = record {
    claims = λ o x is. ap length (r.fits o x is).unclaimed;
    unclaimed = λ o x is other. (r.fits o x is).unclaimed;
    entries = λ e x is. not_open e x _ is;
  }

  pub sound_built : IsClean opened → Sound opened
  sound_built clean = record {
    labels = labels_sound;
    names = names_sound;
    lives = lives_sound;
    opens = opens_sound;
    processes = processes_sound;
    claims =
        claims_sound;
    limits = limits_sound;
    lengths = lengths_sound;
    shapes = shapes_sound;
    holdings =
        record { clean = clean; directory = r.held.directory; second = λ o x is other. r.held.second o };
  }
