-- Frames that are sound but for one object, which has come or is about to go; and a new object.
use Rattle.std.proofs.Common.{◌≡◌, ◌≢◌, ◌<◌, ◌≤◌, ◌+◌, ◌==◌, ℕ, zero, suc, Bool, true, false, true≢false, not, ◌&&◌, ◌||◌, [], map, sum, length, count_by, Some}
use Rattle.std.proofs.Common.{Option, None, is_none, if◌then◌else◌, refl, sym, ap, ◌∙◌, subst, arith, inl, inr, length-set}
use Rattle.std.{specs.Option.option_map_or, proofs.lemmas.{Bool.Decides.eqb_tells, List.get_or-set_other}}
use Rattle.ix_label.specs.Category.{leq}
use Rattle.ix_model.specs.world.{World.{fs_at, Frame, Object, at, put, is_file, is_dir, is_pipe, held, ceiling_of, no_claims}, Numbers.first_inode}
use Rattle.ix_model.specs.{world.Owners.{times_named, names_in_all}, opening.Valid.all_differ}
use Rattle.ix_model.specs.laws.Sound.{LabelsBelow, NamesSound, LivesSound, OpensSound, ProcessesSound, ClaimsSound, WithinLimits}
use Rattle.ix_model.proofs.{tables.{Finds.{at_put, sum_put}, Labels.labels_put_object}, frames.Frames.FrameSound}

-- each directory but object 0 and this one is named exactly once
pub record NamesBut (but : ℕ) (f : Frame) : Type 0 where
  pub root : option_map_or is_dir (at f.objects 0) false ≡ true
  pub in_directories : (d : ℕ) (x : Object) → at f.objects d ≡ Some x → is_dir x ≡ false → x.names ≡ []
  pub living : (d o : ℕ) (x : Object) → at f.objects d ≡ Some x → 0 < count_by (λ n. n.1 == o) x.names → option_map_or (λ y. not (is_pipe y)) (at f.objects o) false ≡ true
  pub differ : (d : ℕ) (x : Object) → at f.objects d ≡ Some x → all_differ (map (λ n. n.0) x.names) ≡ true
  pub once : (o : ℕ) (x : Object) → o ≢ but → at f.objects o ≡ Some x → is_dir x ≡ true → times_named f.objects o ≡ (if o == 0 then 0 else 1)

-- each other file and pipe has what keeps it
pub record LivesBut (but : ℕ) (f : Frame) : Type 0 where
  pub file : (o : ℕ) (x : Object) → o ≢ but → at f.objects o ≡ Some x → is_file x ≡ true → (not (times_named f.objects o == 0) || held f.opens o 0) ≡ true
  pub pipe : (o : ℕ) (x : Object) → o ≢ but → at f.objects o ≡ Some x → is_pipe x ≡ true → (held f.opens o 0 || held f.opens o 1) ≡ true

pub record Awaiting (but : ℕ) (f : Frame) : Type 0 where
  pub labels : LabelsBelow f
  pub names : NamesBut but f
  pub lives : LivesBut but f
  pub opens : OpensSound f
  pub processes : ProcessesSound f
  pub claims : ClaimsSound f
  pub limits : WithinLimits f

pub names_but : (but : ℕ) (f : Frame) → NamesSound f → NamesBut but f
names_but but f n = record { root = n.root; in_directories = n.in_directories; living = n.living; differ = n.differ; once = λ o x other is dir. n.once o x is dir }

pub lives_but : (but : ℕ) (f : Frame) → LivesSound f → LivesBut but f
lives_but but f l = record { file = λ o x other is file. l.file o x is file; pipe = λ o x other is pipe. l.pipe o x is pipe }

-- and where the one is as it has to be, the frame is sound
pub names_all : (o : ℕ) (f : Frame) → NamesBut o f → ((x : Object) → at f.objects o ≡ Some x → is_dir x ≡ true → times_named f.objects o ≡ (if o == 0 then 0 else 1)) → NamesSound f
names_all o f n here = record {
  root = n.root;
  in_directories = n.in_directories;
  living = n.living;
  differ = n.differ;
  once = λ m x is dir. elim (eqb_tells m o) [
    | inl same ↦ ap (times_named f.objects) same.1 ∙ here x (ap (at f.objects) (sym same.1) ∙ is) dir ∙ ap (λ k. if k == 0 then 0 else 1) (sym same.1)
    | inr other ↦ n.once m x other.1 is dir
  ];
}

pub lives_all : (o : ℕ) (f : Frame) → LivesBut o f → ((x : Object) → at f.objects o ≡ Some x → is_file x ≡ true
    → (not (times_named f.objects o == 0) || held f.opens o 0) ≡ true) → ((x : Object) → at f.objects o ≡ Some x → is_pipe x ≡ true
    → (held f.opens o 0 || held f.opens o 1) ≡ true) → LivesSound f
lives_all o f l file pipe = record {
  file = λ m x is kind. elim (eqb_tells m o) [
    | inl same ↦ ap (λ k. not (times_named f.objects k == 0) || held f.opens k 0) same.1 ∙ file x (ap (at f.objects) (sym same.1) ∙ is) kind
    | inr other ↦ l.file m x other.1 is kind
  ];
  pipe = λ m x is kind. elim (eqb_tells m o) [
    | inl same ↦ ap (λ k. held f.opens k 0 || held f.opens k 1) same.1 ∙ pipe x (ap (at f.objects) (sym same.1) ∙ is) kind
    | inr other ↦ l.pipe m x other.1 is kind
  ];
}

-- ---- a new object
no_claim : (end p : ℕ) → at no_claims end ≡ Some p → ⊥
no_claim zero p h = cc
no_claim (suc zero) p h = cc
no_claim (suc (suc end)) p h = cc

-- what a new object is
pub record IsNew (f : Frame) (o : ℕ) (x : Object) : Type 0 where
  pub free : at f.objects o ≡ None
  pub inside : o < length f.objects
  pub nameless : x.names ≡ []
  pub unclaimed : x.claims ≡ no_claims
  pub low : leq x.label (ceiling_of f.fss x) ≡ true
  pub pipe : is_none x.fs ≡ is_pipe x
  pub past : is_pipe x ≡ true → first_inode f.fss (length f.fss) ≤ o
  pub number : (k : ℕ) → x.fs ≡ Some k → (first_inode f.fss k ≤ o) × (o < first_inode f.fss k + (fs_at f.fss k).inodes)

module _ (f : Frame) (o : ℕ) (x : Object) (new : IsNew f o x) where
  -- what passes a test stood at another number, and passes it still
  stands_apart : (test : Option Object → Bool) → test None ≡ false → (m : ℕ) → test (at f.objects m) ≡ true → m ≢ o
  stands_apart test none m h same = true≢false (sym h ∙ ap (λ n. test (at f.objects n)) same ∙ ap test new.free ∙ none)

  still : (test : Option Object → Bool) → test None ≡ false → (m : ℕ) → test (at f.objects m) ≡ true → test (at (put f.objects o (Some x)) m) ≡ true
  still test none m h = ap test (get_or-set_other f.objects o m _ None (stands_apart test none m h)) ∙ h

  sum_new : (F : Option Object → ℕ) → F None ≡ 0 → F (Some x) ≡ 0 → sum (map F (put f.objects o (Some x))) ≡ sum (map F f.objects)
  sum_new F none here =
      let before = ap F new.free ∙ none in
      omega (arith, sum_put F f.objects o (Some x) new.inside, before, here)

  pub times_new : (m : ℕ) → times_named (put f.objects o (Some x)) m ≡ times_named f.objects m
  times_new m = sum_new _ refl (ap (count_by (λ n. n.1 == m)) new.nameless)

  pub names_in_new : names_in_all (put f.objects o (Some x)) ≡ names_in_all f.objects
  names_in_new = sum_new _ refl (ap length new.nameless)

  pub names_new : NamesSound f → NamesBut o (record f { objects = put f.objects o (Some x) })
  names_new n = record {
    root = still (λ y. option_map_or is_dir y false) refl 0 n.root;
    in_directories = λ d y is other. elim (at_put _ o d _ y is) [
      | inl here ↦ let e = here.1 in let same : x ≡ y = cc in ap (λ z. z.names) (sym same) ∙ new.nameless
      | inr apart ↦ n.in_directories d y apart.1 other
    ];
    living = λ d m y is named. elim (at_put _ o d _ y is) [
      | inl here ↦
          let e = here.1 in
          let same : x ≡ y = cc in
          let none = ap (λ z. count_by (λ n. n.1 == m) z.names) (sym same) ∙ ap (count_by (λ n. n.1 == m)) new.nameless in
          absurd (omega arith)
      | inr apart ↦ still (λ z. option_map_or (λ y. not (is_pipe y)) z false) refl m (n.living d m y apart.1 named)
    ];
    differ = λ d y is. elim (at_put _ o d _ y is) [
      | inl here ↦ let e = here.1 in let same : x ≡ y = cc in ap (λ z. all_differ (map (λ n. n.0) z.names)) (sym same) ∙ ap (λ ns. all_differ (map (λ n. n.0) ns)) new.nameless
      | inr apart ↦ n.differ d y apart.1
    ];
    once = λ m y other is dir. elim (at_put _ o m _ y is) [
      | inl here ↦ absurd (other here.0)
      | inr apart ↦ times_new m ∙ n.once m y apart.1 dir
    ];
  }

  pub lives_new : LivesSound f → LivesBut o (record f { objects = put f.objects o (Some x) })
  lives_new l = record {
    file = λ m y other is kind. elim (at_put _ o m _ y is) [
      | inl here ↦ absurd (other here.0)
      | inr apart ↦ ap (λ t. not (t == 0) || held f.opens m 0) (times_new m) ∙ l.file m y apart.1 kind
    ];
    pipe = λ m y other is kind. elim (at_put _ o m _ y is) [
      | inl here ↦ absurd (other here.0)
      | inr apart ↦ l.pipe m y apart.1 kind
    ];
  }

  pub opens_new : OpensSound f → OpensSound (record f { objects = put f.objects o (Some x) })
  opens_new r = record {
    descriptor = r.descriptor;
    owned = r.owned;
    target = λ e y is. still (λ z. option_map_or (λ y. not (is_dir y)) z false) refl y.object (r.target e y is);
    end = λ e y is.
        let apart = stands_apart (λ z. option_map_or (λ y. not (is_dir y)) z false) refl _ (r.target e y is) in
        ap (λ z. y.end == 0 || y.end == 1 && option_map_or is_pipe z false) (get_or-set_other f.objects o y.object _ None apart) ∙ r.end e y is;
  }

  pub processes_new : ProcessesSound f → ProcessesSound (record f { objects = put f.objects o (Some x) })
  processes_new r = record { none = r.none; home = λ p q lives. still (λ z. option_map_or is_dir z false) refl q.cwd (r.home p q lives); parent = r.parent; descriptors = r.descriptors }

  pub claims_new : ClaimsSound f → ClaimsSound (record f { objects = put f.objects o (Some x) })
  claims_new c = record {
    claimant = λ m end p y is claim. elim (at_put _ o m _ y is) [
      | inl here ↦ let e = here.1 in let same : x ≡ y = cc in absurd (no_claim _ p (ap (λ t. at t end) (sym new.unclaimed) ∙ ap (λ z. at z.claims end) same ∙ claim))
      | inr apart ↦ c.claimant m end p y apart.1 claim
    ];
  }

  pub limits_new : WithinLimits f → WithinLimits (record f { objects = put f.objects o (Some x) })
  limits_new l = record {
    objects = length-set f.objects o _ ∙ l.objects;
    pipes = λ m y is. elim (at_put _ o m _ y is) [
      | inl here ↦ let e = here.1 in let same : x ≡ y = cc in subst (λ z. is_none z.fs ≡ is_pipe z) same new.pipe
      | inr apart ↦ l.pipes m y apart.1
    ];
    past = λ m y is kind. elim (at_put _ o m _ y is) [
      | inl here ↦ let e = here.1 in let same : x ≡ y = cc in let low = new.past (ap is_pipe same ∙ kind) in let at_o = here.0 in omega arith
      | inr apart ↦ l.past m y apart.1 kind
    ];
    numbers = λ m k y is on. elim (at_put _ o m _ y is) [
      | inl here ↦ let e = here.1 in let same : x ≡ y = cc in let low = new.number k (ap (λ z. z.fs) same ∙ on) in
          let at_o = here.0 in (omega (arith, low.0), omega (arith, low.1))
      | inr apart ↦ l.numbers m k y apart.1 on
    ];
    opens = l.opens;
    processes = l.processes;
    names = omega (arith, names_in_new, l.names);
    log = l.log;
  }

  pub awaiting_new : FrameSound f → Awaiting o (record f { objects = put f.objects o (Some x) })
  awaiting_new s = record {
    labels = labels_put_object f s.labels o _ (λ y is. let e : x ≡ y = cc in subst (λ z. leq z.label (ceiling_of f.fss z) ≡ true) e new.low);
    names = names_new s.names;
    lives = lives_new s.lives;
    opens = opens_new s.opens;
    processes = processes_new s.processes;
    claims = claims_new s.claims;
    limits = limits_new s.limits;
  }

-- ---- the whole
pub awaiting : (o : ℕ) (f : Frame) → FrameSound f → Awaiting o f
awaiting o f s = let names = names_but o f s.names in let lives = lives_but o f s.lives in search

-- the one object is as it has to be
pub record Arrived (o : ℕ) (f : Frame) : Type 0 where
  pub once : (x : Object) → at f.objects o ≡ Some x → is_dir x ≡ true → times_named f.objects o ≡ (if o == 0 then 0 else 1)
  pub file : (x : Object) → at f.objects o ≡ Some x → is_file x ≡ true → (not (times_named f.objects o == 0) || held f.opens o 0) ≡ true
  pub pipe : (x : Object) → at f.objects o ≡ Some x → is_pipe x ≡ true → (held f.opens o 0 || held f.opens o 1) ≡ true

pub arrived : (o : ℕ) (f : Frame) → Awaiting o f → Arrived o f → FrameSound f
arrived o f s a = let names = names_all o f s.names a.once in let lives = lives_all o f s.lives a.file a.pipe in search
