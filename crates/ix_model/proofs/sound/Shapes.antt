-- What stands at a number after a call: two places for claims, empty where it is no pipe, and pipes' open entries at bottom.
use Rattle.std.proofs.Common.{◌≡◌, ◌≤◌, ℕ, zero, suc, Bool, true, false, true≢false, not, List, length, length-set, Option, Some, None, is_none, refl, sym, ap, ◌∙◌, subst, arith, inl, inr}
use Rattle.std.{specs.Option.option_map_or, proofs.lemmas.Bool.not-true}
use Rattle.ix_label.specs.Category.{bottom}
use Rattle.ix_model.specs.{rows.{OnPaths.new_object, Walks.OpenFile, Auditing.logged, OnProcesses.end_process, Table.{row, verdict}}, history.Events.Op}
use Rattle.ix_model.{specs.world.{Numbers.first_pipe, World.{Frame, Object, Process, Open, at, put, change, is_dir, is_pipe, no_claims}}, proofs.words.Ends.ends_change_object}
use Rattle.ix_model.specs.{laws.Sound.{WithinLimits, OpensSound, ShapesSound}, declared.{config.FsSpec.FsSpec, reply.Reply.Reply, refusal.Refusal.Refusal}}
use Rattle.ix_model.specs.rows.Rows.{◌>>◌, change_process, change_object, change_open, put_object, put_process, put_open, add_process, process, pass}
use Rattle.ix_model.specs.rows.OnDescriptors.{LengthChecks, float_entry, read_fd, write_fd, seek_fd, pex, claimed, write_passed}
use Rattle.ix_model.proofs.{tables.{Finds.{at_put, at_change, passes_some}, Inodes.first_within}, words.{Keeps.{Holds, keeps_claimed}, Lasts.decided}}
use Rattle.ix_model.proofs.words.{Looks.{ends_observe, ends_affect}, Transfers.{read_behind, ends_read, ends_read_behind, ends_write, ends_floated}}
use Rattle.ix_model.proofs.{words.{Standing.behind_is, Rowwise.{Change, Claiming, Moving, Words, kept_row}}, frames.Frames.FrameSound}
use Rattle.ix_model.proofs.words.Ends.{Ends, kept_ends, ends_kept, ends_bind, ends_then, ends_pass, ends_need, ends_caller, ends_object, ends_opened}
use Rattle.ix_model.specs.history.Events as op
use Rattle.ix_model.specs.declared.reply.Kind.TheVariants as kind
use Rattle.ix_model.specs.declared.reply.Reply.TheVariants as reply

-- ---- claims
-- an object has two places for claims, which are empty where it is no pipe
record Places (x : Object) : Type 0 where
  two : length x.claims ≡ 2
  none : is_pipe x ≡ false → x.claims ≡ no_claims

record AllPlaces (f : Frame) : Type 0 where
  each : (o : ℕ) (x : Object) → at f.objects o ≡ Some x → Places x

places_as : (x y : Object) → y.kind ≡ x.kind → y.claims ≡ x.claims → Places x → Places y
places_as x y kind claims p = record {
  two = ap length claims ∙ p.two;
  none = λ other. claims ∙ p.none ((λ i. is_pipe (record x { kind = sym kind i })) ∙ other);
}

no_claim_put : (end : ℕ) → put no_claims end None ≡ no_claims
no_claim_put zero = refl
no_claim_put (suc zero) = refl
no_claim_put (suc (suc end)) = refl

places_unclaimed : (x : Object) (end : ℕ) → Places x → Places (record x { claims = put x.claims end None })
places_unclaimed x end p = record {
  two = length-set x.claims end None ∙ p.two;
  none = λ other. ap (λ c. put c end None) (p.none other) ∙ no_claim_put _;
}

all_changed : (f : Frame) (o : ℕ) (h : Object → Object) → ((x : Object) → at f.objects o ≡ Some x → Places x → Places (h x)) → AllPlaces f → AllPlaces (record f { objects = change f.objects o h })
all_changed f o h keeps r = record {
  each = λ n x is. elim (at_change _ o h n x is) [
    | inl c ↦ subst (λ y. Places y) (sym c.same) (keeps c.was c.is_was (r.each o c.was c.is_was))
    | inr other ↦ r.each n x other.1
  ];
}

all_put : (f : Frame) (o : ℕ) (y : Option Object) → ((x : Object) → y ≡ Some x → Places x) → AllPlaces f → AllPlaces (record f { objects = put f.objects o y })
all_put f o y new r = record {
  each = λ n x is. elim (at_put _ o n y x is) [
    | inl here ↦ new x here.1
    | inr other ↦ r.each n x other.1
  ];
}

same_objects : (f g : Frame) → g.objects ≡ f.objects → AllPlaces f → AllPlaces g
same_objects f g same r = record { each = λ n x is. r.each n x (ap (λ t. at t n) (sym same) ∙ is) }

no_object : (x : Object) → None ≡ Some x → Places x
no_object x is = cc

claims_none : Change → Bool
claims_none Claiming = false
claims_none _ = true

places_words : (pid : ℕ) → Words claims_none pid AllPlaces
unfolding claims_none change_object change_process change_open put_object put_open put_process add_process end_process logged Holds
places_words pid = record {
  object = λ o h same. record { led = λ g. all_changed g o h (λ x is. places_as x _ (ap (λ y. y.kind) (same x)) (ap (λ y. y.claims) (same x))) };
  process = λ p h same. record { led = λ g. same_objects g _ refl };
  float = λ h same. record { led = λ g. same_objects g _ refl };
  entry = λ e x low. record { led = λ g. same_objects g _ refl };
  through = λ can e l. record { led = λ g. same_objects g _ refl };
  unclaim = λ o end. record { led = λ g. all_changed g o _ (λ x is. places_unclaimed x _) };
  relabel = λ can o h same. record { led = λ g. all_changed g o h (λ x is. places_as x _ (ap (λ y. y.kind) (same x)) (ap (λ y. y.claims) (same x))) };
  claim = λ can. cc;
  log = λ can l. record { led = λ g. same_objects g _ refl };
  inode = λ can m o k kind is free. record {
    led = λ g. all_put g o _ (λ x new. let same : new_object kind (Some k) ≡ x = cc in
        subst (λ y. Places y) same (search));
  };
  pipe = λ can m o is free. record {
    led = λ g. all_put g o _ (λ x new. let same : new_object kind.Pipe None ≡ x = cc in
        subst (λ y. Places y) same (search));
  };
  gone_object = λ can o. record { led = λ g. all_put g o _ no_object };
  gone_open = λ can e. record { led = λ g. same_objects g _ refl };
  fork = λ can p. record { led = λ g. same_objects g _ refl };
  end = λ can. record { led = λ g. same_objects g _ refl };
  collect = λ can p. record { led = λ g. same_objects g _ refl };
}

-- a claim is put where a pipe has room for it
places_claimed : (x : Object) (end : ℕ) (c : Option ℕ) → is_pipe x ≡ true → Places x → Places (record x { claims = put x.claims end c })
places_claimed x end c pipe p = record {
  two = length-set x.claims end c ∙ p.two;
  none = λ other. absurd (true≢false (sym pipe ∙ other));
}

module _ (f : Frame) (r : AllPlaces f) where
  P : Refusal → Frame → Type 0
  P why g = AllPlaces g

  Q : Reply → Frame → Type 0
  Q a g = AllPlaces g

  claim_answered : (other : Option ℕ) (next : Reply → Frame → Type 0) → ((a : Reply) → next a f) → Ends (claimed other f) P next
  unfolding P
  claim_answered other next h = ends_kept _ (claimed other f) P _ ((keeps_claimed _ _).led f refl)
      (λ why g e. subst (λ k. AllPlaces k) e r) (λ a g e. subst (λ k. next a k) e (h a))

  places_pex : (pid fd : ℕ) → Ends (pex pid fd f) P Q
  unfolding pex P Q
  places_pex pid fd =
      ends_bind _ _ f P Q (ends_opened pid fd f P _ (λ e is.
      ends_bind _ _ f P Q (ends_object e.entry.object f P _ (λ x here.
      ends_then _ _ f P Q (ends_need _ _ f P _ (λ pipe.
      ends_then _ _ f P Q (ends_need _ _ f P _ (λ free.
      ends_bind _ _ f P Q (claim_answered _ _ (λ a.
      ends_then _ _ f P Q (ends_change_object e.entry.object _ f P _ (
      ends_pass _ _ P Q (all_changed f e.entry.object _ (λ y there places. places_claimed y e.entry.end (Some pid) (let h : Some x ≡ Some y =
      sym here ∙ there in let same : x ≡ y = cc in ap is_pipe (sym same) ∙ pipe) places) r))))))
      r)) r)) r)) r)

places_row : (f : Frame) (t : LengthChecks) (place pid : ℕ) (c : Op) → AllPlaces f → Holds (row t place pid c f) AllPlaces
unfolding row claims_none P Q
places_row f t place pid (op.Pex fd) r = kept_ends AllPlaces _ (places_pex f r pid fd)
places_row f t place pid c r = (kept_row claims_none pid AllPlaces (places_words pid) t place c refl).led f r

-- ---- open entries
-- an open entry on a pipe's number is at bottom
record LowEntries (f g : Frame) : Type 0 where
  fss : g.fss ≡ f.fss
  low : (e : ℕ) (x : Open) → at g.opens e ≡ Some x → first_pipe f.fss ≤ x.object → x.label ≡ bottom

moves_none : Change → Bool
moves_none Moving = false
moves_none _ = true

module _ (f : Frame) where
  low_put : (g : Frame) (e : ℕ) (y : Option Open) → ((x : Open) → y ≡ Some x → x.label ≡ bottom) → LowEntries f g → LowEntries f (record g { opens = put g.opens e y })
  low_put g e y new r = record {
    fss = r.fss;
    low = λ n x is past. elim (at_put _ e n y x is) [
      | inl here ↦ new x here.1
      | inr other ↦ r.low n x other.1 past
    ];
  }

  low_words : (pid : ℕ) → Words moves_none pid (LowEntries f)
  unfolding moves_none change_object change_process change_open put_object put_open put_process add_process end_process logged Holds
  low_words pid = record {
    object = λ o h same. record { led = λ g r. record { fss = r.fss; low = r.low } };
    process = λ p h same. record { led = λ g r. record { fss = r.fss; low = r.low } };
    float = λ h same. record { led = λ g r. record { fss = r.fss; low = r.low } };
    entry = λ e x low. record { led = λ g. low_put g e _ (λ y new. let same : x ≡ y = cc in ap (λ z. z.label) (sym same) ∙ low) };
    through = λ can. cc;
    unclaim = λ o end. record { led = λ g r. record { fss = r.fss; low = r.low } };
    relabel = λ can o h same. record { led = λ g r. record { fss = r.fss; low = r.low } };
    claim = λ can o h same. record { led = λ g r. record { fss = r.fss; low = r.low } };
    log = λ can l. record { led = λ g r. record { fss = r.fss; low = r.low } };
    inode = λ can m o k kind is free. record { led = λ g r. record { fss = r.fss; low = r.low } };
    pipe = λ can m o is free. record { led = λ g r. record { fss = r.fss; low = r.low } };
    gone_object = λ can o. record { led = λ g r. record { fss = r.fss; low = r.low } };
    gone_open = λ can e. record { led = λ g. low_put g e _ (λ y new. cc) };
    fork = λ can p. record { led = λ g r. record { fss = r.fss; low = r.low } };
    end = λ can. record { led = λ g r. record { fss = r.fss; low = r.low } };
    collect = λ can p. record { led = λ g r. record { fss = r.fss; low = r.low } };
  }

module _ (f : Frame) (limits : WithinLimits f) (r : LowEntries f f) where
  -- what is no pipe is at no pipe's number
  before_pipes : (o : ℕ) (x : Object) → at f.objects o ≡ Some x → is_pipe x ≡ false → first_pipe f.fss ≤ o → ⊥
  before_pipes o x is other past = go x.fs refl
    where
      go : (k : Option ℕ) → x.fs ≡ k → ⊥
      go None none = true≢false (sym (ap is_none none) ∙ limits.pipes o x is ∙ other)
      go (Some k) on = let n = limits.numbers o k x is on in absurd (omega (arith, n.1, first_within f.fss k))

  same_low : (g : Frame) → g.opens ≡ f.opens → g.fss ≡ f.fss → LowEntries f g
  same_low g opens fss = record { fss = fss; low = λ e x is. r.low e x (ap (λ t. at t e) (sym opens) ∙ is) }

  low_moved : (g : Frame) (e : OpenFile) (x : Object) (h : Open → Open) → ((y : Open) → (h y).object ≡ y.object) → g.opens ≡ f.opens → g.fss ≡ f.fss
      → at f.opens e.id ≡ Some e.entry → at f.objects e.entry.object ≡ Some x → is_pipe x ≡ false → LowEntries f (record g { opens = change g.opens e.id h })
  low_moved g e x h same opens fss stands here other = record {
    fss = fss;
    low = λ n y is past. elim (at_change _ _ h n y is) [
      | inl c ↦
          let one = sym stands ∙ ap (λ t. at t e.id) (sym opens) ∙ c.is_was in
          let entry : e.entry ≡ c.was = cc in
          let number = ap (λ z. z.object) c.same ∙ same _ ∙ ap (λ z. z.object) (sym entry) in
          absurd (before_pipes _ x here other (omega (arith, number, past)))
      | inr apart ↦ r.low n y (ap (λ t. at t n) (sym opens) ∙ apart.1) past
    ];
  }

  PL : Refusal → Frame → Type 0
  PL why g = LowEntries f g

  QL : Reply → Frame → Type 0
  QL a g = LowEntries f g

  floated : (p : Process) (x : Object) (e : OpenFile) (a : Reply) (g : Frame) → g.opens ≡ f.opens → g.fss ≡ f.fss → at f.opens e.id ≡ Some e.entry
      → at f.objects e.entry.object ≡ Some x → Ends (◌>>◌ (float_entry p x e) (pass a) g) PL QL
  unfolding PL QL
  floated p x e a g opens fss stands here = ends_floated PL QL p x e a g (λ file. low_moved g e x _ (λ y. refl) opens fss stands here (not-true _ file)) (λ pipe. same_low g opens fss)

  low_read : (t : LengthChecks) (pid fd count : ℕ) → Ends (read_fd t pid fd count f) PL QL
  unfolding PL QL
  low_read t pid fd count = ends_read f PL QL (λ why. r) t _ fd _ (λ e is x here.
      let stands = behind_is f _ fd e is in
      let rest : (g : Frame) → g.opens ≡ f.opens → g.fss ≡ f.fss → Ends (read_behind t pid e x g) PL QL =
      λ g opens fss. ends_read_behind g PL QL (λ why. same_low g opens fss) t _ e x (λ p lives. floated p x e _ g opens fss stands here) in
      ends_then _ _ f PL QL (ends_observe _ _ f PL _ (λ why. r) (rest f refl refl) (λ p lives low. rest _ refl refl)))

  low_write : (t : LengthChecks) (pid fd : ℕ) → Ends (write_fd t pid fd f) PL QL
  unfolding PL QL
  low_write t pid fd = ends_write f PL QL (λ why. r) t pid fd (λ e is x here p lives.
      let stands = behind_is f pid fd e is in
      ends_then _ _ f PL QL (ends_affect pid _ _ f PL _ (λ why. r) (floated p x e write_passed f refl refl stands here) (λ l y there low. floated p x e write_passed _ refl refl stands here)))

  low_seek : (pid fd offset : ℕ) → Ends (seek_fd pid fd offset f) PL QL
  unfolding seek_fd PL QL
  low_seek pid fd offset =
      ends_bind _ _ f PL QL (ends_opened pid fd f PL _ (λ e is.
      ends_bind _ _ f PL QL (ends_object e.entry.object f PL _ (λ x here.
      ends_then _ _ f PL QL (ends_need _ _ f PL _ (λ file.
      ends_then _ _ f PL QL (ends_need _ _ f PL _ (λ near.
      ends_bind _ _ f PL QL (ends_caller pid f PL _ (λ p lives. floated p x e reply.Done f refl refl (behind_is f pid fd e is) here) r)) r)) r)) r)) r)

  low_row : (t : LengthChecks) (place pid : ℕ) (c : Op) → Holds (row t place pid c f) (LowEntries f)
  unfolding row moves_none PL QL
  low_row t place pid (op.ReadFd fd count) = kept_ends (LowEntries f) _ (low_read t pid fd count)
  low_row t place pid (op.WriteFd fd bytes) = kept_ends (LowEntries f) _ (low_write t pid fd)
  low_row t place pid (op.SeekFd fd offset) = kept_ends (LowEntries f) _ (low_seek pid fd offset)
  low_row t place pid c = (kept_row moves_none pid (LowEntries f) (low_words f pid) t place c refl).led f r

-- ---- from a sound frame to what is decided
-- what stands at a pipe's number is a pipe
low_before : (f : Frame) → WithinLimits f → OpensSound f → ShapesSound f → LowEntries f f
low_before f limits opens s = record { fss = refl; low = λ e x is past. go e x is past _ refl }
  where
    go : (e : ℕ) (x : Open) → at f.opens e ≡ Some x → first_pipe f.fss ≤ x.object → (y : Option Object) → at f.objects x.object ≡ y → x.label ≡ bottom
    go e x is past None none = absurd (true≢false (sym (opens.target e x is) ∙ ap (λ o. option_map_or (λ z. not (is_dir z)) o false) none))
    go e x is past (Some y) there = kind _ refl
      where
        kind : (b : Bool) → is_pipe y ≡ b → x.label ≡ bottom
        kind true pipe = s.entries e x is (ap (λ o. option_map_or is_pipe o false) there ∙ pipe)
        kind false other = absurd (go_fs _ refl)
          where
            go_fs : (k : Option ℕ) → y.fs ≡ k → ⊥
            go_fs None none = true≢false (sym (ap is_none none) ∙ limits.pipes x.object y there ∙ other)
            go_fs (Some k) on = let n = limits.numbers x.object k y there on in absurd (omega (arith, n.1, first_within f.fss k))

pub shapes_decided : (f : Frame) (t : LengthChecks) (place pid : ℕ) (c : Op) → FrameSound f → ShapesSound f → FrameSound (verdict t place pid c f).frame → ShapesSound (verdict t place pid c f).frame
shapes_decided f t place pid c s shapes after =
    let places : AllPlaces f = record { each = λ o x is. record { two = shapes.claims o x is; none = shapes.unclaimed o x is } } in
    let low : LowEntries f f = low_before f s.limits s.opens shapes in
    let p = decided AllPlaces t place pid c f places (places_row f t place pid c places) in
    let q = decided (LowEntries f) t place pid c f low (low_row f s.limits low t place pid c) in
    record {
      claims = λ o x is. (p.each o x is).two;
      unclaimed = λ o x is. (p.each o x is).none;
      entries = λ e x is pipe.
          let there = passes_some (λ o. option_map_or is_pipe o false) refl _ pipe in
          let past = after.limits.past x.object there.0 there.1 (sym (ap (λ o. option_map_or is_pipe o false) there.1) ∙ pipe) in
          q.low e x is (subst (λ (fss : List FsSpec). first_pipe fss ≤ x.object) q.fss past);
    }
