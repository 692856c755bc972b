-- Who claims an end: a claimant has a descriptor on it. The claims of one object change, and all else stays.
use Rattle.std.proofs.Common.{◌≡◌, ◌&&◌, ℕ, true, false, not, Option, Some, None, option_map, refl, sym, ap, ◌∙◌, subst, inl, inr}
use Rattle.std.{specs.{Option.option_map_or, List.list_any}, proofs.lemmas.Bool.{and_from, eq-eqb}}
use Rattle.ix_label.specs.Category.{leq, top}
use Rattle.ix_model.specs.{world.{World.{fs_at, Frame, Object, Process, Open, at, put, change, living, is_on}, Owners.has_end}, declared.reply.Reply.Reply}
use Rattle.ix_model.specs.rows.{Walks.{OpenFile, behind, behind_of, entry_at}, OnDescriptors.{claimed, pex, unpex}}
use Rattle.ix_model.proofs.tables.{Finds.{at_put, at_change, any_by}, Labels.labels_object, SameKinds.{kinds_itself, kinds_floats}}
use Rattle.ix_model.proofs.{words.{Living.{is_living, not_ended}, Keeps.keeps_claimed, Standing.behind_is}, sound.Logging.{Refused, Passed}}
use Rattle.ix_model.proofs.frames.{Floats.{object_but, floats_itself, floats_object}, Frames.{FrameSound, Follows, follows_itself}}
use Rattle.ix_model.proofs.words.Ends.{Ends, ends_kept, ends_bind, ends_then, ends_pass, ends_need, ends_object, ends_opened, ends_change_object}
use Rattle.ix_model.proofs.frames.Floated.{names_floated, lives_floated, opens_floated, processes_floated, claims_moved, limits_floated}

-- ---- what stands behind a descriptor
pub record IsBehind (f : Frame) (pid fd : ℕ) (e : OpenFile) : Type 0 where
  pub process : Process
  pub lives : living (at f.processes pid) ≡ Some process
  pub descriptor : at process.fds fd ≡ Some e.id
  pub stands : at f.opens e.id ≡ Some e.entry

entry_of : (f : Frame) (d : Option ℕ) (e : OpenFile) → entry_at f d ≡ Some e → d ≡ Some e.id
entry_of f None e h = cc
entry_of f (Some n) e h = go _ h
  where
    go : (o : Option Open) → option_map (λ x. let b : OpenFile = record { id = n; entry = x } in b) o ≡ Some e → Some n ≡ Some e.id
    go None h = cc
    go (Some x) h = let i : n ≡ e.id = cc in ap Some i

pub is_behind : (f : Frame) (pid fd : ℕ) (e : OpenFile) → behind f pid fd ≡ Some e → IsBehind f pid fd e
unfolding behind
is_behind f pid fd e h = go _ refl h
  where
    go : (p : Option Process) → living (at f.processes pid) ≡ p → behind_of p f fd ≡ Some e → IsBehind f pid fd e
    go None is h = cc
    go (Some p) is h = record { process = p; lives = is; descriptor = entry_of f _ e h; stands = behind_is f _ fd e (ap (λ q. behind_of q f fd) is ∙ h) }

-- the descriptor makes a claimant
pub claims_by : (f : Frame) (pid fd : ℕ) (e : OpenFile) → IsBehind f pid fd e → has_end f e.entry.object e.entry.end pid ≡ true
claims_by f pid fd e b =
    let o = e.entry.object in
    let end = e.entry.end in
    let on = ap (is_on e.entry.object e.entry.end) b.stands
    ∙ and_from _ _ (eq-eqb e.entry.object e.entry.object refl)
    (eq-eqb e.entry.end e.entry.end refl) in
    let some =
    any_by (λ d. option_map_or (λ k. is_on e.entry.object e.entry.end (at f.opens k)) d false) refl b.process.fds fd
    (ap (λ d. option_map_or (λ k. is_on e.entry.object e.entry.end (at f.opens k)) d false) b.descriptor ∙ on) in
    ap (λ q. option_map_or (λ q. not q.ended && list_any (λ d. option_map_or (λ k. is_on e.entry.object e.entry.end (at f.opens k)) d false) q.fds) q false) (is_living _ _ b.lives)
    ∙ and_from _ _ (ap not (not_ended _ _ b.lives)) some

-- ---- other claims of one object
pub reclaimed : (f : Frame) (o : ℕ) (h : Object → Object) → ((x : Object) → object_but (h x) ≡ object_but x) → ((x : Object) → (h x).label ≡ x.label)
    → ((x : Object) → (h x).fs ≡ x.fs) → ((m end p : ℕ) (x : Object) → at (change f.objects o h) m ≡ Some x → at x.claims end ≡ Some p
    → has_end f m end p ≡ true) → FrameSound f → FrameSound (record f { objects = change f.objects o h })
reclaimed f o h same label fs claimants s =
    let g : Frame = record f { objects = change f.objects o h } in
    let r = floats_object f f o h same (floats_itself f) in
    record {
      labels = labels_object f s.labels o h (λ x is. (λ i. leq (label x i) (option_map_or (λ k. (fs_at f.fss k).ceiling) (fs x i) top)) ∙ s.labels.objects o x is);
      names = names_floated f g r s.names;
      lives = lives_floated f g r s.lives;
      opens = opens_floated f g r s.opens;
      processes = processes_floated f g r (λ n. refl) s.processes;
      claims = claims_moved f g r claimants;
      limits = limits_floated f g r s.limits.log s.limits;
    }

-- a claim more, of a claimant; or one fewer
with_claim : (f : Frame) (o end : ℕ) (c : Option ℕ) → ((p : ℕ) → c ≡ Some p → has_end f o end p ≡ true) → FrameSound f → (m k p : ℕ) (x : Object)
    → at (change f.objects o (λ y. record y { claims = put y.claims end c })) m ≡ Some x → at x.claims k ≡ Some p → has_end f m k p ≡ true
with_claim f o end c new s m k p x is claim = elim (at_change _ o _ m x is) [
  | inl here ↦ elim (at_put _ _ k c p (ap (λ y. at y.claims k) (sym here.same) ∙ claim)) [
    | inl new_one ↦ (λ i. has_end f (here.here i) (new_one.0 i) p) ∙ new p new_one.1
    | inr old ↦ ap (λ n. has_end f n k p) here.here ∙ s.claims.claimant o k p here.was here.is_was old.1
  ]
  | inr other ↦ s.claims.claimant m k p x other.1 claim
]

module _ (f : Frame) (s : FrameSound f) where
  claim_put : (o end : ℕ) (c : Option ℕ) → ((p : ℕ) → c ≡ Some p → has_end f o end p ≡ true) → Follows f (record f { objects = change f.objects o (λ y. record y { claims = put y.claims end c }) })
  claim_put o end c new = record {
    sound = reclaimed f o (λ y. record y { claims = put y.claims end c }) (λ y. refl) (λ y. refl) (λ y. refl) (with_claim f o end c new s) s;
    kinds = kinds_floats f.objects f.objects (kinds_itself f.objects) _ (floats_object f f o (λ y. record y { claims = put y.claims end c }) (λ y. refl) (floats_itself f)).objects;
  }

  -- a claim is answered from the frame as it stands
  answered : (other : Option ℕ) (Q : Reply → Frame → Type 0) → ((a : Reply) → Q a f) → Ends (claimed other f) (Refused f) Q
  answered other Q next = ends_kept _ (claimed other f) _ Q ((keeps_claimed _ _).led f refl)
      (λ r g e. subst (λ h. Follows f h) e (follows_itself f s)) (λ a g e. subst (λ h. Q a h) e (next a))

  pub pex_ends : (pid fd : ℕ) → Ends (pex pid fd f) (Refused f) (Passed f)
  unfolding pex
  pex_ends pid fd =
      let k = follows_itself f s in
      ends_bind _ _ f (Refused f) (Passed f) (ends_opened pid fd f (Refused f) _ (λ e is.
      ends_bind _ _ f (Refused f) (Passed f) (ends_object e.entry.object f (Refused f) _ (λ x here.
      ends_then _ _ f (Refused f) (Passed f) (ends_need _ _ f (Refused f) _ (λ pipe.
      ends_then _ _ f (Refused f) (Passed f) (ends_need _ _ f (Refused f) _ (λ free.
      ends_bind _ _ f (Refused f) (Passed f) (answered _ _ (λ a.
      ends_then _ _ f (Refused f) (Passed f) (ends_change_object e.entry.object _ f (Refused f) _ (
      ends_pass _ _ (Refused f) (Passed f) (claim_put e.entry.object e.entry.end (Some pid) (λ p one.
      let same : pid ≡ p = cc in
      subst (λ (n : ℕ). has_end f e.entry.object e.entry.end n ≡ true) same (claims_by f pid fd e (is_behind f pid fd e is))))))))) k)) k)) k)) k)

  pub unpex_ends : (pid fd : ℕ) → Ends (unpex pid fd f) (Refused f) (Passed f)
  unfolding unpex
  unpex_ends pid fd =
      let k = follows_itself f s in
      ends_bind _ _ f (Refused f) (Passed f) (ends_opened pid fd f (Refused f) _ (λ e is.
      ends_bind _ _ f (Refused f) (Passed f) (ends_object e.entry.object f (Refused f) _ (λ x here.
      ends_then _ _ f (Refused f) (Passed f) (ends_need _ _ f (Refused f) _ (λ pipe.
      ends_then _ _ f (Refused f) (Passed f) (ends_need _ _ f (Refused f) _ (λ own.
      ends_then _ _ f (Refused f) (Passed f) (ends_change_object e.entry.object _ f (Refused f) _ (
      ends_pass _ _ (Refused f) (Passed f) (claim_put e.entry.object e.entry.end None (λ p none. cc))))) k)) k)) k)) k)
