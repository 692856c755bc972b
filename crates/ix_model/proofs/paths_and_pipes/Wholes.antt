-- A path becomes whole by a claim alone, which empties it.
use Rattle.std.proofs.Common.{◌≡◌, ℕ, zero, suc, Bool, true, false, not, ◌&&◌, List, [], ◌∷◌, Option, Some, None, is_some, refl, sym, ap, ◌∙◌, true≢false, set, get_or, inl, inr}
use Rattle.std.{specs.{Option.option_map_or, List.list_all}, proofs.lemmas.{Bool.{and_parts, Decides.eqb_tells}, List.get_or-set_other}}
use Rattle.ix_model.specs.world.{World.{World, Frame, Object, Holding, at, put, change}, Contents.{carried, emptied, holding_of, holds_nothing}}
use Rattle.ix_model.specs.rows.{Rows.{change_object, change_process, put_object, put_open, put_process, add_process, change_open}, Auditing.logged}
use Rattle.ix_model.specs.rows.{Walks.{OpenFile, behind}, OnDescriptors.{LengthChecks, claimed, pex}, OnProcesses.end_process, Telling.told}
use Rattle.ix_model.specs.{rows.Table.{row, verdict}, history.{AuditLog.is_answer, Step.{pex_answer, answer, step, is_whole}, Events.Op}}
use Rattle.ix_model.{specs.declared.{reply.Reply.Reply, refusal.Refusal.Refusal}, proofs.{words.Rowwise.{Change, Claiming, Words, changes_of, kept_row}, refused.Refusing.decided_frames}}
use Rattle.ix_model.proofs.words.{Keeps.Holds, Ends.{Ends, Anything}, RowEnds.endings, Lasts.decided, Answered.{step_frame, passed}}
use Rattle.ix_model.specs.history.Events as op
use Rattle.ix_model.specs.declared.reply.Reply.TheVariants as reply

-- ---- tables
-- what a test shows after a change, it showed before, where no change brings it about
shown_changed : {A : Type 0} (F : Option A → Bool) (h : A → A) → ((x : A) → F (Some (h x)) ≡ true → F (Some x) ≡ true) → (t : List (Option A)) (n m : ℕ)
    → F (at (change t n h) m) ≡ true → F (at t m) ≡ true
shown_changed F h before [] n m is = is
shown_changed F h before (None ∷ t) zero zero is = is
shown_changed F h before (Some y ∷ t) zero zero is = before y is
shown_changed F h before (x ∷ t) zero (suc m) is = is
shown_changed F h before (x ∷ t) (suc n) zero is = is
shown_changed F h before (x ∷ t) (suc n) (suc m) is = shown_changed F h before t n m is

-- and where what is put doesn't show it
shown_put : {A : Type 0} (F : Option A → Bool) (t : List (Option A)) (n : ℕ) (x : Option A) (m : ℕ) → F x ≡ false → F (at (put t n x) m) ≡ true → F (at t m) ≡ true
shown_put F [] n x m off is = is
shown_put F (y ∷ t) zero x zero off is = absurd (true≢false (sym is ∙ off))
shown_put F (y ∷ t) zero x (suc m) off is = is
shown_put F (y ∷ t) (suc n) x zero off is = is
shown_put F (y ∷ t) (suc n) x (suc m) off is = shown_put F t n x m off is

-- ---- without a claim no path becomes whole
abbrev whole_of : Option Object → Bool
whole_of o = option_map_or (λ x. is_some (at x.claims 0) && is_some (at x.claims 1)) o false

record WholeBefore (f g : Frame) : Type 0 where
  was : (o : ℕ) → whole_of (at g.objects o) ≡ true → whole_of (at f.objects o) ≡ true

claims_none : Change → Bool
claims_none Claiming = false
claims_none _ = true

unclaimed : (claims : List (Option ℕ)) (end : ℕ) → (is_some (at (put claims end None) 0) && is_some (at (put claims end None) 1)) ≡ true → (is_some (at claims 0) && is_some (at claims 1)) ≡ true
unclaimed claims end h =
    let p = and_parts (is_some (at (put claims end None) 0)) (is_some (at (put claims end None) 1)) h in
    rw (shown_put is_some claims end None 0 refl p.0) (shown_put is_some claims end None 1 refl p.1)

module _ (f : Frame) where
  whole_objects : (g : Frame) (t : List (Option Object)) → ((o : ℕ) → whole_of (at t o) ≡ true → whole_of (at g.objects o) ≡ true) → WholeBefore f g → WholeBefore f (record g { objects = t })
  whole_objects g t back r = record { was = λ o is. r.was o (back o is) }

  same_claims : (g : Frame) (o : ℕ) (h : Object → Object) → ((x : Object) → (h x).claims ≡ x.claims) → WholeBefore f g → WholeBefore f (record g { objects = change g.objects o h })
  same_claims g o h same r = whole_objects g _ (λ m is. shown_changed whole_of h (λ x whole. ap (λ c. is_some (at c 0) && is_some (at c 1)) (sym (same x)) ∙ whole) g.objects o m is) r

  whole_words : (pid : ℕ) → Words claims_none pid (WholeBefore f)
  unfolding claims_none change_object change_process change_open put_object put_open put_process add_process end_process logged Holds
  whole_words pid = record {
    object = λ o h same. record { led = λ g. same_claims g o h (λ x. ap (λ y. y.claims) (same x)) };
    process = λ p h same. record { led = λ g r. record { was = r.was } };
    float = λ h same. record { led = λ g r. record { was = r.was } };
    entry = λ e x low. record { led = λ g r. record { was = r.was } };
    through = λ can e l. record { led = λ g r. record { was = r.was } };
    unclaim = λ o end. record { led = λ g. whole_objects g _ (λ m is. shown_changed whole_of _ (λ x whole. unclaimed x.claims end whole) g.objects o m is) };
    relabel = λ can o h same. record { led = λ g. same_claims g o h (λ x. ap (λ y. y.claims) (same x)) };
    claim = λ can. cc;
    log = λ can l. record { led = λ g r. record { was = r.was } };
    inode = λ can m o k kind is free. record { led = λ g. whole_objects g _ (λ n is. shown_put whole_of g.objects o _ n refl is) };
    pipe = λ can m o is free. record { led = λ g. whole_objects g _ (λ n is. shown_put whole_of g.objects o _ n refl is) };
    gone_object = λ can o. record { led = λ g. whole_objects g _ (λ n is. shown_put whole_of g.objects o None n refl is) };
    gone_open = λ can e. record { led = λ g r. record { was = r.was } };
    fork = λ can p. record { led = λ g r. record { was = r.was } };
    end = λ can. record { led = λ g r. record { was = r.was } };
    collect = λ can p. record { led = λ g r. record { was = r.was } };
  }

whole_before : (t : LengthChecks) (place pid : ℕ) (c : Op) (f : Frame) → list_all claims_none (changes_of c) ≡ true → WholeBefore f (verdict t place pid c f).frame
whole_before t place pid c f fits =
    decided (WholeBefore f) t place pid c f (record { was = λ o is. is }) ((kept_row claims_none pid (WholeBefore f) (whole_words f pid) t place c fits).led f
    (record { was = λ o is. is }))

-- ---- a claim
record PexFacts (pid fd : ℕ) (f g : Frame) : Type 0 where
  entry : OpenFile
  is_entry : behind f pid fd ≡ Some entry
  objects : g.objects ≡ change f.objects entry.entry.object (λ y. record y { claims = put y.claims entry.entry.end (Some pid) })

any_claimed : (other : Option ℕ) (f : Frame) (Q : Reply → Frame → Type 0) → ((a : Reply) → Q a f) → Ends (claimed other f) Anything Q
unfolding claimed
any_claimed None f Q h = search (endings, h) depth 20
any_claimed (Some q) f Q h = search (endings, h) depth 20

pex_ends : (pid fd : ℕ) (f : Frame) → Ends (pex pid fd f) Anything (λ a g. PexFacts pid fd f g)
unfolding pex
pex_ends pid fd f = search (endings, any_claimed) depth 40 fits 8000

nothing_there : (hs : List Holding) (o : ℕ) → get_or (set hs o holds_nothing) o holds_nothing ≡ holds_nothing
nothing_there [] o = refl
nothing_there (h ∷ hs) zero = refl
nothing_there (h ∷ hs) (suc o) = nothing_there hs o

emptied_there : (w : World) (e : OpenFile) (r : Reply) (g : Frame) → is_whole w.frame e.entry.object ≡ false → is_whole g e.entry.object ≡ true
    → holding_of (pex_answer w (Some e) r g).world.content e.entry.object ≡ holds_nothing
unfolding pex_answer emptied
emptied_there w e r g was is =
    let becomes : (is_whole g e.entry.object && not (is_whole w.frame e.entry.object)) ≡ true = rw (is, was) refl in
    rw becomes (nothing_there (carried w.frame g w.content).holdings e.entry.object)

pex_empties : (w : World) (pid fd o : ℕ) (r : Reply) (g : Frame) → PexFacts pid fd w.frame g → is_whole w.frame o ≡ false → is_whole g o ≡ true
    → holding_of (pex_answer w (behind w.frame pid fd) r g).world.content o ≡ holds_nothing
pex_empties w pid fd o r g facts was is =
    let e = facts.entry in
    let claim : Object → Object = λ y. record y { claims = put y.claims e.entry.end (Some pid) } in
    elim (eqb_tells o e.entry.object) [
      | inl here ↦
          let at_e =
          emptied_there w e r g (ap (is_whole w.frame) (sym here.1) ∙ was) (ap (is_whole g) (sym here.1) ∙ is) in
          ap (λ b. holding_of (pex_answer w b r g).world.content o) facts.is_entry ∙ ap (λ n. holding_of (pex_answer w (Some e) r g).world.content n) here.1 ∙ at_e
      | inr apart ↦
          let same = ap (λ t. at t o) facts.objects ∙ get_or-set_other w.frame.objects e.entry.object o _ None apart.1 in
          absurd (true≢false (sym is ∙ ap whole_of same ∙ was))
    ]

refused_reply : (r : Reply) → is_answer r ≡ false → (why : Refusal) × (r ≡ reply.No why)
refused_reply (reply.No why) h = (why, refl)
refused_reply _ h = cc

pex_case : (w : World) (place pid fd o : ℕ) (t : LengthChecks) → is_whole w.frame o ≡ false → is_whole (verdict t place pid (op.Pex fd) w.frame).frame o ≡ true
    → holding_of (pex_answer w (behind w.frame pid fd) (verdict t place pid (op.Pex fd) w.frame).reply
    (verdict t place pid (op.Pex fd) w.frame).frame).world.content o ≡ holds_nothing
unfolding row
pex_case w place pid fd o t was is = go _ refl
  where
    go : (b : Bool) → is_answer (verdict t place pid (op.Pex fd) w.frame).reply ≡ b
        → holding_of (pex_answer w (behind w.frame pid fd) (verdict t place pid (op.Pex fd) w.frame).reply
        (verdict t place pid (op.Pex fd) w.frame).frame).world.content o ≡ holds_nothing
    go true answers = pex_empties w _ fd o _ _ (passed t _ _ _ _ _ (pex_ends _ fd _) answers) was is
    go false refuses =
        let why = refused_reply _ refuses in
        let same = (decided_frames t _ _ _ _ _ why.1).relabelled.is in
        absurd (true≢false (sym is ∙ ap (λ g. is_whole g o) same ∙ was))

pub becomes_empty : (w : World) (place pid : ℕ) (c : Op) (o : ℕ) → is_whole w.frame o ≡ false → is_whole (step w place pid c).world.frame o ≡ true
    → holding_of (step w place pid c).world.content o ≡ holds_nothing
unfolding step answer claims_none
becomes_empty w place pid (op.Pex fd) o was is = pex_case w place pid fd o (told w pid (op.Pex fd)) was (ap (λ (g : Frame). is_whole g o) (sym (step_frame w place pid (op.Pex fd))) ∙ is)
becomes_empty w place pid c o was is =
    let before = (whole_before (told w pid c) place pid c w.frame refl).was o (ap (λ (g : Frame). is_whole g o) (sym (step_frame w place pid c)) ∙ is) in
    absurd (true≢false (sym before ∙ was))
