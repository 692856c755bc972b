-- What a row and a refusal leave.
use Rattle.std.proofs.Common.{◌≡◌, ℕ, Bool, true, false, List, Option, None, Some, if◌then◌else◌, Result, Ok, Err, OnOk, sym, ap, ◌∙◌, subst}
use Rattle.ix_model.specs.{world.{World.{Frame, Process, at, change, living}, Contents.carried}, laws.Sound.Sound, history.{Calls.op_of, Events.Op, AuditLog.is_answer}}
use Rattle.ix_model.specs.{rows.{Outcomes.{Outcome, Refuse, Pass}, OnDescriptors.LengthChecks, Table.row}, declared.{call.Call.Call, reply.Reply.Reply, refusal.Refusal.Refusal}}
use Rattle.ix_label.specs.Category.{Categories}
use Rattle.ix_model.specs.declared.views.Caller.{Caller}
use Rattle.ix_model.proofs.tables.Tables.{change_twice, change_same}
use Rattle.ix_model.proofs.{clean.Carrying.carried_same, words.{Ends.Ends, Lasts.{Lasts, lasts_relabelled}}, refused.Refusing.{Relabelled, Relabels, relabelled_itself, refusing_row}}
use Rattle.ix_tables.specs.Parts.{Parts}
use Rattle.ix_fcalls.specs.{Around.{Around, frame_of, world_of, process_of}, Counted.{IsCounted, Keeps}, Filed.{Leaves, lets_go}}

relabelled_lasts : (pid : ℕ) (f g : Frame) → Relabelled pid f g → Lasts f g
relabelled_lasts pid f g r = subst (λ h. Lasts f h) (sym r.is) (lasts_relabelled _ _ f)

-- parts that are as they were, in a frame in which the caller's label alone has changed
left : (b : Bool) (a : Around) (t u : Parts) (ps qs : List (Option Process)) → Sound (world_of a t ps) → u ≡ t → Relabelled a.pid (frame_of a t ps) (frame_of a u qs) → Leaves b a t u ps qs
left true a t u ps qs sound back r = ap (λ v. (world_of a v qs).content) back ∙ sym (carried_same _ _ (relabelled_lasts _ _ _ r) sound.holdings.clean)
left false a t u ps qs sound back r = record { holdings = ap (λ v. v.holdings) back; offsets = ap (λ v. v.offsets) back }

refused : (pid : ℕ) (f g : Frame) (why : Refusal) (o : Outcome Reply) → o ≡ Refuse why g → Relabels is_answer pid f o → Relabelled pid f g
unfolding Ends
refused pid f g why (Refuse r h) is k = let e : h ≡ g = cc in subst (λ x. Relabelled pid f x) e k
refused pid f g why (Pass r h) is k = cc

module _ (b : Bool) (a : Around) (t u : Parts) (ps : List (Option Process)) (sound : Sound (world_of a t ps)) (back : u ≡ t) where
  -- the label stays raised
  pub leaves_raised : (qs : List (Option Process)) (told : LengthChecks) (c : Op) (why : Refusal) → row told a.place a.pid c (frame_of a t ps) ≡ Refuse why (frame_of a u qs) → Leaves b a t u ps qs
  leaves_raised qs told c why is = left b a t u ps qs sound back (refused _ _ _ _ _ is (refusing_row _ _ _ c _))

  -- the caller is set back
  pub leaves_all : (qs : List (Option Process)) → qs ≡ ps → Leaves b a t u ps qs
  leaves_all qs same = left b a t u ps qs sound back (subst (λ g. Relabelled a.pid (frame_of a t ps) g) (λ i. frame_of a (sym back i) (sym same i))
      (relabelled_itself _ _))

-- the caller whose label is set back to what it was is as it was
pub set_back : (a : Around) (c : Caller) (t u : Parts) (ps qs rs : List (Option Process)) (told : LengthChecks) (o : Op) (why : Refusal) → living (at ps a.pid) ≡ Some (process_of a c)
    → row told a.place a.pid o (frame_of a t ps) ≡ Refuse why (frame_of a u qs) → rs ≡ change qs a.pid (λ q. record q { label = c.float.label }) → rs ≡ ps
set_back a c t u ps qs rs told o why lives is set =
    let r = refused _ _ _ _ _ is (refusing_row _ _ _ o _) in
    let to : Categories → Process → Process = λ l p. record p { label = l } in
    set ∙ ap (λ (f : Frame). change f.processes a.pid (to c.float.label)) r.is ∙ change_twice ps a.pid (to r.label) (to c.float.label)
    ∙ change_same ps a.pid (to c.float.label) (λ x here. ap (λ l. to l x) (label_of x _ (sym (ap living here) ∙ lives)))
  where
    label_of : (x p : Process) → living (Some x) ≡ Some p → p.label ≡ x.label
    label_of x p h = pick x.ended h
      where
        pick : (b : Bool) → (if b then None else Some x) ≡ Some p → p.label ≡ x.label
        pick true h = cc
        pick false h = let e : p ≡ x = cc in ap (λ (q : Process). q.label) e

-- ---- what a row that passes leaves
on_ok : (r : Result Reply Refusal) (P : Type 0) → P → OnOk r P
on_ok (Ok x) P p = p
on_ok (Err why) P p = tt

-- a call that may let nothing go, and one that may
pub leaves_kept : (c d : Call) (a : Around) (t u : Parts) (ps qs : List (Option Process)) (r : Result Reply Refusal) → c ≡ d → lets_go (op_of d) ≡ false
    → Keeps t u → OnOk r (Leaves (lets_go (op_of c)) a t u ps qs)
leaves_kept c d a t u ps qs r is stays kept = subst (λ b. OnOk r (Leaves b a t u ps qs)) (sym (ap (λ x. lets_go (op_of x)) is ∙ stays)) (on_ok r _ kept)

pub leaves_carried : (c d : Call) (a : Around) (t u : Parts) (ps qs : List (Option Process)) (r : Result Reply Refusal) → c ≡ d → lets_go (op_of d) ≡ true
    → OnOk r ((world_of a u qs).content ≡ carried (frame_of a t ps) (frame_of a u qs) (world_of a t ps).content) → OnOk r (Leaves (lets_go (op_of c)) a t u ps qs)
leaves_carried c d a t u ps qs r is goes content = subst (λ b. OnOk r (Leaves b a t u ps qs)) (sym (ap (λ x. lets_go (op_of x)) is ∙ goes)) content

pub counted_all : (t u : Parts) (ps qs : List (Option Process)) → u ≡ t → qs ≡ ps → IsCounted t ps → IsCounted u qs
counted_all t u ps qs back same c = rw (back, same) c
