-- A call of which it is known that it changes no label leaves the frame as it was.
use Rattle.std.proofs.Common.{◌≡◌, ℕ, Some, refl, sym, ◌∙◌, subst}
use Rattle.ix_model.specs.{world.World.{World, Frame, Object, Process, at}, rows.{Outcomes.{Outcome, Pass}, OnLabels.self_label, Table.row}}
use Rattle.ix_model.specs.rows.{OnDescriptors.{LengthChecks, float_entry, read_fd, write_fd}, Telling.told, Walks.{OpenFile, behind}}
use Rattle.ix_model.specs.{history.{Events.Op, Freshness.{Way, Reading, Writing}, Step.step}, declared.{refusal.Refusal.Refusal, reply.Reply.Reply}}
use Rattle.ix_model.proofs.words.{Keeps.Holds, Ends.{Ends, kept_ends, ends_bind, ends_caller, ends_then, ends_pass}, Lasts.decided}
use Rattle.ix_model.proofs.words.{Transfers.{one_there, ends_read, ends_read_behind, ends_write}, Answered.step_frame}
use Rattle.ix_fresh.specs.{Known.{Known, ChangeNothing}, Laws.KnownChangesNothing}
use Rattle.ix_fcalls.specs.Tested.{IsKnown}
use Rattle.ix_model.specs.history.Events as op

-- what is known is known of the open entry and the object that stand there
changes_nothing : KnownChangesNothing → (way : Way) (f : Frame) (pid fd : ℕ) (k : Known way f pid fd) (e : OpenFile) (x : Object) → behind f pid fd ≡ Some e
    → at f.objects e.entry.object ≡ Some x → ChangeNothing way f pid k.process x e
changes_nothing law way f pid fd k e x is there =
    let entry = one_there _ _ e k.is_behind is in
    let object = one_there (at f.objects e.entry.object) _ x (subst (λ b. at f.objects b.entry.object ≡ Some k.object) entry k.is_object) there in
    subst (λ y. ChangeNothing way f pid k.process y e) object (subst (λ b. ChangeNothing way f pid k.process k.object b) entry (law way f pid fd k))

module _ (law : KnownChangesNothing) (f : Frame) where
  abbrev As : Frame → Type 0
  As g = g ≡ f

  abbrev No : Refusal → Frame → Type 0
  No why g = As g

  abbrev Yes : Reply → Frame → Type 0
  Yes r g = As g

  passes_on : {A : Type 0} (o : Outcome A) (a : A) (Q : A → Frame → Type 0) → o ≡ Pass a f → Q a f → Ends o No Q
  unfolding Ends
  passes_on o a Q is h = subst (λ z. Ends z No Q) (sym is) h

  floats : (pid fd : ℕ) (way : Way) (k : Known way f pid fd) (q : Process) (x : Object) (e : OpenFile) → ChangeNothing way f pid k.process x e → k.process ≡ q → float_entry q x e f ≡ Pass tt f
  floats pid fd way k q x e nothing same = subst (λ p. float_entry p x e f ≡ Pass tt f) same nothing.float_entry

  read_still : (t : LengthChecks) (pid fd count : ℕ) → Known Reading f pid fd → Ends (read_fd t pid fd count f) No Yes
  read_still t pid fd count k = ends_read f No _ (λ why. refl) t _ fd _ (λ e is x here.
      let nothing = changes_nothing law _ f _ fd k e x is here in
      ends_then _ _ f No _ (passes_on _ tt _ nothing.look (ends_read_behind f No _ (λ why. refl) t _ e x (λ q lives.
      ends_then _ _ f No _ (passes_on _ tt _ (floats _ fd _ k q x e nothing (one_there _ _ q k.lives lives)) (
      ends_pass _ f No _ refl))))))

  write_still : (t : LengthChecks) (pid fd : ℕ) → Known Writing f pid fd → Ends (write_fd t pid fd f) No Yes
  write_still t pid fd k = ends_write f No _ (λ why. refl) t _ fd (λ e is x here q lives.
      let nothing = changes_nothing law _ f _ fd k e x is here in
      ends_then _ _ f No _ (passes_on _ tt _ nothing.look (
      ends_then _ _ f No _ (passes_on _ tt _ (floats _ fd _ k q x e nothing (one_there _ _ q k.lives lives)) (
      ends_pass _ f No _ refl)))))

  row_still : (t : LengthChecks) (place pid : ℕ) (c : Op) → IsKnown f pid c → Holds (row t place pid c f) As
  unfolding row
  row_still t place pid (op.ReadFd fd count) k = kept_ends As _ (read_still t _ fd _ k)
  row_still t place pid (op.WriteFd fd bytes) k = kept_ends As _ (write_still t _ fd k)
  row_still t place pid _ k = absurd k

pub known_still : KnownChangesNothing → (w : World) (place pid : ℕ) (c : Op) → IsKnown w.frame pid c → (step w place pid c).world.frame ≡ w.frame
known_still law w place pid c k = step_frame w _ _ c ∙ decided (As law w.frame) (told w pid c) place pid c w.frame refl (row_still law _ _ _ pid c k)

-- a look at the own label leaves the frame as it was
self_row : (t : LengthChecks) (place pid : ℕ) (f : Frame) → Holds (row t place pid op.SelfLabel f) (λ g. g ≡ f)
unfolding row self_label
self_row t place pid f = kept_ends _ _ (ends_bind _ _ f _ _ (ends_caller _ f _ _ (λ p lives. ends_pass _ f _ _ refl) refl))

pub self_still : (w : World) (place pid : ℕ) → (step w place pid op.SelfLabel).world.frame ≡ w.frame
self_still w place pid = step_frame w _ _ _ ∙ decided (λ g. g ≡ w.frame) (told w pid op.SelfLabel) place pid op.SelfLabel w.frame refl (self_row _ _ _ _)
