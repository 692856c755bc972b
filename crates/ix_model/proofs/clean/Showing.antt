-- A call gives as many bytes as its reply says.
use Rattle.std.proofs.{Common.{◌≡◌, ℕ, Bool, true, false, List, [], Option, Some, None, refl, sym, subst, arith, nat_le, if◌then◌else◌}, lemmas.{Bool.leb-true, List.length-take}}
use Rattle.ix_label.specs.Category.{Categories}
use Rattle.ix_model.{proofs.{words.{Looks.ends_float_entry, Ends.{Ends, Anything, ending}}, refused.Refusing.{is_bare, Relabels, relabels_row}}, specs.history.Step.step}
use Rattle.ix_model.specs.{world.{World.{World, Frame}, Contents.readable}, rows.{Outcomes.{Outcome, Refuse, Pass}, Rows.observe, Telling.told}}
use Rattle.ix_model.specs.rows.{Walks.{OpenFile, behind}, OnDescriptors.{LengthChecks, read_fd}, Table.{Decision, row, settled, verdict}}
use Rattle.ix_model.specs.{history.{Shown.AreShown, Events.Op}, declared.{refusal.Refusal.Refusal, reply.Reply.Reply}}
use Rattle.ix_model.specs.history.Step.{plainly, read_answer, write_answer, cut_answer, seek_answer, stat_answer, exit_answer, wait_answer, pex_answer, answer}
use Rattle.ix_model.specs.history.Events as op
use Rattle.ix_model.specs.declared.refusal.Refusal.TheVariants as refusal
use Rattle.ix_model.specs.declared.reply.Kind.TheVariants as kind
use Rattle.ix_model.specs.declared.reply.Reply.TheVariants as reply

-- ---- replies without bytes
abbrev Without : Reply → Type 0
Without r = AreShown r []

bare_without : (r : Reply) → is_bare r ≡ true → Without r
bare_without (reply.Bytes k) h = cc
bare_without _ h = refl

without : (pid : ℕ) (f : Frame) (o : Outcome Reply) → Relabels is_bare pid f o → Without (settled f o).reply
unfolding Ends
without pid f (Refuse r g) h = refl
without pid f (Pass r g) h = bare_without r h

decided_without : (t : LengthChecks) (place pid : ℕ) (o : Op) (f : Frame) → Relabels is_bare pid f (row t place pid o f) → Without (verdict t place pid o f).reply
unfolding verdict
decided_without t place pid o f h = go _
  where
    unknown : Decision
    unknown = record { reply = reply.No refusal.NoProcess; frame = f }

    go : (b : Bool) → Without (if b then settled f (row t place pid o f) else unknown).reply
    go true = without _ f (row t place pid o f) h
    go false = refl

-- ---- a read
-- whatever a look comes to
any_observe : (pid : ℕ) (seen : Categories) (f : Frame) (Q : Unit {0} → Frame → Type 0) → ((g : Frame) → Q tt g) → Ends (observe pid seen f) Anything Q
unfolding Ends
any_observe pid seen f Q h = go _
  where
    go : (o : Outcome (Unit {0})) → Ends o Anything Q
    go (Refuse r g) = tt
    go (Pass u g) = h g

-- a read that passes asks for at most 4,096 bytes, and has an open entry behind its descriptor
pub record ReadFacts (pid fd count : ℕ) (f : Frame) (r : Reply) : Type 0 where
  pub entry : OpenFile
  pub is_entry : behind f pid fd ≡ Some entry
  pub few : nat_le count 4096 ≡ true
  pub is_bytes : r ≡ reply.Bytes 0

read_ends : (t : LengthChecks) (pid fd count : ℕ) (f : Frame) → Ends (read_fd t pid fd count f) Anything (λ r g. ReadFacts pid fd count f r)
unfolding read_fd
read_ends t pid fd count f = search (ending, any_observe, ends_float_entry) depth 40 fits 8000

-- what a read's decision says: bytes, with these facts, or a refusal
pub data Said (pid fd count : ℕ) (f : Frame) : Reply → Type 0 where
  Refused : {r : Refusal} → Said pid fd count f (reply.No r)
  Passed : {r : Reply} → ReadFacts pid fd count f r → Said pid fd count f r

settled_said : (pid fd count : ℕ) (f : Frame) (o : Outcome Reply) → Ends o Anything (λ r g. ReadFacts pid fd count f r) → Said pid fd count f (settled f o).reply
unfolding Ends
settled_said pid fd count f (Refuse r g) h = Refused
settled_said pid fd count f (Pass r g) h = Passed h

read_said : (t : LengthChecks) (place pid fd count : ℕ) (f : Frame) → Said pid fd count f (verdict t place pid (op.ReadFd fd count) f).reply
unfolding verdict row
read_said t place pid fd count f = go _
  where
    unknown : Decision
    unknown = record { reply = reply.No refusal.NoProcess; frame = f }

    go : (b : Bool) → Said pid fd count f (if b then settled f (read_fd t pid fd count f) else unknown).reply
    go true = settled_said _ fd _ f (read_fd t pid fd count f) (read_ends t _ fd _ f)
    go false = Refused

read_shown : (w : World) (pid fd count : ℕ) (b : Option OpenFile) (r : Reply) (g : Frame) → behind w.frame pid fd ≡ b → Said pid fd count w.frame r
    → AreShown (read_answer w count b r g).reply (read_answer w count b r g).bytes
unfolding read_answer plainly
read_shown w pid fd count None _ g is Refused = refl
read_shown w pid fd count (Some e) _ g is Refused = refl
read_shown w pid fd count None r g is (Passed facts) = let h = facts.is_entry in absurd (cc)
read_shown w pid fd count (Some e) r g is (Passed facts) =
    subst (λ s. AreShown (read_answer w count (Some e) s g).reply (read_answer w count (Some e) s g).bytes) (sym facts.is_bytes)
    (refl, let few = leb-true count 4096 facts.few in omega (arith, length-take count (readable w.frame w.content e)))

write_shown : (w : World) (new : List ℕ) (b : Option OpenFile) (r : Reply) (g : Frame) → Without r → AreShown (write_answer w new b r g).reply (write_answer w new b r g).bytes
unfolding write_answer plainly
write_shown w new (Some e) (reply.Number k) g h = refl
write_shown w new _ r g h = h

cut_shown : (w : World) (len : ℕ) (b : Option OpenFile) (r : Reply) (g : Frame) → Without r → AreShown (cut_answer w len b r g).reply (cut_answer w len b r g).bytes
unfolding cut_answer plainly
cut_shown w len (Some e) reply.Done g h = refl
cut_shown w len _ r g h = h

seek_shown : (w : World) (offset : ℕ) (b : Option OpenFile) (r : Reply) (g : Frame) → Without r → AreShown (seek_answer w offset b r g).reply (seek_answer w offset b r g).bytes
unfolding seek_answer plainly
seek_shown w offset (Some e) reply.Done g h = refl
seek_shown w offset _ r g h = h

stat_shown : (w : World) (r : Reply) (g : Frame) → Without r → AreShown (stat_answer w r g).reply (stat_answer w r g).bytes
unfolding stat_answer plainly
stat_shown w (reply.Stat o kind.File size links frozen cap lic) g h = refl
stat_shown w r g h = h

exit_shown : (w : World) (pid status : ℕ) (r : Reply) (g : Frame) → Without r → AreShown (exit_answer w pid status r g).reply (exit_answer w pid status r g).bytes
unfolding exit_answer plainly
exit_shown w pid status reply.Done g h = refl
exit_shown w pid status r g h = h

wait_shown : (w : World) (r : Reply) (g : Frame) → Without r → AreShown (wait_answer w r g).reply (wait_answer w r g).bytes
unfolding wait_answer plainly
wait_shown w (reply.Child p status) g h = refl
wait_shown w r g h = h

pex_shown : (w : World) (b : Option OpenFile) (r : Reply) (g : Frame) → Without r → AreShown (pex_answer w b r g).reply (pex_answer w b r g).bytes
unfolding pex_answer plainly
pex_shown w (Some e) r g h = h
pex_shown w None r g h = h

pub shown_step : (w : World) (place pid : ℕ) (o : Op) → AreShown (step w place pid o).reply (step w place pid o).bytes
unfolding step answer told plainly
shown_step w place pid (op.ReadFd fd count) = read_shown w _ fd _ _ _ _ refl (read_said _ _ _ fd _ _)
shown_step w place pid (op.WriteFd fd bytes) =
    write_shown w _ _ _ _ (decided_without _ _ _ _ _
    (relabels_row _ _ _ _ _))
shown_step w place pid (op.CutFd fd len) = cut_shown w _ _ _ _ (decided_without _ _ _ _ _ (relabels_row _ _ _ _ _))
shown_step w place pid (op.SeekFd fd offset) =
    seek_shown w _ _ _ _ (decided_without _ _ _ _ _
    (relabels_row _ _ _ _ _))
shown_step w place pid (op.StatAt path) = stat_shown w _ _ (decided_without _ _ _ _ _ (relabels_row _ _ _ _ _))
shown_step w place pid (op.Exit status) = exit_shown w _ _ _ _ (decided_without _ _ _ _ _ (relabels_row _ _ _ _ _))
shown_step w place pid op.WaitChild = wait_shown w _ _ (decided_without _ _ _ _ _ (relabels_row _ _ _ _ _))
shown_step w place pid (op.Pex fd) = pex_shown w _ _ _ (decided_without _ _ _ _ _ (relabels_row _ _ _ _ _))
shown_step w place pid o = decided_without _ _ _ o _ (relabels_row _ _ _ _ o)
