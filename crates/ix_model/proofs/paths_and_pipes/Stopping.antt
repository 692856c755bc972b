-- Nobody but the claimant gets through a claimed end.
use Rattle.std.{specs.Option.option_map_or, proofs.Common.{◌≡◌, ℕ, Bool, true, false, true≢false, not, List, [], Option, Some, None, refl, sym, ap, ◌∙◌, if◌then◌else◌}}
use Rattle.ix_model.specs.{rows.{Refusals.keeps_label, Outcomes.{Outcome, Refuse, Pass}, Walks.{OpenFile, behind, behind_of, opened}}, declared.{reply.Reply.Reply, refusal.Refusal.Refusal}}
use Rattle.ix_model.specs.rows.{Rows.{◌>>=◌, on_pass, pass, refuse, need, some, frame, object}, OnDescriptors.{LengthChecks, read_fd, write_fd, pex}}
use Rattle.ix_model.specs.{rows.{Table.{row, settled, verdict}, Telling.told}, laws.ClaimedPaths.{Stopped, NotThrough}}
use Rattle.ix_model.specs.history.{Step.{plainly, read_answer, write_answer, pex_answer, answer, step}, Events.Op}
use Rattle.ix_model.specs.world.World.{World, Frame, Object, Process, at, living, lives, is_pipe, may_read, may_write, claimed_by_another}
use Rattle.ix_model.proofs.{words.Ends.{Ends, ends_bind, ends_then}, refused.RefusedSteps.refused_step}
use Rattle.ix_model.specs.history.Events as op
use Rattle.ix_model.specs.declared.reply.Reply.TheVariants as reply
use Rattle.ix_model.specs.declared.refusal.Refusal.TheVariants as refusal

-- ---- rows
-- a test, with what is known where it fails
pub tested : (b : Bool) (r : Refusal) (f : Frame) (P : Refusal → Frame → Type 0) (Q : Unit {0} → Frame → Type 0) → (b ≡ true → Q tt f) → (b ≡ false → P r f) → Ends (need b r f) P Q
unfolding need pass refuse Ends
tested true r f P Q h k = h refl
tested false r f P Q h k = k refl

pub never : Reply → Frame → Type 0
never a g = true ≡ false

module _ (f : Frame) (pid fd : ℕ) (e : OpenFile) (x : Object) (leads : behind f pid fd ≡ Some e) (is : at f.objects e.entry.object ≡ Some x)
    (another : claimed_by_another x e.entry.end pid ≡ true) where
  goes_on : (P : Refusal → Frame → Type 0) (Q : OpenFile → Frame → Type 0) → Q e f → Ends (opened pid fd f) P Q
  unfolding opened ◌>>=◌ on_pass frame some pass Ends
  goes_on P Q next = rw leads next

  finds : (P : Refusal → Frame → Type 0) (Q : Object → Frame → Type 0) → Q x f → Ends (object e.entry.object f) P Q
  unfolding object some pass Ends
  finds P Q next = rw is next

  stops_reads : (t : LengthChecks) (count : ℕ) → Ends (read_fd t pid fd count f) (λ r g. r ≡ (if may_read e.entry.mode then refusal.PexHeld else refusal.NotReadable)) never
  unfolding read_fd
  stops_reads t count =
      let P : Refusal → Frame → Type 0 = λ r g. r ≡ (if may_read e.entry.mode then refusal.PexHeld else refusal.NotReadable) in
      ends_bind _ _ f P never (goes_on P _ (
      ends_then _ _ f P never (tested (may_read e.entry.mode) refusal.NotReadable f P _ (λ may.
      ends_bind _ _ f P never (finds P _ (
      ends_then _ _ f P never (tested (not (claimed_by_another x e.entry.end pid)) refusal.PexHeld f P _
      (λ free. absurd (true≢false (sym free ∙ ap not another)))
      (λ held. sym (ap (λ b. if b then refusal.PexHeld else refusal.NotReadable) may))))))
      (λ closed. sym (ap (λ b. if b then refusal.PexHeld else refusal.NotReadable) closed)))))

  stops_writes : (t : LengthChecks) → Ends (write_fd t pid fd f) (λ r g. r ≡ (if may_write e.entry.mode then refusal.PexHeld else refusal.NotWritable)) never
  unfolding write_fd
  stops_writes t =
      let P : Refusal → Frame → Type 0 = λ r g. r ≡ (if may_write e.entry.mode then refusal.PexHeld else refusal.NotWritable) in
      ends_bind _ _ f P never (goes_on P _ (
      ends_then _ _ f P never (tested (may_write e.entry.mode) refusal.NotWritable f P _ (λ may.
      ends_bind _ _ f P never (finds P _ (
      ends_then _ _ f P never (tested (not (claimed_by_another x e.entry.end pid)) refusal.PexHeld f P _
      (λ free. absurd (true≢false (sym free ∙ ap not another)))
      (λ held. sym (ap (λ b. if b then refusal.PexHeld else refusal.NotWritable) may))))))
      (λ closed. sym (ap (λ b. if b then refusal.PexHeld else refusal.NotWritable) closed)))))

  stops_claims : is_pipe x ≡ true → Ends (pex pid fd f) (λ r g. r ≡ refusal.PexHeld) never
  unfolding pex
  stops_claims pipe =
      let P : Refusal → Frame → Type 0 = λ r g. r ≡ refusal.PexHeld in
      ends_bind _ _ f P never (goes_on P _ (
      ends_bind _ _ f P never (finds P _ (
      ends_then _ _ f P never (tested (is_pipe x) refusal.NotPipe f P _ (λ yes.
      ends_then _ _ f P never (tested (not (claimed_by_another x e.entry.end pid)) refusal.PexHeld f P _
      (λ free. absurd (true≢false (sym free ∙ ap not another)))
      (λ held. refl)))
      (λ no. absurd (true≢false (sym pipe ∙ no))))))))

  is_live : lives f pid ≡ true
  unfolding behind
  is_live = go _ leads
    where
      live : (b : Bool) (q : Process) → behind_of (if b then None else Some q) f fd ≡ Some e → not b ≡ true
      live true q h = cc
      live false q h = refl

      go : (o : Option Process) → behind_of (living o) f fd ≡ Some e → option_map_or (λ p. not p.ended) o false ≡ true
      go None h = cc
      go (Some q) h = live _ q h

-- ---- decisions
settled_stops : (f : Frame) (o : Outcome Reply) (r : Refusal) → Ends o (λ why g. why ≡ r) never → (settled f o).reply ≡ reply.No r
unfolding Ends never
settled_stops f (Refuse why g) r h = ap reply.No h
settled_stops f (Pass a g) r h = absurd (true≢false h)

pub decided_stops : (t : LengthChecks) (place pid : ℕ) (c : Op) (f : Frame) (r : Refusal) → lives f pid ≡ true
    → Ends (row t place pid c f) (λ why g. why ≡ r) never → (verdict t place pid c f).reply ≡ reply.No r
unfolding verdict
decided_stops t place pid c f r alive h = rw alive (settled_stops f (row t place pid c f) r h)

-- ---- steps
read_refused : (w : World) (count : ℕ) (b : Option OpenFile) (r : Refusal) (g : Frame) → ((read_answer w count b (reply.No r) g).reply ≡ reply.No r)
    × ((read_answer w count b (reply.No r) g).bytes ≡ [])
unfolding read_answer plainly
read_refused w count None r g = (refl, refl)
read_refused w count (Some e) r g = (refl, refl)

write_refused : (w : World) (new : List ℕ) (b : Option OpenFile) (r : Refusal) (g : Frame) → ((write_answer w new b (reply.No r) g).reply ≡ reply.No r)
    × ((write_answer w new b (reply.No r) g).bytes ≡ [])
unfolding write_answer plainly
write_refused w new None r g = (refl, refl)
write_refused w new (Some e) r g = (refl, refl)

pex_refused : (w : World) (b : Option OpenFile) (a : Reply) (g : Frame) → ((pex_answer w b a g).reply ≡ a) × ((pex_answer w b a g).bytes ≡ [])
unfolding pex_answer plainly
pex_refused w None a g = (refl, refl)
pex_refused w (Some e) a g = (refl, refl)

stopped : (w : World) (place pid : ℕ) (c : Op) (r : Refusal) → keeps_label r ≡ false → (step w place pid c).reply ≡ reply.No r → (step w place pid c).bytes ≡ [] → Stopped w (step w place pid c) r
stopped w place pid c r keeps is none =
    let left = refused_step w place pid c r is in
    record { reply = is; bytes = none; frame = left.kept keeps; content = left.content }

either_drops : (b : Bool) (r : Refusal) → keeps_label r ≡ false → keeps_label (if b then refusal.PexHeld else r) ≡ false
either_drops true r h = refl
either_drops false r h = h

pub stops : (w : World) (place pid fd : ℕ) (e : OpenFile) (x : Object) → behind w.frame pid fd ≡ Some e → at w.frame.objects e.entry.object ≡ Some x
    → claimed_by_another x e.entry.end pid ≡ true → NotThrough w place pid fd e.entry.mode x
unfolding step answer row
stops w place pid fd e x leads is another =
    let alive = is_live w.frame pid fd e x leads is another in
    record {
      reads = λ count.
          let r = if may_read e.entry.mode then refusal.PexHeld else refusal.NotReadable in
          let t = told w pid (op.ReadFd fd count) in
          let d = verdict t place pid (op.ReadFd fd count) w.frame in
          let no : d.reply ≡ reply.No r = decided_stops t place pid (op.ReadFd fd count) w.frame r alive (stops_reads w.frame pid fd e x leads is another t count) in
          let given = read_refused w count (behind w.frame pid fd) r d.frame in
          stopped w place pid (op.ReadFd fd count) r (either_drops (may_read e.entry.mode) refusal.NotReadable refl)
          (ap (λ a. (read_answer w count (behind w.frame pid fd) a d.frame).reply) no ∙ given.0)
          (ap (λ a. (read_answer w count (behind w.frame pid fd) a d.frame).bytes) no ∙ given.1);
      writes = λ bytes.
          let r = if may_write e.entry.mode then refusal.PexHeld else refusal.NotWritable in
          let t = told w pid (op.WriteFd fd bytes) in
          let d = verdict t place pid (op.WriteFd fd bytes) w.frame in
          let no : d.reply ≡ reply.No r = decided_stops t place pid (op.WriteFd fd bytes) w.frame r alive (stops_writes w.frame pid fd e x leads is another t) in
          let given = write_refused w bytes (behind w.frame pid fd) r d.frame in
          stopped w place pid (op.WriteFd fd bytes) r (either_drops (may_write e.entry.mode) refusal.NotWritable refl)
          (ap (λ a. (write_answer w bytes (behind w.frame pid fd) a d.frame).reply) no ∙ given.0)
          (ap (λ a. (write_answer w bytes (behind w.frame pid fd) a d.frame).bytes) no ∙ given.1);
      claims = λ pipe.
          let t = told w pid (op.Pex fd) in
          let d = verdict t place pid (op.Pex fd) w.frame in
          let no : d.reply ≡ reply.No refusal.PexHeld = decided_stops t place pid (op.Pex fd) w.frame refusal.PexHeld alive (stops_claims w.frame pid fd e x leads is another pipe) in
          let given = pex_refused w (behind w.frame pid fd) d.reply d.frame in
          stopped w place pid (op.Pex fd) refusal.PexHeld refl (given.0 ∙ no) given.1;
    }
