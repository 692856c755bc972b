-- What tracks stand for after a cut.
use Rattle.std.{proofs.{Common.{◌≡◌, ◌≤◌, ℕ, true, false, List, [], length, Option, Some, None, option_map, refl, sym, ap, ◌∙◌, subst}, lemmas.Bool.not-true}, specs.Option.option_map_or}
use Rattle.ix_label.specs.Category.{Categories}
use Rattle.ix_model.specs.{declared.reply.Reply.Reply, history.{AuditLog.is_answer, Events.Event, History.{History, world_of, next, with_entry}, Step.{answer, cut_answer, plainly, step}}}
use Rattle.ix_model.specs.{rows.{OnDescriptors.{LengthChecks, cut_fd}, Table.row, Telling.told, Walks.{OpenFile, behind}}, world.Contents.{offset_of, on_pipe, on_side, resized}}
use Rattle.ix_model.{specs.world.World.{World, Frame, HoldingOf, is_pipe}, proofs.words.{Answered.passed, Ends.{Ends, Anything, ends_bind, ends_need, ends_object, ends_opened, ends_then}}}
use Rattle.ix_open.specs.declared.view.OpenView.{OpenView}
use Rattle.ix_flow.specs.{Lines.lines_of_entry, Marks.marks_of, Moves.{cut_there, edited}, Origins.{Marked, gap_mark}, Tracking.{AreSides, AreTracks, HasEnd}, declared.sides.Sides.Sides}
use Rattle.ix_flow.{specs.declared.tracks.Tracks.Tracks, proofs.Writes.{kept_sides, unmoved}}
use Rattle.ix_flow.proofs.{NewObjects.stood_step, ReadWorlds.ends_anyway, Staying.marks_next, Through.{Through, has_end, kept_marks, not_opened, through, viewed}, Writes.followed}
use Rattle.ix_model.specs.history.Events as op
use Rattle.ix_model.specs.declared.reply.Reply.TheVariants as reply

-- ---- what stands behind the descriptor
-- a file
record CutBehind (f : Frame) (pid fd : ℕ) : Type 0 where
  behind_it : OpenFile
  is_behind : behind f pid fd ≡ Some behind_it
  file : on_pipe f behind_it ≡ false

cut_known : (t : LengthChecks) (pid fd len : ℕ) (f : Frame) → Ends (cut_fd t pid fd len f) Anything (λ r g. CutBehind f pid fd)
unfolding cut_fd
cut_known t pid fd len f =
    let Q : Reply → Frame → Type 0 = λ r g. CutBehind f pid fd in
    ends_bind _ _ f _ Q (ends_opened _ fd f _ _ (λ e is.
    ends_then _ _ f _ Q (ends_need _ _ f _ _ (λ may.
    ends_bind _ _ f _ Q (ends_object _ f _ _ (λ x here.
    ends_then _ _ f _ Q (ends_need _ _ f _ _ (λ file.
    ends_anyway _ _ (record { behind_it = e; is_behind = is; file = ap (λ o. option_map_or is_pipe o false) here ∙ not-true _ file })) tt)) tt)) tt)) tt)

cut_answers : (w : World) (len : ℕ) (b : Option OpenFile) (r : Reply) (g : Frame) → (cut_answer w len b r g).reply ≡ reply.Done → is_answer r ≡ true
unfolding cut_answer plainly
cut_answers w len (Some e) reply.Done g is = refl
cut_answers w len _ r g is = ap is_answer is

cut_behind : (w : World) (place pid fd len : ℕ) → (step w place pid (op.CutFd fd len)).reply ≡ reply.Done → CutBehind w.frame pid fd
unfolding step answer row
cut_behind w place pid fd len is =
    let t = told w pid (op.CutFd fd len) in
    passed t _ _ _ _ (λ r g. CutBehind w.frame pid fd) (cut_known t _ fd _ _) (cut_answers w _ _ _ _ is)

-- ---- what is held
cut_none : (len : ℕ) (b : Option OpenFile) (r : Reply) (hs : List (HoldingOf Marked)) → (r ≡ reply.Done → ⊥) → cut_there gap_mark len b r hs ≡ hs
unfolding cut_there
cut_none len (Some b) reply.Done hs other = absurd (other refl)
cut_none len b r hs other = refl

module _ (h : History) (seat line pid fd len : ℕ) where
  abbrev e : Event
  e = record { seat = seat; line = line; pid = pid; op = op.CutFd fd len }

  marks_cut : marks_of (with_entry h e) ≡ cut_there gap_mark len (behind (world_of h).frame pid fd) (next h e).reply (kept_marks h e)
  unfolding edited
  marks_cut = marks_next h e

  silent : (d count k : ℕ) → e.op ≡ op.ReadFd d count → (next h e).reply ≡ reply.Bytes k → k ≡ 0
  silent d count k is gives = cc

  pub cut_refused : length (with_entry h e).events ≤ 6800000 → (t : Tracks) → AreTracks t h → ((next h e).reply ≡ reply.Done → ⊥) → AreTracks t (with_entry h e) × (lines_of_entry h e ≡ [])
  cut_refused few t are other = unmoved h e few refl silent t are (stood_step _ _ _ _ refl) (marks_cut ∙ cut_none _ _ _ _ other)

  module _ (t : Tracks) (are : AreTracks t h) (done : (next h e).reply ≡ reply.Done) where
    abbrev file : CutBehind (world_of h).frame pid fd
    file = cut_behind _ _ _ fd _ done

    abbrev b : OpenFile
    b = file.behind_it

    abbrev r : Through h e fd b
    r = through h e fd b are.sound file.is_behind refl

    pub cut_opened : (v : OpenFile → OpenView) → option_map v (behind (world_of (with_entry h e)).frame pid fd) ≡ None → ⊥
    cut_opened v none = not_opened h e fd b r v none

    pub cut_done : length (with_entry h e).events ≤ 6800000 → (v : OpenFile → OpenView) (view : OpenView) → ((c : OpenFile) → (v c).obj.0 ≡ c.entry.object) → ((c : OpenFile) → (v c).end ≡ c.entry.end)
        → ((c : OpenFile) → (v c).at ≡ offset_of (world_of (with_entry h e)).content c.id) → option_map v (behind (world_of (with_entry h e)).frame pid fd) ≡ Some view
        → (new : Sides) → ((labels : List Categories) (k : History) (hs : List (HoldingOf Marked)) → AreSides t.sides labels k hs → HasEnd k hs view.obj.0 view.end false
        → AreSides new labels k (on_side view.obj.0 view.end (resized gap_mark len) hs))
        → AreTracks (record t { sides = new }) (with_entry h e) × (lines_of_entry h e ≡ [])
    unfolding cut_there
    cut_done few v view object at_end offset is new cut =
        let seen = viewed h e fd b r v _ object at_end offset is in
        let marks =
        marks_cut ∙ ap (λ x. cut_there gap_mark len x (next h e).reply (kept_marks h e)) file.is_behind ∙ ap (λ x. cut_there gap_mark len (Some b) x (kept_marks h e)) done in
        let there = subst (λ o. HasEnd (with_entry h e) (kept_marks h e) o view.end false) (sym seen.0)
        (subst (λ end. HasEnd (with_entry h e) (kept_marks h e) b.entry.object end false) (sym seen.1) (has_end h e fd b r _ (sym r.piped ∙ file.file) _ r.near)) in
        followed h e few refl silent t _ are refl refl _
        (marks ∙ (λ i. on_side (sym seen.0 i) (sym seen.1 i) (resized gap_mark len) (kept_marks h e)))
        (cut _ _ (kept_marks h e) (kept_sides h e are.sound (stood_step _ _ _ _ refl) t.sides t.labels.all.items are.sides) there)
