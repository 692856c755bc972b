-- What tracks stand for stays, where an entry more leaves it.
use Rattle.std.proofs.Common.{◌≡◌, ◌<◌, ◌+◌, ◌&&◌, ℕ, true, List, [], length, Option, Some, None, is_some, sym, ap, ◌∙◌, subst, arith, ◌≤◌, false, ◌∷◌, option_map, refl, ◌-◌, ◌++◌, Bool}
use Rattle.std.proofs.{Common.{if◌then◌else◌, set, true≢false, append-nil}, lemmas.List.{length-append, get_or-set_same, Elements.All-get_or}}
use Rattle.std.specs.{Borrow.Bor, List.list_all, Option.option_map_or, Prelude.{All, slice_get}}
use Rattle.ix_label.specs.Category.{Categories, bottom}
use Rattle.ix_model.specs.{declared.{call.Call.Call, ids.Fd.Fd, path.Path.Path, reply.Reply.Reply, views.ProcView.ProcView}, history.{AuditLog.of_process, Calls.op_of, Events.{Event, Op}}}
use Rattle.ix_model.specs.{history.{History.{History, world_of, next, with_entry}, Step.{answer, write_answer, plainly, step}, Views.shown_of}, laws.Sound.Sound}
use Rattle.ix_model.specs.{rows.{OnDescriptors.{LengthChecks, write_fd}, Table.row, Telling.told, Walks.{behind, OpenFile}}, world.Contents.{held_at, side, after_write, carried}}
use Rattle.ix_model.specs.world.{Contents.{change_side, offset_of, on_pipe, on_side, spliced, written_over}, World.{Object, HoldingOf, at, is_pipe, World, Frame, Content}}
use Rattle.ix_model.proofs.{clean.Carrying.length-keep, frames.Frames.frame_of, sound.{Carried.there_is, Following.follows_decided, Soundly.sound_step}, words.Answered.step_frame}
use Rattle.ix_model.proofs.words.{Answered.passed, Ends.{Ends, Anything, ends_bind, ends_opened}, Rowwise.changes_of, Runs.world_of-push}
use Rattle.ix_flow.specs.{Following.{Follows, FollowsInto}, Lines.{pieces_read, with_pieces, Counts, lines_of_entry}, Lowerings.label_of, Marks.marks_of, Moves.{edited, put_there}}
use Rattle.ix_flow.specs.{Origins.{Marked, Origin, Gap, origins_of, Written, gap_mark, marked_from}, Sides.{IsLike, source_in}, Tracking.{AreFalls, AreLabelled, AreSides, AreTracks}}
use Rattle.ix_flow.specs.{Tracking.{IsTracked, IsUnder, counts_of, side_of, HasEnd, IsWrite}, declared.{labels.Labels.Labels, side.Side.Side, sides.Sides.Sides, source.Source.Source}}
use Rattle.ix_flow.{specs.declared.tracks.Tracks.Tracks, proofs.Through.{not_opened, on_pipe_after, through, viewed}}
use Rattle.ix_flow.proofs.{Counting.counts_more, NewObjects.{Stood, stood_step, makes_none}, Quiet.falls_quiet, ReadMarks.{kept_is, reads_nothing, tells_nothing}, ReadWorlds.ends_anyway}
use Rattle.ix_flow.proofs.{ReadWorlds.write_answers, Relabelling.sets_label, Staying.{IsPast, label_stays, origins_past, label_new, marks_next}, Through.{kept_marks, Through, has_end}}
use Rattle.ix_fcalls.specs.Spots.{view_through}
use Rattle.ix_open.specs.declared.view.OpenView.{OpenView}
use Rattle.ix_model.specs.history.Events as op
use Rattle.ix_model.specs.declared.reply.Reply.TheVariants as reply
use Rattle.ix_flow.specs.declared.source.Source.TheVariants as source
use Rattle.ix_flow.specs.declared.sides.Written as written_type
use Rattle.ix_model.specs.declared.call.Call.TheVariants as call

module _ (h : History) (e : Event) where
  -- ---- labels
  -- what came in by then keeps the label that it was written under
  pub labelled_next : (labels : List Categories) (s : Side) (origins : List Origin) → IsLike s origins → All (IsPast (length h.events)) origins → AreLabelled labels h s
      → AreLabelled labels (with_entry h e) s
  labelled_next labels s origins like past labelled = λ n low high.
      subst (IsUnder labels (source_in s.runs.entries n)) (sym (label_stays h e _ (subst (IsPast (length h.events)) (like.each n low high)
      (All-get_or (IsPast (length h.events)) origins _ Gap (omega (arith, low, high, like.long)) past)))) (labelled n low high)

  pub tracked_next : (labels : List Categories) (s : Option Side) (origins : List Origin) → All (IsPast (length h.events)) origins → IsTracked labels h s origins
      → IsTracked labels (with_entry h e) s origins
  tracked_next labels None origins past tracked = tracked
  tracked_next labels (Some s) origins past tracked = (tracked.0, labelled_next _ s _ tracked.0 past tracked.1)

  -- ---- objects
  -- what stands before and after an entry is of one kind
  pub kind_stays : Sound (world_of h) → (o : ℕ) (x y : Object) → at (world_of h).frame.objects o ≡ Some x → at (next h e).world.frame.objects o ≡ Some y → is_pipe y ≡ is_pipe x
  kind_stays sound o x y is here =
      let last = length h.events + 1 in
      ((follows_decided _ (frame_of _ sound) (told (world_of h) e.pid e.op) last e.pid e.op).kinds.same o x y is
      (ap (λ f. at f.objects o) (sym (step_frame (world_of h) last e.pid e.op)) ∙ here)).pipe

  -- ---- sides
  -- Sides that stood for what is held stand for it after an entry, where all that lives on can read the same, and came in before.
  pub sides_next : Sound (world_of h) → Stood (world_of h).frame (next h e).world.frame → (s : Sides) (labels : List Categories) (hs ms : List (HoldingOf Marked)) → AreSides s labels h hs
      → ((o end : ℕ) (x : Object) → end < 2 → at (world_of h).frame.objects o ≡ Some x → is_some (at (next h e).world.frame.objects o) ≡ true
      → (origins_of (side end (held_at ms o)) ≡ origins_of (side end (held_at hs o))) × All (IsPast (length h.events)) (origins_of (side end (held_at hs o))))
      → AreSides s labels (with_entry h e) ms
  sides_next sound stood s labels hs ms are same =
      let now = world_of-push h e in
      let stands : (o : ℕ) (y : Object) → at (next h e).world.frame.objects o ≡ Some y → (x : Object) × (at (world_of h).frame.objects o ≡ Some x) = λ o y is. there_is
      _ (stood.objects o y is) in
      record {
        tracked = λ o end low lives.
            let here = ap (λ w. is_some (at w.frame.objects o)) (sym now) ∙ lives in
            let y = there_is (at _ o) here in
            let x = stands o y.0 y.1 in
            let known = same o _ x.0 low x.1 here in
            subst (IsTracked labels (with_entry h e) (side_of s o end)) (sym known.0) (tracked_next _ _ _ known.1
            (are.tracked o end low (ap is_some x.1)));
        first = λ o end y found low is file there.
            let here = ap (λ w. at w.frame.objects o) (sym now) ∙ is in
            let x = stands o y here in
            are.first o end x.0 found low x.1 (sym (kind_stays sound o _ y x.1 here) ∙ file) there;
      }

  -- Tracks that stood for a history stand for the one with an entry more that reads nothing, lets nothing down and makes nothing,
  -- where all that lives on can read the same.
  pub tracks_idle : (t : Tracks) → AreTracks t h → Stood (world_of h).frame (next h e).world.frame → pieces_read h e ≡ [] → AreFalls t.falls (with_entry h e)
      → ((o end : ℕ) → end < 2 → (is_some (at (world_of h).frame.objects o) && is_some (at (next h e).world.frame.objects o)) ≡ true
      → origins_of (side end (held_at (marks_of (with_entry h e)) o)) ≡ origins_of (side end (held_at (marks_of h) o)))
      → AreTracks t (with_entry h e)
  tracks_idle t are stood none falls same = record {
    sound = subst Sound (sym (world_of-push h e)) (sound_step _ _ _ _ are.sound);
    sides = sides_next are.sound stood _ _ _ _ are.sides
        (λ o end x low there lives. (same o _ low (λ i. is_some (there i) && lives i), origins_past h o _ x there));
    falls = falls;
    counts = are.counts ∙ sym (counts_more h e ∙ ap (λ ps. with_pieces ps (counts_of h)) none);
  }

-- What tracks stand for after an entry that reads nothing, from what their sides stand for.

-- ---- labels
-- with more labels, each where it was, what sides stand for stays
under_more : (labels more : List Categories) → ((n : ℕ) (l : Categories) → slice_get labels n ≡ Some l → slice_get more n ≡ Some l) → (x : Source) (l : Categories) → IsUnder labels x l
    → IsUnder more x l
under_more labels more stays (source.Write place start label) l is = stays _ l is
under_more labels more stays (source.File object label) l is = stays _ l is
under_more labels more stays source.Gap l is = tt

pub tracked_more : (labels more : List Categories) → ((n : ℕ) (l : Categories) → slice_get labels n ≡ Some l → slice_get more n ≡ Some l)
    → (h : History) (x : Option Side) (origins : List Origin) → IsTracked labels h x origins → IsTracked more h x origins
tracked_more labels more stays h None origins is = is
tracked_more labels more stays h (Some x) origins is = (
  is.0,
  λ n low high. under_more _ _ stays _ _
      (is.1 n low high),
)

pub sides_more : (labels more : List Categories) → ((n : ℕ) (l : Categories) → slice_get labels n ≡ Some l → slice_get more n ≡ Some l) → (s : Sides) (h : History) (hs : List (HoldingOf Marked))
    → AreSides s labels h hs → AreSides s more h hs
sides_more labels more stays s h hs are = record {
  tracked = λ o end low lives. tracked_more _ _ stays h _ _ (are.tracked o end low lives);
  first = are.first;
}

-- how many reads and lines were counted
abbrev pub counts_in : Tracks → Counts
counts_in t = record { reads = t.reads; lines = t.lines }

module _ (h : History) (e : Event) (sound : Sound (world_of h)) where
  -- ---- what is kept
  pub kept_sides : Stood (world_of h).frame (next h e).world.frame → (s : Sides) (labels : List Categories) → AreSides s labels h (marks_of h) → AreSides s labels (with_entry h e) (kept_marks h e)
  kept_sides stood s labels are = sides_next h e sound stood s _ _ _ are (λ o end x low there lives.
      (ap (λ y. origins_of (side end y)) (kept_is h e o (λ i. is_some (there i) && lives i)), origins_past h o _ x there))

  -- ---- the whole
  -- tracks whose sides stand for what is held after the entry, and which are else as they were
  pub tracks_now : (t u : Tracks) → AreTracks t h → counts_in u ≡ counts_in t → pieces_read h e ≡ [] → AreFalls u.falls (with_entry h e)
      → (ms : List (HoldingOf Marked)) → marks_of (with_entry h e) ≡ ms → AreSides u.sides u.labels.all.items (with_entry h e) ms → AreTracks u (with_entry h e)
  tracks_now t u are same none falls ms is sides = record {
    sound = subst Sound (sym (world_of-push h e)) (sound_step _ _ _ _ sound);
    sides = subst (AreSides u.sides _ _) (sym is) sides;
    falls = falls;
    counts = same ∙ are.counts ∙ sym (counts_more h e ∙ ap (λ ps. with_pieces ps (counts_of h)) none);
  }

-- ---- the history that it led to
-- what holds of a history with one entry more holds of the one that it led to
pub led : (u : Tracks) (h now : History) (e : Event) (L : Type 0) → now ≡ with_entry h e → AreTracks u (with_entry h e) × L → AreTracks u now × L
led u h now e L is holds = (subst (AreTracks u) (sym is) holds.0, holds.1)

pub few_then : (h now : History) (e : Event) → now ≡ with_entry h e → length now.events ≤ 6800000 → length (with_entry h e).events ≤ 6800000
few_then h now e is few = subst (λ k. length k.events ≤ 6800000) is few

-- what is told of an open entry in the one is told of it in the other
pub told_then : (h now : History) (e : Event) (pid fd : ℕ) (found told : Option OpenView) → now ≡ with_entry h e
    → found ≡ option_map (view_through (world_of now)) (behind (world_of now).frame pid fd) → found ≡ told
    → option_map (view_through (world_of (with_entry h e))) (behind (world_of (with_entry h e)).frame pid fd) ≡ told
told_then h now e pid fd found told is ensures gives = ap (λ k. option_map (view_through (world_of k)) (behind (world_of k).frame pid fd)) (sym is) ∙ sym ensures ∙ gives

-- and so is what is shown of a process
pub shown_then : (h now : History) (e : Event) (pid : ℕ) (found shown : Option ProcView) → now ≡ with_entry h e → found ≡ option_map shown_of (at (world_of now).frame.processes pid) → found ≡ shown
    → option_map shown_of (at (world_of (with_entry h e)).frame.processes pid) ≡ shown
shown_then h now e pid found shown is ensures gives = ap (λ k. option_map shown_of (at (world_of k).frame.processes pid)) (sym is) ∙ sym ensures ∙ gives

-- ---- an entry that reads nothing and sets no object's label
module _ (h : History) (e : Event) (few : length (with_entry h e).events ≤ 6800000) (quiet : sets_label e.op ≡ false)
    (silent : (fd count k : ℕ) → e.op ≡ op.ReadFd fd count → (next h e).reply ≡ reply.Bytes k → k ≡ 0) where
  -- tracks whose sides alone have changed, and stand for what is held after it
  pub followed : (t u : Tracks) → AreTracks t h → counts_in u ≡ counts_in t → u.falls ≡ t.falls → (ms : List (HoldingOf Marked)) → marks_of (with_entry h e) ≡ ms
      → AreSides u.sides u.labels.all.items (with_entry h e) ms
      → AreTracks u (with_entry h e) × (lines_of_entry h e ≡ [])
  followed t u are same lowered ms is sides = (
    tracks_now h e are.sound t u are same (reads_nothing h e silent)
        (subst (λ f. AreFalls f (with_entry h e)) (sym lowered) (falls_quiet _ h e are.falls quiet (omega (arith, few, length-append h.events (e ∷ []))))) ms is sides,
    tells_nothing h e silent,
  )

  -- tracks that are as they were, where what objects hold is kept and nothing is made
  pub unmoved : (t : Tracks) → AreTracks t h → Stood (world_of h).frame (next h e).world.frame → marks_of (with_entry h e) ≡ kept_marks h e → AreTracks t (with_entry h e) × (lines_of_entry h e ≡ [])
  unmoved t are stood is = followed t t are refl refl _ is (kept_sides h e are.sound stood t.sides t.labels.all.items are.sides)

-- What tracks stand for after a write.

-- ---- what stands behind the descriptor
writes_behind : (t : LengthChecks) (pid fd : ℕ) (f : Frame) → Ends (write_fd t pid fd f) Anything (λ r g. is_some (behind f pid fd) ≡ true)
unfolding write_fd
writes_behind t pid fd f = ends_bind _ _ f _ _ (ends_opened _ fd f _ _ (λ e is. ends_anyway _ _ (ap is_some is)) tt)

pub write_behind : (w : World) (place pid fd : ℕ) (bytes : List ℕ) (k : ℕ) → (step w place pid (op.WriteFd fd bytes)).reply ≡ reply.Number k → (b : OpenFile) × (behind w.frame pid fd ≡ Some b)
unfolding step answer row
write_behind w place pid fd bytes k is =
    let t = told w pid (op.WriteFd fd bytes) in
    there_is _ (passed t _ _ _ _ (λ r g. is_some _ ≡ true) (writes_behind t _ fd _)
    (write_answers w _ _ _ _ k is))

-- ---- the offset
wrote : (w : World) (new : List ℕ) (b : Option OpenFile) (e : OpenFile) (r : Reply) (g : Frame) (k : ℕ) → b ≡ Some e → (write_answer w new b r g).reply ≡ reply.Number k
    → (write_answer w new b r g).world.content ≡ after_write w.frame e new (carried w.frame g w.content)
unfolding write_answer plainly
wrote w new (Some c) e (reply.Number n) g k is gives = ap (λ x. after_write w.frame x new (carried w.frame g w.content)) cc
wrote w new b e r g k is gives = absurd (cc)

step_wrote : (w : World) (place pid fd : ℕ) (bytes : List ℕ) (k : ℕ) (e : OpenFile) → (step w place pid (op.WriteFd fd bytes)).reply ≡ reply.Number k → behind w.frame pid fd ≡ Some e
    → (step w place pid (op.WriteFd fd bytes)).world.content ≡ after_write w.frame e bytes (carried w.frame (step w place pid (op.WriteFd fd bytes)).world.frame w.content)
unfolding step answer
step_wrote w place pid fd bytes k e gives is =
    wrote w _ _ e _ _ k is gives ∙ ap (λ g. after_write w.frame e bytes (carried w.frame g w.content)) (sym (step_frame w _ _ _))

-- a file's offset is past what was written
write_offset : (f : Frame) (e : OpenFile) (new : List ℕ) (c : Content) → on_pipe f e ≡ false → e.id < length c.offsets → offset_of (after_write f e new c) e.id ≡ offset_of c e.id + length new
unfolding after_write
write_offset f e new c file inside = go _ file
  where
    go : (b : Bool) → b ≡ false → offset_of (if b then change_side e.entry.object (1 - e.entry.end) (λ old. old ++ new) c
        else record (change_side e.entry.object e.entry.end (spliced (offset_of c e.id) new) c) { offsets = set c.offsets e.id (offset_of c e.id + length new) }) e.id ≡ offset_of c e.id + length new
    go true is = cc
    go false is = get_or-set_same c.offsets e.id _ 0 inside

carried_offsets : (f g : Frame) (c : Content) → length (carried f g c).offsets ≡ length c.offsets
unfolding carried
carried_offsets f g c = length-keep 0 _ 0 _

-- ---- what is held
put_none : (f : Frame) (c : Content) (new : List Marked) (b : Option OpenFile) (r : Reply) (hs : List (HoldingOf Marked)) → ((k : ℕ) → r ≡ reply.Number k → ⊥) → put_there gap_mark f c new b r hs ≡ hs
unfolding put_there
put_none f c new (Some b) (reply.Number k) hs other = absurd (other k refl)
put_none f c new b r hs other = refl

module _ (h : History) (seat line pid fd : ℕ) (bytes : List ℕ) where
  abbrev e : Event
  e = record { seat = seat; line = line; pid = pid; op = op.WriteFd fd bytes }

  abbrev last : ℕ
  last = length h.events + 1

  abbrev new : List Marked
  new = marked_from (Written last) 0 bytes

  -- what there was, where what stood and stands keeps its own
  abbrev before : Content
  before = carried (world_of h).frame (next h e).world.frame (world_of h).content

  marks_write : marks_of (with_entry h e) ≡ put_there gap_mark (world_of h).frame before new (behind (world_of h).frame pid fd) (next h e).reply (kept_marks h e)
  unfolding edited
  marks_write = marks_next h e

  silent : (d count k : ℕ) → e.op ≡ op.ReadFd d count → (next h e).reply ≡ reply.Bytes k → k ≡ 0
  silent d count k is gives = cc

  pub write_refused : length (with_entry h e).events ≤ 6800000 → (t : Tracks) → AreTracks t h → ((k : ℕ) → (next h e).reply ≡ reply.Number k → ⊥)
      → AreTracks t (with_entry h e) × (lines_of_entry h e ≡ [])
  write_refused few t are other = unmoved h e few refl silent t are (stood_step _ _ _ _ refl)
      (marks_write ∙ put_none _ _ _ _ _ _ other)

  module _ (t : Tracks) (are : AreTracks t h) (k : ℕ) (done : (next h e).reply ≡ reply.Number k) where
    abbrev found : (b : OpenFile) × (behind (world_of h).frame pid fd ≡ Some b)
    found = write_behind _ _ _ fd _ k done

    abbrev b : OpenFile
    b = found.0

    abbrev r : Through h e fd b
    r = through h e fd b are.sound found.1 refl

    pub write_opened : (v : OpenFile → OpenView) → option_map v (behind (world_of (with_entry h e)).frame pid fd) ≡ None → ⊥
    write_opened v none = not_opened h e fd b r v none

    pub write_living : option_map shown_of (at (world_of (with_entry h e)).frame.processes pid) ≡ None → ⊥
    write_living none = let there = sym (ap (option_map shown_of) r.is_caller) ∙ none in absurd (cc)

    -- the label of the writer
    writer_label : (writer : ProcView) → option_map shown_of (at (world_of (with_entry h e)).frame.processes pid) ≡ Some writer → label_of (with_entry h e) (Written last 0) ≡ writer.label
    unfolding of_process
    writer_label writer told =
        let there = sym (ap (option_map shown_of) r.is_caller) ∙ told in
        let one : shown_of r.caller ≡ writer = cc in
        label_new h e 0
        ∙ ap (λ w. of_process (λ p. p.label) bottom w.frame pid) (sym (world_of-push h e))
        ∙ ap (λ p. option_map_or (λ q. q.label) p bottom) r.is_caller
        ∙ ap (λ p. p.label) one

    -- what is held after it
    put_is : marks_of (with_entry h e) ≡ put_there gap_mark (world_of h).frame before new (Some b) (reply.Number k) (kept_marks h e)
    put_is =
        marks_write
        ∙ ap (λ x. put_there gap_mark (world_of h).frame before new x (next h e).reply (kept_marks h e)) found.1
        ∙ ap (λ x. put_there gap_mark (world_of h).frame before new (Some b) x (kept_marks h e)) done

    put_either : (piped : Bool) → is_pipe r.object ≡ piped → put_there gap_mark (world_of h).frame before new (Some b) (reply.Number k) (kept_marks h e)
        ≡ (if piped then on_side b.entry.object (1 - b.entry.end) (λ old. old ++ new) (kept_marks h e) else on_side b.entry.object b.entry.end (written_over gap_mark (offset_of before b.id) new)
        (kept_marks h e))
    unfolding put_there
    put_either piped is = ap (λ c. if c then on_side b.entry.object (1 - b.entry.end) (λ old. old ++ new) (kept_marks h e) else on_side b.entry.object b.entry.end
        (written_over gap_mark (offset_of before b.id) new) (kept_marks h e)) (r.piped ∙ is)

    offset_after : is_pipe r.object ≡ false → offset_of (world_of (with_entry h e)).content b.id ≡ offset_of before b.id + length bytes
    offset_after file =
        let inside : b.id < length before.offsets = let long = carried_offsets (world_of h).frame (next h e).world.frame (world_of h).content in omega
        (arith, long, r.opened, are.sound.lengths.offsets) in
        ap (λ w. offset_of w.content b.id) (world_of-push h e)
        ∙ ap (λ c. offset_of c b.id) (step_wrote _ _ _ fd _ k b done found.1)
        ∙ write_offset _ b _ _ (r.piped ∙ file) inside

    -- ---- what the code makes of it
    module _ (few : length (with_entry h e).events ≤ 6800000) (view : OpenView) (v : OpenFile → OpenView) (object : (c : OpenFile) → (v c).obj.0 ≡ c.entry.object)
        (at_end : (c : OpenFile) → (v c).end ≡ c.entry.end)
        (offset : (c : OpenFile) → (v c).at ≡ offset_of (world_of (with_entry h e)).content c.id) (seen_as : option_map v (behind (world_of (with_entry h e)).frame pid fd) ≡ Some view)
        (writer : ProcView) (seen_by : option_map shown_of (at (world_of (with_entry h e)).frame.processes pid) ≡ Some writer)
        (labels : Labels) (stays : (n : ℕ) (l : Categories) → slice_get t.labels.all.items n ≡ Some l → slice_get labels.all.items n ≡ Some l)
        (place label count : ℕ) (at_last : place ≡ last) (is_label : slice_get labels.all.items label ≡ Some writer.label) (is_count : count ≡ length bytes)
        (sides : Sides) where
      abbrev written : written_type.Written
      written = record { place = place; label = label; count = count }

      abbrev seen : (view.obj.0 ≡ b.entry.object) × (view.end ≡ b.entry.end) × (view.at ≡ offset_of (world_of (with_entry h e)).content b.id)
      seen = viewed h e fd b r v _ object at_end offset seen_as

      is_write : IsWrite labels.all.items (with_entry h e) written bytes
      is_write = record {
        count = is_count;
        label = is_label ∙ ap Some (sym (ap (λ n. label_of (with_entry h e) (Written n 0)) at_last ∙ writer_label _ seen_by));
      }

      -- whether what the code asks is a pipe is one
      abbrev Asked : Bool → Type 0
      Asked piped = piped ≡ option_map_or is_pipe (at (world_of (with_entry h e)).frame.objects view.obj.0) false

      write_piped : (piped : Bool) → Asked piped → is_pipe r.object ≡ piped
      write_piped piped is = sym (is ∙ ap (λ n. option_map_or is_pipe (at (world_of (with_entry h e)).frame.objects n) false) seen.0 ∙ on_pipe_after h e fd b r)

      kept_all : AreSides t.sides labels.all.items (with_entry h e) (kept_marks h e)
      kept_all = sides_more _ _ stays _ _ _ (kept_sides h e are.sound (stood_step _ _ _ _ refl) _ _ are.sides)

      tracks : (ms : List (HoldingOf Marked)) → marks_of (with_entry h e) ≡ ms → AreSides sides labels.all.items (with_entry h e) ms
          → AreTracks (record t { sides = sides; labels = labels }) (with_entry h e) × (lines_of_entry h e ≡ [])
      tracks ms is all = followed h e few refl silent t _ are refl refl ms is all

      pub write_to_pipe : (piped : Bool) → Asked piped → piped ≡ true → (end : ℕ) → end ≡ 1 - view.end
          → ((ls : List Categories) (g : History) (hs : List (HoldingOf Marked)) (bs : List ℕ) → AreSides t.sides ls g hs → HasEnd g hs view.obj.0 end true → IsWrite ls g written bs
          → AreSides sides ls g (on_side view.obj.0 end (λ old. old ++ marked_from (Written place) 0 bs) hs))
          → AreTracks (record t { sides = sides; labels = labels }) (with_entry h e) × (lines_of_entry h e ≡ [])
      write_to_pipe piped asked so end other append =
          let pipe = write_piped _ asked ∙ so in
          let which = other ∙ ap (λ n. 1 - n) seen.1 in
          let marks =
          put_is ∙ put_either _ pipe ∙ (λ i. on_side (sym seen.0 i) (sym which i) (λ old. old ++ marked_from (Written (sym at_last i)) 0 bytes) (kept_marks h e)) in
          tracks _ marks (append _ _ _ bytes kept_all
          (subst (λ o. HasEnd (with_entry h e) (kept_marks h e) o end true) (sym seen.0) (has_end h e fd b r _ pipe _ (omega (arith, which)))) is_write)

      pub write_to_file : (piped : Bool) → Asked piped → piped ≡ false → (from : ℕ) → from ≡ view.at - count
          → ((ls : List Categories) (g : History) (hs : List (HoldingOf Marked)) (bs : List ℕ) → AreSides t.sides ls g hs → HasEnd g hs view.obj.0 view.end false → IsWrite ls g written bs
          → AreSides sides ls g (on_side view.obj.0 view.end (written_over gap_mark from (marked_from (Written place) 0 bs)) hs))
          → AreTracks (record t { sides = sides; labels = labels }) (with_entry h e) × (lines_of_entry h e ≡ [])
      write_to_file piped asked so from starts write =
          let file = write_piped _ asked ∙ so in
          let begun : from ≡ offset_of before b.id = let after = offset_after file in let told = seen.2 in omega (arith, starts, after, told, is_count) in
          let marks =
          put_is ∙ put_either _ file ∙ (λ i. on_side (sym seen.0 i) (sym seen.1 i) (written_over gap_mark (sym begun i) (marked_from (Written (sym at_last i)) 0 bytes)) (kept_marks h e)) in
          tracks _ marks (write labels.all.items (with_entry h e) (kept_marks h e) bytes kept_all
          (subst (λ o. HasEnd (with_entry h e) (kept_marks h e) o view.end false) (sym seen.0)
          (subst (λ end. HasEnd (with_entry h e) (kept_marks h e) b.entry.object end false) (sym seen.1) (has_end h e fd b r _ file _ r.near))) is_write)

-- What tracks stand for after any other entry.

-- whether a call moves nothing, makes no object and sets no object's label
abbrev pub is_quiet : Op → Bool
is_quiet (op.CreateAt path) = false
is_quiet (op.ReadFd fd count) = false
is_quiet (op.WriteFd fd bytes) = false
is_quiet (op.CutFd fd len) = false
is_quiet op.MakePipe = false
is_quiet (op.MakeDir path) = false
is_quiet (op.SetLabel path label) = false
is_quiet (op.Pex fd) = false
is_quiet _ = true

marks_quiet : (h : History) (seat line pid : ℕ) (c : Op) → is_quiet c ≡ true → let e : Event = record { seat = seat; line = line; pid = pid; op = c } in marks_of (with_entry h e) ≡ kept_marks h e
unfolding edited
marks_quiet h seat line pid (op.ReadFd fd count) is = cc
marks_quiet h seat line pid (op.WriteFd fd bytes) is = cc
marks_quiet h seat line pid (op.CutFd fd len) is = cc
marks_quiet h seat line pid (op.Pex fd) is = cc
marks_quiet h seat line pid c is = marks_next h _

quiet_changes : (c : Op) → is_quiet c ≡ true → list_all makes_none (changes_of c) ≡ true
quiet_changes (op.CreateAt path) is = cc
quiet_changes op.MakePipe is = cc
quiet_changes (op.MakeDir path) is = cc
quiet_changes c is = refl

quiet_label : (c : Op) → is_quiet c ≡ true → sets_label c ≡ false
quiet_label (op.SetLabel path label) is = cc
quiet_label c is = refl

reads_not : (c : Op) (fd count : ℕ) → is_quiet c ≡ true → c ≡ op.ReadFd fd count → ⊥
reads_not c fd count is same = true≢false (sym (ap is_quiet (sym same) ∙ is))

-- it leaves the tracks as they are
pub quiet_entry : (h : History) (seat line pid : ℕ) (c : Op) → is_quiet c ≡ true
    → let e : Event = record { seat = seat; line = line; pid = pid; op = c } in length (with_entry h e).events ≤ 6800000 → (t : Tracks) → AreTracks t h
    → AreTracks t (with_entry h e) × (lines_of_entry h e ≡ [])
quiet_entry h seat line pid c is few t are = unmoved h _ few (quiet_label c is) (λ d count k reads gives. absurd (reads_not c d _ is reads)) t are
    (stood_step _ _ _ c (quiet_changes c is)) (marks_quiet h _ _ _ c is)

pub quiet_follows : (t : Tracks) (now : History) (r : Reply) (seat line pid : ℕ) (c : Op) → is_quiet c ≡ true → length now.events ≤ 6800000
    → Follows t t now r (record { seat = seat; line = line; pid = pid; op = c })
quiet_follows t now r seat line pid c is few = λ h step are. led t h _ _ _ step.history (quiet_entry h _ _ _ c is (few_then h _ _ step.history few) t are)

-- what has no lines has them behind any text
pub follows_into : (old new : Tracks) (now : History) (r : Reply) (e : Event) (text : List ℕ) → Follows old new now r e → FollowsInto old new now r e text text
follows_into old new now r e text follows = λ h step are. let led = follows h step are in (led.0, sym (append-nil text) ∙ ap (λ lines. text ++ lines) (sym led.1))

-- ---- calls
-- the calls of the code that are so
pub quiet_call : (x : Call) → ((p : Path) → x ≡ call.CreateAt p → ⊥) → ((fd : Fd) (n : ℕ) → x ≡ call.ReadFd fd n → ⊥) → ((fd : Fd) (bs : Bor (List ℕ)) → x ≡ call.WriteFd fd bs → ⊥)
    → ((fd : Fd) (n : ℕ) → x ≡ call.CutFd fd n → ⊥)
    → (x ≡ call.MakePipe → ⊥) → ((p : Path) → x ≡ call.MakeDir p → ⊥) → ((p : Path) (l : Categories) → x ≡ call.SetLabel p l → ⊥) → ((fd : Fd) → x ≡ call.Pex fd → ⊥) → is_quiet (op_of x) ≡ true
quiet_call (call.CreateAt p) create read write cut pipe dir label pex = absurd (create p refl)
quiet_call (call.ReadFd fd n) create read write cut pipe dir label pex = absurd (read fd n refl)
quiet_call (call.WriteFd fd bs) create read write cut pipe dir label pex = absurd (write fd bs refl)
quiet_call (call.CutFd fd n) create read write cut pipe dir label pex = absurd (cut fd n refl)
quiet_call call.MakePipe create read write cut pipe dir label pex = absurd (pipe refl)
quiet_call (call.MakeDir p) create read write cut pipe dir label pex = absurd (dir p refl)
quiet_call (call.SetLabel p l) create read write cut pipe dir label pex = absurd (label p l refl)
quiet_call (call.Pex fd) create read write cut pipe dir label pex = absurd (pex fd refl)
quiet_call x create read write cut pipe dir label pex = refl
