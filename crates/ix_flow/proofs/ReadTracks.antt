-- What tracks stand for after a read: the bytes that it gave are told, and a pipe's are gone.
use Rattle.std.proofs.Common.{◌≡◌, ◌≤◌, ◌<◌, ◌+◌, ◌-◌, ◌==◌, ◌&&◌, ◌^◌, ℕ, Bool, true, false, List, [], ◌∷◌, length, take, drop, Some, None, is_some, refl, sym, option_map, if◌then◌else◌}
use Rattle.std.proofs.{Common.{ap, ◌∙◌, subst, arith, ◌++◌, append-nil, inl, inr}, lemmas.{Bool.cases_lt, List.{length-map, length-append, Elements.All-drop}}}
use Rattle.std.specs.{List.flat_map, Option.option_map_or, Prelude.All}
use Rattle.ix_label.specs.Category.{Categories}
use Rattle.ix_model.specs.{declared.reply.Reply.Reply, history.{Events.Event, History.{History, world_of, next, with_entry}, Step.step}, laws.Sound.Sound, rows.Walks.{OpenFile, behind}}
use Rattle.ix_model.{specs.world.{Contents.{held_at, offset_of, on_side, side}, World.{HoldingOf, at, is_pipe}}, proofs.{sound.Soundly.sound_step, words.Runs.world_of-push}}
use Rattle.ix_open.specs.declared.view.OpenView.{OpenView}
use Rattle.ix_flow.specs.{Following.IsStep, Lines.{Counts, Piece, lines_of_entry, piece_line, pieces_from, pieces_read, with_pieces}, Marks.marks_of, Origins.{each, Marked, Origin}}
use Rattle.ix_flow.specs.{Origins.origins_of, Reads.{between, IsWithin}, Sides.IsLike, Tracking.{AreLabelled, AreSides, AreTracks, HasEnd, IsTracked, counts_of, side_of, AreFalls}}
use Rattle.ix_flow.{specs.declared.{side.Side.Side, sides.Sides.Sides, tracks.Tracks.Tracks}, proofs.{Staying.origins_past, Writes.{sides_next, tracks_idle}}}
use Rattle.ix_flow.proofs.{Counting.counts_more, NewObjects.{Stood, stood_step}, Quiet.falls_quiet, ReadMarks.{tells_nothing, marked_run, from, origins_after, origins_at, origins_idle}}
use Rattle.ix_flow.proofs.{ReadMarks.{pieces_some, read_lines, read_pieces, read_there, reads_nothing, taken_side}, ReadWorlds.{Reading, reading}, Relabelling.sets_label, Staying.IsPast}
use Rattle.ix_model.specs.history.Events as op
use Rattle.ix_model.specs.declared.reply.Reply.TheVariants as reply

-- a read makes nothing
none_made : (h : History) (e : Event) (fd limit : ℕ) → e.op ≡ op.ReadFd fd limit → Stood (world_of h).frame (next h e).world.frame
none_made h e fd limit is = subst (λ c. Stood (world_of h).frame (step (world_of h) (length h.events + 1) e.pid c).world.frame) (sym is)
    (stood_step (world_of h) (length h.events + 1) e.pid (op.ReadFd fd limit) refl)

module _ (h : History) (e : Event) (fd limit k : ℕ) (is : e.op ≡ op.ReadFd fd limit) (gives : (next h e).reply ≡ reply.Bytes k) (sound : Sound (world_of h)) (r : Reading h e fd k) where
  abbrev o : ℕ
  o = r.before.entry.object

  abbrev end : ℕ
  end = r.before.entry.end

  stood : Stood (world_of h).frame (next h e).world.frame
  stood = none_made h e fd _ is

  -- what is held once a pipe's bytes are taken
  abbrev pub drained : List (HoldingOf Marked)
  drained = if is_pipe r.object then on_side o end (drop k) (marks_of h) else marks_of h

  marks_inside : o < length (marks_of h)
  marks_inside = omega (
    arith,
    sym (length-map _ (each _))
        ∙ ap length ((marked_run h).held),
    r.inside,
  )

  pub has_end : HasEnd h (marks_of h) o end (is_pipe r.object)
  has_end = record { object = r.object; there = r.is_object; kind = refl; within = r.near; inside = marks_inside }

  drained_at : (n other : ℕ) → other < 2 → origins_of (side other (held_at drained n)) ≡ (if is_pipe r.object && (n == o && other == end) then drop k (origins_at h n other) else origins_at h n other)
  drained_at n other low = taken_side _ k o _ n _ _ marks_inside r.near low

  past_either : (b : Bool) (xs : List Origin) → All (IsPast (length h.events)) xs → All (IsPast (length h.events)) (if b then drop k xs else xs)
  past_either true xs past = All-drop (IsPast (length h.events)) k xs past
  past_either false xs past = past

  -- sides that stand for that stand for what is held after the read
  pub sides_read : (s : Sides) (labels : List Categories) → AreSides s labels h drained → AreSides s labels (with_entry h e) (marks_of (with_entry h e))
  sides_read s labels are = sides_next h e sound stood s _ _ _ are (λ n other x low there lives.
      let same = drained_at n _ low in (
        origins_after h e fd _ k is gives r n _ low ((λ i. is_some (there i) && lives i)) ∙ sym same,
        subst (All (IsPast (length h.events))) (sym same) (past_either (is_pipe r.object && (n == o && other == end)) (origins_at h n other) (origins_past h n other x there)),
      ))

  -- ---- what the code is told
  -- what is told of the open entry afterwards
  pub read_view : (v : OpenFile → OpenView) (view : OpenView) → ((b : OpenFile) → (v b).obj.0 ≡ b.entry.object) → ((b : OpenFile) → (v b).end ≡ b.entry.end)
      → ((b : OpenFile) → (v b).at ≡ offset_of (world_of (with_entry h e)).content b.id)
      → option_map v (behind (world_of (with_entry h e)).frame e.pid fd) ≡ Some view
      → (view.obj.0 ≡ o) × (view.end ≡ end) × (is_pipe r.object ≡ false → view.at - k ≡ offset_of (world_of h).content r.before.id)
  read_view v view object at_end offset told =
      let one : v r.after ≡ view = cc in (
        ap (λ x. x.obj.0) (sym one) ∙ object r.after ∙ r.on,
        ap (λ x. x.end) (sym one) ∙ at_end _ ∙ r.end,
        λ file.
            omega (
              arith,
              ap (λ x. x.at) (sym one) ∙ offset _ ∙ ap (offset_of (world_of (with_entry h e)).content) r.id
                  ∙ r.moved file,
            ),
      )

  pub read_opened : (v : OpenFile → OpenView) → option_map v (behind (world_of (with_entry h e)).frame e.pid fd) ≡ None → ⊥
  read_opened v none = absurd (cc)

  -- whether it is on a pipe afterwards
  pub read_piped : option_map_or is_pipe (at (world_of (with_entry h e)).frame.objects o) false ≡ is_pipe r.object
  read_piped = ap (λ x. option_map_or is_pipe x false) r.is_now ∙ r.kind

  -- ---- the side that is read
  pub record SideRead (t : Tracks) (s : Side) : Type 0 where
    pub like : IsLike s (origins_at h o end)
    pub labelled : AreLabelled t.labels.all.items h s
    pub enough : s.front + from h e fd limit k is gives r + k ≤ s.end
    pub first : is_pipe r.object ≡ false → s.front ≡ 0

  tracked : (t : Tracks) → AreTracks t h → IsTracked t.labels.all.items h (side_of t.sides o end) (origins_at h o end)
  tracked t are = are.sides.tracked o end r.near (ap is_some r.is_object)

  pub side_read : (t : Tracks) (s : Side) → AreTracks t h → 0 < k → side_of t.sides o end ≡ Some s → SideRead t s
  side_read t s are some there =
      let known = subst (λ x. IsTracked t.labels.all.items h x (origins_at h o end)) there (tracked t are) in
      let enough = read_there h e fd _ k is gives r some in
      record {
        like = known.0;
        labelled = known.1;
        enough = omega (arith, enough, known.0.long);
        first = λ file. are.sides.first o end r.object s r.near r.is_object file there;
      }

  pub side_there : (t : Tracks) → AreTracks t h → 0 < k → side_of t.sides o end ≡ None → ⊥
  side_there t are some none =
      let long = ap length (subst (λ x. IsTracked t.labels.all.items h x (origins_at h o end)) none (tracked t are)) in
      omega (arith, read_there h e fd _ k is gives r some, long, some)

  -- ---- its lines
  pub read_between : (front : ℕ) → between front (front + from h e fd limit k is gives r) (front + from h e fd limit k is gives r + k) (origins_at h o end) ≡ take k
      (drop (from h e fd limit k is gives r) (origins_at h o end))
  read_between front =
      let at = from h e fd _ k is gives r in
      ap (λ n. take n (drop (front + at - front) (origins_at h o end))) (omega arith)
      ∙ ap (λ n. take k (drop n (origins_at h o end))) (omega arith)

  pub pieces_are : (front first last : ℕ) → first ≡ front + from h e fd limit k is gives r → last ≡ first + k → pieces_from 0 (between front first last (origins_at h o end)) ≡ pieces_read h e
  pieces_are front first last starts ends =
      ap (λ n. pieces_from 0 (between front first n (origins_at h o end))) ends
      ∙ ap (λ n. pieces_from 0 (between front n (n + k) (origins_at h o end))) starts
      ∙ ap (pieces_from 0) (read_between _)
      ∙ sym (read_pieces h e fd _ k is gives r)

  pub lines_are : flat_map (piece_line h (length h.events + 1) o) (pieces_read h e) ≡ lines_of_entry h e
  lines_are = sym (read_lines h e fd _ k is gives r ∙ ap (flat_map _) (sym (read_pieces h e fd _ k is gives r)))

  -- ---- the counts
  counted : (pieces : List Piece) (n : Counts) → 0 < length pieces → with_pieces pieces n ≡ record { reads = n.reads + 1; lines = n.lines + length pieces }
  counted [] n some = absurd (omega (arith, some))
  counted (p ∷ pieces) n some = refl

  pub counts_read : (t : Tracks) → AreTracks t h → 0 < k → record { reads = t.reads + 1; lines = t.lines + length (pieces_read h e) } ≡ counts_of (with_entry h e)
  counts_read t are some =
      ap (λ n. record { reads = n.reads + 1; lines = n.lines + length (pieces_read h e) }) are.counts
      ∙ sym (counts_more h e ∙ counted _ _ (pieces_some h e fd _ k is gives r some))

  -- ---- the whole
  pub read_tracks : (t v : Tracks) (s : Sides) (n : ℕ) → AreTracks t h → 0 < k → length h.events + 2 < 2 ^ 32 → v ≡ record t { reads = t.reads + 1; lines = t.lines + n } → n ≡ length (pieces_read h e)
      → AreSides s t.labels.all.items h drained → AreTracks (record v { sides = s }) (with_entry h e)
  read_tracks t v s n are some few counts lines sides =
      let now : Tracks = record t { sides = s; reads = t.reads + 1; lines = t.lines + n } in
      let stands : AreTracks now (with_entry h e) = record {
        sound = subst Sound (sym (world_of-push h e)) (sound_step _ _ _ _ are.sound);
        sides = sides_read s _ sides;
        falls = falls_quiet _ h e are.falls (ap sets_label is) few;
        counts = ap (λ m. record { reads = t.reads + 1; lines = t.lines + m }) lines ∙ counts_read t are some;
      } in
      subst (λ x. AreTracks (record x { sides = s }) (with_entry h e)) (sym counts) stands

-- a read that gives nothing leaves them, and has no lines
pub read_idle : (h : History) (e : Event) (fd limit : ℕ) → e.op ≡ op.ReadFd fd limit → (t : Tracks) → AreTracks t h → length h.events + 2 < 2 ^ 32
    → ((k : ℕ) → (next h e).reply ≡ reply.Bytes k → k ≡ 0)
    → AreTracks t (with_entry h e) × (lines_of_entry h e ≡ [])
read_idle h e fd limit is t are few none = (
  tracks_idle h e t are (none_made h e fd _ is) (reads_nothing h e (λ d c k read gives. none k gives)) (falls_quiet _ h e are.falls (ap sets_label is) few)
      (origins_idle h e fd _ is are.sound none),
  tells_nothing h e (λ d c k read gives. none k gives),
)

-- What the code knows of a read that it has followed comes to its lines and its tracks.
module _ (now h : History) (e : Event) (fd limit : ℕ) (r : Reply) (step : IsStep h now r e) (is : e.op ≡ op.ReadFd fd limit) (t : Tracks) (are : AreTracks t h)
    (short : length now.events ≤ 6800000) where
  long : length now.events ≡ length h.events + 1
  long = ap (λ x. length x.events) step.history ∙ length-append h.events _

  few : length h.events + 2 < 2 ^ 32
  few = omega (arith, short, long)

  -- ---- reads that give nothing
  pub idle : (out : List ℕ) → ((k : ℕ) → r ≡ reply.Bytes k → k ≡ 0) → AreTracks t now × (out ≡ out ++ lines_of_entry h e)
  idle out none =
      let known = read_idle h e fd _ is t are few (λ k gives. none k (step.reply ∙ gives)) in
      (subst (AreTracks t) (sym step.history) known.0, sym (append-nil out) ∙ ap (λ x. out ++ x) (sym known.1))

  -- ---- reads that give bytes
  module _ (k : ℕ) (bytes : r ≡ reply.Bytes k) (some : k ≡ 0 → ⊥) where
    above : 0 < k
    above = elim (cases_lt 0 k) [ inl low ↦ low | inr high ↦ absurd (some (omega (arith, high))) ]

    gives : (next h e).reply ≡ reply.Bytes k
    gives = sym step.reply ∙ bytes

    known : Reading h e fd k
    known = reading h e fd _ k are.sound is gives

    pub is_opened : (v : OpenFile → OpenView) → option_map v (behind (world_of now).frame e.pid fd) ≡ None → ⊥
    is_opened v none = read_opened h e fd _ k is gives are.sound known v (sym (ap (λ x. option_map v (behind (world_of x).frame e.pid fd)) step.history) ∙ none)

    -- what is told of the open entry
    module _ (v : OpenFile → OpenView) (view : OpenView) (object : (b : OpenFile) → (v b).obj.0 ≡ b.entry.object) (ending : (b : OpenFile) → (v b).end ≡ b.entry.end)
        (stands : (b : OpenFile) → (v b).at ≡ offset_of (world_of now).content b.id)
        (opened : option_map v (behind (world_of now).frame e.pid fd) ≡ Some view) where
      seen : (view.obj.0 ≡ known.before.entry.object) × (view.end ≡ known.before.entry.end) × (is_pipe known.object ≡ false → view.at - k ≡ offset_of (world_of h).content known.before.id)
      seen = read_view h e fd _ k is gives are.sound known v _ object ending (λ b. stands b ∙ ap (λ x. offset_of (world_of x).content b.id) step.history)
          (sym (ap (λ x. option_map v (behind (world_of x).frame e.pid fd)) step.history) ∙ opened)

      side_is : side_of t.sides view.obj.0 view.end ≡ side_of t.sides known.before.entry.object known.before.entry.end
      side_is = ap (λ n. side_of t.sides n view.end) seen.0 ∙ ap (side_of t.sides _) seen.1

      pub has_side : side_of t.sides view.obj.0 view.end ≡ None → ⊥
      has_side none = side_there h e fd _ k is gives are.sound known t are above (sym side_is ∙ none)

      -- what is told of the side, of the text, and of the sides afterwards
      module _ (side : Side) (found : side_of t.sides view.obj.0 view.end ≡ Some side) (piped : Bool) (by_kind : piped ≡ option_map_or is_pipe (at (world_of now).frame.objects view.obj.0) false)
          (first : ℕ)
          (begins : first ≡ (if piped then side.front else view.at - k)) where
        pipe : piped ≡ is_pipe known.object
        pipe =
            by_kind ∙ ap (λ x. option_map_or is_pipe (at (world_of x).frame.objects view.obj.0) false) step.history
            ∙ ap (λ n. option_map_or is_pipe (at (world_of (with_entry h e)).frame.objects n) false) seen.0
            ∙ read_piped h e fd _ k is gives are.sound known

        read_here : SideRead h e fd limit k is gives are.sound known t side
        read_here = side_read h e fd _ k is gives are.sound known t _ are above (sym side_is ∙ found)

        starts : first ≡ side.front + from h e fd limit k is gives known
        starts = begins ∙ ap (λ b. if b then side.front else view.at - k) pipe ∙ go _ refl
          where
            go : (b : Bool) → is_pipe known.object ≡ b → (if b then side.front else view.at - k) ≡ side.front + (if b then 0 else offset_of (world_of h).content known.before.id)
            go true pipe = omega arith
            go false file = let zero = read_here.first file in omega (arith, seen.2 file, zero)

        within : (place : ℕ) → IsWithin (record { place = place; object = view.obj; from = first; count = k }) side
        within place = record { front = omega (arith, starts); end = omega (arith, starts, read_here.enough) }

        pieces : pieces_from 0 (between side.front first (first + k) (origins_at h known.before.entry.object known.before.entry.end)) ≡ pieces_read h e
        pieces = pieces_are h e fd _ k is gives are.sound known _ _ _ starts refl

        pub followed : (u : Tracks) (s : Sides) (place n : ℕ) (out new : List ℕ) → place ≡ length now.events
            → ((before : History) (origins : List Origin) → IsWithin (record { place = place; object = view.obj; from = first; count = k }) side → IsLike side origins
            → AreLabelled t.labels.all.items before side → AreFalls t.falls before
            → new ≡ out ++ flat_map (piece_line before place view.obj.0) (pieces_from 0 (between side.front first (first + k) origins)))
            → ((origins : List Origin) → IsWithin (record { place = place; object = view.obj; from = first; count = k }) side → IsLike side origins
            → n ≡ length (pieces_from 0 (between side.front first (first + k) origins)))
            → u ≡ record t { reads = t.reads + 1; lines = t.lines + n }
            → ((labels : List Categories) (before : History) → AreSides t.sides labels before (marks_of before) → HasEnd before (marks_of before) view.obj.0 view.end piped
            → AreSides s labels before (if piped then on_side view.obj.0 view.end (drop k) (marks_of before) else marks_of before))
            → AreTracks (record u { sides = s }) now × (new ≡ out ++ lines_of_entry h e)
        followed u s place n out new place_is told counted counts sides =
            let origins = origins_at h known.before.entry.object known.before.entry.end in
            let last = place_is ∙ long in
            let there =
            subst (λ b. HasEnd h (marks_of h) view.obj.0 view.end b) (sym pipe)
            (subst (λ m. HasEnd h (marks_of h) view.obj.0 m (is_pipe known.object)) (sym seen.1)
            (subst (λ m. HasEnd h (marks_of h) m known.before.entry.end (is_pipe known.object)) (sym seen.0) (has_end h e fd _ k is gives are.sound known))) in
            let left =
            subst (λ m. AreSides s t.labels.all.items h (if is_pipe known.object then on_side known.before.entry.object m (drop k) (marks_of h) else marks_of h)) seen.1
            (subst (λ m. AreSides s t.labels.all.items h (if is_pipe known.object then on_side m view.end (drop k) (marks_of h) else marks_of h)) seen.0
            (subst (λ b. AreSides s t.labels.all.items h (if b then on_side view.obj.0 view.end (drop k) (marks_of h) else marks_of h)) pipe
            (sides t.labels.all.items h are.sides there))) in (
              subst (AreTracks (record u { sides = s })) (sym step.history)
                  (read_tracks h e fd _ k is gives are.sound known t u s n are above few counts (counted _ (within place) read_here.like ∙ ap length pieces) left),
              told h origins (within _) read_here.like read_here.labelled are.falls
                  ∙ ap (λ ps. out ++ flat_map (piece_line h place view.obj.0) ps) pieces
                  ∙ ap (λ m. out ++ flat_map (piece_line h m view.obj.0) (pieces_read h e)) last
                  ∙ ap (λ m. out ++ flat_map (piece_line h (length h.events + 1) m) (pieces_read h e)) seen.0
                  ∙ ap (λ x. out ++ x) (lines_are h e fd _ k is gives are.sound known),
            )
