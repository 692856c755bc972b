-- The marked run, looked at as bytes, is the run.
use Rattle.std.proofs.Common.{◌≡◌, ℕ, suc, List, [], ◌∷◌, map, take, Option, Some, refl, sym, ap, ◌∙◌, ◌≤◌, ◌<◌, ◌+◌, ◌==◌, ◌&&◌, Bool, true, false, length, drop, is_some, if◌then◌else◌}
use Rattle.std.proofs.{Common.{arith, inl, inr}, lemmas.{Bool.{eq-eqb, eqb-true, ne_eqb, Decides.eqb_tells}, List.{take-map, get_or-set_other, get_or-set_same, drop-map, length-drop}}}
use Rattle.std.{proofs.lemmas.List.{length-map, length-take}, specs.{List.flat_map, Option.option_map_or}}
use Rattle.ix_model.specs.{declared.reply.Reply.Reply, history.{Events.{Op, Event}, History.{History, world_of, next, with_entry}, Step.{Given, step_of, run}}, laws.Sound.Sound}
use Rattle.ix_model.specs.{rows.Walks.{OpenFile, behind}, world.{Contents.{offset_of, readable, readable_in, held_at, kept, nothing_held, on_side, side, with_side}, World.World}}
use Rattle.ix_model.{specs.world.World.{Holding, HoldingOf, Frame, at, is_pipe}, proofs.clean.Carrying.{get_or-keep, length-keep}}
use Rattle.ix_flow.specs.{Laws.BytesAreTheRuns, Lines.{Piece, in_front, lines_of_entry, object_read, piece_line, pieces_from, pieces_read}, Marks.{marked_all, opening_marks, marks_after}}
use Rattle.ix_flow.specs.{Marks.{marks_from, marks_of, read_through, read_by, marks_read}, Moves.{moved, bytes_written, edited, taken}, Origins.{Origin, Written, InConfig, Marked, each}}
use Rattle.ix_flow.specs.Origins.{bytes_of, marked_from, gap_mark, origins_of}
use Rattle.ix_flow.proofs.{Mapping.{moved_map, readable_map}, Moving.{step_held, step_bytes, front_of, fronts}, ReadWorlds.{Reading, reading}, Staying.{marks_next, marks_read_is}}
use Rattle.ix_model.specs.history.Events as op
use Rattle.ix_model.specs.declared.reply.Reply.TheVariants as reply

-- the byte of a mark
abbrev pub byte_of : Marked → ℕ
byte_of m = m.byte

-- what marks hold, as bytes
abbrev pub seen : List (HoldingOf Marked) → List Holding
seen ms = map (each byte_of) ms

marked_bytes : (origin : ℕ → Origin) (k : ℕ) (bytes : List ℕ) → bytes_of (marked_from origin k bytes) ≡ bytes
unfolding marked_from
marked_bytes origin k [] = refl
marked_bytes origin k (b ∷ bytes) = ap (λ xs. b ∷ xs) (marked_bytes _ _ _)

opening_seen : (o : ℕ) (hs : List Holding) → seen (marked_all o hs) ≡ hs
unfolding marked_all
opening_seen o [] = refl
opening_seen o (h ∷ hs) = λ i. record { first = marked_bytes (InConfig o) 0 h.first i; second = marked_bytes (InConfig o) 0 h.second i } ∷ opening_seen (suc o) hs i

after_seen : (w : World) (place : ℕ) (e : Event) (ms : List (HoldingOf Marked)) → seen ms ≡ w.content.holdings → seen (marks_after w place e ms) ≡ (step_of w place e).world.content.holdings
after_seen w place e ms is =
    moved_map _ _ _ w _ _ _ ms
    ∙ (λ i. moved 0 (marked_bytes (Written place) 0 (bytes_written e.op) i) w e.pid e.op (step_of w place e) (is i))
    ∙ sym (step_held w _ _ _)

pub run_seen : (w : World) (place : ℕ) (events : List Event) (ms : List (HoldingOf Marked)) → seen ms ≡ w.content.holdings → seen (marks_from w place events ms) ≡ (run w place events).content.holdings
unfolding marks_from
run_seen w place [] ms is = is
run_seen w place (e ∷ events) ms is = run_seen (step_of w place e).world (suc place) events _ (after_seen w _ e ms is)

through_seen : (w : World) (ms : List (HoldingOf Marked)) (b : Option OpenFile) (r : Reply) → seen ms ≡ w.content.holdings → bytes_of (read_through w ms b r) ≡ front_of w b r
unfolding readable
through_seen w ms (Some e) (reply.Bytes k) is =
    sym (take-map byte_of k _)
    ∙ ap (take k) (sym (readable_map byte_of w.frame (offset_of w.content e.id) e ms) ∙ ap (readable_in w.frame (offset_of w.content e.id) e) is)
through_seen w ms b r is = refl

by_seen : (w : World) (ms : List (HoldingOf Marked)) (pid : ℕ) (o : Op) (given : Given) → seen ms ≡ w.content.holdings → bytes_of (read_by w ms pid o given) ≡ fronts w pid o given.reply
unfolding read_by
by_seen w ms pid (op.ReadFd fd count) given is = through_seen w ms _ _ is
by_seen w ms pid o given is = refl

marks_seen : (h : History) → seen (marks_of h) ≡ (world_of h).content.holdings
unfolding marks_of world_of opening_marks
marks_seen h = run_seen _ 1 _ _ (opening_seen 0 _)

pub marked_run : (h : History) → BytesAreTheRuns h
marked_run h = record {
  held = marks_seen h;
  read = λ e. by_seen _ _ _ _ _ (marks_seen h) ∙ sym (step_bytes _ _ _ _);
}

-- The origins that a read gives, and what it leaves of those that stand.

-- the origins that an end of an object can read
abbrev pub origins_at : History → ℕ → ℕ → List Origin
origins_at h o end = origins_of (side end (held_at (marks_of h) o))

-- the origin of a mark
abbrev pub origin_of : Marked → Origin
origin_of m = m.origin

-- ---- one side of what is held
side_changed : {A : Type 0} (end other : ℕ) (now : List A) (h : HoldingOf A) → end < 2 → other < 2 → side end (with_side other now h) ≡ (if end == other then now else side end h)
side_changed {A} end other now h low near = elim (eqb_tells other 0) [
  | inl zero ↦ ap (λ b. side end (if b then first else second)) zero.0 ∙ elim (eqb_tells end 0) [
    | inl same ↦ ap (λ b. if b then now else h.second) same.0 ∙ sym (ap (λ b. if b then now else side end h) (eq-eqb end other (same.1 ∙ sym zero.1)))
    | inr one ↦ ap (λ b. if b then now else h.second) one.0 ∙ sym (ap (λ b. if b then now else side end h) (ne_eqb end other (λ x. one.1 (x ∙ zero.1)))
        ∙ ap (λ b. if b then h.first else h.second) one.0)
  ]
  | inr some ↦ ap (λ b. side end (if b then first else second)) some.0 ∙ elim (eqb_tells end 0) [
    | inl zero ↦ ap (λ b. if b then h.first else now) zero.0 ∙ sym (ap (λ b. if b then now else side end h) (ne_eqb end other (λ x. some.1 (sym x ∙ zero.1)))
        ∙ ap (λ b. if b then h.first else h.second) zero.0)
    | inr one ↦ ap (λ b. if b then h.first else now) one.0 ∙ sym (ap (λ b. if b then now else side end h) (eq-eqb end other (only_one _ _ low near one.1 some.1)))
  ]
]
  where
    first : HoldingOf A
    first = record h { first = now }

    second : HoldingOf A
    second = record h { second = now }

    only_one : (m n : ℕ) → m < 2 → n < 2 → (m ≡ 0 → ⊥) → (n ≡ 0 → ⊥) → m ≡ n
    only_one m n a b c d = omega (arith, a, b, c, d)

-- an end of an object, where one end of one is changed
pub side_on : {A : Type 0} (h : List A → List A) (n other o end : ℕ) (hs : List (HoldingOf A)) → n < length hs → other < 2 → end < 2
    → side end (held_at (on_side n other h hs) o) ≡ (if o == n && end == other then h (side end (held_at hs o)) else side end (held_at hs o))
side_on {A} h n other o end hs inside near low = elim (eqb_tells o n) [
  | inl here ↦
      ap (λ m. side end (held_at (on_side n other h hs) m)) here.1
      ∙ ap (side end) (get_or-set_same hs n _ nothing_held inside)
      ∙ side_changed _ _ _ (held_at hs n) low near
      ∙ there _ refl
      ∙ ap (λ m. if end == other then h (side end (held_at hs m)) else side end (held_at hs m)) (sym here.1)
      ∙ sym (ap (λ b. if b && end == other then h (side end (held_at hs o)) else side end (held_at hs o)) here.0)
  | inr far ↦
      ap (side end) (get_or-set_other hs n o _ nothing_held far.1)
      ∙ sym (ap (λ b. if b && end == other then h (side end (held_at hs o)) else side end (held_at hs o)) far.0)
]
  where
    there : (b : Bool) → (end == other) ≡ b → (if b then h (side other (held_at hs n)) else side end (held_at hs n)) ≡ (if b then h (side end (held_at hs n)) else side end (held_at hs n))
    there true same = ap (λ m. h (side m (held_at hs n))) (sym (eqb-true end other same))
    there false apart = refl

pub taken_side : (b : Bool) (k n other o end : ℕ) (hs : List (HoldingOf Marked)) → n < length hs → other < 2 → end < 2
    → origins_of (side end (held_at (if b then on_side n other (drop k) hs else hs) o)) ≡ (if b && (o == n && end == other) then drop k (origins_of (side end (held_at hs o))) else origins_of
    (side end (held_at hs o)))
taken_side false k n other o end hs inside near low = refl
taken_side true k n other o end hs inside near low = ap origins_of (side_on (drop k) n _ o _ hs inside near low) ∙ go _
  where
    go : (b : Bool) → origins_of (if b then drop k (side end (held_at hs o)) else side end (held_at hs o)) ≡
        (if b then drop k (origins_of (side end (held_at hs o))) else origins_of (side end (held_at hs o)))
    go true = sym (drop-map origin_of k _)
    go false = refl

-- what isn't nothing has a piece
some_pieces : (n : ℕ) (xs : List Origin) → 0 < length xs → 0 < length (pieces_from n xs)
unfolding pieces_from
some_pieces n [] some = absurd (omega (arith, some))
some_pieces n (x ∷ xs) some = go _
  where
    go : (pieces : List Piece) → 0 < length (in_front n x pieces)
    go [] = omega arith
    go (p ∷ pieces) = either _
      where
        either : (b : Bool) → 0 < length (if b then record { first = n; count = suc p.count; origin = x } ∷ pieces else record { first = n; count = 1; origin = x } ∷ p ∷ pieces)
        either true = omega arith
        either false = omega arith

-- ---- what stands after a read
marks_taken : (h : History) (e : Event) (fd count : ℕ) → e.op ≡ op.ReadFd fd count
    → marks_of (with_entry h e) ≡ taken (world_of h).frame (behind (world_of h).frame e.pid fd) (next h e).reply (kept (world_of h).frame (next h e).world.frame (marks_of h))
unfolding edited
marks_taken h e fd count is =
    let ms = kept (world_of h).frame (next h e).world.frame _ in
    marks_next h e ∙ ap (λ o. edited gap_mark (marked_from (Written (length h.events + 1)) 0 (bytes_written e.op)) (world_of h) e.pid o (next h e) ms) is

pub kept_is : (h : History) (e : Event) (o : ℕ) → (is_some (at (world_of h).frame.objects o) && is_some (at (next h e).world.frame.objects o)) ≡ true
    → held_at (kept (world_of h).frame (next h e).world.frame (marks_of h)) o ≡ held_at (marks_of h) o
kept_is h e o both =
    let g = (next h e).world.frame in
    get_or-keep _ _ 0 _ o
    ∙ ap (λ n. if is_some (at ((world_of h).frame).objects n) && is_some (at g.objects n) then held_at (marks_of h) o else nothing_held) (omega arith)
    ∙ ap (λ b. if b then held_at (marks_of h) o else nothing_held) both

-- ---- what is read
module _ (h : History) (e : Event) (fd count k : ℕ) (is : e.op ≡ op.ReadFd fd count) (gives : (next h e).reply ≡ reply.Bytes k) (r : Reading h e fd k) where
  abbrev pub from : ℕ
  from = if is_pipe r.object then 0 else offset_of (world_of h).content r.before.id

  through : marks_read h e ≡ take k (drop from (side r.before.entry.end (held_at (marks_of h) r.before.entry.object)))
  through =
      marks_read_is h e fd _ _ is r.is_before
      ∙ ap (read_through (world_of h) (marks_of h) (Some r.before)) gives
      ∙ ap (λ b. take k (drop (if b then 0 else offset_of (world_of h).content r.before.id) (side r.before.entry.end (held_at (marks_of h) r.before.entry.object)))) r.piped

  pub origins_read : origins_of (marks_read h e) ≡ take k (drop from (origins_at h r.before.entry.object r.before.entry.end))
  origins_read =
      ap origins_of through ∙ sym (take-map origin_of k _) ∙ ap (take k) (sym (drop-map origin_of from _))

  pub read_long : length (origins_of (marks_read h e)) ≡ k
  read_long = length-map _ origin_of ∙ sym (length-map _ (λ m. m.byte)) ∙ ap length ((marked_run h).read e) ∙ r.long

  -- ---- what stands after it
  abbrev pub is_read : ℕ → ℕ → Bool
  is_read o end = is_pipe r.object && (o == r.before.entry.object && end == r.before.entry.end)

  taken_is : marks_of (with_entry h e) ≡ taken (world_of h).frame (Some r.before) (reply.Bytes k) (kept (world_of h).frame (next h e).world.frame (marks_of h))
  taken_is =
      let ms = kept (world_of h).frame (next h e).world.frame _ in
      marks_taken h e fd _ is ∙ ap (λ b. taken (world_of h).frame b (next h e).reply ms) r.is_before ∙ ap (λ a. taken (world_of h).frame (Some r.before) a ms) gives

  pub origins_after : (o end : ℕ) → end < 2 → (is_some (at (world_of h).frame.objects o) && is_some (at (next h e).world.frame.objects o)) ≡ true
      → origins_at (with_entry h e) o end ≡ (if is_read o end then drop k (origins_at h o end) else origins_at h o end)
  unfolding taken
  origins_after o end low both =
      let ms = kept (world_of h).frame (next h e).world.frame (marks_of h) in
      ap (λ hs. origins_of (side end (held_at hs o))) (taken_is ∙ ap (λ b. if b then on_side r.before.entry.object r.before.entry.end (drop k) ms else ms) r.piped)
      ∙ taken_side (is_pipe r.object) k r.before.entry.object r.before.entry.end o end ms (omega (
        arith,
        r.inside,
        length-keep nothing_held (λ n. is_some (at (world_of h).frame.objects n) && is_some (at (next h e).world.frame.objects n)) 0 (marks_of h)
            ∙ sym (length-map (marks_of h) (each (λ (m : Marked). m.byte)))
            ∙ ap length ((marked_run h).held),
      )) r.near low
      ∙ ap (λ (x : HoldingOf Marked). if is_read o end then drop k (origins_of (side end x)) else origins_of (side end x)) (kept_is h e o both)

  -- ---- lines
  object_is : object_read h e.pid e.op ≡ r.before.entry.object
  object_is = ap (object_read h e.pid) is ∙ ap (λ b. option_map_or (λ c. c.entry.object) b 0) r.is_before

  pub read_pieces : pieces_read h e ≡ pieces_from 0 (take k (drop from (origins_at h r.before.entry.object r.before.entry.end)))
  read_pieces = ap (pieces_from 0) origins_read

  pub read_lines : lines_of_entry h e ≡ flat_map (piece_line h (length h.events + 1) r.before.entry.object) (pieces_from 0 (take k (drop from (origins_at h r.before.entry.object r.before.entry.end))))
  unfolding lines_of_entry
  read_lines = ap (λ o. flat_map (piece_line h (length h.events + 1) o) (pieces_read h e)) object_is ∙ ap (flat_map _) read_pieces

  -- what is read is there
  pub read_there : 0 < k → from + k ≤ length (origins_at h r.before.entry.object r.before.entry.end)
  read_there some =
      let origins = origins_at h r.before.entry.object r.before.entry.end in
      let b = length-take k (drop from origins) in
      let c = length-drop from origins in
      omega (arith, ap length (sym origins_read) ∙ read_long, b, c, some)

  pub pieces_some : 0 < k → 0 < length (pieces_read h e)
  pieces_some some = some_pieces 0 _ (omega (arith, read_long, some))

-- ---- reads that give nothing
through_nothing : (w : World) (ms : List (HoldingOf Marked)) (b : Option OpenFile) (r : Reply) → ((k : ℕ) → r ≡ reply.Bytes k → k ≡ 0) → read_through w ms b r ≡ []
through_nothing w ms (Some b) (reply.Bytes k) none = ap (λ n. take n (readable_in w.frame (offset_of w.content b.id) b ms)) (none k refl)
through_nothing w ms b r none = refl

by_nothing : (h : History) (e : Event) (o : Op) → ((fd count k : ℕ) → o ≡ op.ReadFd fd count → (next h e).reply ≡ reply.Bytes k → k ≡ 0) → read_by (world_of h) (marks_of h) e.pid o (next h e) ≡ []
unfolding read_by
by_nothing h e (op.ReadFd fd count) none = through_nothing (world_of h) (marks_of h) _ _ (λ k is. none fd _ k refl is)
by_nothing h e o none = refl

-- an entry that is no read, or one that gives no bytes, reads nothing, and has no lines
pub reads_nothing : (h : History) (e : Event) → ((fd count k : ℕ) → e.op ≡ op.ReadFd fd count → (next h e).reply ≡ reply.Bytes k → k ≡ 0) → pieces_read h e ≡ []
unfolding pieces_from
reads_nothing h e none = ap (λ ms. pieces_from 0 (origins_of ms)) (by_nothing h e _ none)

pub tells_nothing : (h : History) (e : Event) → ((fd count k : ℕ) → e.op ≡ op.ReadFd fd count → (next h e).reply ≡ reply.Bytes k → k ≡ 0) → lines_of_entry h e ≡ []
unfolding lines_of_entry
tells_nothing h e none = ap (flat_map _) (reads_nothing h e none)

taken_none : (f : Frame) (b : Option OpenFile) (r : Reply) (hs : List (HoldingOf Marked)) → ((k : ℕ) → r ≡ reply.Bytes k → ⊥) → taken f b r hs ≡ hs
unfolding taken
taken_none f (Some b) (reply.Bytes k) hs none = absurd (none k refl)
taken_none f b r hs none = refl

-- and it leaves what can be read
pub origins_idle : (h : History) (e : Event) (fd count : ℕ) → e.op ≡ op.ReadFd fd count → Sound (world_of h) → ((k : ℕ) → (next h e).reply ≡ reply.Bytes k → k ≡ 0) → (o end : ℕ) → end < 2
    → (is_some (at (world_of h).frame.objects o) && is_some (at (next h e).world.frame.objects o)) ≡ true → origins_at (with_entry h e) o end ≡ origins_at h o end
origins_idle h e fd count is sound none o end low both = go _ refl
  where
    same : (b : Bool) (k : ℕ) (xs : List Origin) → k ≡ 0 → (if b then drop k xs else xs) ≡ xs
    same true k xs zero = ap (λ n. drop n xs) zero
    same false k xs zero = refl

    still : ((k : ℕ) → (next h e).reply ≡ reply.Bytes k → ⊥) → origins_at (with_entry h e) o end ≡ origins_at h o end
    still other =
        ap (λ ms. origins_of (side end (held_at ms o))) (marks_taken h e fd _ is ∙ taken_none _ _ _
        _ other)
        ∙ ap (λ x. origins_of (side end x)) (kept_is h e o both)

    go : (r : Reply) → (next h e).reply ≡ r → origins_at (with_entry h e) o end ≡ origins_at h o end
    go (reply.Bytes k) gives =
        origins_after h e fd count k is gives (reading h e fd _ k sound is gives) o end low both ∙ same _ k _ (none k gives)
    go reply.Done gives = still (λ k bytes. cc)
    go (reply.Number n) gives = still (λ k bytes. cc)
    go (reply.Two x y) gives = still (λ k bytes. cc)
    go (reply.Stat o kind size links frozen cap lic) gives = still (λ k bytes. cc)
    go (reply.Lab l) gives = still (λ k bytes. cc)
    go (reply.Named n o) gives = still (λ k bytes. cc)
    go reply.Half gives = still (λ k bytes. cc)
    go (reply.Whole p l s) gives = still (λ k bytes. cc)
    go (reply.LogLine l) gives = still (λ k bytes. cc)
    go (reply.Child p s) gives = still (λ k bytes. cc)
    go (reply.No why) gives = still (λ k bytes. cc)
