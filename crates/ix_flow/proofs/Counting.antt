-- How many reads and lines there are after one entry more, and at most.
use Rattle.std.proofs.Common.{◌≡◌, ◌≤◌, ◌+◌, ◌*◌, ℕ, suc, Bool, true, false, List, [], ◌∷◌, ◌++◌, length, Option, Some, if◌then◌else◌, refl, sym, ap, ◌∙◌, arith, append-nil, append_assoc}
use Rattle.std.proofs.{Common.subst, lemmas.List.{length-map, length-take}}
use Rattle.ix_model.specs.{declared.reply.Reply.Reply, history.{Events.{Op, Event}, History.{History, world_of, next, with_entry}, Step.step}, rows.Walks.{OpenFile, behind}}
use Rattle.ix_model.specs.world.Contents.{offset_of, readable_in}
use Rattle.ix_flow.specs.{Lines.{Counts, Piece, in_front, pieces_from, pieces_read, with_pieces}, Marks.{marks_of, marks_read, read_by, read_through}, Origins.{Origin, origins_of}}
use Rattle.ix_flow.{specs.Tracking.{counts_from, counts_of}, proofs.ReadWorlds.read_few}
use Rattle.ix_model.specs.history.Events as op
use Rattle.ix_model.specs.declared.reply.Reply.TheVariants as reply

-- ---- one entry more
counts_push : (h : History) (n : Counts) (events : List Event) (e : Event) → counts_from h n (events ++ e ∷ []) ≡ with_pieces (pieces_read (record h { events = h.events ++ events }) e)
    (counts_from h n events)
unfolding counts_from
counts_push h n [] e = ap (λ xs. with_pieces (pieces_read (record h { events = xs }) e) n) (sym (append-nil h.events))
counts_push h n (x ∷ events) e =
    counts_push (with_entry h x) (with_pieces (pieces_read h x) n) _ e
    ∙ ap (λ xs. with_pieces (pieces_read (record h { events = xs }) e) (counts_from (with_entry h x) (with_pieces (pieces_read h x) n) events)) (append_assoc h.events _ events)

pub counts_more : (h : History) (e : Event) → counts_of (with_entry h e) ≡ with_pieces (pieces_read h e) (counts_of h)
counts_more h e = counts_push _ _ _ e

-- ---- not too many
pieces_few : (n : ℕ) (xs : List Origin) → length (pieces_from n xs) ≤ length xs
unfolding pieces_from
pieces_few n [] = omega arith
pieces_few n (x ∷ xs) = let one = go (pieces_from (suc n) xs) in omega (arith, pieces_few (suc n) xs, one)
  where
    go : (pieces : List Piece) → length (in_front n x pieces) ≤ suc (length pieces)
    go [] = omega arith
    go (p ∷ pieces) = either _
      where
        either : (b : Bool) → length (if b then record { first = n; count = suc p.count; origin = x } ∷ pieces else record { first = n; count = 1; origin = x } ∷ p ∷ pieces) ≤ suc
            (suc (length pieces))
        either true = omega arith
        either false = omega arith

marks_few : (h : History) (pid fd count : ℕ) (b : Option OpenFile) (r : Reply) → behind (world_of h).frame pid fd ≡ b → (step (world_of h) (length h.events + 1) pid (op.ReadFd fd count)).reply ≡ r
    → length (read_through (world_of h) (marks_of h) b r) ≤ 4096
marks_few h pid fd count (Some e) (reply.Bytes k) there gives =
    let many = length-take k (readable_in (world_of h).frame (offset_of (world_of h).content e.id) e (marks_of h)) in
    omega (arith, read_few _ _ _ fd _ k e gives there, many)
marks_few h pid fd count b r there gives = omega arith

by_few : (h : History) (e : Event) (o : Op) → e.op ≡ o → length (read_by (world_of h) (marks_of h) e.pid o (next h e)) ≤ 4096
unfolding read_by
by_few h e (op.ReadFd fd count) is = marks_few h _ fd count _ _ refl (ap (λ o. (step (world_of h) (length h.events + 1) e.pid o).reply) (sym is))
by_few h e o is = omega arith

-- an entry has at most 4096 lines
pub lines_few : (h : History) (e : Event) → length (pieces_read h e) ≤ 4096
lines_few h e =
    let lines = pieces_few 0 (origins_of (marks_read h e)) in
    let same = length-map (marks_read h e) (λ m. m.origin) in
    omega (arith, by_few h e _ refl, lines, same)

-- so many entries make at most so many reads and lines
record AreFew (n : Counts) (entries : ℕ) : Type 0 where
  reads : n.reads ≤ entries
  lines : n.lines ≤ 4096 * entries

few_with : (pieces : List Piece) (n : Counts) (entries : ℕ) → length pieces ≤ 4096 → AreFew n entries → AreFew (with_pieces pieces n) (entries + 1)
few_with [] n entries short few = record { reads = omega (arith, few.reads); lines = omega (arith, few.lines) }
few_with (p ∷ pieces) n entries short few = record { reads = omega (arith, few.reads); lines = omega (arith, few.lines, short) }

few_from : (h : History) (n : Counts) (events : List Event) (entries : ℕ) → AreFew n entries → AreFew (counts_from h n events) (entries + length events)
unfolding counts_from
few_from h n [] entries few = subst (AreFew n) (omega arith) few
few_from h n (e ∷ events) entries few =
    subst (AreFew (counts_from (with_entry h e) (with_pieces (pieces_read h e) n) events)) (omega arith)
    (few_from (with_entry h e) _ events _ (few_with _ n _ (lines_few h e) few))

pub counts_few : (h : History) → ((counts_of h).reads ≤ length h.events) × ((counts_of h).lines ≤ 4096 * length h.events)
counts_few h =
    let few = few_from (record { config = h.config; events = [] }) (record { reads = 0; lines = 0 }) h.events 0 (record { reads = omega arith; lines = omega arith }) in
    (omega (arith, few.reads), omega (arith, few.lines))
