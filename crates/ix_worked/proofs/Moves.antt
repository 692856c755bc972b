-- A session by what each of its entries changes. The worlds that it goes through have no names: each is made from the one before it.
use Rattle.std.proofs.Common.{◌≡◌, ℕ, suc, List, [], ◌∷◌, ◌++◌, take, drop, length, slice_index_or, refl, ap, arith}
use Rattle.ix_model.specs.{world.World.World, history.{Step.{Given, answer, run}, Events.Event}, opening.Opening.opening_world}
use Rattle.ix_model.specs.{rows.{Table.{Decision, verdict}, Telling.told}, declared.{config.Config.Config, refusal.Refusal.Refusal, reply.Reply.Reply}}
use Rattle.ix_worked.{specs.Sessions.{Line, Shown, lines_of, shown, calls, log_of}, proofs.Chains.gives_some}
use Rattle.ix_worked.proofs.Chains.{◌⨾◌, Gives, decision_before, lines_by, lines_given, shown_by, shown_given, log_by, log_given, last_of, run_given}
use Rattle.ix_model.specs.declared.reply.Reply.TheVariants as reply

-- what an entry changes, and what it gives from the world before it
abbrev pub Change : Type 0
Change = World → World

abbrev pub Move : Type 0
Move = World → Given

-- an answer by a number, one by bytes, and any other, with what changes
abbrev pub number : ℕ → Change → Move
number n change w = record { world = change w; reply = reply.Number n; bytes = [] }

abbrev pub bytes : List ℕ → Change → Move
bytes text change w = record { world = change w; reply = reply.Bytes (length text); bytes = text }

abbrev pub answers : Reply → Change → Move
answers r change w = record { world = change w; reply = r; bytes = [] }

abbrev pub done : Change → Move
done = answers reply.Done

-- a refusal that changes the caller's label, and one that changes nothing
abbrev pub refuses_at : Refusal → Change → Move
refuses_at why = answers (reply.No why)

abbrev pub same : Change
same w = w

-- all is as it was at first
abbrev pub back_to : Config → Change
back_to c w = opening_world c

abbrev pub refuses : Refusal → Move
refuses why = refuses_at why same

infixr 9 ◌▸◌
-- one change after another
abbrev pub ◌▸◌ : Change → Change → Change
(first ▸ second) w = second (first w)

-- what is given, one after another
abbrev pub given : World → List Move → List Given
given w [] = []
given w (m ∷ moves) = m w ∷ given (m w).world moves

-- what is decided at each entry on the frame, and what it is to be
abbrev pub decided : World → ℕ → List Event → List Move → List Decision
decided w place [] moves = []
decided w place (e ∷ events) [] = verdict (told w e.pid e.op) place e.pid e.op w.frame ∷ []
decided w place (e ∷ events) (m ∷ moves) = verdict (told w e.pid e.op) place e.pid e.op w.frame ∷ decided (m w).world (suc place) events moves

abbrev pub before : World → List Event → List Move → List Decision
before w [] moves = []
before w (e ∷ events) [] = []
before w (e ∷ events) (m ∷ moves) = decision_before e.op (m w) ∷ before (m w).world events moves

-- what is answered at each from the content, and what it is to be
abbrev pub answered : World → List Event → List Move → List Given
answered w [] moves = []
answered w (e ∷ events) [] = []
answered w (e ∷ events) (m ∷ moves) = answer w e.pid e.op (decision_before e.op (m w)) ∷ answered (m w).world events moves

abbrev pub after : World → List Event → List Move → List Given
after w [] moves = []
after w (e ∷ events) [] = []
after w (e ∷ events) (m ∷ moves) = m w ∷ after (m w).world events moves

-- equal lists have equal heads and rests
head : {A : Type 0} {a b : A} {xs ys : List A} → a ∷ xs ≡ b ∷ ys → a ≡ b
head {a = a} h = ap (λ l. slice_index_or l 0 a) h

rest : {A : Type 0} {a b : A} {xs ys : List A} → a ∷ xs ≡ b ∷ ys → xs ≡ ys
rest h = ap (drop 1) h

-- both equations are those of each entry
pub each_gives : (w : World) (place : ℕ) (events : List Event) (moves : List Move) → decided w place events moves ≡ before w events moves
    → answered w events moves ≡ after w events moves → Gives w place events (given w moves)
each_gives w place [] moves h k = tt
each_gives w place (e ∷ events) [] h k = cc
each_gives w place (e ∷ events) (m ∷ moves) h k = (head h, head k) ⨾ each_gives (m w).world (suc place) events moves (rest h) (rest k)

-- the place and the world after these
abbrev pub place_after : ℕ → List Event → ℕ
place_after place [] = place
place_after place (e ∷ events) = place_after (suc place) events

abbrev pub left_by : World → List Move → World
left_by w [] = w
left_by w (m ∷ moves) = left_by (m w).world moves

-- one part after another: a long session is computed so
pub goes_on : (w : World) (place : ℕ) (events more : List Event) (moves further : List Move) → length events ≡ length moves → Gives w place events (given w moves)
    → Gives (left_by w moves) (place_after place events) more (given (left_by w moves) further) → Gives w place (events ++ more) (given w (moves ++ further))
goes_on w place [] more [] further same h k = k
goes_on w place [] more (m ∷ moves) further same h k = absurd (omega arith)
goes_on w place (e ∷ events) more [] further same h k = absurd h
goes_on w place (e ∷ events) more (m ∷ moves) further same (g ⨾ gs) k = g ⨾ goes_on (m w).world (suc place) events more moves further (omega arith) gs k

-- a session from a config goes by these moves
abbrev pub GoesBy : Config → List Event → List Move → Type 0
GoesBy c events moves = Gives (opening_world c) 1 events (given (opening_world c) moves)

pub goes : (c : Config) (events : List Event) (moves : List Move) → decided (opening_world c) 1 events moves ≡ before (opening_world c) events moves
    → answered (opening_world c) events moves ≡ after (opening_world c) events moves → GoesBy c events moves
goes c events moves h k = each_gives _ 1 _ _ h k

-- what it shows then, and what it logs
abbrev pub shown_after : Config → List Event → List Move → Shown
shown_after c events moves = shown_by (opening_world c) events (given (opening_world c) moves)

pub shows_by : (c : Config) (events : List Event) (moves : List Move) → GoesBy c events moves → shown c events ≡ shown_after c events moves
shows_by c events moves h = shown_given c _ _ _ refl h

pub logs_by : (c : Config) (events : List Event) (moves : List Move) → GoesBy c events moves → log_of c events ≡ log_by (opening_world c) 1 events (given (opening_world c) moves)
logs_by c events moves h = log_given c _ _ _ refl h

pub shows : (c : Config) (events : List Event) (moves : List Move) → decided (opening_world c) 1 events moves ≡ before (opening_world c) events moves
    → answered (opening_world c) events moves ≡ after (opening_world c) events moves → shown c events ≡ shown_after c events moves
shows c events moves h k = shows_by c _ _ (goes c _ _ h k)

-- what is told in a history that is told with its calls
pub tells_by : (c : Config) (exchange : List (Event × Line)) (moves : List Move) → GoesBy c (calls exchange) moves
    → lines_of (opening_world c) 1 (calls exchange) ≡ lines_by (calls exchange) (given (opening_world c) moves)
tells_by c exchange moves h = lines_given _ 1 _ _ h

pub tells : (c : Config) (exchange : List (Event × Line)) (moves : List Move) → decided (opening_world c) 1 (calls exchange) moves ≡ before (opening_world c) (calls exchange) moves
    → answered (opening_world c) (calls exchange) moves ≡ after (opening_world c) (calls exchange) moves
    → lines_of (opening_world c) 1 (calls exchange) ≡ lines_by (calls exchange) (given (opening_world c) moves)
tells c exchange moves h k = tells_by c _ _ (goes c _ _ h k)

-- the world after the first entries
abbrev pub world_after : Config → List Event → List Move → ℕ → World
world_after c events moves n = last_of (opening_world c) (take n events) (take n (given (opening_world c) moves))

pub comes_to : (c : Config) (events : List Event) (moves : List Move) (n : ℕ) → GoesBy c events moves → run (opening_world c) 1 (take n events) ≡ world_after c events moves n
comes_to c events moves n h = run_given _ 1 _ _ (gives_some n _ 1 _ _ h)
