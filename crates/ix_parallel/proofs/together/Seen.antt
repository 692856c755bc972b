-- What is seen of one history: beginnings of it, and what a seat made of it.
use Rattle.std.proofs.Common.{◌≡◌, ℕ, List, [], ◌++◌, length, Option, refl, sym, ap, ◌∙◌, subst, arith, append-nil, append_assoc, length-append}
use Rattle.std.{specs.Option.option_map_or, proofs.lemmas.List.nil_from_length}
use mathlib.Core.List.{IsPrefix}
use Rattle.ix_gate.{specs.{History.longer, Gate.GateState}, proofs.Prefixes.by_length}
use Rattle.ix_kernel.specs.{Seen.KSeatState, Systems.{SeatGoesOn, made_at}}
use Rattle.ix_model.specs.{history.{Events.Event, Made.Made, Seats.made_by}, declared.config.Config.Config}
use Rattle.ix_script.specs.{scripts.Scripts.config_of, declared.line.Line.Line}
use Rattle.ix_parallel.specs.{Between.SeesPart, Seats.Sees}

module _ {A : Type 0} where
  pub begins_itself : (xs : List A) → IsPrefix xs xs
  begins_itself xs = ([], append-nil xs)

  pub begins_further : (xs ys zs : List A) → IsPrefix xs ys → IsPrefix ys zs → IsPrefix xs zs
  begins_further xs ys zs p q = (p.0 ++ q.0, sym (append_assoc xs p.0 q.0) ∙ ap (λ l. l ++ q.0) p.1 ∙ q.1)

  -- two lists that begin each other are one
  pub begin_each_other : (xs ys : List A) → IsPrefix xs ys → IsPrefix ys xs → xs ≡ ys
  begin_each_other xs ys p q =
      let none : p.0 ≡ [] = nil_from_length p.0 (omega (arith, ap length p.1, ap length q.1, length-append xs p.0, length-append ys q.0)) in
      sym (append-nil xs) ∙ ap (λ l. xs ++ l) (sym none) ∙ p.1

  -- what two lists begin, the longer of them begins
  pub longer_begins : (xs ys whole : List A) → IsPrefix xs whole → IsPrefix ys whole → IsPrefix (longer xs ys) whole
  longer_begins xs ys whole p q = by_length xs ys (λ l _. IsPrefix l whole) (λ le. q) (λ le. p)

pub same_goes_on : (k : KSeatState) → SeatGoesOn k k
same_goes_on k = record { gate = refl; base = refl; number = refl; ended = refl; seen = begins_itself k.seen }

-- what a seat made is what its number has in what the seat has seen
pub made_part : (s : List Line) (kernel : GateState) (history : List Event) (n : ℕ) (seat : KSeatState) → SeesPart s kernel history n seat
    → made_at seat ≡ made_by n (record { config = config_of s; events = seat.seen })
made_part s kernel history n seat h =
    let of_base : Option Config → List Made = λ b. option_map_or (λ c. made_by seat.number (record { config = c; events = seat.seen })) b [] in
    ap of_base h.base ∙ (λ i. made_by (h.number i) (record { config = config_of s; events = seat.seen }))

-- in a history that it has seen it made all that its number has there
pub made_sees : (s : List Line) (kernel : GateState) (history : List Event) (n : ℕ) (seat : KSeatState) → SeesPart s kernel history n seat → seat.seen ≡ history
    → made_by n (record { config = config_of s; events = history }) ≡ made_at seat
made_sees s kernel history n seat h is =
    sym (made_part s kernel history n seat h ∙ ap (λ es. made_by n (record { config = config_of s; events = es })) is)

-- a seat of the kernel goes on
pub part_further : (s : List Line) (kernel : GateState) (before history : List Event) (n : ℕ) (old new : KSeatState) → SeesPart s kernel before n old → SeatGoesOn old new
    → IsPrefix new.seen history → SeesPart s kernel history n new
part_further s kernel before history n old new h goes is = record {
  gate = goes.gate ∙ h.gate;
  base = goes.base ∙ h.base;
  number = goes.number ∙ h.number;
  ended = goes.ended ∙ h.ended;
  begins = is;
}

-- one that has seen a history has seen a beginning of it, and the other way round where that is the whole
pub sees_part : (s : List Line) (kernel : GateState) (history : List Event) (n : ℕ) (seat : KSeatState) → Sees s kernel history n seat → SeesPart s kernel history n seat
sees_part s kernel history n seat h = record {
  gate = h.gate;
  base = h.base;
  number = h.number;
  ended = h.ended;
  begins = subst (IsPrefix seat.seen) h.seen (begins_itself seat.seen);
}

pub part_sees : (s : List Line) (kernel : GateState) (history : List Event) (n : ℕ) (seat : KSeatState) → SeesPart s kernel history n seat → seat.seen ≡ history → Sees s kernel history n seat
part_sees s kernel history n seat h is = record { gate = h.gate; base = h.base; number = h.number; ended = h.ended; seen = is }
