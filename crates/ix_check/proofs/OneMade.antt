-- One call that a lane makes.
use Rattle.std.{proofs.Common.{◌≡◌, ℕ, List, [], ◌∷◌, ◌++◌, length, Option, Some, None, Ok, refl, sym, ap, ◌∙◌, subst, arith}, specs.Prelude.{is_some, true}}
use Rattle.ix_model.specs.{declared.reply.Answer.Answer, history.Made.Made}
use Rattle.ix_asking.specs.{Asking.{Asking, Done, Ask, all_heard, came_as, first, heard}, Runs.{answer_of, answers_of, AsAsked, Turn}}
use Rattle.ix_lanes.specs.{asking.Asked.Names, running.Left.{LaneLeft, asks_left, place_of}}
use Rattle.ix_check.specs.Stepping.{MakesCall, entry_due, lane_now, next_call}

-- where a call stands next, a turn makes one
turned : {S : Type 0} (stops_of : S → ℕ) (stopped_of : S → Answer) (seat : ℕ) (p : Asking Names) (old new : S) (more : List Made) (x : Option (Unit {0}))
    → is_some (entry_due seat (first p)) ≡ true → Turn stops_of stopped_of (came_as (λ names. tt {0}) (first p)) old new more (Ok x) → length more ≡ 1
turned stops_of stopped_of seat (Done names) old new more x due h = cc
turned stops_of stopped_of seat (Ask a later) old new more None due h = h.0
turned stops_of stopped_of seat (Ask a later) old new more (Some u) due h = cc

-- what was made then is the call, and its answer was heard
one_asked : (seat : ℕ) (p : Asking Names) (more : List Made) → AsAsked seat p more → length more ≡ 1
    → (m : Made) × (more ≡ m ∷ []) × (entry_due seat (first p) ≡ Some m.event) × (all_heard p (answers_of more) ≡ heard p (answer_of m))
one_asked seat p [] asked one = cc
one_asked seat (Done names) (m ∷ more) asked one = absurd asked
one_asked seat (Ask a later) (m ∷ []) asked one = (m, refl, ap Some (sym asked.0), refl)
one_asked seat (Ask a later) (m ∷ n ∷ more) asked one = absurd (omega (arith, one))

module _ {S : Type 0} (seat_of : S → ℕ) (made_of : S → List Made) (stops_of : S → ℕ) (stopped_of : S → Answer) where
  pub makes_call : (l m : LaneLeft) (old new : S) (more : List Made) (x : Option (Unit {0})) → is_some (next_call (lane_now l)) ≡ true → seat_of old ≡ l.seat
      → AsAsked (seat_of old) (asks_left l) more → made_of new ≡ made_of old ++ more → asks_left m ≡ all_heard (asks_left l) (answers_of more) → place_of m ≡ place_of l
      → Turn stops_of stopped_of (came_as (λ names. tt {0}) (first (asks_left l))) old new more (Ok x)
      → MakesCall (lane_now l) (lane_now m) (made_of old) (made_of new)
  makes_call l m old new more x due seat asked made hears place turn =
      let one = one_asked _ (asks_left l) _ (subst (λ n. AsAsked n (asks_left l) more) seat asked) (turned stops_of stopped_of _ (asks_left l) old new _ x due turn) in record {
        entry = one.0;
        call = one.2;
        made = made ∙ ap (λ ms. made_of old ++ ms) one.1;
        heard = λ i. record { script = (place i).script; seat = (place i).seat; asking = (hears ∙ one.3) i };
      }
