-- What is asked for, one part after the other.
use Rattle.std.proofs.Common.{◌≡◌, ℕ, List, [], ◌∷◌, ◌++◌, length, Some, None, refl, ap, ◌∙◌, arith}
use Rattle.ix_model.specs.history.Events.{Event}
use Rattle.ix_asking.specs.{Asking.{Answered, Asking, Done, Ask, followed}, Lines.{Calls, calls_then, no_calls, with_entry_first, with_entries_first}}
use Rattle.ix_asking.specs.Runs.{entry_of}
use Rattle.ix_lanes.proofs.serially.OneEntry.{all_answered, first_entry}

module _ {A B : Type 0} (seat : ℕ) (more : A → Asking B) where
  -- What asks for no call that isn't among these answers came to something, and what follows that asks after them.
  pub appended : (p : Asking A) (answers : List Answered) (es : List Event) → length es ≡ length answers → calls_then seat p answers no_calls ≡ all_answered es
      → (r : A) × ((later : List Answered) → calls_then seat (followed p more) (answers ++ later) no_calls ≡ with_entries_first es (calls_then seat (more r) later no_calls))
  appended (Done r) [] [] same is = (r, λ later. refl)
  appended (Done r) [] (e ∷ es) same is = cc
  appended (Done r) (x ∷ answers) [] same is = cc
  appended (Done r) (x ∷ answers) (e ∷ es) same is = let none : [] ≡ e ∷ es = ap (λ (c : Calls). c.entries) is in cc
  appended (Ask a next) [] es same is = let none : Some (entry_of seat a) ≡ None = ap (λ (c : Calls). c.next) is in cc
  appended (Ask a next) (x ∷ answers) [] same is = cc
  appended (Ask a next) (x ∷ answers) (e ∷ es) same is =
      let parts = first_entry _ _ _ _ is in
      let rest = appended (next x) answers es (omega (arith, same)) parts.1 in (
        rest.0,
        λ later. ap (with_entry_first (entry_of seat a)) (rest.1 later) ∙ ap (λ f. with_entries_first (f ∷ es) (calls_then seat (more rest.0) later no_calls)) parts.0,
      )

  -- where a call isn't answered, what follows asks for nothing
  pub stays_cut : (p : Asking A) (answers : List Answered) (e : Event) → (calls_then seat p answers no_calls).next ≡ Some e
      → calls_then seat (followed p more) answers no_calls ≡ calls_then seat p answers no_calls
  stays_cut (Done r) answers e is = cc
  stays_cut (Ask a next) [] e is = refl
  stays_cut (Ask a next) (x ∷ answers) e is = ap (with_entry_first (entry_of seat a)) (stays_cut (next x) answers e is)
