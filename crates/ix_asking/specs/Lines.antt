-- What lines ask for one after the other, where what comes after a line depends on what came of it.
use Rattle.std.specs.Prelude.{ℕ, List, [], ◌∷◌, ◌++◌, map, Option, Some, None}
use Rattle.ix_model.specs.history.Events.{Event}
use Rattle.ix_model.specs.history.Made.{Made}
use Rattle.ix_model.specs.declared.reply.Reply.{Reply}
use Rattle.ix_asking.specs.Asking.{Asking, Done, Ask, Answered}
use Rattle.ix_asking.specs.Runs.{entry_of}

-- entries, and the one that is asked for after them
pub record Calls : Type 0 where
  pub entries : List Event
  pub next : Option Event

-- an answer without bytes
abbrev pub plain : Reply → Answered
plain r = record { reply = r; bytes = [] }

abbrev pub events_of : List Made → List Event
events_of made = map (λ m. m.event) made

abbrev pub with_entry_first : Event → Calls → Calls
with_entry_first e calls = record calls { entries = e ∷ calls.entries }

abbrev pub with_entries_first : List Event → Calls → Calls
with_entries_first events calls = record calls { entries = events ++ calls.entries }

-- what is asked for when it is answered so, in order, and what comes after it with the answers that are left
abbrev pub calls_then : {R : Type 0} → ℕ → Asking R → List Answered → (R → List Answered → Calls) → Calls
calls_then seat (Done r) answers after = after r answers
calls_then seat (Ask a more) [] after = record { entries = []; next = Some (entry_of seat a) }
calls_then seat (Ask a more) (answer ∷ answers) after =
    with_entry_first (entry_of seat a) (calls_then seat (more answer) answers after)

-- nothing comes after it
abbrev pub no_calls : {R : Type 0} → R → List Answered → Calls
no_calls r answers = record { entries = []; next = None }
