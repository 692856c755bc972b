-- What one seat's step on a core makes, and how the core goes on.
use Rattle.std.proofs.Common.{◌≡◌, ◌≤◌, ℕ, List, [], ◌∷◌, ◌++◌, refl, sym, ap, ◌∙◌, subst, arith}
use Rattle.ix_model.specs.history.{Cost.cost_of_history, Events.Op, History.{History, next}, Made.entry, Seats.{made_of, made_by, GoesOn}, Shown.AreShown, Step.{Given, put_front}}
use Rattle.ix_model.specs.{history.Systems.{bytes_in, made_after}, declared.{ids.Pid.Pid, reply.{Reply.Reply, Answer.Answer}}}
use Rattle.ix_model.proofs.{words.Seats.{made_by-push, goes_on_not, goes_on_once}, clean.Showing.shown_step}
use Rattle.ix_journal.proofs.Growing.{cost_more}
use Rattle.ix_core.{specs.Stepping.{StepsTo, MakesNext}, proofs.Standing.shows}
use Rattle.ix_model.specs.declared.reply.Reply.TheVariants as reply
use Rattle.ix_model.specs.declared.reply.Answer.TheVariants as answer

-- the bytes in the buffer are those that the reply gives
pub gives_bytes : (r : Reply) (bytes before after : List ℕ) → AreShown r bytes → after ≡ put_front bytes before → bytes_in r after ≡ bytes
gives_bytes (reply.Bytes k) bytes before after h e = (shows (reply.Bytes k) bytes before after h e).2
gives_bytes _ bytes before after h e = sym h

module _ (old new : History) (before after : List ℕ) (seat line : ℕ) (pid : Pid) (o : Op) where
  abbrev Steps : Answer → Type 0
  Steps a = StepsTo a old new before after (entry seat line pid o)

  -- what the machine gives
  abbrev given : Given
  given = next old (entry seat line pid o)

  are_shown : (r : Reply) → r ≡ given.reply → AreShown r given.bytes
  are_shown r said = subst (λ x. AreShown x given.bytes) (sym said) (shown_step _ _ _ o)

  are_read : (r : Reply) → r ≡ given.reply → after ≡ put_front given.bytes before → bytes_in r after ≡ given.bytes
  are_read r said put = gives_bytes r _ _ _ (are_shown r said) put

  made_next : (r : Reply) → r ≡ given.reply → after ≡ put_front given.bytes before → made_of (entry seat line pid o) given ≡ record {
    event = entry seat line pid o;
    reply = r;
    bytes = bytes_in r after;
  }
  made_next r said put = λ i. record { event = entry seat line pid o; reply = sym said i; bytes = sym (are_read r said put) i }

  pub makes_next : (a : Answer) → Steps a → MakesNext a old new (entry seat line pid o) after
  makes_next (answer.Given r) h = (
    record { history = h.0; reply = h.1; bytes = are_read r h.1 h.2 },
    subst (λ b. AreShown r b) (sym (are_read r h.1 h.2)) (are_shown r h.1),
  )
  makes_next (answer.JournalFull used need cap) h = h.4
  makes_next answer.NoMemory h = absurd h

  pub makes : (a : Answer) → Steps a → made_by seat new ≡ made_after a (entry seat line pid o) after (made_by seat old)
  makes (answer.Given r) h = ap (made_by _) h.0 ∙ made_by-push _ _ (entry seat line pid o) refl ∙ ap (λ m. made_by seat old ++ m ∷ []) (made_next r h.1 h.2)
  makes (answer.JournalFull used need cap) h = ap (made_by _) h.4
  makes answer.NoMemory h = absurd h

  pub goes : (a : Answer) → Steps a → GoesOn seat old new
  goes (answer.Given r) h = subst (λ k. GoesOn seat old k) (sym h.0) (goes_on_once _ _ _ refl)
  goes (answer.JournalFull used need cap) h = subst (λ k. GoesOn seat old k) (sym h.4) (goes_on_not _ _)
  goes answer.NoMemory h = absurd h

  pub costs : (a : Answer) → Steps a → cost_of_history old.events ≤ cost_of_history new.events
  costs (answer.Given r) h = omega (arith, cost_more old.events (entry seat line pid o), ap (λ (k : History). cost_of_history k.events) h.0)
  costs (answer.JournalFull used need cap) h = omega (arith, ap (λ (k : History). cost_of_history k.events) h.4)
  costs answer.NoMemory h = absurd h
