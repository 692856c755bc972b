-- The entries of a history are made once more on a core that had none.
use Rattle.std.proofs.Common.{◌≡◌, ℕ, ◌+◌, ◌≤◌, [], ◌∷◌, ◌++◌, length, drop, Some, slice_get, refl, sym, ap, ◌∙◌, arith, append_assoc, append-nil}
use Rattle.std.proofs.Common.{length-append}
use Rattle.std.proofs.lemmas.List.{drop_all}
use Rattle.ix_model.specs.history.{Cost.{cost_of, cost_of_history}, Events.Event, History.{History, with_entry}}
use Rattle.ix_lanes.proofs.{found.Indexed.rest_is, serially.Costs.{cost-cons, cost-none, cost-push}}

-- a core has made so many entries of a history, and its journal has room for the others
pub record Remade (history replay : History) (told : ℕ) : Type 0 where
  pub config : replay.config ≡ history.config
  pub count : length replay.events ≡ told
  pub whole : replay.events ++ drop told history.events ≡ history.events
  pub fits : cost_of_history replay.events + cost_of_history (drop told history.events) ≤ replay.config.journal

pub remade_none : (history : History) → cost_of_history history.events ≤ history.config.journal → Remade history (record { config = history.config; events = [] }) 0
remade_none history fits = record {
  config = refl;
  count = refl;
  whole = refl;
  fits = omega (arith, fits, cost-none);
}

module _ (history replay : History) (told : ℕ) (e : Event) (so : Remade history replay told) (is : slice_get history.events told ≡ Some e) where
  left : drop told history.events ≡ e ∷ drop (told + 1) history.events
  left = rest_is history.events told e is

  left_costs : cost_of_history (drop told history.events) ≡ cost_of e.op + cost_of_history (drop (told + 1) history.events)
  left_costs = ap cost_of_history left ∙ cost-cons e (drop (told + 1) history.events)

  -- there is room for the next one
  pub remade_room : cost_of_history replay.events + cost_of e.op ≤ replay.config.journal
  remade_room = omega (arith, so.fits, left_costs)

  pub remade_next : Remade history (with_entry replay e) (told + 1)
  remade_next = record {
    config = so.config;
    count = omega (arith, so.count, length-append replay.events (e ∷ []));
    whole = append_assoc replay.events (e ∷ []) (drop (told + 1) history.events) ∙ ap (λ es. replay.events ++ es) (sym left) ∙ so.whole;
    fits = omega (arith, so.fits, left_costs, cost-push replay.events e);
  }

-- all of it was made
pub remade_all : (history replay : History) (told : ℕ) → Remade history replay told → length history.events ≤ told → replay ≡ history
remade_all history replay told so all =
    let events : replay.events ≡ history.events = sym (append-nil replay.events) ∙ ap (λ es. replay.events ++ es) (sym (drop_all told history.events all)) ∙ so.whole in
    λ i. record { config = so.config i; events = events i }
