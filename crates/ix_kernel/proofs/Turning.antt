-- What a turn tells in which the core makes a step: the seat took the core, gave it back, and has seen its history.
use Rattle.std.proofs.Common.{◌≡◌, ◌+◌, ◌<◌, ℕ, List, [], ◌∷◌, ◌++◌, Some, None, refl, ap, sym, ◌∙◌, subst, inl, inr, arith, append_assoc}
use mathlib.Core.List.{IsPrefix}
use Rattle.std.proofs.lemmas.List.Elements.{filter-append}
use Rattle.ix_gate.{specs.{History.{entries_of, Grows, KeepsEnded}, Seat.{after_take, after_give, LearnsServed}}, proofs.Entries.{entries_of-own, grows_prefix}}
use Rattle.ix_core.specs.Stepping.{StepsTo, StepsAs}
use Rattle.ix_iso.specs.Noninterference.{Noninterferent}
use Rattle.ix_journal.proofs.Growing.{cost_more}
use Rattle.ix_model.specs.{opening.Opening.opening_world, history.{Cost.{cost_of, cost_of_history}, Events.{Event, Op}, History.History, Made.entry}}
use Rattle.ix_model.specs.declared.{config.Config.Config, ids.Pid.Pid, reply.Answer.Answer}
use Rattle.ix_model.specs.declared.reply.Answer.TheVariants as answer
use Rattle.ix_kernel.specs.{Seen.{KSeatState, seat_of, own, own_after, after_turn}, Turns.{InTurn, HasRoom, SeenNoninterferent}}

-- ---- a step
pub step_grows : (a : Answer) (old new : History) (e : Event) (before after : List ℕ) → StepsTo a old new before after e → Grows seat_of e.seat old.events new.events
step_grows (answer.Given r) old new e before after s = inr (e, ap (λ (h : History). h.events) s.0, refl)
step_grows (answer.JournalFull used need cap) old new e before after s = inl (ap (λ (h : History). h.events) s.4)
step_grows answer.NoMemory old new e before after s = absurd s

step_config : (a : Answer) (old new : History) (e : Event) (before after : List ℕ) → StepsTo a old new before after e → new.config ≡ old.config
step_config (answer.Given r) old new e before after s = ap (λ (h : History). h.config) s.0
step_config (answer.JournalFull used need cap) old new e before after s = ap (λ (h : History). h.config) s.4
step_config answer.NoMemory old new e before after s = absurd s

-- the entry, where it was made, is one more of its seat's
step_own : (a : Answer) (old new : History) (e : Event) (before after : List ℕ) → StepsTo a old new before after e
    → entries_of seat_of e.seat new.events ≡ own_after a e (entries_of seat_of e.seat old.events)
step_own (answer.Given r) old new e before after s =
    ap (λ (h : History). entries_of seat_of e.seat h.events) s.0
    ∙ filter-append _ old.events (e ∷ [])
    ∙ ap (λ es. entries_of seat_of e.seat old.events ++ es) (entries_of-own seat_of e.seat e [] refl)
step_own (answer.JournalFull used need cap) old new e before after s = ap (λ (h : History). entries_of seat_of e.seat h.events) s.4
step_own answer.NoMemory old new e before after s = absurd s

-- ---- a turn
-- the seat k, which is s within, took the core at `old`, and was t; the core made a step, and the seat gave it back, and was l
pub record Turned (k s t l : KSeatState) (old new : History) (a : Answer) (e : Event) (before after : List ℕ) : Type 0 where
  pub same : s ≡ k
  pub mine : e.seat ≡ k.number
  pub base : s.base ≡ Some old.config
  pub begins : IsPrefix s.seen old.events
  pub own : entries_of seat_of s.number old.events ≡ own s
  pub ended : KeepsEnded seat_of s.ended old.events
  pub free : s.taken ≡ None
  pub looks : s.looks < t.looks
  pub served : LearnsServed s old.events t.look_found
  pub took : t ≡ after_take s old.events t.looks t.look_found
  pub back : l ≡ after_give t new.events
  pub did : StepsAs a old new e before after

module _ (k s t l : KSeatState) (old new : History) (a : Answer) (e : Event) (before after : List ℕ) (r : Turned k s t l old new a e before after) where
  seen_is : l.seen ≡ new.events
  seen_is = ap (λ (z : KSeatState). z.seen) r.back

  number_is : l.number ≡ e.seat
  number_is = ap (λ (z : KSeatState). z.number) r.back ∙ ap (λ (z : KSeatState). z.number) r.took ∙ ap (λ (z : KSeatState). z.number) r.same ∙ sym r.mine

  base_is : l.base ≡ Some old.config
  base_is = ap (λ (z : KSeatState). z.base) r.back ∙ ap (λ (z : KSeatState). z.base) r.took ∙ r.base

  begins : IsPrefix k.seen old.events
  begins = subst (λ (z : KSeatState). IsPrefix z.seen old.events) r.same r.begins

  knew : entries_of seat_of k.number old.events ≡ own k
  knew = subst (λ (z : KSeatState). entries_of seat_of z.number old.events ≡ own z) r.same r.own

  turn_seen : IsPrefix k.seen l.seen
  turn_seen =
      let more = grows_prefix seat_of e.seat old.events new.events (step_grows a old new e before after r.did.step) in
      subst (IsPrefix k.seen) (sym seen_is) (begins.0 ++ more.0, sym (append_assoc k.seen begins.0 more.0) ∙ ap (λ es. es ++ more.0) begins.1 ∙ more.1)

  turn_own : own l ≡ own_after a e (own k)
  turn_own =
      (λ i. entries_of seat_of (number_is i) (seen_is i))
      ∙ step_own a old new e before after r.did.step
      ∙ ap (λ n. own_after a e (entries_of seat_of n old.events)) r.mine
      ∙ ap (own_after a e) knew

  turn_seat : l ≡ after_turn k l.seen l.looks l.look_found
  turn_seat =
      let looks : t.looks ≡ l.looks = ap (λ (z : KSeatState). z.looks) (sym r.back) in
      let found : t.look_found ≡ l.look_found = ap (λ (z : KSeatState). z.look_found) (sym r.back) in
      r.back
      ∙ ap (λ (z : KSeatState). after_give z new.events) r.took
      ∙ (λ i. record (r.same i) {
        seen = sym seen_is i;
        taken = (sym r.free ∙ ap (λ (z : KSeatState). z.taken) r.same) i;
        turns = (r.same i).turns + 1;
        ticket =
            found i;
        looks = looks i;
        look_found = found i;
      })

  left : new ≡ record old { events = l.seen }
  left = λ i. record { config = step_config a old new e before after r.did.step i; events = sym seen_is i }

  in_turn : InTurn a k l e before after
  in_turn = record {
    found = old;
    base = subst (λ (z : KSeatState). z.base ≡ Some old.config) r.same r.base;
    begins = begins;
    own = knew;
    ended = subst (λ (z : KSeatState). KeepsEnded seat_of z.ended old.events) r.same r.ended;
    served = subst (λ (z : KSeatState). LearnsServed z old.events l.look_found) r.same (subst (LearnsServed s old.events) (sym (ap (λ (z : KSeatState). z.look_found) r.back)) r.served);
    step = subst (λ (h : History). StepsTo a old h before after e) left r.did.step;
    shown = r.did.shown;
    alike = r.did.alike;
  }

has_room : (a : Answer) (l : KSeatState) (old new : History) (e : Event) (before after : List ℕ) → l.seen ≡ new.events → l.base ≡ Some old.config → StepsTo a old new before after e → HasRoom a l e.op
has_room (answer.Given r) l old new e before after seen base s = λ c known.
    let one : old.config ≡ c = cc (base, known) in
    let cost : cost_of_history l.seen ≡ cost_of_history old.events + cost_of e.op = ap cost_of_history (seen ∙ ap (λ (h : History). h.events) s.0) ∙ cost_more old.events e in
    let most : old.config.journal ≡ c.journal = ap (λ (d : Config). d.journal) one in
    omega (arith, cost, s.3, most)
has_room (answer.JournalFull used need cap) l old new e before after seen base s = (
  s.0 ∙ ap cost_of_history (sym (seen ∙ ap (λ (h : History). h.events) s.4)),
  s.1,
  λ c known. let one : old.config ≡ c = cc (base, known) in s.2 ∙ ap (λ (d : Config). d.journal) one,
  s.3,
)
has_room answer.NoMemory l old new e before after seen base s = absurd s

turn_room : (k s t l : KSeatState) (old new : History) (a : Answer) (e : Event) (before after : List ℕ) → Turned k s t l old new a e before after → HasRoom a l e.op
turn_room k s t l old new a e before after r =
    has_room a l old new e before after (seen_is k s t l old new a e before after r) (base_is k s t l old new a e before after r) r.did.step

-- what the seat's call then tells
pub record Tells (k l : KSeatState) (a : Answer) (e : Event) (before after : List ℕ) : Type 0 where
  pub seen : IsPrefix k.seen l.seen
  pub own : own l ≡ own_after a e (own k)
  pub turn : InTurn a k l e before after
  pub room : HasRoom a l e.op
  pub noninterference : SeenNoninterferent l
  pub looks : k.looks < l.looks
  pub seat : l ≡ after_turn k l.seen l.looks l.look_found

pub turn_tells : (k s t l : KSeatState) (old new : History) (a : Answer) (e : Event) (before after : List ℕ) → Turned k s t l old new a e before after → Tells k l a e before after
turn_tells k s t l old new a e before after r = record {
  seen = turn_seen k s t l old new a e before after r;
  own = turn_own k s t l old new a e before after r;
  turn = in_turn k s t l old new a e before after r;
  room = turn_room k s t l old new a e before after r;
  noninterference = λ c known.
      let config : new.config ≡ c = step_config a old new e before after r.did.step ∙ cc (base_is k s t l old new a e before after r, known) in
      subst (λ (h : History). Noninterferent (opening_world h.config) h.events) (λ i. record { config = config i; events = sym (seen_is k s t l old new a e before after r) i }) r.did.noninterference;
  looks = subst (λ (z : KSeatState). z.looks < l.looks) r.same (subst (λ n. s.looks < n) (sym (ap (λ (z : KSeatState). z.looks) r.back)) r.looks);
  seat = turn_seat k s t l old new a e before after r;
}

-- the same of the entry that the seat's number makes
pub entry_tells : (k s t l : KSeatState) (old new : History) (a : Answer) (number line : ℕ) (pid : Pid) (o : Op) (before after : List ℕ)
    → Turned k s t l old new a (entry number line pid o) before after → Tells k l a (entry k.number line pid o) before after
entry_tells k s t l old new a number line pid o before after r = subst (λ n. Tells k l a (entry n line pid o) before after) r.mine (turn_tells _ _ _ _ _ _ _ _ _ _ r)
