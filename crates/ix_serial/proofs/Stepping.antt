-- A serial run that makes its next entry: the journal's room for it, and what is left behind it.
use Rattle.std.proofs.Common.{◌≡◌, ◌≤◌, ◌+◌, ℕ, List, [], ◌∷◌, ◌++◌, length, Some, refl, sym, ap, ◌∙◌, arith, append_assoc, append-nil, length-append}
use Rattle.ix_model.specs.{history.{Cost.{cost_of, cost_of_history}, Events.Event, History.{History, next, with_entry, world_of}}, world.World.World}
use Rattle.ix_model.specs.{opening.Opening.opening_world, declared.reply.{Answer.Answer, Reply.Reply}}
use Rattle.ix_model.specs.declared.reply.Answer.TheVariants as answer
use Rattle.ix_model.proofs.words.Runs.{world_of-none, world_of-push}
use Rattle.ix_script.specs.{declared.line.Line.Line, scripts.{Need.need, Scripts.config_of}}
use Rattle.ix_lanes.specs.{histories.Serial.{first_names, serial, serial_from}, running.Serially.{SerialLeft, entries_left, next_entry}}
use Rattle.ix_lanes.proofs.{phased.InOrder.entries_next, serially.{Costs.{cost-append, cost-cons}, Needs.whole_fits, SerialHistories.serial_serial}}
use Rattle.ix_core.specs.Stepping.{StepsTo}
use Rattle.ix_serial.specs.Running.{Stands}
use Rattle.std.specs.Prelude.{None}

-- ---- the journal's room
-- a script's config has a journal for what its lines need
journal_is : (s : List Line) → (config_of s).journal ≡ need s
unfolding config_of
journal_is s = refl

-- it has room for the next entry
pub has_room : (h : History) (c : SerialLeft) (e : Event) → Stands h c → next_entry c ≡ Some e → cost_of_history h.events + cost_of e.op ≤ h.config.journal
has_room h c e stands next =
    let left = entries_next c e next (world_of h) (length h.events + 1) in
    let fits : cost_of_history (serial c.script) ≤ need c.script = whole_fits c.script (serial c.script) (serial_serial c.script).lanes in
    let all : cost_of_history (serial c.script) ≡ cost_of_history h.events + cost_of_history (e ∷ left.0) =
    ap cost_of_history (stands.whole ∙ ap (λ es. h.events ++ es) left.1) ∙ cost-append h.events (e ∷ left.0) in
    omega (arith, fits, all, cost-cons e left.0, ap (λ k. k.journal) stands.config, journal_is c.script)

-- so it isn't full
pub never_full : (h k : History) (c : SerialLeft) (e : Event) (before after : List ℕ) → Stands h c → next_entry c ≡ Some e → (a : Answer) → ((r : Reply) → a ≡ answer.Given r → ⊥)
    → StepsTo a h k before after e → ⊥
never_full h k c e before after stands next (answer.Given r) not step = not r refl
never_full h k c e before after stands next (answer.JournalFull used need cap) not step =
    let room = has_room h c e stands next in omega (arith, room, step.0, step.1, step.2, step.3)
never_full h k c e before after stands next answer.NoMemory not step = step

-- ---- a run that goes on
-- before its first entry
pub stands_first : (h : History) (c : SerialLeft) → h ≡ record { config = config_of c.script; events = [] }
    → ((w : World) (place : ℕ) → entries_left c w place ≡ serial_from c.script w place (first_names c.script) None 1 c.script) → Stands h c
unfolding serial
stands_first h c new all =
    let s = c.script in
    let world : world_of h ≡ opening_world (config_of s) = ap world_of new ∙ world_of-none (config_of s) in
    let none : h.events ≡ [] = ap (λ k. k.events) new in
    record {
      config = ap (λ k. k.config) new;
      whole = sym (
          all (world_of h) (length h.events + 1)
          ∙ (λ i. serial_from s (world i) (length (none i) + 1) (first_names s) None 1 s)
          ) ∙ (λ i. sym none i ++ entries_left c (world_of h) (length h.events + 1));
    }

-- one entry further
pub stands_next : (h k : History) (c d : SerialLeft) (e : Event) → Stands h c → k ≡ with_entry h e → d.script ≡ c.script
    → entries_left c (world_of h) (length h.events + 1) ≡ e ∷ entries_left d (next h e).world (length h.events + 1 + 1) → Stands k d
stands_next h k c d e stands made script on =
    let world : (next h e).world ≡ world_of k = sym (world_of-push h e) ∙ ap world_of (sym made) in
    let events : k.events ≡ h.events ++ e ∷ [] = ap (λ x. x.events) made in
    let longer : length h.events + 1 + 1 ≡ length k.events + 1 = let n : length (h.events ++ e ∷ []) ≡ length h.events + 1 = length-append h.events (e ∷ []) in omega (arith, n, ap length events) in
    record {
      config = ap (λ x. x.config) made ∙ stands.config ∙ ap config_of (sym script);
      whole = ap serial script ∙ stands.whole ∙ ap (λ es. h.events ++ es) on
          ∙ (λ i. h.events ++ e ∷ entries_left d (world i) (longer i))
          ∙ sym (append_assoc h.events (e ∷ []) (entries_left d (world_of k) (length k.events + 1)))
          ∙ ap (λ es. es ++ entries_left d (world_of k) (length k.events + 1)) (sym events);
    }

-- with nothing left
pub stands_last : (h : History) (c : SerialLeft) → Stands h c → entries_left c (world_of h) (length h.events + 1) ≡ [] → h.events ≡ serial c.script
stands_last h c stands none = sym (stands.whole ∙ ap (λ es. h.events ++ es) none ∙ append-nil h.events)
