-- What a core stands for, what a step of it does, and what it shows.
use Rattle.std.specs.Prelude.{◌≡◌, ◌≤◌, ◌<◌, ◌+◌, ℕ, true, List, [], ◌∷◌, ◌++◌, length, take}
use Rattle.ix_label.specs.Category.{Categories}
use Rattle.ix_model.specs.world.World.{World}
use Rattle.ix_model.specs.opening.Opening.{opening_world}
use Rattle.ix_model.specs.history.Step.{step_of, run, put_front}
use Rattle.ix_model.specs.two_runs.TwoRuns.{Low}
use Rattle.ix_model.specs.opening.Valid.{is_valid}
use Rattle.ix_model.specs.history.Cost.{cost_of, cost_of_history}
use Rattle.ix_model.specs.history.Events.{Event}
use Rattle.ix_journal.specs.Entries.{Entries}
use Rattle.ix_model.specs.history.History.{History, world_of, next, with_entry}
use Rattle.ix_model.specs.history.Shown.{AreShown}
use Rattle.ix_model.specs.history.Systems.{bytes_in, Fits, LeavesRest}
use Rattle.ix_model.specs.declared.reply.Reply.{Reply}
use Rattle.ix_model.specs.declared.reply.Reply.TheVariants as reply
use Rattle.ix_model.specs.declared.reply.Answer.{Answer}
use Rattle.ix_model.specs.declared.reply.Answer.TheVariants as answer
use Rattle.ix_iso.specs.Laws.{NoneCrosses}
use Rattle.ix_iso.specs.Noninterference.{Noninterferent, RunsAgree}

-- The machine's world is the run of the history from the opening world of a valid config, whose journal has the history's
-- entries and is as large as the config says.
pub record StandsFor (world : World) (journal : Entries) (h : History) : Type 0 where
  pub run : world ≡ world_of h
  pub valid : is_valid h.config ≡ true
  pub cap : journal.cap ≡ h.config.journal
  pub fits : cost_of_history h.events ≤ h.config.journal

-- The answer is the machine's, with its bytes at the front of the buffer, and the history has one entry more, which the
-- journal has room for. Where the journal hasn't, the answer says what is used, what the entry needs and how much there may be,
-- and nothing has changed. Memory never runs out.
abbrev pub StepsTo : Answer → History → History → List ℕ → List ℕ → Event → Type 0
StepsTo (answer.Given r) old new before after e =
    (new ≡ with_entry old e) × (r ≡ (next old e).reply) × (after ≡ put_front (next old e).bytes before)
    × (cost_of_history old.events + cost_of e.op ≤ old.config.journal)
StepsTo (answer.JournalFull used need cap) old new before after e =
    (used ≡ cost_of_history old.events) × (need ≡ cost_of e.op) × (cap ≡ old.config.journal) × (cap < used + need) × (new ≡ old) × (after ≡ before)
StepsTo answer.NoMemory old new before after e = ⊥

-- Where bytes were read, they are the first ones of the buffer, as many as the reply says.
abbrev pub Shows : Answer → List ℕ → List ℕ → Type 0
Shows (answer.Given (reply.Bytes k)) after bytes = (k ≤ 4096) × (length bytes ≡ k) × (take k after ≡ bytes)
Shows _ after bytes = Unit {0}

-- What a core answers a caller that is low at L, where no entry crossed L before, is what each run answers there that agrees
-- with the core's own at L: the reply, and the bytes in the buffer.
abbrev pub AnswersAlike : Answer → History → Event → List ℕ → List ℕ → Type 0
AnswersAlike (answer.Given r) old e before after =
    (l : Categories) (v : World) (others : List Event) (f : Event) → RunsAgree l (opening_world old.config) v (old.events ++ e ∷ []) (others ++ f ∷ []) →
    NoneCrosses l (opening_world old.config) 1 old.events → Low l (world_of old) (length old.events + 1) e →
    let there = step_of (run v 1 others) (length old.events + 1) f in (r ≡ there.reply) × (after ≡ put_front there.bytes before)
AnswersAlike (answer.JournalFull used need cap) old e before after = Unit {0}
AnswersAlike answer.NoMemory old e before after = Unit {0}

-- All that a core says of a step: what it does, what it shows and leaves, and what it hides.
pub record StepsAs (a : Answer) (old new : History) (e : Event) (before after : List ℕ) : Type 0 where
  pub step : StepsTo a old new before after e
  pub shown : Shows a after (next old e).bytes
  pub fits : Fits e.op a
  pub rest : LeavesRest a before after
  pub alike : AnswersAlike a old e before after
  pub noninterference : Noninterferent (opening_world new.config) new.events

-- The history has one entry more, to which this reply and these bytes are what the machine gives.
pub record IsNext (old new : History) (e : Event) (r : Reply) (read : List ℕ) : Type 0 where
  pub history : new ≡ with_entry old e
  pub reply : r ≡ (next old e).reply
  pub bytes : read ≡ (next old e).bytes

-- An answer that has a reply made the next entry, with the bytes in the buffer; any other left the history as it was.
abbrev pub MakesNext : Answer → History → History → Event → List ℕ → Type 0
MakesNext (answer.Given r) old new e buf = IsNext old new e r (bytes_in r buf) × AreShown r (bytes_in r buf)
MakesNext _ old new e buf = new ≡ old
