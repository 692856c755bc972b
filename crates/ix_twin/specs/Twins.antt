-- Two runs beside each other, and what a step of both answers.
use Rattle.std.specs.Prelude.{◌≡◌, ◌≤◌, ◌+◌, ◌↔◌, ℕ, Bool, true, List, length}
use Rattle.ix_label.specs.Category.{Categories}
use Rattle.ix_model.specs.opening.Opening.{opening_world}
use Rattle.ix_model.specs.history.Cost.{cost_of, cost_of_history}
use Rattle.ix_model.specs.history.Events.{Event}
use Rattle.ix_model.specs.history.History.{History, next, with_entry, world_of}
use Rattle.ix_model.specs.history.Step.{put_front}
use Rattle.ix_model.specs.two_runs.TwoRuns.{Agree, Low}
use Rattle.ix_model.specs.declared.reply.Reply.{Reply}
use Rattle.ix_iso.specs.Laws.{NoneCrosses}
use Rattle.ix_twin.specs.declared.twin.TwinStep.{TwinStep}
use Rattle.ix_twin.specs.declared.twin.TwinStep.TheVariants as step

-- a label, and the histories of two runs, each with the config from which it began
pub record Twins : Type 0 where
  pub at : Categories
  pub first : History
  pub second : History

-- so far the entries of both agree at the label, from the two opening worlds
abbrev pub HaveAgreed : Twins → Type 0
HaveAgreed t = Agree t.at (opening_world t.first.config) (opening_world t.second.config) 1 t.first.events t.second.events

-- the two with one entry more each
abbrev pub with_entries : Twins → Event → Event → Twins
with_entries t e d = record t { first = with_entry t.first e; second = with_entry t.second d }

-- a history's journal has room for an entry more
abbrev pub HasRoomFor : History → Event → Type 0
HasRoomFor h e = cost_of_history h.events + cost_of e.op ≤ h.config.journal

-- no entry of a history crosses a label
abbrev pub NothingCrossed : Categories → History → Type 0
NothingCrossed l h = NoneCrosses l (opening_world h.config) 1 h.events

-- What a run's entry gives: the reply, with its bytes at the front of the buffer.
pub record IsGiven (h : History) (e : Event) (r : Reply) (before after : List ℕ) : Type 0 where
  pub reply : r ≡ (next h e).reply
  pub bytes : after ≡ put_front (next h e).bytes before

-- Both runs made their entries, which agree as all before do: the replies of the two, whether the caller is low after it in the first run, and whether
-- no entry before this one crosses the label there.
pub record StepsBoth (old new : Twins) (e d : Event) (first second : Reply) (low clear : Bool) (before_1 after_1 before_2 after_2 : List ℕ) : Type 0 where
  pub entries : new ≡ with_entries old e d
  pub agree : HaveAgreed new
  pub first_given : IsGiven old.first e first before_1 after_1
  pub second_given : IsGiven old.second d second before_2 after_2
  pub low_after : (low ≡ true) ↔ Low old.at (world_of old.first) (length old.first.events + 1) e
  pub clear_before : (clear ≡ true) ↔ NothingCrossed old.at old.first

-- What a step of both answers: that, or that the entries with these two don't agree.
abbrev pub StepsTo : TwinStep → Twins → Twins → Event → Event → List ℕ → List ℕ → List ℕ → List ℕ → Type 0
StepsTo (step.Same first second low clear) old new e d before_1 after_1 before_2 after_2 =
    StepsBoth old new e d first second low clear before_1 after_1 before_2 after_2
StepsTo step.Apart old new e d before_1 after_1 before_2 after_2 = HaveAgreed (with_entries old e d) → ⊥
