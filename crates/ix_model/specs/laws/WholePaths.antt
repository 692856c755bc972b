-- Whole paths: pipes of which both ends are claimed, and what they hold.
use Rattle.std.specs.Prelude.{◌≡◌, ℕ, suc, ◌-◌, ◌==◌, ◌&&◌, Bool, false, List, [], ◌∷◌, ◌++◌, Option, Some, None, if◌then◌else◌}
use Rattle.ix_model.specs.world.World.{World, Frame}
use Rattle.ix_model.specs.rows.Walks.{OpenFile, behind}
use Rattle.ix_model.specs.history.Step.{step_of}
use Rattle.ix_model.specs.history.Events.{Op, Event}
use Rattle.ix_model.specs.history.Events as op
use Rattle.ix_model.specs.declared.reply.Reply.{Reply}
use Rattle.ix_model.specs.declared.reply.Reply.TheVariants as reply

-- whether what is written through an open entry can be read at that end of that pipe
abbrev pub reaches : Option OpenFile → ℕ → ℕ → Bool
reaches None o end = false
reaches (Some e) o end = e.entry.object == o && 1 - e.entry.end == end

-- the bytes that a call wrote which can be read at that end of that pipe
abbrev pub sent : Frame → ℕ → Op → Reply → ℕ → ℕ → List ℕ
sent f pid (op.WriteFd fd bytes) (reply.Number n) o end = if reaches (behind f pid fd) o end then bytes else []
sent f pid c r o end = []

-- all that the entries of a history wrote to it, in order; the first entry is at this place
unfoldable pub written_to : World → ℕ → List Event → ℕ → ℕ → List ℕ
written_to w place [] o end = []
written_to w place (e ∷ events) o end = sent w.frame e.pid e.op (step_of w place e).reply o end ++ written_to (step_of w place e).world (suc place) events o end

-- the last bytes of a list
pub record IsEndOf (end whole : List ℕ) : Type 0 where
  pub before : List ℕ
  pub is : whole ≡ before ++ end
