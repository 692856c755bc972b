-- What it is to follow an entry.
use Rattle.std.specs.Prelude.{◌≡◌, ℕ, List, [], ◌++◌}
use Rattle.ix_model.specs.history.Events.{Event}
use Rattle.ix_model.specs.history.History.{History, next, with_entry}
use Rattle.ix_model.specs.declared.reply.Answer.{Answer}
use Rattle.ix_model.specs.declared.reply.Answer.TheVariants as answer
use Rattle.ix_model.specs.declared.reply.Reply.{Reply}
use Rattle.ix_flow.specs.declared.tracks.Tracks.{Tracks}
use Rattle.ix_flow.specs.Lines.{lines_of_entry}
use Rattle.ix_flow.specs.Tracking.{AreTracks}

-- an entry that had this reply was made after a history, and led to this one
pub record IsStep (before now : History) (r : Reply) (e : Event) : Type 0 where
  pub history : now ≡ with_entry before e
  pub reply : r ≡ (next before e).reply

-- whatever history it was made after: of that history's tracks it made those of the history with it, and it has no lines
abbrev pub Follows : Tracks → Tracks → History → Reply → Event → Type 0
Follows old new now r e = (before : History) → IsStep before now r e → AreTracks old before → AreTracks new now × (lines_of_entry before e ≡ [])

-- the same of an entry whose lines stand behind a text then
abbrev pub FollowsInto : Tracks → Tracks → History → Reply → Event → List ℕ → List ℕ → Type 0
FollowsInto old new now r e text more = (before : History) → IsStep before now r e → AreTracks old before → AreTracks new now × (more ≡ text ++ lines_of_entry before e)

-- the lines of an entry that was given a reply; no other was made
abbrev pub lines_given : Answer → History → Event → List ℕ
lines_given (answer.Given r) h e = lines_of_entry h e
lines_given _ h e = []
