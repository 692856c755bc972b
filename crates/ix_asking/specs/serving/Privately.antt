-- When a server finds that nobody has claimed the other end.
use Rattle.std.specs.Prelude.{◌≡◌, List, ◌∷◌}
use Rattle.ix_model.specs.history.Events as op
use Rattle.ix_model.specs.history.Systems.{FitsCall}
use Rattle.ix_model.specs.declared.reply.Reply.TheVariants as reply
use Rattle.ix_asking.specs.declared.serving.outcome.Outcome.{Outcome}
use Rattle.ix_asking.specs.declared.serving.outcome.Outcome.TheVariants as outcome
use Rattle.ix_asking.specs.Asking.{Answered, Asking, Came, next}
use Rattle.ix_asking.specs.serving.Serving.{Server}

-- Under a first answer that fits a claim, nothing private comes of it exactly where that answer is half a claim.
pub record NotPrivateAtHalf (s : Server) (p : Asking Outcome) : Type 0 where
  pub only : (a : Answered) (answers : List Answered) → FitsCall (op.Pex s.fd) a.reply → next p (a ∷ answers) ≡ Came outcome.NotPrivate → a.reply ≡ reply.Half
  pub comes : (a : Answered) (answers : List Answered) → a.reply ≡ reply.Half → next p (a ∷ answers) ≡ Came outcome.NotPrivate
