use Rattle.ix_model.proofs.told.Replies.{replies_fit}
use Rattle.ix_model.proofs.laws.replies_fit_their_calls.Goals as goal

pub returns : goal.returns
returns c = record { fits = replies_fit }
