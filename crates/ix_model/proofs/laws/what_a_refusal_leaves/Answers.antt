use Rattle.ix_model.proofs.refused.RefusedSteps.{refused_step}
use Rattle.ix_model.proofs.laws.what_a_refusal_leaves.Goals as goal

pub returns : goal.returns
returns c = record { refused = refused_step }
