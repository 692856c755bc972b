use Rattle.std.proofs.Common.{◌∙◌}
use Rattle.ix_model.proofs.texts.Joining.{none_left}
use Rattle.ix_model.proofs.path.Names.is_empty.Goals as goal

pub returns : goal.returns
returns c = c.is_empty.ensures ∙ none_left c.args.self.now.rest.now
