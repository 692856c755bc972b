use Rattle.ix_model.proofs.texts.Joining.{text_fits}
use Rattle.ix_model.proofs.path.Path.text.Goals as goal

pub returns-clause-few : goal.returns-clause-few
returns-clause-few c = text_fits c.args.self.now.text.now c.args.self.now.named
