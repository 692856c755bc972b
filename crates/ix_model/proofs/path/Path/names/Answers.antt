use Rattle.ix_model.proofs.texts.Joining.{of_path}
use Rattle.ix_model.proofs.path.Path.names.Goals as goal

pub returns-clause-few : goal.returns-clause-few
returns-clause-few c = (of_path c.args.self.now.text.now c.args.self.now.named).few
