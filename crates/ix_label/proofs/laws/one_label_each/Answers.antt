use Rattle.ix_label.proofs.Spelled.{spelling_injective}
use Rattle.ix_label.proofs.laws.one_label_each.Goals as goal

pub returns : goal.returns
returns c = spelling_injective c.args.form
