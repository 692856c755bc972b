use Rattle.std.proofs.Common.{sym, ◌∙◌}
use Rattle.ix_model.proofs.texts.Joining.{same_text}
use Rattle.ix_model.proofs.path.Path.same_names.Goals as goal

pub returns : goal.returns
returns c = c.eq.ensures ∙ sym (same_text c.args.self.now.text.now c.args.other.now.text.now)
