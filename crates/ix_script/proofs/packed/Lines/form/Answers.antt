use Rattle.std.proofs.Common.{ap, ◌∙◌}
use Rattle.ix_script.specs.{lines.Before.form_told, scripts.Packed.FrontOf}
use Rattle.ix_script.proofs.packed.Lines.form.Goals as goal

pub returns : goal.returns
returns c = c.self.invariant.0.2 ∙ ap (λ (f : FrontOf). form_told f.said) c.self.view_is
