use Rattle.std.proofs.Common.{sym, ap, length, ◌∙◌}
use Rattle.ix_script.specs.scripts.Packed.{FrontOf}
use Rattle.ix_script.proofs.reader.Packing.{length-held}
use Rattle.ix_script.proofs.packed.Lines.len.Goals as goal

pub returns : goal.returns
returns c = ap length c.as_slice.ensures.value ∙ sym (length-held c.self.inside.form 0 c.self.inside.text.now c.self.inside.ends.items)
    ∙ ap (λ (f : FrontOf). length f.said) c.self.view_is
