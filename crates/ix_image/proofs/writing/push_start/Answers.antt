use Rattle.std.proofs.{Common.{◌++◌, ap, ◌∙◌, append_assoc}, lemmas.Result.on_ok_weaker}
use Rattle.ix_image.specs.Image.{first_bytes, four}
use Rattle.ix_image.proofs.writing.push_start.Goals as goal

pub returns-clause-text : goal.returns-clause-text
returns-clause-text c =
    on_ok_weaker c.push_four.result (λ is. is ∙ ap (λ t. t ++ four c.args.systems) c.in_ok-push.ensures.text ∙ append_assoc _ first_bytes _)
    c.push_four.ensures.text
