use Rattle.std.proofs.{Common.{[], sym, ap, ◌∙◌, arith}, lemmas.List.{get_or-map, length-map}}
use Rattle.ix_script.specs.texts.Cutting.{word_at}
use Rattle.ix_script.proofs.words.Words.get.Goals as goal

pub returns : goal.returns
returns c =
    sym (get_or-map (λ s. s.now) c.self.inside.first _ _ [] (omega (arith, c.requires, c.self.invariant.eight, length-map c.self.inside.first (λ s. s.now))))
    ∙ c.self.invariant.first _ c.requires ∙ ap (λ ws. word_at ws c.args.i) c.self.view_is
