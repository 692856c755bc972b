use Rattle.std.proofs.Common.{◌∙◌, sym, ap, arith}
use Rattle.ix_flow.{specs.Sides.source_in, proofs.LastSource.{ascends, insert_before, insert_behind, insert_there, none_same}}
use Rattle.ix_flow.proofs.side.Side.begin.Goals as goal

pub returns-in-Gap-Gap-clause-there : goal.returns-in-Gap-Gap-clause-there
returns-in-Gap-Gap-clause-there c = λ to n none low high.
    none_same _ _ to n _ _ (omega arith) none low high ∙ sym c.in-Gap-Gap.ensures ∙ sym c.in-Gap-Gap.is-0

pub returns-in-Ok-clause-before : goal.returns-in-Ok-clause-before
returns-in-Ok-clause-before c = λ n low. ap (λ es. source_in es n) c.in-Ok.ensures.entries ∙ insert_before _ n _ _ _ low

pub returns-in-Ok-clause-there : goal.returns-in-Ok-clause-there
returns-in-Ok-clause-there c = λ to n none low high. ap (λ es. source_in es n) c.in-Ok.ensures.entries
    ∙ insert_there _ to n _ _ (ascends _ c.insert.ensures.was_ordered) none low high

pub returns-in-Ok-clause-behind : goal.returns-in-Ok-clause-behind
returns-in-Ok-clause-behind c = λ to n begins low high. ap (λ es. source_in es n) c.in-Ok.ensures.entries
    ∙ insert_behind _ to n _ _ (ascends _ c.insert.ensures.was_ordered) begins low high
