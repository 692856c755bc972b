use Rattle.std.proofs.Common.{[], ◌∷◌, ◌∙◌}
use Rattle.ix_text.proofs.Letters.{letters_left}
use Rattle.ix_text.proofs.privs.bits.Goals as goal

pub returns-clause-bits : goal.returns-clause-bits
returns-clause-bits c =
    c.then_some.ensures ∙ letters_left c.after_letter-all.result.0 c.after_letter-all.result.1.now _ c.is_empty.ensures
    ∙ c.after_letter-all.ensures.goes_on []
    ∙ c.after_letter-to_thaw.ensures.goes_on ((76, 16) ∷ [])
    ∙ c.after_letter-to_ceil.ensures.goes_on ((84, 8) ∷ (76, 16) ∷ [])
    ∙ c.after_letter-to_priv.ensures.goes_on ((67, 4) ∷ (84, 8) ∷ (76, 16) ∷ [])
    ∙ c.after_letter-down.ensures.goes_on ((80, 2) ∷ (67, 4) ∷ (84, 8) ∷ (76, 16) ∷ [])
