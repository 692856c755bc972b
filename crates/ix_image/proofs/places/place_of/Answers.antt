use Rattle.std.proofs.{Common.rules, lemmas.List.Sorted.answers_always}
use Rattle.ix_image.proofs.Placing.{found_at, found_none}
use Rattle.ix_image.proofs.places.place_of.Goals as goal

pub returns-in-Ok-clause-some : goal.returns-in-Ok-clause-some
returns-in-Ok-clause-some c = found_at _ _ _ (c.in-Ok.ensures.position (λ y. y.number) (answers_always _ _ _ (λ f a r g called. search rules)))
    c.in-Ok.ensures.bound

pub returns-in-Err-clause-none : goal.returns-in-Err-clause-none
returns-in-Err-clause-none c = found_none _ _ _ c.requires (c.in-Err.ensures.position (λ y. y.number) (answers_always _ _ _ (λ f a r g called. search rules)))
