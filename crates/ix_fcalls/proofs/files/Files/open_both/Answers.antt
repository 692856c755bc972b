use Rattle.std.proofs.Common.{ap, sym, ◌∙◌, arith}
use Rattle.ix_fcalls.proofs.Ends.{second_free, not_none, two_left, both_put}
use Rattle.ix_fcalls.proofs.files.Files.open_both.Goals as goal

pub unreachable-requires : goal.unreachable-requires
unreachable-requires g c = not_none _ (omega (arith, c.requires.two)) (sym c.open_under.ensures.id ∙ c.in_default.is)

pub open_under-requires-2-clause-free : goal.open_under-requires-2-clause-free
open_under-requires-2-clause-free g c = second_free _ _ _ _ _ _ c.requires.second c.in-Some.ensures.who

pub unreachable-requires-in_default-open_under : goal.unreachable-requires-in_default-open_under
unreachable-requires-in_default-open_under g c = not_none _ (two_left _ _ _ _ c.requires.two c.in-Some.ensures.id
    (ap (λ v. v.opens) c.in-Some.ensures.some)) (sym c.open_under-2.ensures.id ∙ c.in_default-open_under.is)

pub returns-clause-who : goal.returns-clause-who
returns-clause-who g c = both_put _ _ _ _ _ _ _ _ c.in-Some.ensures.who c.in-Some-open_under.ensures.who
