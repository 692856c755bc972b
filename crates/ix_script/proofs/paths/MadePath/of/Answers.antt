use Rattle.std.proofs.Common.{◌∙◌}
use Rattle.ix_script.proofs.back.OneSpelling.{made_again, made_from}
use Rattle.ix_script.proofs.paths.MadePath.of.Goals as goal

pub of-requires : goal.of-requires
of-requires c = (made_from _ c.requires).0

pub invariant_of-result : goal.invariant_of-result
invariant_of-result c = made_again _ _ ((made_from _ c.requires).1 ∙ c.of.ensures)

pub returns : goal.returns
returns c = (made_from _ c.requires).1 ∙ c.of.ensures
