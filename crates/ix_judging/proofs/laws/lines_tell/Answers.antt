use Rattle.std.proofs.Common.{length, refl}
use Rattle.ix_judging.proofs.Fronts.{lines_tell}
use Rattle.ix_judging.proofs.laws.lines_tell.Goals as goal

pub returns : goal.returns
returns c = record { tell = λ p at lawful n g h. lines_tell p (length at.lanes) lawful n at g h refl }
