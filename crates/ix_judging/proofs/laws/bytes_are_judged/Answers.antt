use Rattle.std.proofs.Common.{length, refl}
use Rattle.ix_judging.proofs.ByBytes.{bytes_are_judged}
use Rattle.ix_judging.proofs.laws.bytes_are_judged.Goals as goal

pub returns : goal.returns
returns c = record { right = λ p at lawful prints bytes found. bytes_are_judged p prints (length at.lanes) lawful at bytes found refl }
