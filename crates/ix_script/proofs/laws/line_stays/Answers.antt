use Rattle.ix_script.proofs.back.TextBack.{line_back}
use Rattle.ix_script.proofs.laws.line_stays.Goals as goal

pub returns : goal.returns
returns c = λ before text l means sound. let back = line_back _ _ l means sound in (back.means, back.sound, back.short)
