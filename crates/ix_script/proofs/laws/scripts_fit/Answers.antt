use Rattle.ix_script.proofs.reader.Fitted.{config_fits, lines_fit}
use Rattle.ix_script.proofs.laws.scripts_fit.Goals as goal

pub returns : goal.returns
returns c = λ bytes lines h. let fit = lines_fit _ _ h in record { lines = fit; config = config_fits _ fit }
