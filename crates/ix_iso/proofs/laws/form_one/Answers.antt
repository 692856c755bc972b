use Rattle.ix_iso.proofs.forms.Runs.{forms_stay}
use Rattle.ix_iso.proofs.laws.form_one.Goals as goal

pub returns : goal.returns
returns c = record { stays = forms_stay }
