use Rattle.ix_script.specs.{lines.Before.form_told, scripts.Scripts.config_of}
use Rattle.ix_host.proofs.laws.labels_in_form.Goals as goal

pub returns : goal.returns
returns c = record {
  fit = λ bytes s events is lanes.
      let fits = c.scripts_fit.ensures bytes s is in
      c.form_one.ensures.stays (form_told s) (config_of s) events fits.config (c.histories_fit.ensures.fit s events fits.lines lanes);
}
