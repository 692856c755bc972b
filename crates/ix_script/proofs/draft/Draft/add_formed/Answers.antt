use Rattle.ix_script.{specs.lines.{Before.form_told, Forms.places}, proofs.lines.Readings.stand}
use Rattle.ix_script.proofs.draft.Draft.add_formed.Goals as goal

pub line_said-requires : goal.line_said-requires
line_said-requires g c = rw c.form.ensures (stand (places (form_told c.args.self.now.lines.said) c.args.form c.args.words.now) c.requires.formed.faultless)
