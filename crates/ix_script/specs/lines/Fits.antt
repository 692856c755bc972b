-- For which form of labels a line has a text: the one that spells each label in it.
use Rattle.ix_label.specs.declared.form.Form.{Form}
use Rattle.ix_label.specs.Forms.{Fits}
use Rattle.ix_script.specs.declared.line.Line.{Line}
use Rattle.ix_script.specs.declared.line.Line.TheVariants as line

-- the labels of a line
abbrev pub LineFits : Form → Line → Type 0
LineFits form (line.Fs name ceiling blocks inodes) = Fits form ceiling
LineFits form (line.Proc name label ceiling cap lic) = Fits form label × Fits form ceiling
LineFits form (line.Dir path label frozen) = Fits form label
LineFits form (line.File path label frozen cap lic bytes) = Fits form label
LineFits form (line.Setlabel proc path label) = Fits form label
LineFits form (line.Setself proc label) = Fits form label
LineFits form (line.Ceiling proc of_proc label) = Fits form label
LineFits form _ = Unit {0}
