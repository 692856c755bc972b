use Rattle.ix_script.proofs.lines.FormTable.{Looking}
use Rattle.ix_script.proofs.form.form_of.Given as goal

abbrev pub invariant-entries : goal.invariant-entries
invariant-entries l = Looking l.word l.table l.i
