use Rattle.std.proofs.Common.{drop}
use Rattle.ix_script.{specs.texts.Payloads.quoted_from, proofs.texts.Spelling.Counted}
use Rattle.ix_script.specs.declared.payload.Escape.TheVariants as escape
use Rattle.ix_script.proofs.payload.quoted.Given as goal

abbrev pub invariant-bytes : goal.invariant-bytes
invariant-bytes l = Counted l.count l.i 0 (quoted_from l.at (drop l.i l.text)) (quoted_from escape.Plain l.text)
