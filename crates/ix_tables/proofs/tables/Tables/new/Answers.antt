use Rattle.std.proofs.Common.{ap, ◌∙◌, arith}
use Rattle.ix_tables.{specs.Parts.parts_of, proofs.OpeningPlaces.all_lines}
use Rattle.ix_tables.proofs.tables.Tables.new.Goals as goal

pub loop-i-init : goal.loop-i-init
loop-i-init c = c.in_ok-tables.ensures

pub returns : goal.returns
returns c = c.loop-i.invariant ∙ ap parts_of (all_lines c.args.config.now c.loop-i.i (omega (arith, c.loop-i-test.false, c.len-i-end.ensures)))
