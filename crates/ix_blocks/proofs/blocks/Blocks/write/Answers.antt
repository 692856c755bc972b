use Rattle.std.proofs.{Common.{◌<◌, length, arith}, lemmas.Bool.Decides.nat_tests}
use Rattle.ix_blocks.proofs.Editing.{written, ok_only}
use Rattle.ix_blocks.proofs.blocks.Blocks.write.Goals as goal

pub returns-clause-bytes : goal.returns-clause-bytes
returns-clause-bytes c =
    let clauses = c.in_ok-grow.ensures in
    let some : 0 < length c.args.bytes.now = grind (arith, nat_tests, c.if-is_empty.ensures) in
    written _ _ _ _ _ _ c.requires.file some (ok_only _ tt tt _ clauses.room) clauses.bytes c.lay.ensures
