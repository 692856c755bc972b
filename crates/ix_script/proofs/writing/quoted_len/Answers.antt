use Rattle.std.proofs.Common.{arith}
use Rattle.ix_script.proofs.back.Shortest.{quoted_more}
use Rattle.ix_script.proofs.writing.quoted_len.Goals as goal

pub loop-byte-preserved : goal.loop-byte-preserved
loop-byte-preserved c =
    let more = quoted_more _ _ c.loop-byte-test.true in
    record { so_far = omega arith; small = omega arith }
