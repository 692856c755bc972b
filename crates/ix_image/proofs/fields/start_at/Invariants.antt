use Rattle.std.proofs.Common.{◌≡◌, drop}
use Rattle.ix_image.specs.{Image.first_bytes, Reading.same_at}
use Rattle.ix_image.proofs.fields.start_at.Given as goal

abbrev pub invariant-loop-i : goal.invariant-loop-i
invariant-loop-i l = same_at (drop l.i first_bytes) (drop l.i l.bytes) ≡ same_at first_bytes l.bytes
