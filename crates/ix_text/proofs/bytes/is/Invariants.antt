use Rattle.std.proofs.Common.{◌≡◌, drop}
use Rattle.ix_model.specs.world.Naming.{same_bytes}
use Rattle.ix_text.proofs.bytes.is.Given as goal

abbrev pub invariant-bytes : goal.invariant-bytes
invariant-bytes l = same_bytes (drop l.i l.word) (drop l.i l.text) ≡ same_bytes l.word l.text
