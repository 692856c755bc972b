use Rattle.std.proofs.Common.{◌≡◌, length}
use Rattle.ix_parallel.proofs.together.Parts.{TellFirst}
use Rattle.ix_parallel.proofs.phases.parts_of.Given as goal

abbrev pub invariant-loop-n : goal.invariant-loop-n
invariant-loop-n g l = record {
  told : TellFirst l.phase l.n l.lanes l.parts;
  long : length l.parts ≡ 64;
}
