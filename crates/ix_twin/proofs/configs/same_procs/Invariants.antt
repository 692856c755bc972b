use Rattle.std.{proofs.Common.{◌≡◌, drop, length}, specs.Cmp.Lexicographic.pointwise}
use Rattle.ix_twin.specs.Configs.{same_proc}
use Rattle.ix_twin.proofs.configs.same_procs.Given as goal

abbrev pub invariant-loop-i : goal.invariant-loop-i
invariant-loop-i g l = record {
  lengths : length l.one ≡ length l.two;
  left : pointwise same_proc l.one l.two ≡ pointwise same_proc (drop l.i l.one) (drop l.i l.two);
}
