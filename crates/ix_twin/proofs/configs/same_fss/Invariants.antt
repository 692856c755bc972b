use Rattle.std.{proofs.Common.{◌≡◌, drop, length}, specs.Cmp.Lexicographic.pointwise}
use Rattle.ix_twin.specs.Configs.{same_fs}
use Rattle.ix_twin.proofs.configs.same_fss.Given as goal

abbrev pub invariant-loop-i : goal.invariant-loop-i
invariant-loop-i g l = record {
  lengths : length l.one ≡ length l.two;
  left : pointwise same_fs l.one l.two ≡ pointwise same_fs (drop l.i l.one) (drop l.i l.two);
}
