use Rattle.std.proofs.Common.{arith}
use Rattle.ix_tables.proofs.OpeningNames.{named_none, first_read, rest_is, absent, few, named_more}
use Rattle.ix_tables.proofs.opening.name_roots.Goals as goal

pub loop-spec-init : goal.loop-spec-init
loop-spec-init c = named_none _ _ _ _ _ _ c.requires.within c.requires.some (rest_is c.args.fss.now) (first_read c.args.fss.now c.index-fss-0.result c.requires.some) c.in_ok-names.ensures

pub enter-requires-clause-absent : goal.enter-requires-clause-absent
enter-requires-clause-absent c = absent _ _ _ _ _ _ _ c.spec-item.result c.requires.within c.requires.differ c.requires.inodes c.loop-spec.invariant c.loop-spec-test.true c.spec-item.is

pub overflow_add-root : goal.overflow_add-root
overflow_add-root c = omega (arith, few _ _ _ _ _ _ _ c.spec-item.result c.requires.within c.requires.differ c.requires.inodes c.loop-spec.invariant c.loop-spec-test.true c.spec-item.is)

pub loop-spec-preserved : goal.loop-spec-preserved
loop-spec-preserved c = named_more _ _ _ _ _ _ _ c.spec-item.result c.requires.within c.requires.differ c.requires.inodes c.loop-spec.invariant
    c.loop-spec-test.true c.spec-item.is c.enter.new.names c.enter.ensures
