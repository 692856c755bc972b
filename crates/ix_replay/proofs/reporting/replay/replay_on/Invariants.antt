use Rattle.ix_core.specs.Seen.{KnowsOn}
use Rattle.ix_replay.proofs.Remade.{Remade}
use Rattle.ix_replay.proofs.reporting.replay.replay_on.Given as goal

abbrev pub invariant-loop-made : goal.invariant-loop-made
invariant-loop-made g l = record {
  made : Remade l.history l.replay l.made;
  seen : KnowsOn g.W.Witness.knows l.fn.replay l.fn.witness l.replay l.witness;
}
