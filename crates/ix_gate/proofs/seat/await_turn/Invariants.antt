use Rattle.std.proofs.Common.{◌≡◌, []}
use Rattle.ix_gate.specs.AtRest.{HasLooked}
use Rattle.ix_gate.proofs.seat.await_turn.Given as goal

abbrev pub invariant-loop : goal.invariant-loop
invariant-loop g l = (l.token.table_id ≡ l.initial.token.table_id) × (l.token.id ≡ l.initial.token.id) × HasLooked l.initial.token.me.0 l.token.me.0 × (l.token.me.1 ≡ [])
