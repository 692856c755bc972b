use Rattle.std.{proofs.Common.{◌≡◌, drop}, specs.List.position_from}
use Rattle.ix_script.specs.lines.Before.{is_policy}
use Rattle.ix_script.proofs.script.Script.policy.Given as goal

abbrev pub invariant-lines : goal.invariant-lines
invariant-lines l = position_from is_policy l.index (drop l.index l.self) ≡ position_from is_policy 0 l.self
