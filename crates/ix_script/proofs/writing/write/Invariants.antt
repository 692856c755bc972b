use Rattle.std.proofs.Common.{◌≡◌, ◌≤◌, ◌-◌, ◌++◌, length}
use Rattle.ix_script.specs.scripts.Canonical.{canonical, canonical_from}
use Rattle.ix_script.proofs.writing.write.Given as goal

abbrev pub invariant-parts : goal.invariant-parts
invariant-parts l = (l.first ≤ length l.script) × (l.text.items ++ canonical_from l.script l.first ≡ canonical l.script)

abbrev pub decreases-parts : goal.decreases-parts
decreases-parts l = length l.script - l.first
