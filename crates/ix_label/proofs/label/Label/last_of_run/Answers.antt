use Rattle.std.proofs.Common.{◌≡◌, ◌<◌, true, arith}
use Rattle.ix_label.{specs.{Category.has, Words.members}, proofs.Bits.{later, runs_to_gap, runs_to_end}}
use Rattle.ix_label.proofs.label.Label.last_of_run.Goals as goal

pub overflow_sub-result : goal.overflow_sub-result
overflow_sub-result c =
    let one : has (members c.self.inside.words) c.args.first ≡ true = rw c.self.view_is c.requires in
    let after : c.args.first < c.in-Some.gap = later _ _ c.self.invariant c.complement.ensures.count c.complement.ensures.words _ _ one c.in-Some.ensures in
    omega arith

pub returns-in-Some : goal.returns-in-Some
returns-in-Some c =
    let one : has (members c.self.inside.words) c.args.first ≡ true = rw c.self.view_is c.requires in
    rw (← c.self.view_is) (runs_to_gap _ _ c.self.invariant c.complement.ensures.count c.complement.ensures.words _ _ one c.in-Some.ensures)

pub returns-in-None : goal.returns-in-None
returns-in-None c =
    let one : has (members c.self.inside.words) c.args.first ≡ true = rw c.self.view_is c.requires in
    rw (← c.self.view_is) (runs_to_end _ _ c.self.invariant c.complement.ensures.count c.complement.ensures.words _ one c.in-None.ensures)
