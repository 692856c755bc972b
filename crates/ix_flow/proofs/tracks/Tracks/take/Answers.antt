use Rattle.std.proofs.Common.{drop, if◌then◌else◌, sym, subst}
use Rattle.ix_model.specs.world.Contents.{on_side}
use Rattle.ix_flow.specs.{Marks.marks_of, Tracking.{AreSides, HasEnd}}
use Rattle.ix_flow.proofs.tracks.Tracks.take.Goals as goal

pub returns-in_ok-drain-clause-sides : goal.returns-in_ok-drain-clause-sides
returns-in_ok-drain-clause-sides c = λ labels past stand there.
    subst (λ b. AreSides c.drain.new.self labels past (if b then on_side c.args.obj.0 c.args.end (drop c.args.count) (marks_of past) else marks_of past)) (sym c.if-piped.true)
    (c.in_ok-drain.ensures labels past (marks_of past) stand (subst (λ b. HasEnd past (marks_of past) c.args.obj.0 c.args.end b) c.if-piped.true there))

pub returns-else-piped-clause-sides : goal.returns-else-piped-clause-sides
returns-else-piped-clause-sides c = λ labels past stand there.
    subst (λ b. AreSides c.args.self.now.sides labels past (if b then on_side c.args.obj.0 c.args.end (drop c.args.count) (marks_of past) else marks_of past)) (sym c.if-piped.false) stand
