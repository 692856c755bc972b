use Rattle.std.proofs.Common.{arith}
use Rattle.ix_replay.proofs.piecewise.Pieces.{object_told, objects_told}
use Rattle.ix_replay.proofs.reporting.closing.Closing.tell_object.Goals as goal

pub returns-then-n-objects : goal.returns-then-n-objects
returns-then-n-objects c = objects_told c.args.self.now _ _ _ c.requires (omega (arith, c.objects.ensures, c.if-n-objects.true)) c.in_ok-push_heading.ensures

pub returns : goal.returns
returns c = object_told c.args.self.now _ _ _ c.requires (omega (arith, c.objects.ensures, c.if-n-objects.false)) c.in_ok-push_object.ensures
