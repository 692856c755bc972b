use Rattle.std.proofs.Common.{◌≡◌, ◌≢◌, length, arith}
use Rattle.ix_replay.proofs.piecewise.NextLine.{all_told, line_told, none_told, piece_told}
use Rattle.ix_replay.proofs.reporting.closing.Closing.tell_line.Goals as goal

pub pieces-init : goal.pieces-init
pieces-init c = record { count = omega (arith, c.len-before.ensures, c.args.out.now.ok); line = _; told = none_told c.args.self.now c.args.self.now c.args.out.now.items }

pub pieces-smaller : goal.pieces-smaller
pieces-smaller c = c.in_ok-tell.ensures.fewer

pub pieces-preserved : goal.pieces-preserved
pieces-preserved c =
    let is = c.pieces.invariant in
    let same : length c.pieces.out.items ≡ length c.args.out.now.items = omega (arith, c.len.ensures, c.pieces.out.ok, c.pieces-test.true, is.count) in
    let more = piece_told c.args.self.now c.pieces.self c.args.out.now.items c.pieces.out.items c.tell.new.out.items is.line c.tell.new.self is.told same c.in_ok-tell.ensures in
    record { count = is.count; line = more.0; told = more.1 }

pub returns-else-not-is_told : goal.returns-else-not-is_told
returns-else-not-is_told c =
    let is = c.pieces.invariant in
    let same : length c.pieces.out.items ≡ length c.args.out.now.items = omega (arith, c.len.ensures, c.pieces.out.ok, c.pieces-test.true, is.count) in
    all_told c.args.self.now c.pieces.self c.args.out.now.items c.pieces.out.items is.line is.told same (c.is_told.ensures.told c.if-not-is_told.false)

pub returns-after-pieces : goal.returns-after-pieces
returns-after-pieces c =
    let is = c.pieces.invariant in
    let differs : length c.pieces.out.items ≢ length c.args.out.now.items =
    λ same. c.pieces-test.false (omega (arith, c.len.ensures, c.pieces.out.ok, is.count, same)) in
    line_told c.args.self.now c.pieces.self c.args.out.now.items c.pieces.out.items is.line is.told differs
