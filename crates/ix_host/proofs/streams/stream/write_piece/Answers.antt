use Rattle.std.proofs.Common.{◌∙◌, arith}
use Rattle.ix_host.proofs.piecewise.Fronts.{wrote_more}
use Rattle.ix_host.proofs.streams.stream.write_piece.Goals as goal

pub pieces-preserved : goal.pieces-preserved
pieces-preserved g c = record {
  told = wrote_more _ _ _ _ c.args.text.now c.pieces.at c.in_ok-n.n c.pieces.invariant.told (rw c.split_at.ensures.back at c.in_ok-n.ensures.bytes);
  kept = c.in_ok-n.ensures.cause.kept ∙ c.pieces.invariant.kept;
  within = omega (arith, c.in_ok-n.ensures.bound, c.split_at.ensures.back_len);
}
