use Rattle.std.{proofs.Common.{◌≡◌, length, option_map}, specs.Prelude.slice_get}
use Rattle.ix_model.specs.history.History.{world_of}
use Rattle.ix_image.{specs.Saving.names_at, proofs.Marked.MarkedTo}
use Rattle.ix_image.proofs.named.mark_names.Given as goal

abbrev pub invariant-loop : goal.invariant-loop
invariant-loop l = record {
  long : length l.named ≡ length l.fn.named;
  next : option_map (λ e. (e.0, e.1.0)) l.next ≡ slice_get (names_at (world_of l.core) l.dir.0) l.counter;
  marks : MarkedTo (names_at (world_of l.core) l.dir.0) l.counter l.fn.named l.named;
}
