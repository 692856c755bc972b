use Rattle.std.proofs.Common.{◌≡◌, ◌++◌, ℕ, List, Option, length}
use Rattle.ix_model.specs.history.History.{world_of}
use Rattle.ix_script.specs.lines.Before.{form_told}
use Rattle.ix_replay.specs.report.{Report.closing_text, Telling.{left_of, pieces_of}}
use Rattle.ix_host.specs.run.Outlet.{StandsAt}
use Rattle.ix_host.proofs.streams.teller.Teller.close.Given as goal

abbrev pub invariant-pieces : goal.invariant-pieces
invariant-pieces g l = record {
  same : l.self.sink.ghost_name ≡ l.fn.self.sink.ghost_name;
  stands : (first : Option (List ℕ)) (told : List ℕ) (before : ℕ)
      → StandsAt l.fn.self.failure first (g.K.Sink.taken l.fn.self.sink.now) l.fn.self.waiting.now.items told before (g.K.Sink.faults l.fn.self.sink.now)
      → StandsAt l.self.failure first (g.K.Sink.taken l.self.sink.now) (l.self.waiting.now.items ++ left_of l.closing)
      (told ++ closing_text (form_told l.fn.self.script.now) (world_of l.history) (length l.history.events)) before (g.K.Sink.faults l.self.sink.now);
}

abbrev pub decreases-pieces : goal.decreases-pieces
decreases-pieces g l = pieces_of l.closing
