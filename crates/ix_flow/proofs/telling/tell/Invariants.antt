use Rattle.std.{proofs.Common.{◌≡◌, ◌≤◌, ◌+◌, ◌-◌, ◌++◌, List, length, take}, specs.List.flat_map}
use Rattle.ix_model.specs.history.History.{History}
use Rattle.ix_flow.specs.{Lines.{piece_line, pieces_from}, Origins.Origin, Reads.{IsWithin, between}, Sides.IsLike, Tracking.{AreFalls, AreLabelled}}
use Rattle.ix_flow.proofs.telling.tell.Given as goal

abbrev pub invariant-loop-number : goal.invariant-loop-number
invariant-loop-number l = record {
  begun : l.read.from ≤ l.number;
  there : l.side.front ≤ l.number;
  end : l.to ≤ l.side.end;
  few : l.read.from + l.lines ≤ l.number;
  stays : take (length l.fn.out.items) l.out.items ≡ l.fn.out.items;
  text : (h : History) (origins : List Origin) → IsWithin l.read l.side → IsLike l.side origins → AreLabelled l.labels.all.items h l.side → AreFalls l.falls h
      → l.out.items ++ flat_map (piece_line h l.read.place l.read.object.0) (pieces_from (l.number - l.read.from) (between l.side.front l.number l.to origins))
      ≡ l.fn.out.items ++ flat_map (piece_line h l.read.place l.read.object.0) (pieces_from 0 (between l.side.front l.read.from (l.read.from + l.read.count) origins));
  counted : (origins : List Origin) → IsWithin l.read l.side → IsLike l.side origins
      → l.lines + length (pieces_from (l.number - l.read.from) (between l.side.front l.number l.to origins)) ≡ length
      (pieces_from 0 (between l.side.front l.read.from (l.read.from + l.read.count) origins));
}

abbrev pub decreases-loop-number : goal.decreases-loop-number
decreases-loop-number l = l.to - l.number
