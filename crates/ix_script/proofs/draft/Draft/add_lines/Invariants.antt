use Rattle.std.{proofs.Common.{◌≡◌, true, drop, length}, specs.{Prelude.IsTrue, List.list_all}}
use Rattle.ix_model.specs.opening.Valid.{is_within}
use Rattle.ix_script.{specs.texts.Lines.cut, proofs.reader.Progress.Reading}
use Rattle.ix_script.proofs.draft.Draft.add_lines.Given as goal

abbrev pub invariant-lines : goal.invariant-lines
invariant-lines g l = record {
  reading : Reading (cut l.bytes) (length l.bytes) l.rest l.self;
  text : l.self.lines.text ≡ l.bytes;
  rest : l.rest ≡ drop l.self.lines.at l.bytes;
  printable : IsTrue l.printable → list_all (list_all (is_within 32 126)) (cut l.rest) ≡ true;
}

abbrev pub decreases-lines : goal.decreases-lines
decreases-lines g l = length l.rest
