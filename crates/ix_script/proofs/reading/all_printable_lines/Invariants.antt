use Rattle.std.{proofs.Common.{◌≡◌, ◌&&◌, drop}, specs.List.list_all}
use Rattle.ix_script.specs.reader.Readers.{in_printable_lines}
use Rattle.ix_script.proofs.reading.all_printable_lines.Given as goal

abbrev pub invariant-loop-b : goal.invariant-loop-b
invariant-loop-b l = (l.all && list_all in_printable_lines (drop l.b-index l.bytes)) ≡ list_all in_printable_lines l.bytes
