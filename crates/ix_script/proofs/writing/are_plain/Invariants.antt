use Rattle.std.{proofs.Common.{◌≡◌, take}, specs.List.list_all}
use Rattle.ix_script.specs.texts.Spellings.{stands_quoted}
use Rattle.ix_script.proofs.writing.are_plain.Given as goal

abbrev pub invariant-loop-byte : goal.invariant-loop-byte
invariant-loop-byte l = l.all ≡ list_all stands_quoted (take l.byte-index l.bytes)
