use Rattle.std.proofs.Common.{List}
use Rattle.ix_script.specs.{declared.line.Line.Line, reader.Readers.LineRight}
use Rattle.ix_script.specs.lines.{Before.form_told, Faults.line_fault, Said.line_of}
use Rattle.ix_script.proofs.lines.Deciding.{whole_fault}
use Rattle.ix_script.proofs.draft.Draft.add_whole.Goals as goal

pub add-requires-clause-right : goal.add-requires-clause-right
add-requires-clause-right c = rw (whole_fault c.args.self.now.lines.said c.args.text.now c.requires.sound) c.in-Ok.ensures

pub returns-in_ok-add-in-Ok-clause-line : goal.returns-in_ok-add-in-Ok-clause-line
returns-in_ok-add-in-Ok-clause-line c =
    let before : List Line = c.args.self.now.lines.said in
    let right : LineRight before c.in-Ok.line (line_fault before c.args.text.now) (line_of (form_told before) c.args.text.now) =
    rw (whole_fault before c.args.text.now c.requires.sound) c.in-Ok.ensures in
    record { line = c.in-Ok.line; right = right; added = c.in_ok-add-in-Ok.ensures.lines }

pub returns-in-Err-clause-fail : goal.returns-in-Err-clause-fail
returns-in-Err-clause-fail c = rw (whole_fault c.args.self.now.lines.said c.args.text.now c.requires.sound, c.in-Err.ensures) c.fault.ensures
