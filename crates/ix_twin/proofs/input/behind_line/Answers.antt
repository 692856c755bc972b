use Rattle.std.proofs.Common.{refl, sym}
use Rattle.ix_check.proofs.InputParts.{lines_none}
use Rattle.ix_twin.proofs.InputParts.{line_there, no_line}
use Rattle.ix_twin.proofs.input.behind_line.Goals as goal

pub returns-in-Some : goal.returns-in-Some
returns-in-Some c =
    let found = c.in-Some.ensures in
    sym (line_there _ _ _ found.line found.parts)

pub returns-in-None : goal.returns-in-None
returns-in-None c = sym (no_line c.args.rest.now (lines_none _ (c.in-None.ensures.none refl)))
