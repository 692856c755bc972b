use Rattle.ix_twin.proofs.LinesAlike.{twin_lines}
use Rattle.ix_twin.proofs.laws.twin_lines.Goals as goal

pub returns : goal.returns
returns c = record { lines = twin_lines c.configs_alike.ensures.alike }
