use Rattle.ix_host.proofs.Noninterference.{low_lines}
use Rattle.ix_host.proofs.laws.low_lines_are_equal.Goals as goal

pub returns : goal.returns
returns c = record { equal = low_lines }
