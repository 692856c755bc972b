use Rattle.ix_report.proofs.feeds.Lines.{lines_end}
use Rattle.ix_report.proofs.laws.lines_end_once.Goals as goal

pub returns : goal.returns
returns c = record { once = lines_end }
