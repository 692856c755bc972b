use Rattle.std.proofs.Common.{◌≡◌, length, take}
use Rattle.ix_label.specs.Scanning.{left_from}
use Rattle.ix_text.proofs.Items.{IsTold}
use Rattle.ix_text.proofs.labels.push_runs.Given as goal

abbrev pub invariant-runs : goal.invariant-runs
invariant-runs g l = record {
  stays : take (length l.fn.out.items) l.out.items ≡ l.fn.out.items;
  told : IsTold l.label l.from l.fn.out.items l.out.items;
}

abbrev pub decreases-runs : goal.decreases-runs
decreases-runs g l = left_from l.from
