use Rattle.std.specs.Vec.{vec_capacity}
use Rattle.ix_journal.proofs.Growing.{none}
use Rattle.ix_journal.proofs.journal.Journal.new.Goals as goal

pub invariant_of-result : goal.invariant_of-result
invariant_of-result c = rw (
  c.in_ok-records.ensures.items,
  c.in_ok-words.ensures.items,
  c.in_ok-labels.ensures.items,
) (none c.args.cap (record {
  records = vec_capacity c.in_ok-records.records;
  words = vec_capacity c.in_ok-words.words;
  labels = vec_capacity c.in_ok-labels.labels;
}) c.requires c.in_ok-records.ensures.capacity c.in_ok-words.ensures.capacity c.in_ok-labels.ensures.capacity)
