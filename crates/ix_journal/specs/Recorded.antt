-- The record of an entry, as contracts see it.
use Rattle.std.specs.Prelude.{ℕ}
use Rattle.ix_journal.specs.declared.record.Head.{Head}

-- who made the entry and where, where its words begin and how many bytes they take, and the head of its call
pub record Recorded : Type 0 where
  pub seat : ℕ
  pub line : ℕ
  pub pid : ℕ
  pub start : ℕ
  pub len : ℕ
  pub head : Head
