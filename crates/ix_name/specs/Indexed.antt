-- How the two pools of chains hold the entries.
use Rattle.std.specs.Prelude.{ℕ, ◌≡◌, ◌<◌, List, length, map, Option}
use Rattle.ix_links.specs.Chains.{Chains, pool}
use Rattle.ix_name.specs.declared.entry.Entry.{Entry}
use Rattle.ix_name.specs.Directories.{Directories}
use Rattle.ix_name.specs.Entries.{lists_of, AreFiled, AreUnique}
use Rattle.ix_name.specs.Buckets.{bucket_in}

-- the names and the free entries that contracts see
abbrev pub directories : List (Option Entry) → Chains → Directories
directories es dirs = record { lists = lists_of es dirs.chains; free = length dirs.free }

-- each entry stands in the chain of its directory and in that of its bucket; both pools are as large as the entries, and
-- have the same free indices; the counts are those of the directories' chains
pub record AreIndexed (es : List (Option Entry)) (dirs buckets : Chains) (counts : List ℕ) (width : ℕ) : Type 0 where
  pub by_dir : AreFiled (λ e. e.dir) dirs.chains es
  pub by_bucket : AreFiled (bucket_in width) buckets.chains es
  pub unique : AreUnique es
  pub alike : buckets.free ≡ dirs.free
  pub counted : counts ≡ map length dirs.chains
  pub wide : length buckets.chains ≡ width
  pub some : 0 < width
  pub dirs_pool : pool dirs ≡ length es
  pub buckets_pool : pool buckets ≡ length es
