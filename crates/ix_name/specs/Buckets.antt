-- The bucket of a name of a directory.
use Rattle.std.specs.Prelude.{ℕ, ◌+◌, ◌*◌, ◌%◌, List, [], ◌∷◌}
use Rattle.ix_name.specs.declared.entry.Entry.{Entry}

-- a number in which the directory and each byte count
unfoldable pub mixed : ℕ → List ℕ → ℕ
mixed sum [] = sum
mixed sum (b ∷ bytes) = mixed ((sum * 16777619 + b) % 4294967291) bytes

-- the bucket among so many
abbrev pub bucket_of : ℕ → ℕ → List ℕ → ℕ
bucket_of buckets d name = mixed d name % buckets

-- the bucket of an entry
abbrev pub bucket_in : ℕ → Entry → ℕ
bucket_in buckets e = bucket_of buckets e.dir e.name
