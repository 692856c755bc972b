-- Faults that are planned: the calls of some numbers fail.
use Rattle.std.specs.Prelude.{ℕ, ◌==◌, Bool, List}
use Rattle.std.specs.List.{list_any}
use Rattle.ix_io.specs.Streams.{counted, noted}

-- which calls are to fail, counted from 0; how many were made; how often it failed
pub record Plan : Type 0 where
  pub fails : List ℕ
  pub calls : ℕ
  pub faults : ℕ

-- no call was made yet
abbrev pub start : List ℕ → Plan
start fails = record { fails = fails; calls = 0; faults = 0 }

-- the next call is to fail
abbrev pub fails_next : Plan → Bool
fails_next p = list_any (λ call. call == p.calls) p.fails

-- after one call more, which failed or not
abbrev pub after_call : Plan → Bool → Plan
after_call p failed = record p { calls = counted p.calls 1; faults = noted p.faults failed }
