-- What a contract sees of pipes: a table that has a pipe or none at each number.
use Rattle.std.specs.Prelude.{ℕ, ◌+◌, ◌≤◌, ◌≡◌, Bool, false, nat_le, List, [], ◌++◌, length, drop, Option, Some, None}
use Rattle.std.specs.Option.{option_map_or}
use Rattle.ix_label.specs.Category.{Categories, bottom}
use Rattle.ix_model.specs.world.World.{Holding, at, put, no_claims}
use Rattle.ix_model.specs.world.Contents.{holds_nothing, side, with_side}

-- a label, a claim on each end (a pid or none), and what each end can read
pub record Pipe : Type 0 where
  pub label : Categories
  pub claims : List (Option ℕ)
  pub holding : Holding

-- the most bytes that a direction holds
abbrev pub most : ℕ
most = 4096

-- a pipe as it is made
abbrev pub new_pipe : Pipe
new_pipe = record { label = bottom; claims = no_claims; holding = holds_nothing }

-- what an end can read, and what it can where there may be no pipe
abbrev pub waiting : ℕ → Pipe → List ℕ
waiting end p = side end p.holding

abbrev pub waiting_at : List (Option Pipe) → ℕ → ℕ → List ℕ
waiting_at pipes n end = option_map_or (waiting end) (at pipes n) []

-- without the first bytes that an end can read, and with bytes more after them
abbrev pub with_fewer : ℕ → ℕ → Pipe → Pipe
with_fewer end k p = record p { holding = with_side end (drop k (waiting end p)) p.holding }

abbrev pub with_more : ℕ → List ℕ → Pipe → Pipe
with_more end bytes p = record p { holding = with_side end (waiting end p ++ bytes) p.holding }

-- whether so many bytes more fit into what an end can read
abbrev pub fits : ℕ → List ℕ → Pipe → Bool
fits end bytes p = nat_le (length (waiting end p) + length bytes) most

abbrev pub fits_at : List (Option Pipe) → ℕ → ℕ → List ℕ → Bool
fits_at pipes n end bytes = option_map_or (fits end bytes) (at pipes n) false

-- with another label, and with another claim on an end
abbrev pub with_label : Categories → Pipe → Pipe
with_label label p = record p { label = label }

abbrev pub with_claim : ℕ → Option ℕ → Pipe → Pipe
with_claim end claimant p = record p { claims = put p.claims end claimant }

-- the table with a new pipe, where a number is free
abbrev pub made : Option ℕ → List (Option Pipe) → List (Option Pipe)
made None pipes = pipes
made (Some n) pipes = put pipes n (Some new_pipe)

-- each pipe has two claims, and two directions of bounded length
pub record IsBounded (p : Pipe) : Type 0 where
  pub claims : length p.claims ≡ 2
  pub first : length p.holding.first ≤ most
  pub second : length p.holding.second ≤ most
