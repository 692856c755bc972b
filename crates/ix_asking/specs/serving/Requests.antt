-- How far a message is one of some requests.
use Rattle.std.specs.Prelude.{ℕ, ◌≤◌, List, ◌++◌, length, take}

-- a text that some request begins with
abbrev pub Begins : (List ℕ → Type 0) → List ℕ → Type 0
Begins IsRequest text = (rest : List ℕ) × IsRequest (text ++ rest)

-- the longest front of a message that some request begins with has so many bytes
pub record IsLongest (IsRequest : List ℕ → Type 0) (message : List ℕ) (count : ℕ) : Type 0 where
  pub fits : count ≤ length message
  pub begins : Begins IsRequest (take count message)
  pub longest : (k : ℕ) → k ≤ length message → Begins IsRequest (take k message) → k ≤ count
