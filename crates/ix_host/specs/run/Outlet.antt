-- How far a text is on its way out.
use Rattle.std.specs.Prelude.{◌≡◌, ℕ, List, Option, Some, None, IfSome}
use Rattle.ix_io.specs.Streams.{Rose}
use Rattle.ix_host.specs.run.Whole.{Sent, WritesFront}
use Rattle.ix_host.specs.declared.status.Status.{Status}
use Rattle.ix_host.specs.declared.status.Status.TheVariants as status
use Rattle.ix_host.specs.declared.streams.outlet.Failure.{Failure}
use Rattle.ix_host.specs.declared.streams.outlet.Failure.TheVariants as failure

-- the status of a run that was cut off
abbrev pub failed_as : Failure → Status
failed_as failure.Write = status.WriteFault
failed_as failure.Memory = status.NoMemory

-- some front of a text went out, where what is taken is told
abbrev pub FrontIsOut : Option (List ℕ) → Option (List ℕ) → List ℕ → Type 0
FrontIsOut first after text = IfSome first (λ taken. WritesFront taken after text)

-- Of a text all went out but what waits, and no write failed; or there was a failure, and some front of it went out.
abbrev pub StandsAt : Option Failure → Option (List ℕ) → Option (List ℕ) → List ℕ → List ℕ → ℕ → ℕ → Type 0
StandsAt None first after waiting text before now = IfSome first (λ taken. Sent taken after waiting text) × (now ≡ before)
StandsAt (Some failure.Write) first after waiting text before now = FrontIsOut first after text × Rose before now
StandsAt (Some failure.Memory) first after waiting text before now = FrontIsOut first after text
