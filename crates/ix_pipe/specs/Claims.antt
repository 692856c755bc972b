-- What a claim on an end of a pipe comes to.
use Rattle.std.specs.Prelude.{ℕ, ◌==◌, Option, Some, None, if◌then◌else◌}
use Rattle.ix_model.specs.world.World.{at}
use Rattle.ix_model.specs.world.Contents.{holds_nothing}
use Rattle.ix_pipe.specs.Pipe.{Pipe, with_claim}
use Rattle.ix_pipe.specs.declared.claim.Claim.{Claim}
use Rattle.ix_pipe.specs.declared.claim.Claim.TheVariants.{Held, Half, Whole}

-- who has an end, where there may be no pipe
abbrev pub claimant_of : ℕ → Option Pipe → Option ℕ
claimant_of end None = None
claimant_of end (Some p) = at p.claims end

-- the answer to the claimant of one end, by who has the other
abbrev pub shared_with : Option ℕ → Claim
shared_with None = Half
shared_with (Some q) = Whole (record { 0 = q })

-- what a process that claims an end is answered, by who has that end and who has the other: only another process that
-- has the end is in the way
abbrev pub claim_answer : ℕ → Option ℕ → Option ℕ → Claim
claim_answer pid None other = shared_with other
claim_answer pid (Some q) other = if q == pid then shared_with other else Held (record { 0 = q })

-- without any bytes
abbrev pub emptied : Pipe → Pipe
emptied p = record p { holding = holds_nothing }

-- an end has just been claimed: where somebody has the other, the path has become whole by it and begins empty
abbrev pub claimed_with : Option ℕ → Pipe → Pipe
claimed_with None p = p
claimed_with (Some q) p = emptied p

-- the pipe after a claim: an end that nobody had is the process's, and one that somebody had stays as it was
abbrev pub claimed : ℕ → ℕ → Option ℕ → Option ℕ → Pipe → Pipe
claimed end pid None other p = claimed_with other (with_claim end (Some pid) p)
claimed end pid (Some q) other p = p
