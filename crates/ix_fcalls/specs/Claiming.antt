-- What a claim on an end of a pipe comes to, and the end of one.
use Rattle.std.specs.Prelude.{◌≡◌, ◌-◌, ℕ, Bool, true, false, Option, Some, None, Result, Ok, Err}
use Rattle.ix_model.specs.world.World.{at, change, put, is_pipe, claimed_by}
use Rattle.ix_model.specs.rows.Walks.{OpenFile, entry_at, node}
use Rattle.ix_model.specs.declared.refusal.Refusal.{Refusal}
use Rattle.ix_model.specs.declared.refusal.Refusal.TheVariants as refusal
use Rattle.ix_model.specs.declared.views.Caller.{Caller}
use Rattle.ix_pipe.specs.Claims.{claim_answer}
use Rattle.ix_pipe.specs.declared.claim.Claim.{Claim}
use Rattle.ix_tables.specs.Parts.{Parts}
use Rattle.ix_tables.specs.Views.{frame_alone, claimed}

-- the open entry behind a descriptor of a process
abbrev pub entry_of : Caller → ℕ → Parts → Option OpenFile
entry_of c fd t = entry_at (frame_alone t) (at c.fds fd)

-- the end is claimed by the process, as far as nobody else has claimed it
abbrev pub ClaimsAt : Bool → Result Claim Refusal → ℕ → OpenFile → Parts → Parts → Type 0
ClaimsAt false result pid e old new = (result ≡ Err refusal.NotPipe) × (new ≡ old)
ClaimsAt true result pid e old new =
    let o = e.entry.object in
    (result ≡ Ok (claim_answer pid (at (node old.objects o).claims e.entry.end) (at (node old.objects o).claims (1 - e.entry.end))))
    × (new ≡ claimed o e.entry.end pid old)

abbrev pub ClaimsBehind : Option OpenFile → Result Claim Refusal → ℕ → Parts → Parts → Type 0
ClaimsBehind None result pid old new = (result ≡ Err refusal.BadFd) × (new ≡ old)
ClaimsBehind (Some e) result pid old new = ClaimsAt (is_pipe (node old.objects e.entry.object)) result pid e old new

-- the end behind a descriptor of a process is claimed
abbrev pub Claims : Result Claim Refusal → Caller → ℕ → Parts → Parts → Type 0
Claims result c fd old new = ClaimsBehind (entry_of c fd old) result c.pid.0 old new

-- nobody has claimed that end any more
abbrev pub without_claim : ℕ → ℕ → Parts → Parts
without_claim o end t = record t { objects = change t.objects o (λ x. record x { claims = put x.claims end None }) }

-- the claim ends, where the process has it
abbrev pub UnclaimsAt : Bool → Bool → Result (Unit {0}) Refusal → OpenFile → Parts → Parts → Type 0
UnclaimsAt false has result e old new = (result ≡ Err refusal.NotPipe) × (new ≡ old)
UnclaimsAt true false result e old new = (result ≡ Err refusal.NotClaimed) × (new ≡ old)
UnclaimsAt true true result e old new = (result ≡ Ok tt) × (new ≡ without_claim e.entry.object e.entry.end old)

abbrev pub UnclaimsBehind : Option OpenFile → Result (Unit {0}) Refusal → ℕ → Parts → Parts → Type 0
UnclaimsBehind None result pid old new = (result ≡ Err refusal.BadFd) × (new ≡ old)
UnclaimsBehind (Some e) result pid old new =
    let x = node old.objects e.entry.object in
    UnclaimsAt (is_pipe x) (claimed_by x e.entry.end pid) result e old new

abbrev pub Unclaims : Result (Unit {0}) Refusal → Caller → ℕ → Parts → Parts → Type 0
Unclaims result c fd old new = UnclaimsBehind (entry_of c fd old) result c.pid.0 old new
