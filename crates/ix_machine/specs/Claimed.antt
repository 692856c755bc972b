-- What a claim, and the end of one, make of the world and of the row.
use Rattle.std.specs.Prelude.{◌≡◌, ℕ, true, Result, Ok, Err, Some}
use Rattle.ix_model.specs.world.World.{World, Process, at, lives, living}
use Rattle.ix_model.specs.history.Step.{pex_answer}
use Rattle.ix_model.specs.rows.OnDescriptors.{pex, unpex}
use Rattle.ix_model.specs.rows.Outcomes.{Refuse, Pass}
use Rattle.ix_model.specs.rows.Walks.{behind}
use Rattle.ix_model.specs.declared.refusal.Refusal.{Refusal}
use Rattle.ix_model.specs.declared.refusal.Refusal.TheVariants as refusal
use Rattle.ix_model.specs.declared.reply.Reply.{Reply}
use Rattle.ix_model.specs.declared.reply.Reply.TheVariants as reply
use Rattle.ix_pipe.specs.declared.claim.Claim.{Claim}
use Rattle.ix_pipe.specs.declared.claim.Claim.TheVariants as claim

-- the world is what a claim that is answered so makes of it
abbrev pub AnswersPex : ℕ → ℕ → Reply → World → World → Type 0
AnswersPex pid fd r w u = u ≡ (pex_answer w (behind w.frame pid fd) r u.frame).world

-- what a process that has the other end makes of the row
abbrev pub WholeWith : ℕ → ℕ → ℕ → World → World → Type 0
WholeWith q pid fd w u = (p : Process) → living (at u.frame.processes q) ≡ Some p → pex pid fd w.frame ≡ Pass (reply.Whole (record { 0 = q }) p.label p.lic) u.frame

-- A claim that is refused, or is held by another, leaves the world; one that is the caller's is the row's, and whoever has
-- the other end lives.
abbrev pub ClaimedIs : Result Claim Refusal → ℕ → ℕ → World → World → Type 0
ClaimedIs (Err why) pid fd w u = (pex pid fd w.frame ≡ Refuse why w.frame) × (u ≡ w)
ClaimedIs (Ok (claim.Held q)) pid fd w u = (pex pid fd w.frame ≡ Refuse refusal.PexHeld w.frame) × (u ≡ w)
ClaimedIs (Ok claim.Half) pid fd w u = (pex pid fd w.frame ≡ Pass reply.Half u.frame) × AnswersPex pid fd reply.Half w u
ClaimedIs (Ok (claim.Whole q)) pid fd w u = (lives u.frame q.0 ≡ true) × WholeWith q.0 pid fd w u × ((r : Reply) → AnswersPex pid fd r w u)

-- the end of a claim
abbrev pub UnclaimedIs : Result (Unit {0}) Refusal → ℕ → ℕ → World → World → Type 0
UnclaimedIs (Err why) pid fd w u = (unpex pid fd w.frame ≡ Refuse why w.frame) × (u ≡ w)
UnclaimedIs (Ok done) pid fd w u = (unpex pid fd w.frame ≡ Pass reply.Done u.frame) × (u.content ≡ w.content)
