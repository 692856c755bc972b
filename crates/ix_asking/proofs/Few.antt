-- How many calls are asked for at most, whatever they are answered.
use Rattle.std.proofs.Common.{ℕ, zero, suc, ◌≤◌, Bool, true, false, List, arith, if◌then◌else◌}
use Rattle.ix_label.specs.Category.{Categories}
use Rattle.ix_model.specs.declared.{ids.Pid.Pid, refusal.Refusal.Refusal, reply.Reply.Reply}
use Rattle.ix_model.specs.declared.reply.Reply.TheVariants as reply
use Rattle.ix_policy.specs.declared.request.Verdict.{Verdict}
use Rattle.ix_asking.specs.{Asking.{Answered, Asking, Done, Ask, mapped}, declared.serving.outcome.Outcome.Outcome}
use Rattle.ix_asking.specs.serving.Serving.{OnMessage, Server, claim, if_refused, on_claim, on_verdict, read, tell}
use Rattle.ix_asking.specs.declared.serving.outcome.Outcome.TheVariants as outcome

-- at most so many calls are asked for
abbrev pub Few : {R : Type 0} → ℕ → Asking R → Type 0
Few n (Done r) = Unit {0}
Few zero (Ask a later) = ⊥
Few (suc n) (Ask a later) = (x : Answered) → Few n (later x)

pub few-more : (R : Type 0) (n m : ℕ) (p : Asking R) → n ≤ m → Few n p → Few m p
few-more R n m (Done r) le few = tt
few-more R zero m (Ask a later) le few = absurd few
few-more R (suc n) zero (Ask a later) le few = absurd (omega (arith, le))
few-more R (suc n) (suc m) (Ask a later) le few = λ x. few-more R n m (later x) (omega (arith, le)) (few x)

pub few-mapped : (A B : Type 0) (n : ℕ) (f : A → B) (p : Asking A) → Few n p → Few n (mapped f p)
few-mapped A B n f (Done r) few = tt
few-mapped A B zero f (Ask a later) few = absurd few
few-mapped A B (suc n) f (Ask a later) few = λ x. few-mapped A B n f (later x) (few x)

pub few-either : (R : Type 0) (n : ℕ) (b : Bool) (p q : Asking R) → Few n p → Few n q → Few n (if b then p else q)
few-either R n true p q few other = few
few-either R n false p q few other = other

-- of what comes whether a call is refused or not
pub few-refused : (R : Type 0) (n : ℕ) (r : Reply) (refused : Refusal → Asking R) (passed : Asking R)
    → ((why : Refusal) → Few n (refused why)) → Few n passed → Few n (if_refused r refused passed)
few-refused R n (reply.No why) refused passed few other = few why
few-refused R n _ refused passed few other = other

-- ---- what servers share
module _ (s : Server) where
  -- a text is written, and the claim given up
  pub few-told : (n : ℕ) (o : Outcome) → 2 ≤ n → Few n (tell s o)
  few-told n o le = few-more Outcome 2 n (tell s o) le (λ a b. tt)

  pub few-decided : (n : ℕ) (allowed : ℕ → Asking Outcome) (verdict : Verdict) → 2 ≤ n → ((rule : ℕ) → Few n (allowed rule))
      → Few n (on_verdict s allowed verdict)
  few-decided n allowed verdict le few =
      few-either Outcome n verdict.allow _ _ (few verdict.rule) (few-told n (outcome.Denied verdict.rule false) le)

  few_read : (n : ℕ) (on : OnMessage) (client : Pid) (label : Categories) → ((message : List ℕ) → Few n (on client label message))
      → Few (suc n) (read s on client label)
  few_read n on client label few = λ a. few-refused Outcome n a.reply _ _ (λ why. tt) (few a.bytes)

  few_on_reply : (n : ℕ) (on : OnMessage) (r : Reply) → ((client : Pid) (label : Categories) (message : List ℕ) → Few n (on client label message))
      → Few (suc n) (on_claim s on r)
  few_on_reply n on (reply.No why) few = tt
  few_on_reply n on (reply.Whole client label lic) few = few_read n on client label (few client label)
  few_on_reply n on _ few = tt

  pub few-claimed : (n : ℕ) (on : OnMessage) → ((client : Pid) (label : Categories) (message : List ℕ) → Few n (on client label message))
      → Few (suc (suc n)) (claim s on)
  few-claimed n on few = λ a. few_on_reply n on a.reply few
