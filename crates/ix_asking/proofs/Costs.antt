-- What the calls that are asked for cost, where none is answered more bytes than a read may give.
use Rattle.std.proofs.Common.{ℕ, ◌+◌, ◌≤◌, ◌<◌, ◌^◌, Bool, true, false, List, [], ◌∷◌, ◌++◌, length, min, codes, arith, if◌then◌else◌}
use Rattle.std.{specs.Fmt.decimal, proofs.lemmas.{Fmt.length-decimal-le, List.length-append}}
use Rattle.ix_label.specs.Category.{Categories}
use Rattle.ix_model.specs.{history.{Cost.cost_of, Events.Op}, rows.Refusals.number_of}
use Rattle.ix_model.specs.declared.{ids.{Fd.Fd, Pid.Pid}, refusal.Refusal.Refusal, reply.Reply.Reply}
use Rattle.ix_model.specs.history.Events as op
use Rattle.ix_model.specs.declared.refusal.Refusal.TheVariants as refusal
use Rattle.ix_model.specs.declared.reply.Reply.TheVariants as reply
use Rattle.ix_policy.specs.declared.request.Verdict.{Verdict}
use Rattle.ix_asking.specs.{declared.serving.outcome.Outcome.Outcome, Asking.{Answered, Asking, Done, Ask, mapped}, Copies.{copies, write_all}}
use Rattle.ix_asking.specs.serving.Serving.{OnMessage, Server, claim, if_refused, on_claim, on_verdict, read, tell, told_text}
use Rattle.ix_asking.{specs.serving.Messages.longest_front, proofs.Fronts.longest-within}
use Rattle.ix_asking.specs.declared.serving.outcome.Outcome.TheVariants as outcome

-- so many bytes are no more than a read may give
abbrev pub AreFew : Op → ℕ → Type 0
AreFew (op.ReadFd fd count) n = n ≤ min count 4096
AreFew _ n = Unit {0}

-- together the calls cost so much at the most
abbrev pub Costs : {R : Type 0} → ℕ → Asking R → Type 0
Costs most (Done r) = Unit {0}
Costs most (Ask a later) =
    (rest : ℕ) × (cost_of a.op + rest ≤ most) × ((x : Answered) → AreFew a.op (length x.bytes) → Costs rest (later x))

pub costs-more : (R : Type 0) (m n : ℕ) (p : Asking R) → m ≤ n → Costs m p → Costs n p
costs-more R m n (Done r) h c = tt
costs-more R m n (Ask a later) h c = (c.0, omega (arith, h, c.1), c.2)

pub costs-mapped : (A B : Type 0) (f : A → B) (m : ℕ) (p : Asking A) → Costs m p → Costs m (mapped f p)
costs-mapped A B f m (Done r) c = tt
costs-mapped A B f m (Ask a later) c = (c.0, c.1, λ x few. costs-mapped A B f c.0 (later x) (c.2 x few))

-- whether a call is refused or not
pub costs-refused : (A : Type 0) (m : ℕ) (r : Reply) (refused : Refusal → Asking A) (passed : Asking A)
    → ((why : Refusal) → Costs m (refused why)) → Costs m passed
    → Costs m (if_refused r refused passed)
costs-refused A m (reply.No why) refused passed h k = h why
costs-refused A m _ refused passed h k = k

pub costs-either : (A : Type 0) (m : ℕ) (b : Bool) (p q : Asking A) → Costs m p → Costs m q → Costs m (if b then p else q)
costs-either A m true p q h k = h
costs-either A m false p q h k = k

-- ---- a `copy`
write_costs : (line : ℕ) (pid : Pid) (to : Fd) (m : ℕ) (bytes : List ℕ) → 128 + length bytes ≤ m → Costs m (write_all line pid to bytes)
unfolding cost_of
write_costs line pid to m [] h = tt
write_costs line pid to m (b ∷ bytes) h = (0, omega (arith, h), λ x few. tt)

pub copy-costs : (line : ℕ) (pid : Pid) (from to : Fd) (count : ℕ) → Costs (256 + min count 4096) (copies line pid from to count)
unfolding cost_of
copy-costs line pid from to count =
    (128 + min count 4096, omega arith, λ x few. write_costs line pid to (128 + min count 4096) x.bytes (omega (arith, few)))

-- ---- what servers tell
-- a word of at most eight letters and a number of at most eight digits
told_few : (word : List ℕ) (n : ℕ) → length word ≤ 8 → n < 10 ^ 8 → length (word ++ decimal n) ≤ 16
told_few word n h k = omega (arith, length-append word (decimal n), h, length-decimal-le 8 n (omega arith) k (omega (arith, k)))

refusals_few : (why : Refusal) → number_of why < 10 ^ 8
refusals_few refusal.NoProcess = omega arith
refusals_few _ = omega arith

pub granted-few : (rule : ℕ) (who : Pid) (told : Bool) → rule < 10 ^ 8 → length (told_text (outcome.Granted rule who told)) ≤ 16
granted-few rule who told h = told_few (codes "granted ") rule (omega arith) h

pub denied-few : (rule : ℕ) (told : Bool) → rule < 10 ^ 8 → length (told_text (outcome.Denied rule told)) ≤ 16
denied-few rule told h = told_few (codes "denied ") rule (omega arith) h

bad-few : (at : ℕ) (told : Bool) → at < 10 ^ 8 → length (told_text (outcome.BadRequest at told)) ≤ 16
bad-few at told h = told_few (codes "bad ") at (omega arith) h

pub refused-few : (why : Refusal) (step : ℕ) → length (told_text (outcome.Refused why step)) ≤ 16
refused-few why step = told_few (codes "refused ") (number_of why) (omega arith) (refusals_few why)

module _ (s : Server) where
  -- a server tells in two entries, with 16 bytes
  pub tell-costs : (o : Outcome) → length (told_text o) ≤ 16 → Costs 272 (tell s o)
  unfolding cost_of
  tell-costs o h = (128, omega (arith, h), λ a few. (0, omega arith, λ b few. tt))

  pub told-costs : (o : Outcome) (m : ℕ) → 272 ≤ m → length (told_text o) ≤ 16 → Costs m (tell s o)
  told-costs o m h few = costs-more Outcome 272 m (tell s o) h (tell-costs o few)

  -- a message that is no request
  pub bad-costs : (test : List ℕ → Bool) (message : List ℕ) (m : ℕ) → 272 ≤ m → length message ≤ 64 → Costs m (tell s (outcome.BadRequest (longest_front test message) false))
  bad-costs test message m h short =
      told-costs (outcome.BadRequest (longest_front test message) false) m h (bad-few _ false (omega (arith, short, longest-within test message (length message))))

  pub verdict-costs : (allowed : ℕ → Asking Outcome) (verdict : Verdict) (m : ℕ) → 272 ≤ m → verdict.rule < 10 ^ 8
      → Costs m (allowed verdict.rule) → Costs m (on_verdict s allowed verdict)
  verdict-costs allowed verdict m h k c = costs-either Outcome m verdict.allow _ _ c (told-costs (outcome.Denied verdict.rule false) m h (denied-few verdict.rule false k))

  read_costs : (on : OnMessage) (client : Pid) (label : Categories) (m : ℕ)
      → ((message : List ℕ) → length message ≤ 64 → Costs m (on client label message)) → Costs (128 + m) (read s on client label)
  unfolding cost_of
  read_costs on client label m h =
      (m, omega arith, λ a few. costs-refused Outcome m a.reply _ _ (λ why. tt) (h a.bytes (omega (arith, few))))

  on_reply : (on : OnMessage) (r : Reply) (m : ℕ)
      → ((client : Pid) (label : Categories) (message : List ℕ) → length message ≤ 64 → Costs m (on client label message))
      → Costs (128 + m) (on_claim s on r)
  on_reply on (reply.No why) m h = tt
  on_reply on (reply.Whole client label lic) m h = read_costs on client label m (h client label)
  on_reply on _ m h = tt

  -- the claim and the read are two entries
  pub claim-costs : (on : OnMessage) (m : ℕ)
      → ((client : Pid) (label : Categories) (message : List ℕ) → length message ≤ 64 → Costs m (on client label message))
      → Costs (256 + m) (claim s on)
  unfolding cost_of
  claim-costs on m h = (128 + m, omega arith, λ a few. on_reply on a.reply m h)
