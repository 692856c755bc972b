-- What comes of an asking whatever the answers are, and when nothing private does.
use Rattle.std.proofs.Common.{◌≡◌, ℕ, Bool, true, false, List, [], ◌∷◌, refl, ap, ◌∙◌, subst, if◌then◌else◌}
use Rattle.ix_label.specs.Category.{Categories}
use Rattle.ix_model.specs.history.Events as op
use Rattle.ix_model.specs.{history.Systems.FitsCall, declared.{ids.Pid.Pid, refusal.Refusal.Refusal, reply.Reply.Reply}}
use Rattle.ix_model.specs.declared.reply.Reply.TheVariants as reply
use Rattle.ix_policy.specs.declared.request.Verdict.{Verdict}
use Rattle.ix_asking.specs.{declared.serving.outcome.Outcome.Outcome, Asking.{Answered, Asking, Done, Ask, Came, next}, serving.Privately.NotPrivateAtHalf}
use Rattle.ix_asking.specs.serving.Serving.{OnMessage, Server, claim, if_refused, on_claim, on_verdict, read, tell, when_told}
use Rattle.ix_asking.specs.declared.serving.outcome.Outcome.TheVariants as outcome

-- whatever the answers are, only such can come of it
abbrev pub OnlyComes : {R : Type 0} → (R → Type 0) → Asking R → Type 0
OnlyComes P (Done r) = P r
OnlyComes P (Ask a more) = (answer : Answered) → OnlyComes P (more answer)

pub only-comes : (R : Type 0) (P : R → Type 0) (p : Asking R) (answers : List Answered) (r : R) → OnlyComes P p → next p answers ≡ Came r → P r
only-comes R P (Done s) [] r h e = let same : s ≡ r = cc in subst P same h
only-comes R P (Ask a more) [] r h e = cc
only-comes R P (Done s) (x ∷ answers) r h e = only-comes R P (Done s) answers r h e
only-comes R P (Ask a more) (x ∷ answers) r h e = only-comes R P (more x) answers r (h x) e

pub either : (r : Reply) (refused : Refusal → Asking Outcome) (passed : Asking Outcome) (P : Outcome → Type 0)
    → ((why : Refusal) → OnlyComes P (refused why)) → OnlyComes P passed → OnlyComes P (if_refused r refused passed)
either (reply.No why) refused passed P h k = h why
either _ refused passed P h k = k

-- ---- no other outcome is that nothing is private
abbrev pub Other : Outcome → Type 0
Other o = o ≡ outcome.NotPrivate → ⊥

tell-other : (s : Server) (o : Outcome) → ((told : Bool) → Other (when_told o told)) → OnlyComes Other (tell s o)
tell-other s o h = λ a b. h (if_refused a.reply (λ why. false) true)

pub refused-other : (s : Server) (why : Refusal) (step : ℕ) → OnlyComes Other (tell s (outcome.Refused why step))
refused-other s why step = tell-other s (outcome.Refused why step) (λ told e. cc)

pub granted-other : (s : Server) (who : Pid) (rule : ℕ) → OnlyComes Other (tell s (outcome.Granted rule who false))
granted-other s who rule = tell-other s (outcome.Granted rule who false) (λ told e. cc)

pub bad-other : (s : Server) (at : ℕ) → OnlyComes Other (tell s (outcome.BadRequest at false))
bad-other s at = tell-other s (outcome.BadRequest at false) (λ told e. cc)

verdict_step : (s : Server) (allowed : ℕ → Asking Outcome) (rule : ℕ) (allow : Bool) → ((n : ℕ) → OnlyComes Other (allowed n))
    → OnlyComes Other (if allow then allowed rule else tell s (outcome.Denied rule false))
verdict_step s allowed rule true h = h rule
verdict_step s allowed rule false h = tell-other s (outcome.Denied rule false) (λ told e. cc)

pub verdict-other : (s : Server) (allowed : ℕ → Asking Outcome) (verdict : Verdict) → ((n : ℕ) → OnlyComes Other (allowed n))
    → OnlyComes Other (on_verdict s allowed verdict)
verdict-other s allowed verdict h = verdict_step s allowed verdict.rule verdict.allow h

-- ---- the claim
half_only : (s : Server) (on : OnMessage) (other : (client : Pid) (label : Categories) (message : List ℕ) → OnlyComes Other (on client label message))
    (answers : List Answered) (r : Reply)
    → FitsCall (op.Pex s.fd) r → next (on_claim s on r) answers ≡ Came outcome.NotPrivate → r ≡ reply.Half
half_only s on other answers (reply.No why) fits e =
    absurd (only-comes Outcome Other (Done (outcome.Refused why 1)) answers outcome.NotPrivate (λ f. cc) e refl)
half_only s on other answers reply.Half fits e = refl
half_only s on other answers (reply.Whole client label lic) fits e =
    absurd (only-comes Outcome Other (read s on client label) answers outcome.NotPrivate
    (λ a. either a.reply _ _ Other (λ why f. cc) (other client label a.bytes)) e refl)
half_only s on other answers _ fits e = absurd fits

done_stays : (o : Outcome) (answers : List Answered) → next (Done o) answers ≡ Came o
done_stays o [] = refl
done_stays o (a ∷ answers) = done_stays o answers

-- where nothing else tells that nothing is private, the claim alone does
pub private-at-claim : (s : Server) (on : OnMessage) → ((client : Pid) (label : Categories) (message : List ℕ) → OnlyComes Other (on client label message))
    → NotPrivateAtHalf s (claim s on)
private-at-claim s on other = record {
  only = λ a answers fits e. half_only s on other answers a.reply fits e;
  comes = λ a answers e. ap (λ r. next (on_claim s on r) answers) e ∙ done_stays outcome.NotPrivate answers;
}
