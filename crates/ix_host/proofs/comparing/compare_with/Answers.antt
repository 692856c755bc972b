use Rattle.std.{proofs.Common.{ℕ, ◌<◌, ◌≤◌, Option, length, subst, arith}, specs.Prelude.IfSome}
use Rattle.ix_host.{specs.Policies.IsPolicy, proofs.comes_to.Seconds.policy_within}
use Rattle.ix_host.proofs.comparing.compare_with.Goals as goal

pub overflow_add-lines : goal.overflow_add-lines
overflow_add-lines g c =
    let s = c.args.second.now in
    let refused = (subst (λ a. IsPolicy s a) c.in-Ok-Refused.field-0-is c.in-Ok-Refused.ensures).0 in
    let within = subst (λ (o : Option (ℕ × ℕ)). IfSome o (λ refusal. (0 < refusal.0) × (refusal.0 ≤ length s))) refused (policy_within s) in
    omega (arith, c.requires.few, c.requires.short, within.1)
