use Rattle.std.proofs.{Common.{◌≡◌, true, ◌∙◌}, lemmas.Result.err_from_is_err_and}
use Rattle.serde_json.specs.View.{view}
use Rattle.ix_policy.{specs.Policies.{policy, rules_in}, proofs.{Walking.cause_of, Fitting.policy_fits, Values.{policy_of_value, policy_of_none}}}
use Rattle.ix_policy.proofs.policy.Policy.read.Goals as goal

pub returns-in-Err-clause-err : goal.returns-in-Err-clause-err
returns-in-Err-clause-err c =
    policy_of_none c.args.form c.args.text.now (c.in-Err.ensures.err (λ m. let t : c.is_memory.result ≡ true = c.is_memory.ensures.1 m in cc))

pub returns-in_err-rules-clause-err : goal.returns-in_err-rules-clause-err
returns-in_err-rules-clause-err c =
    let form = c.args.form in
    let p = err_from_is_err_and c.from_residual.result c.from_residual.ensures.1 in
    let same = policy_of_value form c.args.text.now (view c.in-Ok.value) c.in-Ok.ensures.ok.0 c.in-Ok.ensures.ok.1 in
    rw (p.1, p.2) (cause_of c.in_err-rules.field-0.0 (rules_in form (view c.in-Ok.value)) (policy form c.args.text.now) (λ f is. same ∙ is) c.in_err-rules.ensures.err)

pub returns-clause-ok : goal.returns-clause-ok
returns-clause-ok c = policy_of_value c.args.form c.args.text.now (view c.in-Ok.value) c.in-Ok.ensures.ok.0 c.in-Ok.ensures.ok.1 ∙ c.in_ok-rules.ensures.ok

pub returns-clause-fits : goal.returns-clause-fits
returns-clause-fits c = policy_fits c.args.form c.args.text.now c.in_ok-rules.rules (returns-clause-ok c)
