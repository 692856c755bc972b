use Rattle.std.proofs.{Common.{sym, ◌∙◌, arith}, lemmas.Result.err_from_is_err_and}
use Rattle.serde_json.specs.View.{view, items_view}
use Rattle.ix_policy.{specs.Policies.{next_rules, rules_of}, proofs.Walking.{too_many, not_too_many, one_more, one_wrong, none_left, cause_of}}
use Rattle.ix_policy.proofs.reading.rules_of.Goals as goal

pub returns-then-elements-gt256-clause-err : goal.returns-then-elements-gt256-clause-err
returns-then-elements-gt256-clause-err c = too_many c.args.form c.args.elements.now (omega arith)

pub returns-in_err-push_rule-clause-err : goal.returns-in_err-push_rule-clause-err
returns-in_err-push_rule-clause-err c =
    let p = err_from_is_err_and c.from_residual.result c.from_residual.ensures.1 in
    let vs = c.args.elements.now in
    rw (p.1, p.2) (cause_of c.in_err-push_rule.field-0.0 (next_rules c.args.form c.elements.rules (view c.element-item.result)) (rules_of c.args.form (items_view vs))
    (λ f is. not_too_many c.args.form vs c.elements.invariant.few ∙ sym c.elements.invariant.read
    ∙ one_wrong c.args.form c.elements.rules f vs c.elements.element-index c.element-item.result (omega arith) c.element-item.is is)
    c.in_err-push_rule.ensures.err)

pub elements-preserved : goal.elements-preserved
elements-preserved c = record {
  count = omega (arith, c.in_ok-push_rule.ensures.count);
  few = c.elements.invariant.few;
  read = sym (one_more c.args.form c.elements.rules c.push_rule.new.rules c.args.elements.now c.elements.element-index c.element-item.result (omega arith)
      c.element-item.is c.in_ok-push_rule.ensures.ok) ∙ c.elements.invariant.read;
}

pub returns-clause-ok : goal.returns-clause-ok
returns-clause-ok c =
    not_too_many c.args.form c.args.elements.now c.elements.invariant.few
    ∙ sym c.elements.invariant.read
    ∙ none_left c.args.form c.elements.rules c.args.elements.now c.elements.element-index (omega arith)
