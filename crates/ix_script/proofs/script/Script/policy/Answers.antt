use Rattle.std.proofs.{Common.{Some, false, length, slice_get, sym, ◌∙◌, ap, arith, subst}, lemmas.Iterator.Adapters.position_from-zero}
use Rattle.std.specs.Option.{option_map_or}
use Rattle.ix_script.specs.lines.{Before.is_policy, Roles.{EndsHeader, header_only}}
use Rattle.ix_script.proofs.reader.{Planning.{not_header, policy_past}, Walking.{policy_here, policy_later, not_policy, policy_is, policy_none}}
use Rattle.ix_script.specs.declared.line.Line.TheVariants as line
use Rattle.ix_script.proofs.script.Script.policy.Goals as goal

pub lines-preserved-in_default : goal.lines-preserved-in_default
lines-preserved-in_default c =
    let told = c.get.ensures ∙ ap (λ ls. slice_get ls c.lines.index) c.self.view_is in
    sym (policy_later c.args.self.now c.lines.index (omega (arith, c.lines-test.true, c.header_end-index-end.ensures.within, ap length c.self.view_is))
    (not_header _ (ap header_only (sym told ∙ c.in_default.is)))) ∙ c.lines.invariant

pub lines-preserved : goal.lines-preserved
lines-preserved c =
    let told = c.get.ensures ∙ ap (λ ls. slice_get ls c.lines.index) c.self.view_is in
    let at = sym told ∙ c.in-Some.is in
    sym (policy_later c.args.self.now c.lines.index (omega (arith, c.lines-test.true, c.header_end-index-end.ensures.within, ap length c.self.view_is))
    (ap (λ found. option_map_or is_policy found false) at ∙ not_policy _ c.in_default-line.not-Policy)) ∙ c.lines.invariant

pub returns-in-Policy : goal.returns-in-Policy
returns-in-Policy c =
    let told = c.get.ensures ∙ ap (λ ls. slice_get ls c.lines.index) c.self.view_is in
    let at = sym told ∙ c.in-Some.is ∙ ap (λ l. Some l) (c.in-Policy.is ∙ ap (λ text. line.Policy text) (sym c.as_bytes.ensures)) in
    sym (policy_is _ _ _ (position_from-zero is_policy _ ∙ sym c.lines.invariant ∙ policy_here _ _ (ap (λ found. option_map_or is_policy found false) at)) at)

pub returns : goal.returns
returns c =
    let ends = subst (EndsHeader _) c.self.view_is c.header_end-index-end.ensures.ends in
    sym (policy_none _ (position_from-zero is_policy _ ∙ sym c.lines.invariant ∙ policy_past _ _ c.lines.index ends (omega (arith, c.lines-test.false))))
