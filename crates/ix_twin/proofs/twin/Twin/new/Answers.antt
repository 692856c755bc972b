use Rattle.std.proofs.Common.{sym, ◌∙◌}
use Rattle.ix_model.specs.opening.Opening.{opening_world}
use Rattle.ix_twin.specs.{Configs.differ_above, Tests.none_crosses}
use Rattle.ix_twin.proofs.twin.Twin.new.Goals as goal

pub invariant_of-result : goal.invariant_of-result
unfolding none_crosses
invariant_of-result c = (
  c.configs_alike-alike.ensures ∙ (λ i. differ_above c.args.at.now (sym c.in_ok-boot.ensures i).config (sym c.in_ok-boot-2.ensures i).config),
  λ i. none_crosses c.args.at.now (opening_world (sym c.in_ok-boot.ensures i).config) 1 (sym c.in_ok-boot.ensures i).events,
)
