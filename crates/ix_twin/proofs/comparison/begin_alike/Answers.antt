use Rattle.std.proofs.{Common.{◌&&◌, sym, ap, ◌∙◌}, lemmas.Bool.Decides.same_from_decides}
use Rattle.ix_script.specs.scripts.Scripts.{config_of}
use Rattle.ix_twin.{specs.{Configs.differ_above, Lines.begin_alike}, proofs.SameConfigs.configs_decide}
use Rattle.ix_twin.proofs.comparison.begin_alike.Goals as goal

pub returns-then-have_same_lanes : goal.returns-then-have_same_lanes
unfolding begin_alike
returns-then-have_same_lanes c =
    let l = c.args.twin.now.at in
    let lanes = sym c.if-have_same_lanes.true ∙ c.have_same_lanes.ensures in
    (same_from_decides _ _ (c.start.ensures.0, c.start.ensures.1)
    (configs_decide l _ _)) ∙ (λ i. differ_above l (c.requires.first i) (c.requires.second i)) ∙ ap (λ b. b && differ_above l (config_of c.args.one.now) (config_of c.args.two.now)) lanes
