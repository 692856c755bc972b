use Rattle.std.proofs.Common.{◌≡◌, ◌+◌, ◌<◌, List, length, sym, ◌∙◌, arith, subst}
use Rattle.ix_script.specs.declared.line.Line.{Line}
use Rattle.ix_lanes.specs.histories.Indexed.{line_in}
use Rattle.ix_lanes.proofs.{found.Roles.line-there, phased.PhaseLines.{Left, before-few, left-first, left-other, left-phase, left-end, left-past}}
use Rattle.ix_lanes.proofs.running.phases.phase_end.Goals.{then-is_phase_at+else-passed, else-is_phase_at}
use Rattle.ix_lanes.proofs.running.phases.phase_end.Goals as goal

pub loop-index-init : goal.loop-index-init
loop-index-init c = record {
  left = left-first c.args.script.now c.args.phase c.args.first c.requires;
  within = rw c.requires (before-few c.args.script.now c.args.phase);
}

pub returns-then-passed : goal.returns-then-passed
returns-then-passed c =
    let s : List Line = c.args.script.now in
    let i = c.loop-index.index in
    let at = line-there s i (omega (arith, c.len-index-end.ensures.len, c.loop-index-test.true)) in
    left-end s c.args.phase i (line_in s i) at (sym c.is_phase_at.ensures ∙ c.if-is_phase_at.true)
    (subst (λ b. Left s c.args.phase i b) c.if-passed.true c.loop-index.invariant.left)

pub loop-index-preserved : goal.loop-index-preserved
loop-index-preserved c =
    let s : List Line = c.args.script.now in
    let i = c.loop-index.index in
    let within : i < length s = omega (arith, c.len-index-end.ensures.len, c.loop-index-test.true) in
    let at = line-there s i within in
    record {
      left = elim c.if-is_phase_at.branch [
        | then-is_phase_at+else-passed w ↦ subst (λ b. Left s c.args.phase (i + 1) b) (sym w.passed-is)
            (left-phase s c.args.phase i (line_in s i) at (sym c.is_phase_at.ensures ∙ w.if-is_phase_at.true)
            (subst (λ b. Left s c.args.phase i b) w.if-passed.false c.loop-index.invariant.left))
        | else-is_phase_at w ↦ subst (λ b. Left s c.args.phase (i + 1) b) (sym w.passed-is)
            (left-other s c.args.phase i c.loop-index.passed (line_in s i) at (sym c.is_phase_at.ensures ∙ w.if-is_phase_at.false) c.loop-index.invariant.left)
      ];
      within = omega (arith, within);
    }

pub returns : goal.returns
returns c =
    let all : c.loop-index.index ≡ length c.args.script.now = omega (arith, c.len-index-end.ensures.len, c.loop-index-test.false, c.loop-index.invariant.within) in
    c.len.ensures.len ∙ sym all ∙ left-past c.args.script.now c.args.phase c.loop-index.index c.loop-index.passed all c.loop-index.invariant.left
