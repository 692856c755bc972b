use Rattle.std.proofs.{Common.{◌+◌, sym, ap, ◌∙◌}, lemmas.{Bool.ltb-false, Option.slice_get_past}}
use Rattle.ix_check.proofs.{LookedAt.item_at, LaneTurns.{has_turn, lane_over, names_none, no_lane, no_turn}}
use Rattle.ix_check.proofs.judge.called.Goals as goal

pub returns-in_default : goal.returns-in_default
returns-in_default g c state among =
    names_none _ _ _ _ state among _ _ (ap (λ n. n + 1) c.len.ensures.len) c.in_default.ensures

pub returns-in_default-get : goal.returns-in_default-get
returns-in_default-get g c state among =
    let past = ltb-false c.in-Some.seat _ (sym c.in_default-get.ensures.lookup.0) in
    no_lane _ _ _ _ state among _ _ (ap (λ n. n + 1) c.len.ensures.len) _
    c.in-Some.ensures (slice_get_past _ c.in-Some.seat past)

pub returns-in_default-phase : goal.returns-in_default-phase
returns-in_default-phase g c state among =
    lane_over _ _ _ _ state among _ _ (ap (λ n. n + 1) c.len.ensures.len) _
    _ c.in-Some.ensures (item_at _ _ _ c.in-Some-get.ensures.lookup.3.0 c.in-Some-get.ensures.lookup.1) (sym c.in_default-phase.ensures)

pub returns-then-all_from : goal.returns-then-all_from
returns-then-all_from g c state among =
    has_turn _ _ _ _ state among _ _ (ap (λ n. n + 1) c.len.ensures.len) _
    _ _ c.in-Some.ensures (item_at _ _ _ c.in-Some-get.ensures.lookup.3.0 c.in-Some-get.ensures.lookup.1) (sym c.in-Some-phase.ensures) (sym c.if-all_from.true ∙ c.all_from.ensures)

pub returns-else-all_from : goal.returns-else-all_from
returns-else-all_from g c state among =
    no_turn _ _ _ _ state among _ _ (ap (λ n. n + 1) c.len.ensures.len) _
    _ _ c.in-Some.ensures (item_at _ _ _ c.in-Some-get.ensures.lookup.3.0 c.in-Some-get.ensures.lookup.1) (sym c.in-Some-phase.ensures) (sym c.if-all_from.false ∙ c.all_from.ensures)
