use Rattle.std.proofs.{Common.{◌∙◌, sym, arith, true≢false}, lemmas.Result.err_from_is_err_and}
use Rattle.ix_label.proofs.Reading.{first_bad, first_disordered, item_single, second_bad, second_disordered, item_range}
use Rattle.ix_label.proofs.read.read_item.Goals as goal

pub returns-in_err-first : goal.returns-in_err-first
returns-in_err-first c =
    let p = err_from_is_err_and c.from_residual.result c.from_residual.ensures.1 in
    rw (p.1, p.2) (first_bad c.args.form c.args.text.now c.args.at c.args.last c.requires.place c.in_err-first.field-0.0 c.in_err-first.ensures)

pub returns-in_err-check_order : goal.returns-in_err-check_order
returns-in_err-check_order c =
    let p = err_from_is_err_and c.from_residual-in_err-check_order.result c.from_residual-in_err-check_order.ensures.1 in
    rw (p.1, p.2) (first_disordered _ _ _ _ _ _ c.in_err-check_order.field-0.0 c.requires.not_all c.requires.place c.in_ok-first.ensures (sym c.in_err-check_order.ensures))

pub returns-then-not-stands_at : goal.returns-then-not-stands_at
returns-then-not-stands_at c = item_single _ _ _ _ _ _ c.requires.not_all c.requires.place c.in_ok-first.ensures (sym c.in_ok-check_order.ensures)
    (λ is. true≢false (sym (c.stands_at.ensures.1 is) ∙ c.if-not-stands_at.true))

pub returns-in_err-second : goal.returns-in_err-second
returns-in_err-second c =
    let p = err_from_is_err_and c.from_residual-in_err-second.result c.from_residual-in_err-second.ensures.1 in
    rw (p.1, p.2) (second_bad _ _ _ _ _ _ c.requires.not_all c.requires.place c.in_ok-first.ensures (sym c.in_ok-check_order.ensures)
    (c.stands_at.ensures.0 c.if-not-stands_at.false) c.in_err-second.field-0.0 c.in_err-second.ensures)

pub returns-then-second-first : goal.returns-then-second-first
returns-then-second-first c = second_disordered _ _ _ _ _ _ c.requires.not_all c.requires.place c.in_ok-first.ensures (sym c.in_ok-check_order.ensures)
    (c.stands_at.ensures.0 c.if-not-stands_at.false) _ _ c.in_ok-second.ensures (omega arith)

pub returns : goal.returns
returns c = item_range _ _ _ _ _ _ c.requires.not_all c.requires.place c.in_ok-first.ensures (sym c.in_ok-check_order.ensures)
    (c.stands_at.ensures.0 c.if-not-stands_at.false) _ _ c.in_ok-second.ensures (omega arith)
