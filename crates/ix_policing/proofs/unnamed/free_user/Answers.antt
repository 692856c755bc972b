use Rattle.std.proofs.Common.{◌≡◌, sym, ap, ◌∙◌, arith}
use Rattle.ix_policing.specs.Unnamed.{is_free, spare}
use Rattle.ix_policing.proofs.Spares.{free_at, free_last, free_past, unnamed_from}
use Rattle.ix_policing.proofs.unnamed.free_user.Goals as goal

pub loop-number-init : goal.loop-number-init
loop-number-init c = unnamed_from c.args.first.now c.args.second.now

pub returns-then-is_free : goal.returns-then-is_free
returns-then-is_free c =
    let free = ap (is_free c.args.first.now c.args.second.now) (sym c.spare_user-user.ensures) ∙ sym c.is_free.ensures ∙ c.if-is_free.true in
    c.spare_user-user.ensures ∙ sym (c.loop-number.invariant ∙ free_at c.args.first.now c.args.second.now c.loop-number.number (omega arith) free)

pub loop-number-preserved : goal.loop-number-preserved
loop-number-preserved c =
    let named = ap (is_free c.args.first.now c.args.second.now) (sym c.spare_user-user.ensures) ∙ sym c.is_free.ensures ∙ c.if-is_free.false in
    c.loop-number.invariant ∙ free_past c.args.first.now c.args.second.now c.loop-number.number (omega arith) named

pub returns : goal.returns
returns c =
    let last : 512 ≡ c.loop-number.number = omega arith in
    c.spare_user.ensures ∙ ap spare last ∙ sym (c.loop-number.invariant ∙ free_last c.args.first.now c.args.second.now c.loop-number.number (omega arith))
