use Rattle.std.proofs.{Common.{◌<◌, ◌≤◌, ◌++◌, length, ap, sym, ◌∙◌, arith}, lemmas.List.{append-nil, drop_all}}
use Rattle.ix_script.specs.{lines.Before.form_told, scripts.Canonical.canonical_in}
use Rattle.ix_script.proofs.writing.write.Goals as goal

pub parts-init : goal.parts-init
parts-init c = (omega arith, ap (λ t. t ++ canonical_in (form_told c.args.script.now) c.args.script.now) c.in_ok-text.ensures.items)

pub parts-preserved : goal.parts-preserved
parts-preserved c = (c.in_ok-first.ensures.within, c.in_ok-first.ensures.text ∙ c.parts.invariant.1)

pub parts-smaller : goal.parts-smaller
parts-smaller c =
    let some : c.parts.first < length c.args.script.now = omega (arith, c.parts-test.true, c.len.ensures, ap length c.lines-in-parts.ensures) in
    omega (arith, c.in_ok-first.ensures.more some, c.in_ok-first.ensures.within, some)

pub returns : goal.returns
returns c =
    let end : length c.args.script.now ≤ c.parts.first = omega (arith, c.parts-test.false, c.len.ensures, ap length c.lines-in-parts.ensures) in
    let none = ap (canonical_in (form_told c.args.script.now)) (drop_all c.parts.first c.args.script.now end) in
    sym (append-nil _) ∙ ap (λ t. c.parts.text.items ++ t) (sym none) ∙ c.parts.invariant.1
