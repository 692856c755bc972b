use Rattle.std.proofs.{Common.{◌≡◌, ◌+◌, ◌*◌, drop, arith}, lemmas.Grind.common_steps}
use Rattle.ix_script.{specs.texts.Words.value_from, proofs.texts.Digits.too_great}
use Rattle.ix_script.proofs.values.value.Goals as goal

pub returns-then-value-gt4294967295 : goal.returns-then-value-gt4294967295
returns-then-value-gt4294967295 c =
    let value = c.loop-b.value * 10 + c.from.result in
    let same : value_from value (drop (c.loop-b.b-index + 1) c.args.word.now) ≡ value_from 0 c.args.word.now = grind (arith, common_steps) in
    too_great _ _ (drop (c.loop-b.b-index + 1) c.args.word.now) same c.if-value-gt4294967295.true
