use Rattle.std.proofs.Common.{◌∙◌, sym, arith}
use Rattle.ix_script.specs.declared.words.Spot.TheVariants as spot
use Rattle.ix_script.{specs.reader.Cut.end_from, proofs.texts.Pieces.{end_found, end_next, end_none}}
use Rattle.ix_script.proofs.words.end_of_quoted.Goals as goal

pub bytes-init : goal.bytes-init
bytes-init c = omega arith

pub returns-then-parts_words : goal.returns-then-parts_words
returns-then-parts_words c = end_found _ _ _ _ c.bytes-test.true (sym c.parts_words.ensures ∙ c.if-parts_words.true) c.bytes.invariant

pub bytes-preserved : goal.bytes-preserved
bytes-preserved c = rw c.after-at.ensures (end_next _ _ _ _ c.bytes-test.true (sym c.parts_words.ensures ∙ c.if-parts_words.false) c.bytes.invariant)

pub returns : goal.returns
returns c = omega (arith, end_none (end_from spot.Front c.args.text.now) c.bytes.at c.args.text.now c.bytes.i c.bytes-test.false c.bytes.invariant, c.bytes-test.false, c.bytes.auto.i-end)
