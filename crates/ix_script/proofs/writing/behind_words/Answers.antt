use Rattle.std.proofs.{Common.{◌+◌, length, length-drop, sym, ◌∙◌, ap, arith}, lemmas.List.take_rest}
use Rattle.ix_script.{specs.texts.Cutting.pieces, proofs.back.Respelling.{gap_at, behind_at}}
use Rattle.ix_script.specs.declared.words.Spot.TheVariants as spot
use Rattle.ix_script.proofs.writing.behind_words.Goals as goal

pub unwrap-end-requires : goal.unwrap-end-requires
unwrap-end-requires c = rw c.place_of.ensures.place
    (gap_at c.words.rest.now (pieces spot.Front c.args.text.now) c.words.counter c.words.invariant.words (omega (arith, c.requires.more)) (c.requires.plain c.words.counter c.words-test.true))

pub overflow_add-rest : goal.overflow_add-rest
overflow_add-rest c = let k = rw c.unwrap-end.ensures at c.place_of.ensures.within in omega (arith, c.words.invariant.fewer)

pub words-preserved : goal.words-preserved
words-preserved c =
    let is = take_rest c.words.rest.now (c.unwrap-end.result + 1) in
    record {
      words = ap (pieces spot.Front) is
          ∙ behind_at c.words.rest.now (pieces spot.Front c.args.text.now) c.words.counter c.words.invariant.words (omega (arith, c.requires.more)) (c.requires.plain c.words.counter c.words-test.true)
          c.unwrap-end.result (sym c.place_of.ensures.place ∙ c.unwrap-end.ensures);
      fewer = omega (arith, ap length is, length-drop (c.unwrap-end.result + 1) c.words.rest.now, c.words.invariant.fewer);
    }
