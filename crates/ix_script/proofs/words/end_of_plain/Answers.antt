use Rattle.std.proofs.{Common.{◌+◌, take, drop, sym, ap, ◌∙◌}, Math.Seq.take-length, lemmas.List.length-drop}
use Rattle.ix_script.{specs.reader.Cut.end_from, proofs.texts.Pieces.by_search}
use Rattle.ix_script.specs.declared.words.Spot.TheVariants as spot
use Rattle.ix_script.proofs.words.end_of_plain.Goals as goal

pub returns-then-i-eq16 : goal.returns-then-i-eq16
returns-then-i-eq16 c =
    let text = c.args.text.now in
    let i = c.bytes.i in
    let far = ap (λ n. take n (drop i text)) (sym (length-drop i text)) ∙ take-length _ in
    ap (λ n. i + n) (c.unwrap_or.ensures ∙ by_search _ _ c.memchr.ensures ∙ ap (end_from spot.Plain) far) ∙ sym c.bytes.invariant
