use Rattle.std.proofs.{Common.{◌∷◌, length, sym, ◌∙◌, arith}, lemmas.List.{take_all, drop_all}}
use Rattle.ix_script.{specs.texts.Lines.cut, proofs.texts.Feeds.{feed_at, no_feed}}
use Rattle.ix_script.proofs.reading.first_line.Goals as goal

pub returns-in-Some-clause-lines : goal.returns-in-Some-clause-lines
returns-in-Some-clause-lines c = let p = c.in-Some.ensures in feed_at _ _ c.requires p.1 ∙ (λ i. sym p.2 i ∷ cut (sym p.3 i))

pub returns-in-None-clause-lines : goal.returns-in-None-clause-lines
unfolding cut
returns-in-None-clause-lines c =
    rw (c.split_at.ensures.front, c.split_at.ensures.back, take_all (length c.args.bytes.now) c.args.bytes.now (omega arith), drop_all (length c.args.bytes.now) c.args.bytes.now (omega arith))
    (no_feed _ c.requires c.in-None.ensures)
