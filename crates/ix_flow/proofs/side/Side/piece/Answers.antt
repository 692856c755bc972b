use Rattle.std.proofs.Common.{◌≡◌, ◌<◌, ◌+◌, ◌-◌, ◌∷◌, ◌∙◌, ℕ, false, sym, ap, arith}
use Rattle.ix_flow.specs.{Lines.pieces_from, Reads.between, Sides.{origin_at, same_origin, source_in}, declared.source.Source.Source}
use Rattle.ix_flow.proofs.{LongestPieces.longest_piece, side.Side.piece.Goals.{then-loop-until-test+else-same_origin, else-loop-until-test}}
use Rattle.ix_flow.proofs.side.Side.piece.Goals as goal

pub returns-clause-longest : goal.returns-clause-longest
returns-clause-longest c = λ k origins like.
    let number = c.args.number in
    let until = c.loop-until.until in
    let there : ℕ → Source = λ n. source_in c.args.self.now.runs.entries n in
    let stops : until < c.args.to → same_origin (there until) c.source-source.result ≡ false = λ low. elim c.loop-until-test.branch [
      | then-loop-until-test+else-same_origin w ↦ ap (λ x. same_origin x c.source-source.result) (sym w.source.ensures) ∙ sym w.same_origin.ensures ∙ w.if-same_origin.false
      | else-loop-until-test w ↦ absurd (omega (arith, low, w.loop-until-test.false))
    ] in
    longest_piece _ _ like _ _ c.requires.from c.requires.to _ k (omega arith) (omega arith)
    (λ n low high. ap (same_origin (there n)) (sym c.source-source.ensures) ∙ c.loop-until.invariant.one n low (omega (arith, high)))
    (λ more. ap (λ n. same_origin (there n) (there number)) (omega arith) ∙ ap (same_origin (there _)) (sym c.source-source.ensures) ∙ stops (omega (arith, more)))
    ∙ ap (λ x. record { first = k; count = until - number; origin = origin_at x number } ∷ pieces_from (k + (until - number))
    (between c.args.self.now.front (number + (until - number)) c.args.to origins)) (sym c.source-source.ensures)
