use Rattle.std.{proofs.Common.{◌≡◌, ◌<◌, ◌+◌, ◌-◌, ◌∷◌, ◌++◌, ◌∙◌, List, length, max, min, sym, ap, subst, arith, append-nil}, specs.List.flat_map}
use Rattle.ix_text.proofs.Items.{stays_twice, stays_whole}
use Rattle.ix_flow.specs.{Lines.{piece_line, pieces_from}, Lowerings.label_of, Origins.Origin, Reads.{IsWithin, between, piece_of}, Sides.{IsLike, origin_at}, Tracking.IsUnder}
use Rattle.ix_flow.proofs.LineTexts.{all_left, next_counted, next_told, none_left}
use Rattle.ix_flow.specs.Lines as line
use Rattle.ix_flow.proofs.telling.tell.Goals as goal

pub loop-number-init : goal.loop-number-init
loop-number-init c =
    let side = c.args.side.now in
    let read = c.args.read.now in
    let number = c.max-number.ensures ∙ ap (max read.from) c.front.ensures in
    let to = c.min-to.ensures ∙ ap (λ n. min n c.end.result) c.saturating_add.ensures
    ∙ ap (min _) c.end.ensures in
    let few = subst (λ n. n < 4294967296) c.end.ensures c.end.type_inv in
    let all : (origins : List Origin) → IsWithin read side → pieces_from (c.max-number.result - read.from) (between side.front c.max-number.result c.min-to.result origins) ≡ pieces_from 0
    (between side.front read.from (read.from + read.count) origins) =
    λ origins within. all_left _ _ _ _ _ _ (omega (arith, number, within.front)) (omega (arith, to, few, within.end)) in
    record {
      begun = omega (arith, number);
      there = omega (arith, number);
      end = omega (arith, to);
      few = omega (arith, number);
      stays = stays_whole _;
      text = λ h origins within like labelled falls. ap (λ ps. c.args.out.now.items ++ flat_map (piece_line h read.place read.object.0) ps) (all _ within);
      counted = λ origins within like. let same : length (pieces_from (c.max-number.result - read.from) (between side.front c.max-number.result c.min-to.result origins)) ≡ length
          (pieces_from 0 (between side.front read.from (read.from + read.count) origins)) = ap length (all _ within) in omega (arith, same);
    }

pub loop-number-preserved : goal.loop-number-preserved
loop-number-preserved c =
    let side = c.args.side.now in
    let read = c.args.read.now in
    let number = c.loop-number.number in
    let piece = c.piece-piece.result in
    let is = c.piece-piece.ensures.number in
    let begun = c.loop-number.invariant.begun in
    let further : (number - read.from) + piece.count ≡ number + piece.count - read.from = omega (arith, begun) in
    let rest : List Origin → List line.Piece = λ origins. pieces_from (number + piece.count - read.from) (between side.front (number + piece.count) c.min-to.result origins) in
    let split : (origins : List Origin) → IsLike side origins → pieces_from (number - read.from) (between side.front number c.min-to.result origins) ≡ piece_of
    (number - read.from) piece ∷ rest origins = λ origins like.
    c.piece-piece.ensures.longest _ origins like ∙ ap (λ k. piece_of (number - read.from) piece ∷ pieces_from k
    (between side.front (number + piece.count) c.min-to.result origins)) further in
    record {
      begun = omega (arith, begun);
      there = omega (arith, c.loop-number.invariant.there);
      end = c.loop-number.invariant.end;
      few = omega (arith, c.loop-number.invariant.few, c.piece-piece.ensures.some);
      stays = stays_twice _ _ _ c.loop-number.invariant.stays c.push_piece.ensures.stays;
      text = λ h origins within like labelled falls.
          next_told _ _ _ _ _
          _ _ _
          (split _ like)
          (c.in_ok-push_piece.ensures.text h (subst (λ n. IsUnder c.args.labels.now.all.items piece.source (label_of h (origin_at piece.source n))) (sym is)
          (subst (λ x. IsUnder c.args.labels.now.all.items x (label_of h (origin_at x number))) (sym c.piece-piece.ensures.source)
          (labelled _ c.loop-number.invariant.there (omega (arith, c.loop-number-test.true, c.loop-number.invariant.end))))) falls
          ∙ ap (λ n. c.loop-number.out.items ++ piece_line h read.place read.object.0 (piece_of (n - read.from) piece)) is)
          (c.loop-number.invariant.text h origins within like labelled falls);
      counted = λ origins within like.
          next_counted _ _ _
          _ _ (split _ like) (c.loop-number.invariant.counted origins within like);
    }

pub returns-clause-text : goal.returns-clause-text
returns-clause-text c = λ h origins within like labelled falls.
    let read = c.args.read.now in
    sym (append-nil _)
    ∙ ap (λ ps. c.loop-number.out.items ++ flat_map (piece_line h read.place read.object.0) ps)
    (sym (none_left _ _ _ _ _ c.loop-number-test.false))
    ∙ c.loop-number.invariant.text h origins within like labelled falls

pub returns-clause-lines : goal.returns-clause-lines
returns-clause-lines c = λ origins within like.
    let none = none_left _ _ _ _ _ c.loop-number-test.false in
    let long : length (pieces_from (c.loop-number.number - c.args.read.now.from) (between c.args.side.now.front c.loop-number.number c.min-to.result origins)) ≡ 0 = ap length none in
    omega (arith, long, c.loop-number.invariant.counted origins within like)
