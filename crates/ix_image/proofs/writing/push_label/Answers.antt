use Rattle.std.{proofs.{Common.{◌≡◌, ◌++◌, ◌∷◌, [], map, sym, ap, ◌∙◌, append_assoc, arith}, lemmas.List.FromFn.map-range_with_len_more}, specs.List.range_with_len}
use Rattle.ix_image.specs.Labelled.{label_byte, label_bytes}
use Rattle.ix_image.proofs.writing.push_label.Goals as goal

pub loop-k-preserved : goal.loop-k-preserved
loop-k-preserved c =
    let so_far = map _ _ in
    record {
      stays = c.in_ok-push_byte.ensures.stays ∙ c.loop-k.invariant.stays;
      text = c.in_ok-push_byte.ensures.text ∙ ap (λ t. t ++ c.label_byte.result ∷ []) c.loop-k.invariant.text ∙ append_assoc _ so_far _
          ∙ ap (λ t. c.args.line.now.text ++ t) (ap (λ n. so_far ++ n ∷ []) c.label_byte.ensures
          ∙ sym (map-range_with_len_more _ 0 c.loop-k.k c.loop-k.k (omega arith)));
    }

pub returns-clause-text : goal.returns-clause-text
unfolding label_bytes
returns-clause-text c =
    let all : c.loop-k.k ≡ 64 = omega arith in
    c.loop-k.invariant.text ∙ ap (λ k. c.args.line.now.text ++ map (label_byte c.args.label.now) (range_with_len 0 k)) all
