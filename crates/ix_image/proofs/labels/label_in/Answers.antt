use Rattle.std.proofs.Common.{◌≡◌, ap, ◌∙◌, arith}
use Rattle.ix_label.specs.Category.{has}
use Rattle.ix_image.proofs.{Bitwise.{all_below, bits_below, byte_set, byte_unset, nothing_below}, labels.label_in.Goals.{then-bytes-i-ne0, else-bytes-i-ne0}}
use Rattle.ix_image.proofs.labels.label_in.Goals as goal

pub loop-i-init : goal.loop-i-init
loop-i-init c = λ q. ap (λ m. has m q) c.bottom-label.ensures ∙ nothing_below _ q

pub loop-i-preserved : goal.loop-i-preserved
loop-i-preserved c = elim c.if-bytes-i-ne0.branch [
  | then-bytes-i-ne0 w ↦ λ q. ap (λ m. has m q) w.label-is
      ∙ byte_set _ _ _ _ c.loop-i.invariant w.with_byte-label.ensures q
  | else-bytes-i-ne0 w ↦ λ q. ap (λ m. has m q) w.label-is
      ∙ byte_unset _ _ _ w.if-bytes-i-ne0.false c.loop-i.invariant q
]

pub returns : goal.returns
returns c =
    let all : c.loop-i.i ≡ 64 = omega arith in
    all_below _ _ c.requires (λ q. c.loop-i.invariant q ∙ ap (λ i. bits_below c.args.bytes.now i q) all)
