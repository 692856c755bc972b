use Rattle.std.proofs.{Common.{ap, sym, ◌∙◌}, lemmas.{Bool.ne_eqb, Nat.Bits.shr_and_one}}
use Rattle.ix_label.specs.Category.{has}
use Rattle.ix_image.proofs.{Bitwise.{bit_set, bit_unset}, labels.with_byte.Goals.{then-byte-bit-eq1, else-byte-bit-eq1}}
use Rattle.ix_image.proofs.labels.with_byte.Goals as goal

pub loop-bit-preserved : goal.loop-bit-preserved
loop-bit-preserved c = elim c.if-byte-bit-eq1.branch [
  | then-byte-bit-eq1 w ↦ λ q. ap (λ m. has m q) (w.more-is ∙ w.with-more.ensures)
      ∙ bit_set _ _ _ _ _ (sym (shr_and_one _ c.loop-bit.bit) ∙ w.if-byte-bit-eq1.true) c.loop-bit.invariant q
  | else-byte-bit-eq1 w ↦ λ q. ap (λ m. has m q) w.more-is
      ∙ bit_unset _ _ _ _ _ (ne_eqb _ _ (λ one. w.if-byte-bit-eq1.false (shr_and_one _ c.loop-bit.bit ∙ one)))
      c.loop-bit.invariant q
]
