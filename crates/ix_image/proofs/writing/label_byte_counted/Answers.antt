use Rattle.std.proofs.Common.{◌≡◌, ℕ, suc, ◌+◌, ◌*◌, ◌^◌, ◌%◌, ◌<◌, Bool, cond, sym, ap, subst, ◌∙◌, arith}
use Rattle.ix_label.specs.{Category.has, Words.from_bits}
use Rattle.ix_image.proofs.{Bytewise.{from_bits_none, from_bits_more, from_bits_few, one_bit, sum_fits}, writing.label_byte_counted.Goals.{then-has, else-has}}
use Rattle.ix_image.proofs.writing.label_byte_counted.Goals as goal

pub loop-bit-init : goal.loop-bit-init
loop-bit-init g c = sym (from_bits_none _)

pub overflow_add-byte : goal.overflow_add-byte
overflow_add-byte g c =
    omega (
      arith,
      one_bit c.loop-bit.bit c.loop-bit-test.true,
      sum_fits c.loop-bit.bit c.loop-bit.byte c.loop-bit-test.true (subst (λ n. n < 2 ^ c.loop-bit.bit) (sym c.loop-bit.invariant)
          (from_bits_few _ _)),
    )

pub loop-bit-preserved : goal.loop-bit-preserved
loop-bit-preserved g c =
    let f : ℕ → Bool = λ i. has c.args.label.now (c.args.first + i) in
    let one : suc c.loop-bit.bit ≡ c.loop-bit.bit + 1 = omega arith in
    elim c.if-has.branch [
      | then-has w ↦ w.byte-is ∙ ap (λ n. n + 1 * 2 ^ c.loop-bit.bit % 256) c.loop-bit.invariant ∙ ap (λ n. from_bits f c.loop-bit.bit + n) (one_bit _ c.loop-bit-test.true)
          ∙ sym (from_bits_more _ f ∙ ap (λ b. from_bits f c.loop-bit.bit + cond b (2 ^ c.loop-bit.bit) 0) (sym c.has.ensures.has ∙ w.if-has.true)) ∙ ap (from_bits f) one
      | else-has w ↦ w.byte-is ∙ c.loop-bit.invariant
          ∙ sym (from_bits_more _ f ∙ ap (λ b. from_bits f c.loop-bit.bit + cond b (2 ^ c.loop-bit.bit) 0) (sym c.has.ensures.has ∙ w.if-has.false)
          ∙ add_zero _) ∙ ap (from_bits f) one
    ]
  where
    add_zero : (n : ℕ) → n + 0 ≡ n
    add_zero n = omega arith
