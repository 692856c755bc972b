use Rattle.std.proofs.Common.{◌∙◌, ◌/◌, length, sym, arith}
use Rattle.ix_script.{specs.texts.Payloads.pairs_of, proofs.texts.Spelling.{no_spelling, pairs_odd, pairs_bad, pairs_even}}
use Rattle.ix_script.proofs.payload.pairs.Goals.{else-text-eq0-via-then-text-eq0+else-are_digits, else-text-eq0-via-else-text-eq0}
use Rattle.ix_script.proofs.payload.pairs.Goals as goal

pub returns-then-are_digits : goal.returns-then-are_digits
returns-then-are_digits c =
    let k = pairs_even _ _ (omega arith) (sym c.are_digits.ensures ∙ c.if-are_digits.true) in
    λ most. record { bytes = k.bytes; meant = k.spelled; spelled = k.spelled; count = k.count }

pub returns-else-text-eq0 : goal.returns-else-text-eq0
returns-else-text-eq0 c = elim c.else-text-eq0.branch [
  | else-text-eq0-via-then-text-eq0+else-are_digits w ↦ λ most. no_spelling _ _ (pairs_bad _ (sym w.are_digits.ensures ∙ w.if-are_digits.false))
  | else-text-eq0-via-else-text-eq0 w ↦
      let odd = w.if-text-eq0.false in
      λ most. no_spelling most (pairs_of c.args.text.now) (pairs_odd (length c.args.text.now / 2) c.args.text.now (omega arith))
]
