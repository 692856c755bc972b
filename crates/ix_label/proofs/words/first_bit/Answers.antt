use Rattle.std.proofs.Common.{arith}
use Rattle.ix_label.proofs.Bits.{found_ahead, found_in, none_ahead, none_in, none_left}
use Rattle.ix_label.proofs.words.first_bit.Goals as goal

pub returns-then-from-ge512 : goal.returns-then-from-ge512
returns-then-from-ge512 c = none_left c.args.words.now c.args.from c.args.from c.requires (omega arith) (λ q low high. absurd (omega arith))

pub returns-then-ahead-ne0 : goal.returns-then-ahead-ne0
returns-then-ahead-ne0 c = found_ahead c.args.words.now c.args.from c.args.from c.requires (omega arith) (λ q low high. absurd (omega arith)) (omega arith)

pub words-init : goal.words-init
words-init c = record {
  start = omega arith;
  none = none_ahead c.args.words.now c.args.from c.args.from (λ q low high. absurd (omega arith)) (omega arith);
}

pub returns-then-words-k-ne0 : goal.returns-then-words-k-ne0
returns-then-words-k-ne0 c = found_in c.args.words.now c.args.from _ c.requires c.words.invariant.start c.words.invariant.none (omega arith)

pub words-preserved : goal.words-preserved
words-preserved c = record {
  start = omega arith;
  none = none_in c.args.words.now c.args.from _ c.words.invariant.none (omega arith);
}

pub returns : goal.returns
returns c = none_left c.args.words.now c.args.from _ c.requires (omega arith) c.words.invariant.none
