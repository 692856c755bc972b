use Rattle.std.{proofs.Common.{◌+◌, ◌<◌, take}, specs.Str.Parse.digits_value}
use Rattle.ix_label.proofs.Numbers.{one_digit_more, too_great}
use Rattle.ix_label.proofs.read.value_of.Goals as goal

pub returns-then-value-greatest : goal.returns-then-value-greatest
returns-then-value-greatest c =
    let value = one_digit_more c.args.digits.now c.loop-digit.digit-index c.loop-digit.value c.requires c.loop-digit-test.true c.loop-digit.invariant.so_far in
    let great : c.greatest-greatest.result < digits_value 10 (take (c.loop-digit.digit-index + 1) c.args.digits.now) = rw value at c.if-value-greatest.true in
    rw (← c.greatest-greatest.ensures.is) (too_great _ c.args.digits.now (c.loop-digit.digit-index + 1) great)

pub loop-digit-preserved : goal.loop-digit-preserved
loop-digit-preserved c = record {
  small = c.if-value-greatest.false;
  so_far = one_digit_more c.args.digits.now c.loop-digit.digit-index c.loop-digit.value c.requires c.loop-digit-test.true c.loop-digit.invariant.so_far;
}
