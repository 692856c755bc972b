use Rattle.std.{specs.Char.is_ascii_digit, proofs.lemmas.List.Sums.prefix_len-le-length}
use Rattle.ix_label.proofs.read.leading_digits.Goals as goal

pub split_at-requires : goal.split_at-requires
split_at-requires c = rw c.digit_count.ensures (prefix_len-le-length is_ascii_digit c.args.bytes.now)
