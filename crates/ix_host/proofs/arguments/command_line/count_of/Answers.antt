use Rattle.std.proofs.Common.{◌∙◌, sym, ap}
use Rattle.ix_model.specs.opening.Valid.{is_within}
use Rattle.ix_text.specs.Bytes.{begins_with}
use Rattle.ix_host.proofs.words_in.Counts.{no_count, parsed_count, parsed_many, parsed_none}
use Rattle.ix_host.proofs.arguments.command_line.count_of.Goals as goal

pub returns-then-not-begins_with_digit : goal.returns-then-not-begins_with_digit
returns-then-not-begins_with_digit c =
    sym (no_count c.args.word.now (ap (begins_with (λ b. is_within 49 57 b)) (sym c.as_bytes.ensures.value) ∙ sym c.begins_with_digit.ensures ∙ c.if-not-begins_with_digit.true))

pub returns-then-n-le100000 : goal.returns-then-n-le100000
returns-then-n-le100000 c =
    parsed_count c.args.word.now c.in-Ok.n (ap (begins_with (λ b. is_within 49 57 b)) (sym c.as_bytes.ensures.value) ∙ sym c.begins_with_digit.ensures ∙ c.if-not-begins_with_digit.false)
    c.in-Ok.ensures.value.0 c.if-n-le100000.true

pub returns-else-n-le100000 : goal.returns-else-n-le100000
returns-else-n-le100000 c =
    parsed_many c.args.word.now c.in-Ok.n (ap (begins_with (λ b. is_within 49 57 b)) (sym c.as_bytes.ensures.value) ∙ sym c.begins_with_digit.ensures ∙ c.if-not-begins_with_digit.false)
    c.in-Ok.ensures.value.0 c.if-n-le100000.false

pub returns-in_default : goal.returns-in_default
returns-in_default c =
    parsed_none c.args.word.now c.in_default.field-0 (ap (begins_with (λ b. is_within 49 57 b)) (sym c.as_bytes.ensures.value) ∙ sym c.begins_with_digit.ensures ∙ c.if-not-begins_with_digit.false)
    c.in_default.ensures.value.0
