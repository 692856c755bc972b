use Rattle.std.{proofs.Common.{◌≡◌, take}, specs.{Prelude.is_some, List.list_all}}
use Rattle.ix_script.specs.texts.Payloads.{digit_of}
use Rattle.ix_script.proofs.payload.are_digits.Given as goal

abbrev pub invariant-loop-b : goal.invariant-loop-b
invariant-loop-b l = l.all ≡ list_all (λ b. is_some (digit_of b)) (take l.b-index l.text)
