use Rattle.std.proofs.{Common.{arith, sym}, lemmas.Bool.Decides.nat_tests}
use Rattle.ix_model.proofs.texts.Reading.{begin, none_is}
use Rattle.ix_model.proofs.path.is_path_text.Goals as goal

pub returns-then-is_empty : goal.returns-then-is_empty
returns-then-is_empty c = sym (none_is c.args.text.now (grind (arith, nat_tests, c.is_empty.ensures, c.if-is_empty.true)))

pub pieces-init : goal.pieces-init
pieces-init c = record { few = omega arith; is = begin c.args.text.now (grind (arith, nat_tests, c.is_empty.ensures, c.if-is_empty.false)) }
