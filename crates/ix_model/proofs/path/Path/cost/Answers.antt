use Rattle.std.proofs.{Common.{arith, ◌<◌, length, sym}, lemmas.Bool.Decides.nat_tests}
use Rattle.ix_model.proofs.texts.Joining.{text_cost, text_fits}
use Rattle.ix_model.proofs.path.Path.cost.Goals as goal

pub returns-else-is_empty-clause-cost : goal.returns-else-is_empty-clause-cost
returns-else-is_empty-clause-cost c =
    let some : 0 < length c.args.self.now.text.now = grind (arith, nat_tests, c.is_empty.ensures, c.if-is_empty.false) in
    sym (text_cost c.args.self.now.text.now some)

pub returns-else-is_empty-clause-few : goal.returns-else-is_empty-clause-few
returns-else-is_empty-clause-few c = omega (arith, text_fits c.args.self.now.text.now c.args.self.now.named)
