use Rattle.std.proofs.{Common.{◌≡◌, false, sym, arith}, lemmas.Bool.le-ltb}
use Rattle.ix_label.{specs.{Category.has, Words.members}, proofs.Bits.{tested, none_past}}
use Rattle.ix_label.proofs.label.Label.contains.Goals as goal

pub returns-then-cat-lt512 : goal.returns-then-cat-lt512
returns-then-cat-lt512 c = rw (← c.self.view_is) (tested c.self.inside.words c.args.cat)

pub returns-else-cat-lt512 : goal.returns-else-cat-lt512
returns-else-cat-lt512 c =
    let none : has (members c.self.inside.words) c.args.cat ≡ false =
    none_past c.self.inside.words c.args.cat c.self.invariant (omega arith) in
    rw (← c.self.view_is, le-ltb c.args.cat 512 (omega arith)) (sym none)
