use Rattle.std.proofs.Common.{◌≡◌, suc, ap, ◌∙◌, arith}
use Rattle.ix_script.{specs.scripts.Packed.begin_at, proofs.reader.Packing.begin_later}
use Rattle.ix_script.proofs.packed.begin.Goals as goal

pub returns-in-Some : goal.returns-in-Some
returns-in-Some c =
    let e : c.args.i ≡ suc c.in-Some.before = omega (arith, c.in-Some.ensures) in
    omega (arith, ap (begin_at 0 c.args.ends.now) e ∙ begin_later 0 c.args.ends.now c.in-Some.before (omega (arith, c.requires)))
