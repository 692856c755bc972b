use Rattle.std.proofs.Common.{◌+◌, arith, sym, ap, ◌∙◌, subst, ℕ, option_map}
use Rattle.ix_model.specs.world.{NameRefs.name_of, Paths.path_of}
use Rattle.ix_tables.proofs.OpeningLines.{IsOnWay, dir_on, step_on, way_ends}
use Rattle.ix_tables.proofs.tables.Tables.directory_of.Goals as goal

pub step-dir-requires : goal.step-dir-requires
step-dir-requires c = dir_on c.args.self.now.objects (path_of c.args.path.now).names c.loop-i.i c.loop-i.dir c.in-Some.name.bytes.now (omega (
  arith,
  c.loop-i-test.true,
  c.len-i-end.ensures.len,
)) (sym c.name.ensures ∙ ap (option_map name_of) c.in-Some.is) c.loop-i.invariant

pub loop-i-preserved : goal.loop-i-preserved
loop-i-preserved c =
    subst (λ (n : ℕ). IsOnWay c.args.self.now.objects (path_of c.args.path.now).names (c.loop-i.i + 1) n) (sym c.step-dir.ensures)
    (step_on c.args.self.now.objects (path_of c.args.path.now).names c.loop-i.i c.loop-i.dir c.in-Some.name.bytes.now (omega (
      arith,
      c.loop-i-test.true,
      c.len-i-end.ensures.len,
    )) (sym c.name.ensures ∙ ap (option_map name_of) c.in-Some.is) c.loop-i.invariant)

pub returns : goal.returns
returns c = way_ends c.args.self.now.objects (path_of c.args.path.now).names c.loop-i.i c.loop-i.dir (omega (
  arith,
  c.loop-i-test.false,
  c.loop-i.auto.i-end,
  c.len-i-end.ensures.len,
)) c.loop-i.invariant
