use Rattle.std.proofs.Common.{sym, ap, ◌∙◌, not, arith, ◌≡◌, drop}
use Rattle.ix_model.{specs.world.Texts.names_in, proofs.texts.Reading.{told, ended, went}}
use Rattle.ix_model.proofs.path.Path.name.Goals as goal

pub returns-then-is_none : goal.returns-then-is_none
returns-then-is_none c = sym (ended _ _ _ c.names.counter c.args.i c.next.result c.next.ensures.steps c.names.invariant (c.is_none.ensures
    ∙ ap not c.if-is_none.true) (omega (arith, c.names-test.true)))

pub names-preserved : goal.names-preserved
names-preserved c = went _ _ _ c.names.counter c.next.result c.next.ensures.steps c.names.invariant (c.is_none.ensures ∙ ap not c.if-is_none.false)

pub returns : goal.returns
returns c =
    let same : c.names.counter ≡ c.args.i = omega (arith, c.names-test.false, c.names.auto) in
    told _ _ _ c.args.i c.next-2.result c.next-2.ensures.steps (c.names.invariant ∙ ap (λ n. drop n (names_in c.args.self.now.text.now)) same)
