use Rattle.std.proofs.Common.{◌∙◌, refl, sym}
use Rattle.ix_machine.proofs.Viewing.{no_view, view_is}
use Rattle.ix_machine.proofs.machine.Machine.opened.Goals as goal

pub returns-then-not-lives : goal.returns-then-not-lives
returns-then-not-lives c = no_view c.args.self.now _ _ (sym c.lives.ensures ∙ c.if-not-lives.true)

pub returns : goal.returns
returns c = view_is _ c.self.inside.procs c.self.inside.log _ c.self.view_is _ _ c.who.result.now _ _ c.self.invariant.counted c.who.ensures.living refl c.opened.ensures
