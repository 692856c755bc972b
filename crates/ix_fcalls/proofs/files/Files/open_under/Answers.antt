use Rattle.std.proofs.Common.{sym, subst}
use Rattle.ix_fcalls.{specs.Counted.{IsCounted, IsClear}, proofs.Giving.counted_opened}
use Rattle.ix_fcalls.proofs.files.Files.open_under.Goals as goal

pub returns-clause-counted : goal.returns-clause-counted
returns-clause-counted g c = counted_opened _ _ (subst (λ v. IsCounted v c.args.who.now) (sym c.self.view_is) c.requires.counted) _ _ _ c.requires.free _ _ _
    (subst IsClear (sym c.self.view_is) c.requires.clear) (sym c.in_ok-id.ensures.id) c.in_ok-id.ensures.some c.set_fd.ensures
