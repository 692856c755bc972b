use Rattle.std.proofs.Common.{◌∙◌, sym, ap, subst}
use Rattle.ix_model.specs.declared.reply.Reply.TheVariants as reply
use Rattle.ix_fcalls.{specs.Telling.{TellsOfFile, with_size}, proofs.LookSteps.unsized}
use Rattle.ix_fcalls.proofs.files.Files.sized.Goals as goal

pub size_told-told-requires : goal.size_told-told-requires
size_told-told-requires c = subst (λ r. TellsOfFile c.args.self.now.objects r) c.in-Stat.is c.requires

pub returns-in-Stat : goal.returns-in-Stat
returns-in-Stat c = ap (λ n. reply.Stat c.in-Stat.obj c.in-Stat.kind n c.in-Stat.links c.in-Stat.frozen c.in-Stat.cap c.in-Stat.lic) c.size_told-told.ensures
    ∙ ap (with_size c.args.self.now.holdings) (sym c.in-Stat.is)

pub returns-in_default : goal.returns-in_default
returns-in_default c = unsized _ _ c.in_default.not-Stat
