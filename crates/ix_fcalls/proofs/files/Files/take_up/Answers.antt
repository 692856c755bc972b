use Rattle.std.proofs.Common.{◌<◌, ◌∙◌, ap, sym, subst, length, arith}
use Rattle.ix_tables.specs.Parts.{Parts}
use Rattle.ix_fcalls.{specs.Counted.IsCounted, proofs.{Counting.{owners_long, homes_long}, Sharing.{owners_bounded, homes_bounded, counted_taken}}}
use Rattle.ix_fcalls.proofs.files.Files.take_up.Goals as goal

pub share_all-requires-clause-long : goal.share_all-requires-clause-long
share_all-requires-clause-long g c = owners_long _ _ (subst (λ v. IsCounted v g.processes) (sym c.self.view_is) c.requires.0)

pub share_all-requires-clause-few : goal.share_all-requires-clause-few
share_all-requires-clause-few g c = owners_bounded _ _ (subst (λ v. IsCounted v g.processes) (sym c.self.view_is) c.requires.0) c.requires.1.0 c.requires.1.1.0

pub settle-requires-clause-within : goal.settle-requires-clause-within
settle-requires-clause-within g c =
    let long = homes_long _ _ c.requires.0 in
    let same = ap (λ v. length v.homes) c.share_all.ensures.rest ∙ ap (λ v. length v.homes) c.self.view_is in
    omega (arith, long, same, c.requires.1.1.1.1)

pub settle-requires-clause-few : goal.settle-requires-clause-few
settle-requires-clause-few g c = rw (ap (λ (v : Parts). v.homes) c.share_all.ensures.rest ∙ ap (λ (v : Parts). v.homes) c.self.view_is)
    (homes_bounded _ g.processes c.requires.0 c.requires.1.0 _ c.requires.1.1.1.1)

pub returns-clause-counted : goal.returns-clause-counted
returns-clause-counted g c = counted_taken _ _ _ _ _ _
    (subst (λ v. IsCounted v g.processes) (sym c.self.view_is) c.requires.0) (subst (λ v. c.args.child.now.cwd.0 < length v.objects) (sym c.self.view_is) c.requires.1.1.1.1)
    c.share_all.ensures.owners c.share_all.ensures.long c.share_all.ensures.rest c.settle.ensures
