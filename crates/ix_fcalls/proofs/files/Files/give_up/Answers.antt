use Rattle.std.proofs.Common.{◌∙◌, ap, is_some}
use Rattle.ix_model.specs.world.World.{at}
use Rattle.ix_tables.specs.Parts.{Parts}
use Rattle.ix_fcalls.{proofs.GivenUp.{given_up, entry_stands, entry_low}}
use Rattle.ix_fcalls.proofs.files.Files.give_up.Goals as goal

pub let_go_claim-requires-clause-end : goal.let_go_claim-requires-clause-end
let_go_claim-requires-clause-end g c = entry_low g.R.Others.rest c.args.self.now _ _ _ c.requires.sound c.requires.behind

pub release-requires : goal.release-requires
release-requires g c = record {
  lives = ap (λ (v : Parts). is_some (at v.opens c.args.e.now.id)) (c.self.view_is ∙ c.let_go_claim.ensures)
      ∙ entry_stands g.R.Others.rest c.args.self.now _ _ _ c.requires.behind;
}

pub returns : goal.returns
returns g c =
    let r = given_up g.R.Others.rest _ _ _ _ c.requires.sound c.requires.counted c.requires.behind _ c.set_fd.ensures _ _ _ _
    (c.self.view_is ∙ c.let_go_claim.ensures) c.release.ensures.last c.release.ensures.left c.let_go_object.ensures in
    record { row = r.row; process = c.set_fd.ensures; counted = r.counted; leaves = r.leaves; content = r.content }
