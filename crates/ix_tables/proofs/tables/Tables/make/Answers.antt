use Rattle.std.proofs.Common.{◌∙◌, sym}
use Rattle.ix_tables.proofs.Making.{may_enter, new_stands, length_made, made_joined, made_view}
use Rattle.ix_tables.proofs.tables.Tables.make.Goals as goal

pub enter-requires : goal.enter-requires
enter-requires c =
    let may = may_enter c.self.invariant.0 c.self.view_is c.args.dir c.args.n c.args.name c.requires.dir c.requires.absent c.requires.room in
    record { dir = may.0; room = may.1.0; absent = may.1.1 }

pub set_links-requires : goal.set_links-requires
set_links-requires c = new_stands c.self.invariant.0 c.self.view_is c.args.dir c.args.n c.args.name
    c.requires.dir c.requires.absent c.requires.room c.args.fs c.args.kind c.requires.vacant c.requires.kind c.make.ensures.made

pub invariant_of-self : goal.invariant_of-self
invariant_of-self c = (
  made_joined c.self.invariant.0 c.self.view_is c.args.dir c.args.n c.args.name c.requires.dir
      c.requires.absent c.requires.room c.args.fs c.args.kind c.requires.vacant c.requires.kind c.make.ensures.made c.set_links.ensures c.enter.ensures,
  c.self.invariant.1 ∙ sym (length_made c.self.invariant.0 c.self.view_is c.args.dir c.args.n c.args.name
      c.requires.dir c.requires.absent c.requires.room c.args.fs c.args.kind c.requires.vacant c.requires.kind c.make.ensures.made c.set_links.ensures c.enter.ensures),
)

pub returns : goal.returns
returns c = made_view c.self.invariant.0 c.self.view_is c.args.dir c.args.n c.args.name c.requires.dir
    c.requires.absent c.requires.room c.args.fs c.args.kind c.requires.vacant c.requires.kind c.make.ensures.made c.set_links.ensures c.enter.ensures
