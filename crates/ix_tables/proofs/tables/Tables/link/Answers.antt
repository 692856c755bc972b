use Rattle.std.proofs.Common.{arith, ◌∙◌, sym, length-set}
use Rattle.ix_tables.proofs.Making.{may_enter, stands, few_links, linked_joined, linked_view}
use Rattle.ix_tables.proofs.tables.Tables.link.Goals as goal

pub enter-requires : goal.enter-requires
enter-requires c =
    let may = may_enter c.self.invariant.0 c.self.view_is c.args.dir c.args.n c.args.name c.requires.dir c.requires.absent c.requires.room in
    record { dir = may.0; room = may.1.0; absent = may.1.1 }

pub overflow_add-inode : goal.overflow_add-inode
overflow_add-inode c = omega (
  arith,
  few_links c.self.invariant.0 c.self.view_is c.args.dir c.args.n c.args.name
      c.requires.dir c.requires.absent c.requires.room c.requires.file c.in-Some.inode c.in-Some.ensures.told c.self.invariant.0.few_names,
)

pub invariant_of-self : goal.invariant_of-self
invariant_of-self c = (
  linked_joined c.self.invariant.0 c.self.view_is c.args.dir c.args.n c.args.name c.requires.dir
      c.requires.absent c.requires.room c.requires.file c.in-Some.inode c.in-Some.ensures.told c.set_links.ensures c.enter.ensures,
  c.self.invariant.1
      ∙ sym (rw c.set_links.ensures (length-set c.self.inside.inodes.nodes c.args.n _)),
)

pub returns-in-Some : goal.returns-in-Some
returns-in-Some c = linked_view c.self.invariant.0 c.self.view_is c.args.dir c.args.n c.args.name c.requires.dir
    c.requires.absent c.requires.room c.requires.file c.in-Some.inode c.in-Some.ensures.told c.set_links.ensures c.enter.ensures

pub invariant_of-self-in_default : goal.invariant_of-self-in_default
invariant_of-self-in_default c =
    absurd (stands c.self.invariant.0 c.self.view_is c.args.dir c.args.n c.args.name c.requires.dir c.requires.absent c.requires.room c.requires.file c.in_default.ensures.told)

pub returns-in_default : goal.returns-in_default
returns-in_default c = absurd (stands c.self.invariant.0 c.self.view_is c.args.dir c.args.n c.args.name c.requires.dir c.requires.absent c.requires.room c.requires.file c.in_default.ensures.told)
