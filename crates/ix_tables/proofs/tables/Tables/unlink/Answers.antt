use Rattle.std.proofs.Common.{◌∙◌, sym, length-set}
use Rattle.ix_tables.proofs.Renaming.{stands, some_link, file_joined, file_left}
use Rattle.ix_tables.proofs.tables.Tables.unlink.Goals as goal

pub overflow_sub-inode : goal.overflow_sub-inode
overflow_sub-inode c = some_link c.self.invariant.0 c.self.view_is c.args.dir c.args.n c.args.name.now.bytes.now c.requires.dir
    c.requires.child c.lemma_names_differ.ensures c.remove.ensures.left c.requires.file c.in-Some.inode c.in-Some.ensures.told

pub invariant_of-self : goal.invariant_of-self
invariant_of-self c = (
  file_joined c.self.invariant.0 c.self.view_is c.args.dir c.args.n c.args.name.now.bytes.now c.requires.dir
      c.requires.child c.lemma_names_differ.ensures c.remove.ensures.left c.requires.file c.in-Some.inode c.in-Some.ensures.told c.set_links.ensures,
  c.self.invariant.1 ∙ sym (rw c.set_links.ensures (length-set c.self.inside.inodes.nodes c.args.n _)),
)

pub returns-in-Some : goal.returns-in-Some
returns-in-Some c = file_left c.self.invariant.0 c.self.view_is c.args.dir c.args.n c.args.name.now.bytes.now c.requires.dir
    c.requires.child c.lemma_names_differ.ensures c.remove.ensures.left c.requires.file c.in-Some.inode c.in-Some.ensures.told c.set_links.ensures

pub invariant_of-self-in_default : goal.invariant_of-self-in_default
invariant_of-self-in_default c =
    absurd (stands c.self.invariant.0 c.self.view_is c.args.dir c.args.n c.args.name.now.bytes.now c.requires.dir c.requires.child
    c.lemma_names_differ.ensures c.remove.ensures.left c.requires.file c.in_default.ensures.told)

pub returns-in_default : goal.returns-in_default
returns-in_default c = absurd (stands c.self.invariant.0 c.self.view_is c.args.dir c.args.n c.args.name.now.bytes.now c.requires.dir
    c.requires.child c.lemma_names_differ.ensures c.remove.ensures.left c.requires.file c.in_default.ensures.told)
