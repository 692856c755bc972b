use Rattle.std.proofs.Common.{◌∙◌, sym, length-set, None}
use Rattle.ix_tables.proofs.{Joining.directory_stands, Renaming.{directory_joined, directory_gone}}
use Rattle.ix_tables.proofs.tables.Tables.remove_dir.Goals as goal

pub free-requires : goal.free-requires
free-requires c = directory_stands c.self.invariant.0 c.self.view_is c.args.n c.requires.is_dir

pub invariant_of-self : goal.invariant_of-self
invariant_of-self c = (
  directory_joined c.self.invariant.0 c.self.view_is c.args.dir c.args.n c.args.name.now.bytes.now c.requires.dir
      c.requires.child c.lemma_names_differ.ensures c.remove.ensures.left c.requires.is_dir c.requires.bare c.free.ensures,
  c.self.invariant.1
      ∙ sym (rw c.free.ensures (length-set c.self.inside.inodes.nodes c.args.n None)),
)

pub returns : goal.returns
returns c = directory_gone c.self.invariant.0 c.self.view_is c.args.dir c.args.n c.args.name.now.bytes.now c.requires.dir
    c.requires.child c.lemma_names_differ.ensures c.remove.ensures.left c.requires.is_dir c.requires.bare c.free.ensures
