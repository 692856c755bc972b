use Rattle.std.proofs.Common.{◌∙◌}
use Rattle.ix_inode.proofs.Laid.{file_lives}
use Rattle.ix_tables.proofs.{Holding.is_file_there, Rooms.room_there}
use Rattle.ix_tables.proofs.tables.Tables.has_room.Goals as goal

pub lemma_blocks_add_up-requires : goal.lemma_blocks_add_up-requires
lemma_blocks_add_up-requires c = file_lives c.args.n c.self.inside.inodes (is_file_there _ _ _ _ _ _ _ _ c.self.invariant c.self.view_is c.args.n c.requires.file)

pub has_room-requires-clause-file : goal.has_room-requires-clause-file
has_room-requires-clause-file c = is_file_there _ _ _ _ _ _ _ _ c.self.invariant c.self.view_is c.args.n c.requires.file

pub returns : goal.returns
returns c = c.has_room.ensures ∙ room_there _ _ _ _ _ _ _ _ c.self.invariant c.self.view_is c.args.n c.requires.file c.args.len c.lemma_blocks_add_up.ensures
