use Rattle.std.proofs.Common.{◌≡◌, ◌∙◌, Bool, true, ap, if◌then◌else◌}
use Rattle.ix_model.specs.world.Contents.{cut_to}
use Rattle.ix_inode.{specs.Nodes.{Nodes, has_space, holding, bytes_at}, proofs.Laid.file_lives}
use Rattle.ix_tables.{specs.Joined.joined, proofs.{Holding.{is_file_there, written_there}, Rooms.room_there, Refusing.not_refused}}
use Rattle.ix_tables.proofs.tables.Tables.cut.Goals as goal

pub lemma_blocks_add_up-requires : goal.lemma_blocks_add_up-requires
lemma_blocks_add_up-requires c = file_lives c.args.n c.self.inside.inodes (is_file_there _ _ _ _ _ _ _ _ c.self.invariant c.self.view_is c.args.n c.requires.file)

pub cut-requires-clause-file : goal.cut-requires-clause-file
cut-requires-clause-file c = is_file_there _ _ _ _ _ _ _ _ c.self.invariant c.self.view_is c.args.n c.requires.file

pub unreachable-requires : goal.unreachable-requires
unreachable-requires c =
    let space : has_space c.args.n c.args.len c.self.inside.inodes ≡ true =
    room_there _ _ _ _ _ _ _ _ c.self.invariant c.self.view_is c.args.n c.requires.file c.args.len c.lemma_blocks_add_up.ensures
    ∙ c.requires.room in
    not_refused (has_space c.args.n c.args.len c.self.inside.inodes) (record {}) c.in-Err.field-0 c.cut.result c.cut.ensures.room c.in-Err.is space

pub returns : goal.returns
returns c =
    let space : has_space c.args.n c.args.len c.self.inside.inodes ≡ true =
    room_there _ _ _ _ _ _ _ _ c.self.invariant c.self.view_is c.args.n c.requires.file c.args.len c.lemma_blocks_add_up.ensures
    ∙ c.requires.room in
    ap (λ (s : Nodes). joined c.self.inside.limits s c.self.inside.names c.self.inside.pipes c.self.inside.opens c.self.inside.homes.items) (c.cut.ensures.bytes
    ∙ ap (λ (b : Bool). if b then holding c.args.n (cut_to c.args.len (bytes_at c.args.n c.self.inside.inodes)) c.self.inside.inodes else
    c.self.inside.inodes) space)
    ∙ written_there _ _ _ _ _ _ _ _ c.self.invariant c.self.view_is c.args.n c.requires.file (cut_to c.args.len)
