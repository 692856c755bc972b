use Rattle.std.proofs.Common.{◌≡◌, ◌∙◌, ◌≤◌, Bool, true, List, ℕ, length, ap, subst, sym, if◌then◌else◌}
use Rattle.ix_model.specs.{world.Contents.spliced, rows.Telling.length_then}
use Rattle.ix_inode.{specs.Nodes.{Nodes, has_space, length_after, holding, bytes_at}, proofs.Laid.file_lives}
use Rattle.ix_tables.specs.{Views.has_room, Joined.joined}
use Rattle.ix_tables.proofs.{Holding.{is_file_there, bytes_there, written_there}, Rooms.room_there, Refusing.not_refused}
use Rattle.ix_tables.proofs.tables.Tables.write.Goals as goal

pub lemma_blocks_add_up-requires : goal.lemma_blocks_add_up-requires
lemma_blocks_add_up-requires c = file_lives c.args.n c.self.inside.inodes (is_file_there _ _ _ _ _ _ _ _ c.self.invariant c.self.view_is c.args.n c.requires.file)

pub write-requires-clause-file : goal.write-requires-clause-file
write-requires-clause-file c = is_file_there _ _ _ _ _ _ _ _ c.self.invariant c.self.view_is c.args.n c.requires.file

pub write-requires-clause-most : goal.write-requires-clause-most
write-requires-clause-most c = subst (λ (bs : List ℕ). length_then c.args.offset (length c.args.bytes.now) (length bs) ≤ 1048576)
    (sym (bytes_there _ _ _ _ _ _ _ _ c.self.invariant c.self.view_is c.args.n c.requires.file)) c.requires.most

pub unreachable-requires : goal.unreachable-requires
unreachable-requires c =
    let space : has_space c.args.n (length_after c.args.n c.args.offset (length c.args.bytes.now) c.self.inside.inodes) c.self.inside.inodes ≡ true =
    room_there _ _ _ _ _ _ _ _ c.self.invariant c.self.view_is c.args.n c.requires.file
    (length_after c.args.n c.args.offset (length c.args.bytes.now) c.self.inside.inodes) c.lemma_blocks_add_up.ensures
    ∙ ap (λ (bs : List ℕ). has_room c.args.n (length_then c.args.offset (length c.args.bytes.now) (length bs)) c.args.self.now)
    (bytes_there _ _ _ _ _ _ _ _ c.self.invariant c.self.view_is c.args.n c.requires.file) ∙ c.requires.room in
    not_refused (has_space c.args.n (length_after c.args.n c.args.offset (length c.args.bytes.now) c.self.inside.inodes) c.self.inside.inodes) (record {})
    c.in-Err.field-0 c.write.result c.write.ensures.room c.in-Err.is space

pub returns : goal.returns
returns c =
    let space : has_space c.args.n (length_after c.args.n c.args.offset (length c.args.bytes.now) c.self.inside.inodes) c.self.inside.inodes ≡ true =
    room_there _ _ _ _ _ _ _ _ c.self.invariant c.self.view_is c.args.n c.requires.file
    (length_after c.args.n c.args.offset (length c.args.bytes.now) c.self.inside.inodes) c.lemma_blocks_add_up.ensures
    ∙ ap (λ (bs : List ℕ). has_room c.args.n (length_then c.args.offset (length c.args.bytes.now) (length bs)) c.args.self.now)
    (bytes_there _ _ _ _ _ _ _ _ c.self.invariant c.self.view_is c.args.n c.requires.file) ∙ c.requires.room in
    ap (λ (s : Nodes). joined c.self.inside.limits s c.self.inside.names c.self.inside.pipes c.self.inside.opens c.self.inside.homes.items)
    (c.write.ensures.bytes ∙ ap (λ (b : Bool). if b then holding c.args.n (spliced c.args.offset c.args.bytes.now (bytes_at c.args.n c.self.inside.inodes))
    c.self.inside.inodes else c.self.inside.inodes) space)
    ∙ written_there _ _ _ _ _ _ _ _ c.self.invariant c.self.view_is c.args.n c.requires.file (spliced c.args.offset c.args.bytes.now)
