use Rattle.std.proofs.Common.{sym, ap, subst, ◌∙◌}
use Rattle.ix_model.specs.{world.Naming.PathOf, opening.Opening.directory_of}
use Rattle.ix_tables.{specs.Opening.Leads, proofs.OpeningPlaces.{goes_from, fs_there, some_free, placed_there, line_there}}
use Rattle.ix_tables.proofs.tables.Tables.add_line.Goals as goal

pub directory_of-dir-requires : goal.directory_of-dir-requires
directory_of-dir-requires c =
    subst (λ (p : PathOf). Leads c.args.self.now.objects 0 p.names) (sym c.as_path.ensures)
    (goes_from c.args.config.now c.args.i c.in-Some.spec.now c.args.self.now c.requires.valid (sym c.in-Some.ensures) c.requires.before).leads

pub vacant_inode-requires : goal.vacant_inode-requires
vacant_inode-requires c =
    fs_there c.in-Some.spec.now c.args.self.now _ (goes_from c.args.config.now c.args.i c.in-Some.spec.now c.args.self.now c.requires.valid
    (sym c.in-Some.ensures) c.requires.before) c.directory_of-dir.result c.fs_of-fs.result (c.directory_of-dir.ensures
    ∙ ap (λ (p : PathOf). directory_of c.args.self.now.objects 0 p.names) c.as_path.ensures) c.fs_of-fs.ensures

pub place-requires : goal.place-requires
place-requires c = placed_there c.in-Some.spec.now c.args.self.now _ (goes_from c.args.config.now c.args.i c.in-Some.spec.now c.args.self.now c.requires.valid
    (sym c.in-Some.ensures) c.requires.before) c.directory_of-dir.result c.fs_of-fs.result (c.directory_of-dir.ensures
    ∙ ap (λ (p : PathOf). directory_of c.args.self.now.objects 0 p.names) c.as_path.ensures) c.fs_of-fs.ensures c.in-Some-vacant_inode.n
    c.in-Some-vacant_inode.ensures.vacant

pub unreachable-requires-in-None : goal.unreachable-requires-in-None
unreachable-requires-in-None c =
    some_free c.in-Some.spec.now c.args.self.now _ (goes_from c.args.config.now c.args.i c.in-Some.spec.now c.args.self.now c.requires.valid
    (sym c.in-Some.ensures) c.requires.before) c.directory_of-dir.result c.fs_of-fs.result (c.directory_of-dir.ensures
    ∙ ap (λ (p : PathOf). directory_of c.args.self.now.objects 0 p.names) c.as_path.ensures) c.fs_of-fs.ensures c.in-None.ensures.vacant

pub returns : goal.returns
returns c = c.place.ensures
    ∙ line_there c.in-Some.spec.now c.args.self.now _ (goes_from c.args.config.now c.args.i c.in-Some.spec.now c.args.self.now c.requires.valid
    (sym c.in-Some.ensures) c.requires.before) c.directory_of-dir.result c.fs_of-fs.result (c.directory_of-dir.ensures
    ∙ ap (λ (p : PathOf). directory_of c.args.self.now.objects 0 p.names) c.as_path.ensures) c.fs_of-fs.ensures c.in-Some-vacant_inode.n
    c.in-Some-vacant_inode.ensures.vacant
