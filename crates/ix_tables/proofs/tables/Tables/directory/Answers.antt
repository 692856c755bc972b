use Rattle.std.proofs.Common.{is_some, ap, sym, ◌∙◌}
use Rattle.ix_tables.{specs.Parts.Parts, proofs.Telling.{inode_dir, inode_label, inode_within, no_dir}}
use Rattle.ix_tables.proofs.tables.Tables.directory.Goals as goal

pub returns-in_err-inode-clause-dir : goal.returns-in_err-inode-clause-dir
returns-in_err-inode-clause-dir c =
    ap is_some c.from_residual.ensures
    ∙ no_dir c.self.inside.inodes c.self.inside.names c.self.inside.pipes c.args.self.now.objects
    (ap (λ (v : Parts). v.objects) c.self.view_is) c.args.n c.in_err-inode.ensures

pub returns-then-not-inode-clause-dir : goal.returns-then-not-inode-clause-dir
returns-then-not-inode-clause-dir c =
    sym c.if-not-inode.true
    ∙ inode_dir c.self.inside.inodes c.self.inside.names c.self.inside.pipes c.args.self.now.objects
    (ap (λ (v : Parts). v.objects) c.self.view_is) c.args.n _ c.in_ok-inode.ensures

pub returns-clause-dir : goal.returns-clause-dir
returns-clause-dir c =
    sym c.if-not-inode.false
    ∙ inode_dir c.self.inside.inodes c.self.inside.names c.self.inside.pipes c.args.self.now.objects
    (ap (λ (v : Parts). v.objects) c.self.view_is) c.args.n _ c.in_ok-inode.ensures

pub returns-clause-label : goal.returns-clause-label
returns-clause-label c = inode_label c.self.inside.inodes c.self.inside.names c.self.inside.pipes c.args.self.now.objects
    (ap (λ (v : Parts). v.objects) c.self.view_is) c.args.n _ c.in_ok-inode.ensures

pub returns-clause-within : goal.returns-clause-within
returns-clause-within c there = inode_within c.self.inside.inodes c.self.inside.names c.self.inside.pipes c.args.self.now.objects
    (ap (λ (v : Parts). v.objects) c.self.view_is) c.args.n _ c.in_ok-inode.ensures
