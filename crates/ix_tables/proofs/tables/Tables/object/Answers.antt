use Rattle.std.proofs.Common.{◌≡◌, ◌+◌, ◌-◌, ◌∙◌, IfSome, Some, None, ap, sym, subst, arith}
use Rattle.ix_model.specs.{world.Numbers.first_pipe, rows.{OnPaths.links_of, Walks.node}}
use Rattle.ix_tables.{specs.{Parts.Parts, Views.{Shows, frame_alone, object_by}}, proofs.{Linking.links_shown, Telling.{row_of, inode_shows, shows_within}}}
use Rattle.ix_tables.proofs.tables.Tables.object.Goals as goal

pub returns-then-n-self-clause-object : goal.returns-then-n-self-clause-object
returns-then-n-self-clause-object c =
    let first = ap (λ (v : Parts). first_pipe v.fss) (sym c.self.view_is) ∙ c.self.invariant.0.first in
    let same : first_pipe c.args.self.now.fss + (c.args.n - c.self.inside.first_pipe) ≡ c.args.n = omega (arith, first, c.self.invariant.1, c.if-n-self.true) in
    subst (λ k. Shows c.args.self.now.objects k c.pipe.result) same c.pipe.ensures.pipe

pub returns-then-n-self-clause-within : goal.returns-then-n-self-clause-within
returns-then-n-self-clause-within c = shows_within c.args.self.now.objects c.args.n c.pipe.result (returns-then-n-self-clause-object c)

pub returns-in_err-inode-clause-object : goal.returns-in_err-inode-clause-object
returns-in_err-inode-clause-object c =
    let none = sym c.in_err-inode.was ∙ c.get.ensures.told in
    subst (λ r. Shows c.args.self.now.objects c.args.n r) (sym c.from_residual.ensures)
    (inode_shows c.self.inside.inodes c.self.inside.names c.self.inside.pipes c.args.self.now.objects (ap (λ (v : Parts). v.objects) c.self.view_is) c.args.n
    None (omega (arith, c.if-n-self.false, c.self.invariant.1)) none)

pub returns-clause-object : goal.returns-clause-object
returns-clause-object c = inode_shows c.self.inside.inodes c.self.inside.names c.self.inside.pipes c.args.self.now.objects
    (ap (λ (v : Parts). v.objects) c.self.view_is) c.args.n (Some c.in_ok-inode.inode) (omega (arith, c.if-n-self.false, c.self.invariant.1))
    c.in_ok-inode.ensures.told

pub returns-clause-within : goal.returns-clause-within
returns-clause-within c = shows_within c.args.self.now.objects c.args.n (Some (row_of c.in_ok-inode.inode)) (returns-clause-object c)

pub returns-then-n-self-clause-links : goal.returns-then-n-self-clause-links
returns-then-n-self-clause-links c =
    let first = ap (λ (v : Parts). first_pipe v.fss) (sym c.self.view_is) ∙ c.self.invariant.0.first in
    let same : first_pipe c.args.self.now.fss + (c.args.n - c.self.inside.first_pipe) ≡ c.args.n = omega (arith, first, c.self.invariant.1, c.if-n-self.true) in
    subst (λ k. IfSome c.pipe.result (λ x. x.links ≡ links_of (frame_alone c.args.self.now) k (object_by (node c.args.self.now.objects k) x))) same c.pipe.ensures.links

pub returns-clause-links : goal.returns-clause-links
returns-clause-links c = c.links_told.ensures ∙ links_shown _ _ _ _ _ _ _ c.self.invariant.0 c.self.view_is c.args.n c.in_ok-inode.inode c.in_ok-inode.ensures.told
