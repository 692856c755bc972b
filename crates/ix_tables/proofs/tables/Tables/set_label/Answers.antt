use Rattle.std.proofs.Common.{List, Option, refl, ap, sym, ◌∙◌, arith}
use Rattle.ix_label.specs.Category.{leq}
use Rattle.ix_pipe.specs.Pipe.{Pipe, with_label}
use Rattle.ix_tables.{specs.Joined.joined, proofs.{Joining.{inode_there_below, ceiling_there, edited_there}, Piping.{is_living, changed_there, pipe_past}}}
use Rattle.ix_tables.proofs.tables.Tables.set_label.Goals as goal

pub set_label-requires : goal.set_label-requires
set_label-requires c = is_living _ _ _ _ _ _ _ _ c.args.n c.self.invariant c.self.view_is (pipe_past c.self.inside.limits c.self.inside.inodes c.self.inside.names
    c.self.inside.pipes c.self.inside.opens c.self.inside.homes.items c.args.self.now c.self.view_is c.self.inside.first_pipe c.args.n c.self.invariant.1
    (omega (arith, c.if-n-self.true)) c.requires.lives)

pub set_label-requires-else-n-self-clause-lives : goal.set_label-requires-else-n-self-clause-lives
set_label-requires-else-n-self-clause-lives c = inode_there_below c.self.invariant.0 c.self.view_is c.args.n (omega (arith, c.if-n-self.false, c.self.invariant.1))
    c.requires.lives

pub set_label-requires-else-n-self-clause-below : goal.set_label-requires-else-n-self-clause-below
set_label-requires-else-n-self-clause-below c =
    ap (leq c.args.label) (sym (ceiling_there c.self.invariant.0 c.self.view_is c.args.n (omega (arith, c.if-n-self.false, c.self.invariant.1)))) ∙ c.requires.below

pub returns-then-n-self : goal.returns-then-n-self
returns-then-n-self c =
    ap (λ (ps : List (Option Pipe)). joined c.self.inside.limits c.self.inside.inodes c.self.inside.names ps c.self.inside.opens c.self.inside.homes.items) c.set_label.ensures
    ∙ changed_there _ _ _ _ _ _ _ _ c.args.n c.self.invariant c.self.view_is (pipe_past c.self.inside.limits c.self.inside.inodes
    c.self.inside.names c.self.inside.pipes c.self.inside.opens c.self.inside.homes.items c.args.self.now c.self.view_is c.self.inside.first_pipe c.args.n
    c.self.invariant.1 (omega (arith, c.if-n-self.true)) c.requires.lives)
    (with_label c.args.label) (λ x. record x { label = c.args.label }) (λ p. refl) (λ p. refl)

pub returns-else-n-self : goal.returns-else-n-self
returns-else-n-self c =
    edited_there c.self.invariant.0 c.self.view_is _ c.args.n (λ x. record x { label = c.args.label }) (λ x. record x { label = c.args.label })
    (omega (arith, c.if-n-self.false, c.self.invariant.1)) (λ names x. refl) c.set_label-else-n-self.ensures
