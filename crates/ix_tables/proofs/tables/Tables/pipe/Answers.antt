use Rattle.std.proofs.Common.{◌+◌, ◌∙◌, ap, sym, arith}
use Rattle.ix_model.specs.world.Numbers.{first_pipe}
use Rattle.ix_tables.{specs.Parts.Parts, proofs.{Linking.pipe_unnamed, Telling.{pipe_shows, no_pipe_shows}}}
use Rattle.ix_tables.proofs.tables.Tables.pipe.Goals as goal

pub returns-then-not-lives-clause-pipe : goal.returns-then-not-lives-clause-pipe
returns-then-not-lives-clause-pipe c =
    let first = ap (λ (v : Parts). first_pipe v.fss) (sym c.self.view_is) ∙ c.self.invariant.0.first in
    rw first (no_pipe_shows c.self.inside.inodes c.self.inside.names c.self.inside.pipes c.args.self.now.objects (ap (λ (v : Parts). v.objects) c.self.view_is)
    c.args.pipe (cc (c.if-not-lives.true, c.lives.ensures)))

pub returns-clause-pipe : goal.returns-clause-pipe
returns-clause-pipe c =
    let first = ap (λ (v : Parts). first_pipe v.fss) (sym c.self.view_is) ∙ c.self.invariant.0.first in
    rw first (pipe_shows c.self.inside.inodes c.self.inside.names c.self.inside.pipes c.args.self.now.objects (ap (λ (v : Parts). v.objects) c.self.view_is)
    c.args.pipe c.label.result c.empty.result c.empty-2.result c.label.ensures (c.empty.ensures tt) (c.empty-2.ensures tt))

pub returns-clause-links : goal.returns-clause-links
returns-clause-links c =
    let first = ap (λ (v : Parts). first_pipe v.fss) (sym c.self.view_is) ∙ c.self.invariant.0.first in
    pipe_unnamed _ _ _ _ _ _ _ c.self.invariant.0 c.self.view_is (first_pipe c.args.self.now.fss + c.args.pipe) (omega (arith, first))
