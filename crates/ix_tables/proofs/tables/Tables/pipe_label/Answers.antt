use Rattle.std.proofs.Common.{◌+◌, ap, sym, ◌∙◌, unwrap_or}
use Rattle.ix_model.specs.{world.Numbers.first_pipe, rows.Walks.{node, nothing}}
use Rattle.ix_tables.{specs.Parts.Parts, proofs.Telling.{no_pipe_shows, pipe_label}}
use Rattle.ix_tables.proofs.tables.Tables.pipe_label.Goals as goal

pub returns-then-not-lives : goal.returns-then-not-lives
returns-then-not-lives c =
    let first = ap (λ (v : Parts). first_pipe v.fss) (sym c.self.view_is) ∙ c.self.invariant.0.first in
    let none = no_pipe_shows c.self.inside.inodes c.self.inside.names c.self.inside.pipes c.args.self.now.objects
    (ap (λ (v : Parts). v.objects) c.self.view_is) c.args.pipe (cc (c.if-not-lives.true, c.lives.ensures)) in
    c.bottom.ensures ∙ ap (λ o. (unwrap_or o nothing).label) (sym none) ∙ ap (λ k. (node c.args.self.now.objects (k + c.args.pipe)).label) (sym first)

pub returns : goal.returns
returns c =
    let first = ap (λ (v : Parts). first_pipe v.fss) (sym c.self.view_is) ∙ c.self.invariant.0.first in
    pipe_label c.self.inside.inodes c.self.inside.names c.self.inside.pipes c.args.self.now.objects
    (ap (λ (v : Parts). v.objects) c.self.view_is) c.args.pipe _ c.label.ensures
    ∙ ap (λ k. (node c.args.self.now.objects (k + c.args.pipe)).label) (sym first)
