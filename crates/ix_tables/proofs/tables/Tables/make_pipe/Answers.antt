use Rattle.std.proofs.Common.{List, ℕ, Option, ap, ◌∙◌}
use Rattle.ix_pipe.specs.Pipe.{Pipe, made}
use Rattle.ix_tables.{specs.Joined.joined, proofs.FreePipes.made_there}
use Rattle.ix_tables.proofs.tables.Tables.make_pipe.Goals as goal

pub returns : goal.returns
returns c =
    ap (λ (ps : List (Option Pipe)). joined c.self.inside.limits c.self.inside.inodes c.self.inside.names ps c.self.inside.opens c.self.inside.homes.items)
    (c.make.ensures.made ∙ ap (λ (r : Option ℕ). made r c.self.inside.pipes) c.make.ensures.number)
    ∙ made_there _ _ _ _ _ _ _ _ c.self.invariant c.self.view_is c.args.n c.requires
