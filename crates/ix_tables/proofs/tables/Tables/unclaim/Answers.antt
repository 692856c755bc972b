use Rattle.std.proofs.Common.{List, Option, None, ap, ◌∙◌, refl}
use Rattle.ix_model.specs.world.World.{put}
use Rattle.ix_pipe.specs.Pipe.{Pipe, with_claim}
use Rattle.ix_tables.{specs.Joined.joined, proofs.Piping.{is_past, is_living, changed_there}}
use Rattle.ix_tables.proofs.tables.Tables.unclaim.Goals as goal

pub overflow_sub-n : goal.overflow_sub-n
overflow_sub-n c = is_past _ _ _ _ _ _ _ _ c.args.n c.self.invariant c.self.view_is c.requires.pipe

pub unclaim-requires-clause-lives : goal.unclaim-requires-clause-lives
unclaim-requires-clause-lives c = is_living _ _ _ _ _ _ _ _ c.args.n c.self.invariant c.self.view_is c.requires.pipe

pub returns : goal.returns
returns c =
    ap (λ (ps : List (Option Pipe)). joined c.self.inside.limits c.self.inside.inodes c.self.inside.names ps c.self.inside.opens c.self.inside.homes.items) c.unclaim.ensures
    ∙ changed_there _ _ _ _ _ _ _ _ c.args.n c.self.invariant c.self.view_is c.requires.pipe (with_claim c.args.end None) (λ x. record x {
      claims =
          put x.claims c.args.end None;
    }) (λ p. refl) (λ p. refl)
