use Rattle.std.proofs.Common.{◌∙◌, ◌++◌, ap, length, List, Option, ℕ, min, take, drop, refl}
use Rattle.ix_model.specs.world.Contents.{side, with_side}
use Rattle.ix_pipe.specs.Pipe.{Pipe, with_fewer}
use Rattle.ix_tables.{specs.Joined.joined, proofs.Piping.{is_past, is_living, waits_there, filled_there}}
use Rattle.ix_tables.proofs.tables.Tables.take.Goals as goal

pub overflow_sub-n : goal.overflow_sub-n
overflow_sub-n c = is_past _ _ _ _ _ _ _ _ c.args.n c.self.invariant c.self.view_is c.requires.pipe

pub read-requires-clause-lives : goal.read-requires-clause-lives
read-requires-clause-lives c = is_living _ _ _ _ _ _ _ _ c.args.n c.self.invariant c.self.view_is c.requires.pipe

pub returns-clause-count : goal.returns-clause-count
returns-clause-count c = c.read.ensures.count
    ∙ ap (λ (bs : List ℕ). min (length c.args.out.now) (length bs)) (waits_there _ _ _ _ _ _ _ _ c.args.n c.self.invariant c.self.view_is
    c.requires.pipe c.args.end)

pub returns-clause-out : goal.returns-clause-out
returns-clause-out c = c.read.ensures.out ∙ ap (λ (bs : List ℕ). take c.read.result bs ++ drop c.read.result c.args.out.now)
    (waits_there _ _ _ _ _ _ _ _ c.args.n c.self.invariant c.self.view_is c.requires.pipe c.args.end)

pub returns-clause-rest : goal.returns-clause-rest
returns-clause-rest c =
    ap (λ (ps : List (Option Pipe)). joined c.self.inside.limits c.self.inside.inodes c.self.inside.names ps c.self.inside.opens c.self.inside.homes.items) c.read.ensures.rest
    ∙ filled_there _ _ _ _ _ _ _ _ c.args.n c.self.invariant c.self.view_is c.requires.pipe (with_fewer c.args.end c.read.result)
    (λ h. with_side c.args.end (drop c.read.result (side c.args.end h)) h) (λ p. refl) (λ p. refl)
