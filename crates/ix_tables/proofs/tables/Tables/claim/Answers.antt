use Rattle.std.proofs.Common.{◌∙◌, ◌-◌, ap, List, Option}
use Rattle.ix_pipe.specs.{Pipe.Pipe, Claims.claim_answer}
use Rattle.ix_tables.{specs.Joined.joined, proofs.{Claiming.claimed_there, Piping.{is_past, is_living, claims_there}}}
use Rattle.ix_tables.proofs.tables.Tables.claim.Goals as goal

pub overflow_sub-pipe : goal.overflow_sub-pipe
overflow_sub-pipe c = is_past _ _ _ _ _ _ _ _ c.args.n c.self.invariant c.self.view_is c.requires.pipe

pub claim-requires-clause-lives : goal.claim-requires-clause-lives
claim-requires-clause-lives c = is_living _ _ _ _ _ _ _ _ c.args.n c.self.invariant c.self.view_is c.requires.pipe

pub lemma_is_bounded-requires : goal.lemma_is_bounded-requires
lemma_is_bounded-requires c = is_living _ _ _ _ _ _ _ _ c.args.n c.self.invariant c.self.view_is c.requires.pipe

pub returns-clause-answer : goal.returns-clause-answer
returns-clause-answer c = c.claim.ensures.answer
    ∙ (λ i. claim_answer c.args.pid.0 (claims_there _ _ _ _ _ _ _ _ c.args.n c.self.invariant c.self.view_is c.requires.pipe c.args.end i)
    (claims_there _ _ _ _ _ _ _ _ c.args.n c.self.invariant c.self.view_is c.requires.pipe (1 - c.args.end) i))

pub returns-clause-claimed : goal.returns-clause-claimed
returns-clause-claimed c =
    ap (λ (ps : List (Option Pipe)). joined c.self.inside.limits c.self.inside.inodes c.self.inside.names ps c.self.inside.opens c.self.inside.homes.items)
    c.claim.ensures.claimed ∙ claimed_there _ _ _ _ _ _ _ _ c.args.n c.self.invariant c.self.view_is c.requires.pipe c.args.end c.args.pid.0
    c.lemma_is_bounded.ensures c.requires.end
