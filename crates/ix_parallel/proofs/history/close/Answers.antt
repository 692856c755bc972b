use Rattle.std.proofs.Common.{◌∙◌, ◌<◌, ℕ, sym, subst}
use Rattle.ix_parallel.proofs.together.Ending.{none_made_it, some_never}
use Rattle.ix_parallel.proofs.history.close.Goals as goal

pub close-core-requires-clause-all : goal.close-core-requires-clause-all
close-core-requires-clause-all c = λ n low. c.requires.joined.all n (subst (λ (m : ℕ). n < m) c.requires.seats low)

pub unreachable-requires : goal.unreachable-requires
unreachable-requires c = some_never c.args.script.now c.args.kernel c.args.seat c.close-core.result.config c.close-core.result.events c.close-core.ensures.base
    c.close-core.ensures.history c.close-core.ensures.entries
    c.args.stop (sym c.is_some.ensures ∙ c.if-is_some.true) c.requires

pub returns-clause-history : goal.returns-clause-history
returns-clause-history c = none_made_it c.args.script.now c.args.kernel c.args.seat c.close-core.result.config c.close-core.result.events
    c.close-core.ensures.base c.close-core.ensures.history c.close-core.ensures.entries
    c.args.stop (sym c.is_some.ensures ∙ c.if-is_some.false) c.requires
