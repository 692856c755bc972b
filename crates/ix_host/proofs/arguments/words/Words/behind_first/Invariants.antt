use Rattle.std.{proofs.Common.{◌≡◌, ◌++◌}, specs.Prelude.drop}
use Rattle.ix_host.proofs.arguments.words.Words.behind_first.Given as goal

abbrev pub invariant-loop-word : goal.invariant-loop-word
invariant-loop-word l =
    (goal.iterator-loop-word).can_next l.word-iterator × (goal.iterator-loop-word).is_finite l.word-iterator
    × (l.words.items ++ l.word-iterator.rest.items ≡ drop 1 l.fn.args.rest.items)
