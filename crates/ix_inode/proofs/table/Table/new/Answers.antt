use Rattle.std.proofs.{Common.{◌≡◌, ◌∙◌, ap, sym, arith, None, replicate, ℕ, Option}, lemmas.List.replicate_more}
use Rattle.ix_numbers.{specs.Marks.vacancies, proofs.Tied.none_stands}
use Rattle.ix_inode.specs.declared.node.Node.{Node}
use Rattle.ix_inode.proofs.table.Table.new.Goals as goal

pub loop-n-preserved : goal.loop-n-preserved
loop-n-preserved c = rw (c.in_ok-push.ensures.items, c.loop-n.invariant) (replicate_more c.loop-n._n None)

pub returns : goal.returns
returns c =
    let end : c.loop-n._n ≡ c.args.inodes = omega (arith, c.loop-n.auto._n-end, c.loop-n-test.false) in
    c.loop-n.invariant ∙ ap (λ (n : ℕ). replicate {A = Option Node} n None) end

pub invariant_of-result : goal.invariant_of-result
invariant_of-result c =
    let end : c.loop-n._n ≡ c.args.inodes = omega (arith, c.loop-n.auto._n-end, c.loop-n-test.false) in
    c.in_ok-numbers.ensures ∙ none_stands Node c.args.inodes ∙ ap (λ (n : ℕ). vacancies {A = Node} (replicate n None)) (sym end) ∙ ap vacancies (sym c.loop-n.invariant)
