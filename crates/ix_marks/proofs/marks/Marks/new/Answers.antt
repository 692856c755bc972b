use Rattle.std.proofs.Common.{◌≡◌, replicate, is_some, ap, ◌∙◌, rules}
use Rattle.ix_marks.{specs.RowIndex.row_of, proofs.Changed.{none_kept, none_spots, no_row_of}}
use Rattle.ix_marks.proofs.marks.Marks.new.Goals as goal

pub invariant_of-result : goal.invariant_of-result
invariant_of-result c =
    let objects : c.in_ok-objects.objects.items ≡ replicate c.args.objects 0 = search rules in
    let opens : c.in_ok-opens.opens.items ≡ replicate c.args.opens 0 = search rules in
    rw (objects, opens, c.in_ok-rows.ensures, c.in_ok-owners.ensures) (none_kept c.args.procs c.args.objects c.args.opens)

pub returns-clause-fresh : goal.returns-clause-fresh
returns-clause-fresh c = none_spots c.in_ok-owners.owners c.args.procs _ _ _ c.in_ok-owners.ensures

pub returns-clause-rows : goal.returns-clause-rows
returns-clause-rows c = λ q. ap (λ s. is_some (row_of q s.pids)) c.in_ok-owners.ensures ∙ ap is_some (no_row_of q c.args.procs)
