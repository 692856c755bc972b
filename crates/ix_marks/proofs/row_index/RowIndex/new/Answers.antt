use Rattle.std.proofs.{Common.{◌≡◌, length, replicate, None, refl, ◌∙◌, ap, arith, rules}, lemmas.List.FromFn.length-range_with_len}
use Rattle.ix_links.specs.Chains.{Chains}
use Rattle.ix_marks.proofs.Seated.{none_seated}
use Rattle.ix_marks.proofs.row_index.RowIndex.new.Goals as goal

pub invariant_of-result : goal.invariant_of-result
invariant_of-result c =
    let pids : c.in_ok-pids.pids.items ≡ replicate c.args.rows None = search rules in
    rw (pids, c.in_ok-buckets.ensures) (none_seated c.args.rows c.max-width.result (omega (arith, c.max-width.ensures)))

pub returns : goal.returns
returns c =
    let pids : c.in_ok-pids.pids.items ≡ replicate c.args.rows None = search rules in
    let free : length c.in_ok-buckets.buckets.free ≡ c.args.rows = ap (λ (s : Chains). length s.free) c.in_ok-buckets.ensures ∙ length-range_with_len 0 c.args.rows in
    rw (pids, free) refl
