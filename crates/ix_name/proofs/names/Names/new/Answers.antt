use Rattle.std.proofs.Common.{◌≡◌, replicate, None, arith, rules}
use Rattle.ix_name.proofs.Made.{indexed_none, shown_none}
use Rattle.ix_name.proofs.names.Names.new.Goals as goal

pub invariant_of-result : goal.invariant_of-result
invariant_of-result c =
    let entries : c.in_ok-entries.entries.items ≡ replicate c.args.names None = search rules in
    let counts : c.in_ok-counts.counts.items ≡ replicate c.args.objects 0 = search rules in
    rw (entries, counts, c.in_ok-dirs.ensures, c.in_ok-buckets.ensures) (indexed_none c.args.names c.args.objects c.max-width.result (omega (arith, c.max-width.ensures)))

pub returns : goal.returns
returns c =
    let entries : c.in_ok-entries.entries.items ≡ replicate c.args.names None = search rules in
    rw (entries, c.in_ok-dirs.ensures) (shown_none c.args.names c.args.objects)
