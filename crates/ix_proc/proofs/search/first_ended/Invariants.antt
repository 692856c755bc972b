use Rattle.std.{proofs.Common.{◌≡◌, ℕ, length, slice_get, is_some}, specs.List.find}
use Rattle.ix_links.specs.Chains.{chain_of}
use Rattle.ix_proc.{specs.Slots.record_at, proofs.Walking.rest_from}
use Rattle.ix_proc.proofs.search.first_ended.Given as goal

abbrev pub invariant-loop-next : goal.invariant-loop-next
invariant-loop-next l = (m : ℕ) × (l.next ≡ slice_get (chain_of l.chain l.kin) m)
    × (find (λ i. is_some (record_at l.records i).ended) (chain_of l.chain l.kin) ≡ find (λ i. is_some (record_at l.records i).ended)
    (rest_from l.next (chain_of l.chain l.kin)))

abbrev pub decreases-loop-next : goal.decreases-loop-next
decreases-loop-next l = length (rest_from l.next (chain_of l.chain l.kin))
