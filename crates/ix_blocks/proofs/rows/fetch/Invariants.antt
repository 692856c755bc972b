use Rattle.std.proofs.Common.{◌≡◌, ◌+◌, ◌-◌, ◌/◌, ◌<◌, ◌≤◌, ◌++◌, length, take, drop, slice_get}
use Rattle.ix_links.specs.Chains.{chain_of}
use Rattle.ix_blocks.specs.Stored.{flat}
use Rattle.ix_blocks.proofs.rows.fetch.Given as goal

-- the bytes so far are copied, and the block of the next one is at hand
abbrev pub invariant-loop-done : goal.invariant-loop-done
invariant-loop-done l = record {
  copied : l.out ≡ take l.done (drop l.place (flat l.blocks (chain_of l.file l.links))) ++ drop l.done l.fn.out;
  next : l.done < length l.out → l.block ≡ slice_get (chain_of l.file l.links) ((l.place + l.done) / 512);
  some : l.done ≤ length l.out;
}

abbrev pub decreases-loop-done : goal.decreases-loop-done
decreases-loop-done l = length l.initial.out - l.done
