use Rattle.std.proofs.Common.{◌≡◌, ◌+◌, ◌-◌, ◌/◌, ◌<◌, ◌≤◌, length, take, slice_get}
use Rattle.ix_links.specs.Chains.{chain_of}
use Rattle.ix_blocks.specs.{Wholes.laid_in, Stored.{flats, AreRows}}
use Rattle.ix_blocks.proofs.rows.lay.Given as goal

-- the bytes so far are laid, and the block of the next one is at hand
abbrev pub invariant-loop-done : goal.invariant-loop-done
invariant-loop-done l = record {
  rows : AreRows l.links l.blocks;
  laid : flats l.blocks l.links.chains ≡ laid_in l.file l.place (take l.done l.bytes) (flats l.fn.blocks l.links.chains);
  next : l.done < length l.bytes → l.block ≡ slice_get (chain_of l.file l.links) ((l.place + l.done) / 512);
  some : l.done ≤ length l.bytes;
}

abbrev pub decreases-loop-done : goal.decreases-loop-done
decreases-loop-done l = length l.bytes - l.done
