use Rattle.std.proofs.Common.{arith}
use Rattle.ix_blocks.proofs.Showing.{file_held, bytes_long, whole_long, held_by, leaves_laid}
use Rattle.ix_blocks.proofs.blocks.Blocks.lay.Goals as goal

pub put-requires-clause-file : goal.put-requires-clause-file
put-requires-clause-file c = file_held c.self.inside _ c.self.view_is c.self.invariant _ c.requires.file

pub put-requires-clause-held : goal.put-requires-clause-held
put-requires-clause-held c = held_by c.self.inside _ c.self.view_is c.self.invariant _ c.requires.file _ _ c.len.ensures c.blocks_for-held.ensures

pub put-requires-clause-within : goal.put-requires-clause-within
put-requires-clause-within c =
    omega (
      arith,
      c.requires.within,
      bytes_long c.self.inside c.args.self.now c.self.view_is c.self.invariant c.args.file c.requires.file,
      whole_long c.self.inside c.args.self.now c.self.view_is c.self.invariant c.args.file c.requires.file,
    )

pub invariant_of-self : goal.invariant_of-self
invariant_of-self c = (leaves_laid c.self.inside _ c.self.view_is c.self.invariant _ c.requires.file _ _ _ c.requires.within c.put.ensures).filled

pub returns : goal.returns
returns c = (leaves_laid c.self.inside _ c.self.view_is c.self.invariant _ c.requires.file _ _ _ c.requires.within c.put.ensures).shows
