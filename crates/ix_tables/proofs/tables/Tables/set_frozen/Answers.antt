use Rattle.std.proofs.Common.{refl}
use Rattle.ix_tables.proofs.Joining.{there, edited_there}
use Rattle.ix_tables.proofs.tables.Tables.set_frozen.Goals as goal

pub set_frozen-requires : goal.set_frozen-requires
set_frozen-requires c = (there c.self.invariant.0 c.self.view_is c.args.n c.requires.lives c.requires.inode).1

pub returns : goal.returns
returns c = edited_there c.self.invariant.0 c.self.view_is _ c.args.n (λ x. record x { frozen = c.args.on }) (λ x. record x { frozen = c.args.on })
    (there c.self.invariant.0 c.self.view_is c.args.n c.requires.lives c.requires.inode).0 (λ names x. refl) c.set_frozen.ensures
