use Rattle.std.proofs.Common.{refl}
use Rattle.ix_tables.proofs.Joining.{there, edited_there}
use Rattle.ix_tables.proofs.tables.Tables.set_privs.Goals as goal

pub set_privs-requires : goal.set_privs-requires
set_privs-requires c = (there c.self.invariant.0 c.self.view_is c.args.n c.requires.lives c.requires.inode).1

pub returns : goal.returns
returns c =
    edited_there c.self.invariant.0 c.self.view_is _ c.args.n (λ x. record x { cap = c.args.cap; lic = c.args.lic }) (λ x. record x { cap = c.args.cap; lic = c.args.lic })
    (there c.self.invariant.0 c.self.view_is c.args.n c.requires.lives c.requires.inode).0 (λ names x. refl) c.set_privs.ensures
