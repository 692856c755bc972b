use Rattle.std.proofs.Common.{sym, arith}
use Rattle.ix_name.proofs.Found.{held_within, held_some, held_named}
use Rattle.ix_name.proofs.names.Names.at.Goals as goal

pub index-requires : goal.index-requires
index-requires c = omega (arith, held_within _ _ _ _ _ c.self.invariant _ c.self.view_is c.args.dir.0 c.args.place c.in_ok-index.index c.in_ok-index.ensures, c.self.inside.entries.ok)

pub returns-in_err-entry : goal.returns-in_err-entry
returns-in_err-entry c =
    absurd (held_some _ _ _ _ _ c.self.invariant _ c.self.view_is c.args.dir.0 c.args.place c.in_ok-index.index c.in_ok-index.ensures c.index.result.now
    c.index.ensures c.in_err-entry.was)

pub returns : goal.returns
returns c = sym (held_named _ _ _ _ _ c.self.invariant _ c.self.view_is c.args.dir.0 c.args.place c.in_ok-index.index c.in_ok-index.ensures c.index.result.now
    c.in_ok-entry.entry c.index.ensures c.in_ok-entry.was)
