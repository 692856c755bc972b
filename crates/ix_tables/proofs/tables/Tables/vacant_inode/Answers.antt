use Rattle.std.proofs.Common.{◌∙◌, sym}
use Rattle.ix_tables.proofs.Vacant.{vacant_is, vacant_free}
use Rattle.ix_tables.proofs.tables.Tables.vacant_inode.Goals as goal

pub returns-in-Some-clause-vacant : goal.returns-in-Some-clause-vacant
returns-in-Some-clause-vacant c = c.in-Some.ensures
    ∙ sym (vacant_is _ _ _ _ _ _ _ c.self.invariant.0 c.self.view_is c.args.fs)

pub returns-in-None-clause-vacant : goal.returns-in-None-clause-vacant
returns-in-None-clause-vacant c = c.in-None.ensures
    ∙ sym (vacant_is _ _ _ _ _ _ _ c.self.invariant.0 c.self.view_is c.args.fs)

pub returns-in-Some-clause-free : goal.returns-in-Some-clause-free
returns-in-Some-clause-free c = (vacant_free c.args.self.now c.args.fs c.in-Some.obj.0 (sym (returns-in-Some-clause-vacant c))).free

pub returns-in-Some-clause-within : goal.returns-in-Some-clause-within
returns-in-Some-clause-within c = (vacant_free c.args.self.now c.args.fs c.in-Some.obj.0 (sym (returns-in-Some-clause-vacant c))).inside
