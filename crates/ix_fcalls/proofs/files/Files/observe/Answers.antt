use Rattle.std.proofs.Common.{refl}
use Rattle.ix_fcalls.proofs.{Observing.looked_in_vain, Counting.counted_relabelled}
use Rattle.ix_fcalls.proofs.files.Files.observe.Goals as goal

pub returns-in-Ok-Some-clause-counted : goal.returns-in-Ok-Some-clause-counted
returns-in-Ok-Some-clause-counted g c = counted_relabelled _ _ _ _ _ c.set_label.ensures c.requires.counted

pub returns-in-Err-clause-row : goal.returns-in-Err-clause-row
returns-in-Err-clause-row g c = looked_in_vain _ _ _ _ _ _ c.caller.ensures.living refl refl refl c.in-Err.ensures.rule
