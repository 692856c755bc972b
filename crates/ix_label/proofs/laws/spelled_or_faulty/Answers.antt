use Rattle.std.proofs.Common.{sym}
use Rattle.ix_label.proofs.laws.spelled_or_faulty.Goals as goal

pub returns-in-Ok : goal.returns-in-Ok
returns-in-Ok c = (λ clean. (c.in-Ok.label, c.is_label.ensures, c.in-Ok.ensures.fits, c.in-Ok.ensures.ok), λ spelled. sym c.in-Ok.ensures.fault)
