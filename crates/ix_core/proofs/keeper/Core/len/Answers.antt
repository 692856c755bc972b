use Rattle.std.proofs.Common.{arith, subst}
use Rattle.ix_model.specs.{laws.Sound.Sound, history.History.world_of}
use Rattle.ix_core.proofs.Standing.{entries_are_few, small_journal, sound_core}
use Rattle.ix_core.proofs.keeper.Core.len.Goals as goal

pub returns-clause-sound : goal.returns-clause-sound
returns-clause-sound c = subst (λ h. Sound (world_of h)) c.self.view_is (sound_core _ _ _ c.self.invariant.stands)

pub returns-clause-few : goal.returns-clause-few
returns-clause-few c = omega (
  arith,
  c.len.ensures,
  entries_are_few _ _ c.self.invariant.stands.fits
      (small_journal _ c.self.invariant.stands.valid),
)
