-- Every world that a valid config reaches is sound, and every world that is reached is clean.
use Rattle.std.proofs.Common.{◌≡◌, ℕ, suc, true, List, [], ◌∷◌, replicate, refl, sym, subst, arith}
use Rattle.ix_model.specs.{world.{World.World, Contents.holds_nothing}, history.{Step.{step_of, run}, Events.Event}, laws.{Clean.IsClean, Sound.Sound}}
use Rattle.ix_model.specs.{opening.{Opening.{bare_objects, bare_world, opening_world}, Valid.is_valid}, declared.config.Config.Config}
use Rattle.ix_model.proofs.opening.{Openings.clean_opening, Validity.{Valid, valid_parts}, Bare.bare_table, BareBuilt.bare_built}
use Rattle.ix_model.proofs.{opening.{OpenedWorlds.{WorldBuilt, lines_built}, OpeningSound.sound_built}, sound.Soundly.sound_step}

-- ---- the opening world
pub bare_is_built : (c : Config) → Valid c → WorldBuilt c [] (bare_world c)
unfolding bare_objects
bare_is_built c v = record {
  objects = bare_table c.fss c.limits.pipes;
  holdings = replicate _ holds_nothing;
  is = refl;
  built = bare_built _ _ v.fss.each v.fss.some v.fss.differ (omega (arith, v.fss.few, v.limits.names));
}

-- the config's lines make its opening world
pub opening_is_built : (c : Config) → Valid c → WorldBuilt c c.objects (opening_world c)
unfolding opening_world
opening_is_built c v = lines_built c [] c.objects (bare_world c) (bare_is_built c v) v.objects

pub sound_opening_world : (c : Config) → is_valid c ≡ true → Sound (opening_world c)
sound_opening_world c valid =
    let v = valid_parts c valid in
    let r = opening_is_built c v in
    subst (λ (w : World). Sound w) (sym r.is) (sound_built c c.objects r.objects r.holdings r.built v.procs.low v.procs.few (subst (λ (w : World). IsClean w) r.is (clean_opening c)))

-- ---- runs
pub sound_run : (w : World) (place : ℕ) (h : List Event) → Sound w → Sound (run w place h)
sound_run w place [] s = s
sound_run w place (e ∷ h) s = sound_run (step_of w place e).world (suc place) h (sound_step w place e.pid e.op s)

pub sound_reached : (c : Config) (h : List Event) → is_valid c ≡ true → Sound (run (opening_world c) 1 h)
sound_reached c h valid = sound_run (opening_world c) 1 h (sound_opening_world c valid)
