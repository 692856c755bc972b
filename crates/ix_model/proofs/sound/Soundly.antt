-- The step of every call leaves a sound world.
use Rattle.std.proofs.Common.{ℕ, sym, subst}
use Rattle.ix_model.specs.{world.World.{World, Frame}, history.{Step.step, Events.Op}, rows.Telling.told, laws.Sound.{ShapesSound, Sound}}
use Rattle.ix_model.proofs.{frames.Frames.{frame_of, whole_of}, words.Answered.step_frame, clean.Cleaning.clean_step}
use Rattle.ix_model.proofs.sound.{Following.follows_decided, Stepping.measured_step, Holding.{Holds, holds_step}, Shapes.shapes_decided}

pub sound_step : (w : World) (place pid : ℕ) (c : Op) → Sound w → Sound (step w place pid c).world
sound_step w place pid c s =
    let after = follows_decided w.frame (frame_of w s) (told w pid c) place pid c in
    let frames = step_frame w place pid c in
    let held = subst (λ (g : Frame). Holds g (step w place pid c).world.content) (sym frames) (holds_step w s place pid c) in
    whole_of (step w place pid c).world (measured_step w place pid c s.holdings.clean s)
    (subst (λ (g : Frame). ShapesSound g) (sym frames) (shapes_decided w.frame (told w pid c) place pid c (frame_of w s) s.shapes after.sound))
    (record { clean = clean_step w place pid c s.holdings.clean; directory = held.directory; second = held.second })
