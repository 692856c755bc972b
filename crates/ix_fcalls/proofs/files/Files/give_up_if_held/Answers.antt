use Rattle.std.proofs.Common.{sym, subst}
use Rattle.ix_model.specs.laws.Sound.{Sound}
use Rattle.ix_fcalls.{specs.Around.frame_of, proofs.Bare.{sound_given_up, nothing_taken}}
use Rattle.ix_fcalls.proofs.files.Files.give_up_if_held.Goals as goal

pub returns-in-Some-clause-sound : goal.returns-in-Some-clause-sound
returns-in-Some-clause-sound g c =
    subst (λ k. Sound (record { frame = frame_of g.R.Others.rest c.give_up.new.self c.give_up.new.who; content = k })) (sym c.give_up.ensures.content)
    (sound_given_up _ _ _ _
    _ c.in-Some.ensures.lives (sym c.in-Some.ensures.behind) c.give_up.ensures.row
    c.requires.sound)

pub returns-in_default-clause-process : goal.returns-in_default-clause-process
returns-in_default-clause-process g c = nothing_taken _ _ _ c.in_default.ensures.lives
    (λ q e. c.requires.sound.opens.descriptor g.R.Others.rest.pid q _ e) (sym c.in_default.ensures.behind)
