-- No history changes the limits, the file systems, or how many numbers of objects and open entries there are.
use Rattle.std.proofs.Common.{ℕ, suc, List, [], ◌∷◌, refl, ◌∙◌}
use Rattle.ix_model.{specs.{world.World.World, history.{Step.{step_of, run}, Events.Event}, laws.CallLaws.LimitsStay}, proofs.words.Fixed.fixed_step}

pub limits_stay : (w : World) (place : ℕ) (h : List Event) → LimitsStay w.frame (run w place h).frame
limits_stay w place [] = record { limits = refl; fss = refl; objects = refl; opens = refl }
limits_stay w place (e ∷ events) =
    let now = fixed_step w place e.pid e.op in
    let later = limits_stay (step_of w place e).world (suc place) events in
    record { limits = later.limits ∙ now.limits; fss = later.fss ∙ now.fss; objects = later.objects ∙ now.objects; opens = later.opens ∙ now.opens }
