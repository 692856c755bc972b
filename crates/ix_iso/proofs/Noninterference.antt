-- Each history hides what is high, and so does its last entry.
use Rattle.std.proofs.Common.{◌≡◌, ℕ, suc, ◌+◌, List, [], ◌∷◌, ◌++◌, length, refl, arith, subst}
use Rattle.ix_label.specs.Category.{Categories}
use Rattle.ix_model.specs.{world.World.World, history.{Step.{step_of, run}, Events.Event}, two_runs.TwoRuns.{Alike, Low, Agree}}
use Rattle.ix_iso.specs.{Laws.NoneCrosses, Noninterference.{RunsAgree, InKind, InLength, Noninterferent}}
use Rattle.ix_iso.proofs.{Steps.alike_events, Histories.isolated, InLength.{agree_from, alike_from}, Lowerings.lowerings_stay}

-- runs of equal lengths agree in kind too
pub alike_runs : (l : Categories) (v w : World) (events others : List Event) → RunsAgree l v w events others → Alike l v w × Agree l v w 1 events others
alike_runs l v w events others (InKind alike agree) = (alike, agree)
alike_runs l v w events others (InLength alike agree) = (alike_from l v w alike, agree_from l v w 1 events others alike.outlines agree)

pub noninterference : (w : World) (events : List Event) → Noninterferent w events
noninterference w events = record {
  isolated = λ l v others agree. let both = alike_runs l w v events others agree in isolated l w v 1 events others both.0 both.1;
  lowerings = lowerings_stay w 1 events;
}

-- ---- the last entry
module _ (l : Categories) (e f : Event) where
  -- what it tells a low caller, at the place k
  abbrev ToldAlike : World → World → ℕ → Type 0
  ToldAlike v w k = Low l v k e → ((step_of v k e).reply ≡ (step_of w k f).reply) × ((step_of v k e).bytes ≡ (step_of w k f).bytes)

  last_along : (v w : World) (place k : ℕ) (events others : List Event) → k ≡ length events + place → Alike l v w
      → Agree l v w place (events ++ e ∷ []) (others ++ f ∷ []) → NoneCrosses l v place events → ToldAlike (run v place events) (run w place others) k
  last_along v w place k [] [] is alike agree none = let here : place ≡ k = omega (arith, is) in subst (ToldAlike v w) here (alike_events l v w place e f alike agree.0 agree.1).replies
  last_along v w place k [] (b ∷ []) is alike agree none = absurd agree.2
  last_along v w place k [] (b ∷ c ∷ others) is alike agree none = absurd agree.2
  last_along v w place k (a ∷ []) [] is alike agree none = absurd agree.2
  last_along v w place k (a ∷ c ∷ events) [] is alike agree none = absurd agree.2
  last_along v w place k (a ∷ events) (b ∷ others) is alike agree none =
      last_along (step_of v place a).world (step_of w place b).world (suc place) k events others (omega (arith, is)) ((alike_events l v w place a b alike agree.0 agree.1).worlds none.0) agree.2 none.1

-- where no entry before it crosses L, the last entry tells a low caller the same in each run that agrees
pub last_is_told_alike : (l : Categories) (v w : World) (events others : List Event) (e f : Event) → RunsAgree l v w (events ++ e ∷ []) (others ++ f ∷ [])
    → NoneCrosses l v 1 events → ToldAlike l e f (run v 1 events) (run w 1 others) (length events + 1)
last_is_told_alike l v w events others e f agree none =
    let both = alike_runs l v w (events ++ e ∷ []) (others ++ f ∷ []) agree in
    last_along l e f v w 1 (length events + 1) events others refl both.0 both.1 none
