-- Which lanes take part in a phase, as it is found lane by lane.
use Rattle.std.proofs.Common.{◌≡◌, ℕ, ◌+◌, ◌<◌, Bool, true, List, length, set, Some, sym, ◌∙◌, subst, arith, slice_get, inl, inr}
use Rattle.std.proofs.lemmas.Bool.{cases_eq}
use Rattle.ix_lanes.specs.running.Stretches.{TellsPart}
use Rattle.ix_parallel.{specs.Seats.Seated, proofs.together.{MetAt.{set_else, set_here}, OnePhase.place}}

-- of the first lanes it is told
abbrev pub TellFirst : ℕ → ℕ → List Seated → List Bool → Type 0
TellFirst phase m lanes parts = (n : ℕ) (lane : Seated) → n < m → slice_get lanes n ≡ Some lane → lane.run.between ≡ true → phase ≡ lane.run.done
    → (b : Bool) × (slice_get parts n ≡ Some b) × TellsPart lane.run.script lane.run.lane phase b

pub tell_more : (phase m : ℕ) (lanes : List Seated) (parts : List Bool) (lane : Seated) (b : Bool) → m < length parts → slice_get lanes m ≡ Some lane → TellFirst phase m lanes parts
    → (lane.run.between ≡ true → phase ≡ lane.run.done → TellsPart lane.run.script lane.run.lane phase b) → TellFirst phase (m + 1) lanes (set parts m b)
tell_more phase m lanes parts lane b within here h told n other low there between done = elim (cases_eq n m) [
  | inl same ↦
      let is : lane ≡ other = let a = here in let c = subst (λ j. slice_get lanes j ≡ Some other) same there in cc in
      let was = place parts m within in (
        b,
        subst (λ j. slice_get (set parts m b) j ≡ Some b) (sym same) (set_here parts m was.0 b was.1),
        subst (λ (x : Seated). x.run.between ≡ true → phase ≡ x.run.done → TellsPart x.run.script x.run.lane phase b) is told between done,
      )
  | inr apart ↦
      let one = h n other (grind (arith, low, apart)) there between done in
      (one.0, set_else parts m n b apart ∙ one.1, one.2)
]
