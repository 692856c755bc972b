-- What is found of two scripts is where they part, and which places are shown.
use Rattle.std.proofs.Common.{◌≡◌, ℕ, Bool, true, false, true≢false, List, [], Option, Some, if◌then◌else◌, refl, sym, ap, ◌∙◌, arith, inl, inr}
use Rattle.ix_label.specs.Category.{Categories}
use Rattle.ix_script.specs.declared.line.Line.{Line}
use Rattle.ix_lanes.specs.histories.Serial.{serial}
use Rattle.ix_twin.specs.{Laws.TwinsAreCompared, Lines.{IsParting, begin_alike, parting_of, shown_of, world_opened}, Parting.{AreShown, parting, shown_from}}
use Rattle.ix_twin.proofs.{LinesAlike.begin_decides, Parted.runs_are_parted}

module _ (l : Categories) (s t : List Line) where
  abbrev found : Option ℕ
  found = parting l (world_opened s) (world_opened t) 1 (serial s) (serial t)

  abbrev places : List ℕ
  places = shown_from l true (world_opened s) (world_opened t) 1 (serial s) (serial t)

  -- where they begin alike
  pub parting_alike : begin_alike l s t ≡ true → parting_of l s t ≡ found
  unfolding parting_of
  parting_alike is = ap (λ b. if b then found else Some 0) is

  pub shown_alike : begin_alike l s t ≡ true → shown_of l s t ≡ places
  unfolding shown_of
  shown_alike is = ap (λ b. if b then places else []) is

  -- and where they don't
  pub parting_other : begin_alike l s t ≡ false → parting_of l s t ≡ Some 0
  unfolding parting_of
  parting_other is = ap (λ b. if b then found else Some 0) is

  pub shown_other : begin_alike l s t ≡ false → shown_of l s t ≡ []
  unfolding shown_of
  shown_other is = ap (λ b. if b then places else []) is

  parting_is : (b : Bool) → begin_alike l s t ≡ b → IsParting l s t (parting_of l s t)
  parting_is true is = inr ((begin_decides l s t).0 is, rw (parting_alike) (runs_are_parted l (world_opened s) (world_opened t) (serial s) (serial t)).least)
  parting_is false is = inl (parting_other is, λ h. true≢false (sym ((begin_decides l s t).1 h) ∙ is))

  none_shown : AreShown l (world_opened s) (serial s) (Some 0) []
  none_shown = record { rise = tt; shown = λ index place is. cc; all = λ place h. absurd (omega (arith, h.before)) }

  shown_are : (b : Bool) → begin_alike l s t ≡ b → AreShown l (world_opened s) (serial s) (parting_of l s t) (shown_of l s t)
  shown_are true is = rw (parting_alike, shown_alike) (runs_are_parted l (world_opened s) (world_opened t) (serial s) (serial t)).shown
  shown_are false is = rw (parting_other, shown_other) none_shown

pub twins_are_compared : TwinsAreCompared
twins_are_compared = record { parting = λ l s t. parting_is l s t (begin_alike l s t) refl; shown = λ l s t. shown_are l s t (begin_alike l s t) refl }
