-- What a row of the call table comes to: a refusal, or an answer, each with the frame that stands then.
use Rattle.std.specs.Prelude.{◌≡◌, Result, Ok, Err}
use Rattle.ix_model.specs.world.World.{Frame}
use Rattle.ix_model.specs.declared.refusal.Refusal.{Refusal}

-- a refusal or an answer, with the frame that stands then
pub data Outcome (A : Type 0) : Type 0 where
  Refuse : Refusal → Frame → Outcome A
  Pass : A → Frame → Outcome A

-- a row, or a part of one: what a frame comes to
abbrev pub Row : Type 0 → Type 0
Row A = Frame → Outcome A

-- The code's row answered this and left this frame.
abbrev pub RowIs : {A : Type 0} → Result A Refusal → Frame → Outcome A → Type 0
RowIs (Ok a) g outcome = outcome ≡ Pass a g
RowIs (Err why) g outcome = outcome ≡ Refuse why g

-- The same, where what the code answers means a value.
abbrev pub RowMeans : {A B : Type 0} → (A → B) → Result A Refusal → Frame → Outcome B → Type 0
RowMeans meaning (Ok a) g outcome = outcome ≡ Pass (meaning a) g
RowMeans meaning (Err why) g outcome = outcome ≡ Refuse why g
