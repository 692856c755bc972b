-- A line that breaks no rule on what it says.
use Rattle.std.proofs.Common.{◌≡◌, ℕ, Bool, true, false, cond, List, Option, Some, None, refl}
use Rattle.ix_script.specs.{lines.{Rules.{is_above, is_misplaced, exceeds_limits, is_out_of_order, is_one_too_many, lacks_policy}, Faults.said_fault}, declared.line.Line.Line}

pub record Follows (before : List Line) (l : Line) : Type 0 where
  pub above : is_above before l ≡ false
  pub is_misplaced : is_misplaced before l ≡ false
  pub exceeds_limits : exceeds_limits before l ≡ false
  pub order : is_out_of_order before l ≡ false
  pub many : is_one_too_many before l ≡ false

pub passes : (b : Bool) (n : ℕ) (o : Option ℕ) → cond b (Some n) o ≡ None → (b ≡ false) × (o ≡ None)
passes true n o h = cc
passes false n o h = (refl, h)

pub follows : (before : List Line) (l : Line) → said_fault before l ≡ None → Follows before l
unfolding said_fault
follows before l h =
    let policy : Option ℕ = cond (lacks_policy before l) (Some 28) None in
    let many = cond (is_one_too_many before l) (Some 26) policy in
    let order = cond (is_out_of_order before l) (Some 25) many in
    let crowd = cond (exceeds_limits before l) (Some 24) order in
    let misfit = cond (is_misplaced before l) (Some 23) crowd in
    let a = passes _ 22 _ h in
    let b = passes _ 23 _ a.1 in
    let c = passes _ 24 _ b.1 in
    let d = passes _ 25 _ c.1 in
    let e = passes _ 26 _ d.1 in
    record { above = a.0; is_misplaced = b.0; exceeds_limits = c.0; order = d.0; many = e.0 }
