-- A change of a pipe, which stays one, leaves which numbers are free.
use Rattle.std.proofs.Common.{◌≡◌, ℕ, Bool, true, false, List, Option, Some, None, is_none, option_map, refl, sym, ap, ◌∙◌, if◌then◌else◌, get_or, set}
use Rattle.ix_numbers.{specs.Marks.vacancies, proofs.Tied.kept}
use Rattle.ix_pipe.specs.Pipe.{Pipe}

still : (h : Pipe → Pipe) (p : Option Pipe) → is_none (option_map h p) ≡ is_none p
still h None = refl
still h (Some p) = refl

still_if : (b : Bool) (h : Pipe → Pipe) (p : Option Pipe) → is_none (if b then option_map h p else p) ≡ is_none p
still_if true h p = still h p
still_if false h p = refl

module _ (pipes : List (Option Pipe)) (marks : List Bool) (n : ℕ) (old new : Option Pipe) (h : Pipe → Pipe) (tied : marks ≡ vacancies pipes) (read : old ≡ get_or pipes n old) where
  pub pipe_changed : new ≡ option_map h old → marks ≡ vacancies (set pipes n new)
  pipe_changed is = tied ∙ sym (kept pipes n old new read (ap is_none is ∙ still h old))

  pub pipe_changed_if : (b : Bool) → new ≡ (if b then option_map h old else old) → marks ≡ vacancies (set pipes n new)
  pipe_changed_if b is = tied ∙ sym (kept pipes n old new read (ap is_none is ∙ still_if b h old))
