-- Histories that go on before a witness.
use Rattle.std.specs.Prelude.{◌≡◌, ℕ}
use Rattle.std.proofs.Common.{subst}
use Rattle.ix_model.specs.history.History.{History}
use Rattle.ix_model.specs.history.Seats.{GoesOn}
use Rattle.ix_model.proofs.words.Seats.{goes_on_not, goes_on_further}

-- what a witness knew of a history at first, it knows of another one then, whatever the witness was that it began as
abbrev pub KnowsOn : {W : Type 0} → (W → History → W → Type 0) → History → W → History → W → Type 0
KnowsOn {W} knows old was new is = (first : W) → knows first old was → knows first new is

-- the history goes on by one seat alone, and what a witness knew of it at first it knows of all of it then
pub record GoesSeen {W : Type 0} (knows : W → History → W → Type 0) (seat : ℕ) (old : History) (was : W) (new : History) (is : W) : Type 0 where
  pub on : GoesOn seat old new
  pub seen : KnowsOn knows old was new is

module _ {W : Type 0} (knows : W → History → W → Type 0) (seat : ℕ) where
  pub goes_seen_not : (h : History) (w : W) → GoesSeen knows seat h w h w
  goes_seen_not h w = record { on = goes_on_not seat h; seen = λ first known. known }

  pub goes_seen_further : (same : ℕ) (h : History) (w : W) (k : History) (v : W) (l : History) (u : W) → same ≡ seat
      → GoesSeen knows seat h w k v → GoesSeen knows same k v l u → GoesSeen knows seat h w l u
  goes_seen_further same h w k v l u is p q = record {
    on = goes_on_further seat h k l p.on (subst (λ (n : ℕ). GoesOn n k l) is q.on);
    seen = λ first known. q.seen first (p.seen first known);
  }
