-- The lanes of a script, one more at a time.
use Rattle.std.proofs.{Common.{◌≡◌, ℕ, zero, suc, ◌<◌, List, [], ◌∷◌, ◌++◌, length, replicate, Some, sym, ap, ◌∙◌, arith, slice_get}, lemmas.List.{get_or-replicate, length-replicate}}
use Rattle.std.proofs.lemmas.Option.{slice_get-get_or, slice_get_within}
use Rattle.ix_script.specs.{declared.line.Line.Line, lines.Before.lanes_of}
use Rattle.ix_asking.specs.Asking.{Answered}
use Rattle.ix_check.specs.{Judging.AreFirst, Stepping.{LaneAt, first_at, lane_now}}
use Rattle.ix_lanes.specs.{histories.Lanes.lane_asks, running.Left.{LaneLeft, asks_left, place_of}}

get-replicate : {A : Type 0} (n : ℕ) (x : A) (k : ℕ) → k < n → slice_get (replicate n x) k ≡ Some x
get-replicate n x k within = slice_get-get_or _ k x (omega (arith, within, length-replicate n x)) ∙ ap Some (get_or-replicate n k x x within)

pub is_first : (l : LaneLeft) (s : List Line) (seat end : ℕ) → place_of l ≡ record { script = s; seat = seat; end = end } → asks_left l ≡ lane_asks s seat → lane_now l ≡ first_at s seat
is_first l s seat end place asks = λ i. record { script = (place i).script; seat = (place i).seat; asking = asks i }

module _ {L : Type 0} (at_of : L → LaneAt) where
  -- each lane is the one of its place
  abbrev pub AreOf : (ℕ → LaneAt) → List L → Type 0
  AreOf is lanes = (k : ℕ) (l : L) → slice_get lanes k ≡ Some l → at_of l ≡ is k

  pub one_more : (lanes : List L) (l : L) (is : ℕ → LaneAt) → AreOf is lanes → at_of l ≡ is (length lanes) → AreOf is (lanes ++ l ∷ [])
  one_more [] l is all last zero x at = ap at_of (sym cc) ∙ last
  one_more [] l is all last (suc k) x at = cc
  one_more (y ∷ lanes) l is all last zero x at = all 0 x at
  one_more (y ∷ lanes) l is all last (suc k) x at = one_more lanes l _ (λ n z here. all (suc n) z here) last k x at

  abbrev none_yet : List Answered
  none_yet = []

  pub are_first : (s : List Line) (lanes : List L) → length lanes ≡ length (lanes_of s) → AreOf (first_at s) lanes → AreFirst at_of s lanes
  are_first s lanes count all = record {
    count = count ∙ sym (length-replicate _ none_yet);
    each = λ k l at. let is = all k l at in record {
      script = ap (λ a. a.script) is;
      seat = ap (λ a. a.seat) is;
      given = none_yet;
      had = get-replicate _ _ k (omega (arith, slice_get_within lanes k l at, count));
      left = ap (λ a. a.asking) is;
    };
  }
