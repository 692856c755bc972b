-- What one seat stands for, once those of all lanes were joined into it.
use Rattle.std.proofs.Common.{◌≡◌, ℕ, zero, suc, ◌<◌, ◌⊎◌, ⊎_elim, nat_le, nat_lt, Bool, true, false, cond, List, [], ◌∷◌, ◌++◌, length, take, drop, Some, refl}
use Rattle.std.proofs.Common.{sym, ap, ◌∙◌, subst, arith, inl, inr, append-nil, append_assoc, length-append, slice_get}
use Rattle.std.{specs.{Prelude.{All, Contains}, List.list_all}, proofs.lemmas.Bool.{and_from, cases_eq, lt-ltb}, proofs.Math.Seq.take-append_seam}
use Rattle.std.proofs.lemmas.List.Elements.{All-tail, Contains-append_left, Contains-push, Contains-push_cases}
use Rattle.ix_gate.specs.{Gate.GateState, History.longer, Seat.{StandsFor, after_meeting}}
use Rattle.ix_kernel.specs.{Seen.{KSeatState, own}, Systems.FilledUp}
use Rattle.ix_model.specs.history.Events.{Event}
use Rattle.ix_script.specs.declared.line.Line.{Line}
use Rattle.ix_parallel.specs.{Joining.{AllFilled, AllSee, Joined, JoinedSoFar}, Seats.{Seated, Sees}}

-- ---- lists
-- the element behind a beginning
pub behind : {A : Type 0} → (xs : List A) (x : A) (ys : List A) → slice_get (xs ++ x ∷ ys) (length xs) ≡ Some x
behind [] x ys = refl
behind (z ∷ xs) x ys = behind xs x ys

-- an element of a list with one more
pub in_push_at : {A : Type 0} → (xs : List A) (x : A) (n : ℕ) (y : A) → slice_get (xs ++ x ∷ []) n ≡ Some y → (slice_get xs n ≡ Some y) ⊎ ((n ≡ length xs) × (x ≡ y))
in_push_at [] x zero y h = inr (refl, cc)
in_push_at [] x (suc n) y h = cc
in_push_at (z ∷ xs) x zero y h = inl h
in_push_at (z ∷ xs) x (suc n) y h = ⊎_elim (λ (old : slice_get xs n ≡ Some y). inl old) (λ (new : (n ≡ length xs) × (x ≡ y)). inr (ap suc new.0, new.1)) (in_push_at xs x n y h)

longer_same : {A : Type 0} → (xs : List A) → longer xs xs ≡ xs
longer_same xs = go (nat_le (length xs) (length xs))
  where
    go : (b : Bool) → cond b xs xs ≡ xs
    go true = refl
    go false = refl

-- ---- seats
module _ (s : List Line) (kernel : GateState) (history : List Event) where
  -- the first seat
  pub joined_first : (seat : KSeatState) → Sees s kernel history 0 seat → Joined s kernel history 1 seat
  joined_first seat h = record {
    gate = h.gate;
    base = h.base;
    seen = h.seen;
    all = λ n low. let zero_only : n ≡ 0 = omega (arith, low) in inl (zero_only ∙ sym h.number);
    only = λ n stands. ⊎_elim (λ (is : n ≡ seat.number). let z = h.number in omega (arith, is, z))
        (λ (x : (es : List Event) × Contains seat.ended (n, es)). let c = subst (λ (l : List (ℕ × List Event)). Contains l (n, x.0)) h.ended x.1 in
        absurd (let low = c.1 in omega (arith, low))) stands;
  }

  -- one seat more
  pub joined_next : (count found : ℕ) (first other after : KSeatState) → Joined s kernel history count first → Sees s kernel history count other
      → after ≡ after_meeting first other.seen (first.ended ++ (other.number, own other) ∷ other.ended) found → Joined s kernel history (suc count) after
  joined_next count found first other after f o is =
      let number : after.number ≡ first.number = ap (λ (x : KSeatState). x.number) is in
      let ended : after.ended ≡ first.ended ++ (other.number, own other) ∷ [] = ap (λ (x : KSeatState). x.ended) is ∙ ap (λ l. first.ended ++ (other.number, own other) ∷ l) o.ended in
      let same : first.seen ≡ other.seen = f.seen ∙ sym o.seen in
      let Has : ℕ → List Event → List (ℕ × List Event) → Type 0 = λ n es l. Contains l (n, es) in
      let old_stands : (n : ℕ) → StandsFor first n → StandsFor after n =
      λ n h. ⊎_elim (λ (it : n ≡ first.number). inl (it ∙ sym number))
      (λ (x : (es : List Event) × Contains first.ended (n, es)). inr (x.0, subst (Has n x.0) (sym ended) (Contains-append_left first.ended ((other.number, own other) ∷ []) (n, x.0) x.1))) h in
      let new_stands : StandsFor after other.number = inr (own other, subst (Has other.number (own other)) (sym ended) (Contains-push first.ended (other.number, own other))) in
      record {
        gate = ap (λ (x : KSeatState). x.gate) is ∙ f.gate;
        base = ap (λ (x : KSeatState). x.base) is ∙ f.base;
        seen = ap (λ (x : KSeatState). x.seen) is ∙ ap (longer first.seen) (sym same) ∙ longer_same first.seen ∙ f.seen;
        all = λ n low. ⊎_elim (λ (below : n < count). old_stands n (f.all n below)) (λ (it : n ≡ count). subst (StandsFor after) (o.number ∙ sym it) new_stands) (last_or_before n count low);
        only = λ n stands. ⊎_elim (λ (it : n ≡ after.number). let low = f.only n (inl (it ∙ number)) in omega (arith, low))
            (λ (x : (es : List Event) × Contains after.ended (n, es)).
            ⊎_elim (λ (old : Contains first.ended (n, x.0)). let low = f.only n (inr (x.0, old)) in omega (arith, low))
            (λ (new : (other.number, own other) ≡ (n, x.0)). let a : other.number ≡ n = ap (λ (p : ℕ × List Event). p.0) new in let b = o.number in omega (arith, a, b))
            (Contains-push_cases first.ended (other.number, own other) (n, x.0) (subst (Has n x.0) ended x.1))) stands;
      }
    where
      last_or_before : (n m : ℕ) → n < suc m → (n < m) ⊎ (n ≡ m)
      last_or_before n m low = elim (cases_eq n m) [
        | inl same ↦ inr same
        | inr apart ↦ inl (grind (arith, low, apart))
      ]

-- ---- one lane after the other
pub joined_begin : (kernel : GateState) (lanes rest : List Seated) (lane : Seated) → lanes ≡ lane ∷ rest
    → (0 < lane.sys.stops → FilledUp lane.sys.used lane.sys.cap lane.sys.seat) → JoinedSoFar kernel lanes rest lane.sys.seat
joined_begin kernel lanes rest lane is last = record {
  done = lane ∷ [];
  parts = is;
  joined = λ s history see. joined_first s kernel history lane.sys.seat (see 0 lane (ap (λ l. slice_get l 0) is)).1;
  filled = λ n x here. only_one n x here;
}
  where
    only_one : (n : ℕ) (x : Seated) → slice_get (lane ∷ []) n ≡ Some x → 0 < x.sys.stops → FilledUp x.sys.used x.sys.cap x.sys.seat
    only_one zero x here = let same : lane ≡ x = cc in subst (λ (y : Seated). 0 < y.sys.stops → FilledUp y.sys.used y.sys.cap y.sys.seat) same last
    only_one (suc n) x here = cc

-- the next lane, which is left
next_lane : (kernel : GateState) (lanes left rest : List Seated) (seat : KSeatState) (lane : Seated) (h : JoinedSoFar kernel lanes left seat)
    → left ≡ lane ∷ rest → slice_get lanes (length h.done) ≡ Some lane
next_lane kernel lanes left rest seat lane h is = ap (λ l. slice_get l (length h.done)) (h.parts ∙ ap (λ l. h.done ++ l) is) ∙ behind h.done lane rest

pub joined_gates : (s : List Line) (kernel : GateState) (history : List Event) (lanes left rest : List Seated) (seat : KSeatState) (lane : Seated)
    → AllSee s kernel history lanes → JoinedSoFar kernel lanes left seat → left ≡ lane ∷ rest
    → (seat.gate ≡ kernel.id) × (lane.sys.seat.gate ≡ kernel.id)
joined_gates s kernel history lanes left rest seat lane see h is = ((h.joined s history see).gate, (see (length h.done) lane (next_lane kernel lanes left rest seat lane h is)).1.gate)

pub joined_step : (kernel : GateState) (lanes left rest : List Seated) (seat other after : KSeatState) (lane : Seated) (found : ℕ)
    → JoinedSoFar kernel lanes left seat → left ≡ lane ∷ rest → other ≡ lane.sys.seat
    → (0 < lane.sys.stops → FilledUp lane.sys.used lane.sys.cap lane.sys.seat)
    → after ≡ after_meeting seat other.seen (seat.ended ++ (other.number, own other) ∷ other.ended) found → JoinedSoFar kernel lanes rest after
joined_step kernel lanes left rest seat other after lane found h is same last met = record {
  done = h.done ++ lane ∷ [];
  parts = h.parts ∙ ap (λ l. h.done ++ l) is ∙ sym (append_assoc h.done (lane ∷ []) rest);
  joined = λ s history see.
      let sees : Sees s kernel history (length h.done) other =
      subst (Sees s kernel history (length h.done)) (sym same) (see (length h.done) lane (next_lane kernel lanes left rest seat lane h is)).1 in
      let more : suc (length h.done) ≡ length (h.done ++ lane ∷ []) = omega (arith, length-append h.done (lane ∷ [])) in
      subst (λ n. Joined s kernel history n after) more (joined_next s kernel history (length h.done) found seat other after (h.joined s history see) sees met);
  filled = λ n x here. ⊎_elim (λ (old : slice_get h.done n ≡ Some x). h.filled n x old)
      (λ (new : (n ≡ length h.done) × (lane ≡ x)). subst (λ (y : Seated). 0 < y.sys.stops → FilledUp y.sys.used y.sys.cap y.sys.seat) new.1 last) (in_push_at h.done lane n x here);
}

pub joined_end : (kernel : GateState) (lanes : List Seated) (seat : KSeatState) → JoinedSoFar kernel lanes [] seat
    → ((s : List Line) (history : List Event) → AllSee s kernel history lanes → Joined s kernel history (length lanes) seat) × AllFilled lanes
joined_end kernel lanes seat h =
    let all : h.done ≡ lanes = sym (append-nil h.done) ∙ sym h.parts in
    (λ s history see. subst (λ l. Joined s kernel history (length l) seat) all (h.joined s history see), subst AllFilled all h.filled)

-- all entries are of the seats
pub all_of_seats : (count : ℕ) (seat : KSeatState) (events : List Event) → ((n : ℕ) → StandsFor seat n → n < count)
    → All (λ (e : Event). StandsFor seat e.seat) events → list_all (λ e. nat_lt e.seat count) events ≡ true
all_of_seats count seat [] only h = refl
all_of_seats count seat (e ∷ events) only h =
    and_from (nat_lt e.seat count) (list_all (λ x. nat_lt x.seat count) events) (lt-ltb e.seat count (only e.seat (h 0 e (omega arith))))
    (all_of_seats count seat events only (All-tail (λ (x : Event). StandsFor seat x.seat) e events h))

-- a list over whose whole length another was written is that other
pub written_over : {A : Type 0} → (xs ys : List A) (n : ℕ) → length ys ≡ length xs → n ≡ length xs → take n (ys ++ drop (length ys) xs) ≡ ys
written_over xs ys n even is = ap (λ m. take m (ys ++ drop (length ys) xs)) (is ∙ sym even) ∙ take-append_seam ys (drop (length ys) xs)
