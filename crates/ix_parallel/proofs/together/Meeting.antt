-- What seats learn, meeting by meeting.
use Rattle.std.proofs.Common.{◌≡◌, ℕ, ◌+◌, ◌<◌, Bool, true, List, length, Some, refl, sym, ap, ◌∙◌, subst, arith, slice_get, inl, inr}
use Rattle.std.proofs.lemmas.Bool.{cases_eq}
use mathlib.Core.List.{IsPrefix}
use Rattle.ix_kernel.specs.Systems.{SystemState, seat_goes_on_further}
use Rattle.ix_model.specs.history.Events.{Event}
use Rattle.ix_parallel.specs.{Meeting.{AllBegin, FirstLearns, LearnAll, LearnOfFirst, Learns, LearnsOf, Meets, SameKernel}, Seats.Seated}
use Rattle.ix_parallel.proofs.together.{OnePhase.place, Seen.{begins_further, same_goes_on}}

-- ---- learning
pub learns_not : (lane : Seated) → Learns lane lane
learns_not lane = record { run = refl; goes = same_goes_on lane.sys.seat; made = refl; system = refl }

pub learns_further : (x y z : Seated) → Learns x y → Learns y z → Learns x z
learns_further x y z p q = record {
  run = q.run ∙ p.run;
  goes = seat_goes_on_further x.sys.seat y.sys.seat z.sys.seat p.goes q.goes;
  made = q.made ∙ p.made;
  system = q.system ∙ ap (λ (t : SystemState). record t { seat = z.sys.seat }) p.system;
}

pub learn_not : (lanes : List Seated) → LearnAll lanes lanes
learn_not lanes = record { count = refl; each = λ n lane here. (lane, here, learns_not lane) }

pub learn_further : (xs ys zs : List Seated) → LearnAll xs ys → LearnAll ys zs → LearnAll xs zs
learn_further xs ys zs p q = record {
  count = q.count ∙ p.count;
  each = λ n lane here.
      let mid = q.each n lane here in
      let first = p.each n mid.0 mid.1 in
      (first.0, first.1, learns_further first.0 mid.0 lane first.2 mid.2);
}

-- the kernel stays
pub kernel_stays : (xs ys : List Seated) → LearnAll xs ys → SameKernel xs → SameKernel ys
kernel_stays xs ys p (kernel, h) = (kernel, λ n lane here. let before = p.each n lane here in ap (λ (t : SystemState). t.kernel) before.2.system ∙ h n before.0 before.1)

-- ---- one meeting
module _ (n m : ℕ) (old new : List Seated) (meets : Meets LearnsOf n m old new) (low : n < length old) (other_low : m < length old) where
  one : (x : Seated) × (slice_get old n ≡ Some x)
  one = place old n low

  other : (x : Seated) × (slice_get old m ≡ Some x)
  other = place old m other_low

  pub meeting_learns : LearnAll old new
  meeting_learns = record {
    count = meets.count;
    each = λ k lane here. elim (cases_eq k n) [
      | inl same ↦
          let met = meets.one one.0 other.0 one.1 other.1 in
          let is : met.0 ≡ lane = let a = met.1 in let b = subst (λ j. slice_get new j ≡ Some lane) same here in cc in
          (one.0, subst (λ j. slice_get old j ≡ Some one.0) (sym same) one.1, subst (Learns one.0) is met.2.learns)
      | inr apart ↦ (lane, sym (meets.others k apart) ∙ here, learns_not lane)
    ];
  }

  -- the one that learnt, after it
  met_is : (lane : Seated) → slice_get new n ≡ Some lane → (IsPrefix one.0.sys.seat.seen lane.sys.seat.seen) × (IsPrefix other.0.sys.seat.seen lane.sys.seat.seen)
  met_is lane here =
      let met = meets.one one.0 other.0 one.1 other.1 in
      let is : met.0 ≡ lane = let a = met.1 in cc in
      subst (λ (x : Seated). IsPrefix one.0.sys.seat.seen x.sys.seat.seen × IsPrefix other.0.sys.seat.seen x.sys.seat.seen) is (met.2.learns.goes.seen, met.2.begins)

  -- it has seen what the other had, and what itself had
  pub met_begins : (lane seen : Seated) → slice_get new n ≡ Some lane → slice_get old m ≡ Some seen → IsPrefix seen.sys.seat.seen lane.sys.seat.seen
  met_begins lane seen here was =
      let is : other.0 ≡ seen = let a = other.1 in cc in
      subst (λ (x : Seated). IsPrefix x.sys.seat.seen lane.sys.seat.seen) is (met_is lane here).1

  pub met_grows : (lane seen : Seated) → slice_get new n ≡ Some lane → slice_get old n ≡ Some seen → IsPrefix seen.sys.seat.seen lane.sys.seat.seen
  met_grows lane seen here was =
      let is : one.0 ≡ seen = let a = one.1 in cc in
      subst (λ (x : Seated). IsPrefix x.sys.seat.seen lane.sys.seat.seen) is (met_is lane here).0

  -- and no more than the two had
  pub met_within : (whole : List Event) → AllBegin whole old → (lane : Seated) → slice_get new n ≡ Some lane → IsPrefix lane.sys.seat.seen whole
  met_within whole h lane here =
      let met = meets.one one.0 other.0 one.1 other.1 in
      let is : met.0 ≡ lane = let a = met.1 in cc in
      subst (λ (x : Seated). IsPrefix x.sys.seat.seen whole) is (met.2.longer whole (h n one.0 one.1) (h m other.0 other.1))

-- ---- lanes that learn of the first
pub learnt_none : (parts : List Bool) (lanes : List Seated) → LearnOfFirst parts 1 lanes lanes
learnt_none parts lanes = record { learn = learn_not lanes; first = refl; sees = λ n some low. absurd (omega (arith, some, low)); within = λ whole h. h }

pub learnt_next : (parts : List Bool) (n : ℕ) (first old new : List Seated) → 0 < n → n < length first → LearnOfFirst parts n first old → Meets LearnsOf n 0 old new
    → LearnOfFirst parts (n + 1) first new
learnt_next parts n first old new some low h meets =
    let even = h.learn.count in
    let a : n < length old = omega (arith, low, even) in
    let b : 0 < length old = omega (arith, a) in
    let stays : slice_get new 0 ≡ slice_get old 0 = meets.others 0 (λ same. absurd (omega (arith, same, some))) in
    record {
      learn = learn_further first old new h.learn (meeting_learns n 0 old new meets a b);
      first = stays ∙ h.first;
      sees = λ k k_some k_low takes lane seen here there. elim (cases_eq k n) [
        | inl same ↦ met_begins n 0 old new meets a b lane seen (subst (λ j. slice_get new j ≡ Some lane) same here) (sym stays ∙ there)
        | inr apart ↦ h.sees k k_some (grind (arith, k_low, apart)) takes lane seen (sym (meets.others k apart) ∙ here) (sym stays ∙ there)
      ];
      within = λ whole begin k lane here. elim (cases_eq k n) [
        | inl same ↦ met_within n 0 old new meets a b whole (h.within whole begin) lane (subst (λ j. slice_get new j ≡ Some lane) same here)
        | inr apart ↦ h.within whole begin k lane (sym (meets.others k apart) ∙ here)
      ];
    }

-- one that takes no part
pub learnt_other : (parts : List Bool) (n : ℕ) (first old : List Seated) → (slice_get parts n ≡ Some true → ⊥) → LearnOfFirst parts n first old → LearnOfFirst parts (n + 1) first old
learnt_other parts n first old not h = record {
  learn = h.learn;
  first = h.first;
  sees = λ k k_some k_low takes. elim (cases_eq k n) [
    | inl same ↦ absurd (not (subst (λ j. slice_get parts j ≡ Some true) same takes))
    | inr apart ↦ h.sees k k_some (grind (arith, k_low, apart)) takes
  ];
  within = h.within;
}

-- ---- the first learns
pub heard_none : (parts : List Bool) (lanes : List Seated) → FirstLearns parts 1 lanes lanes
heard_none parts lanes = record { learn = learn_not lanes; others = λ n some. refl; sees = λ n some low. absurd (omega (arith, some, low)) }

pub heard_next : (parts : List Bool) (n : ℕ) (first old new : List Seated) → 0 < n → n < length first → FirstLearns parts n first old → Meets LearnsOf 0 n old new
    → FirstLearns parts (n + 1) first new
heard_next parts n first old new some low h meets =
    let even = h.learn.count in
    let a : n < length old = omega (arith, low, even) in
    let b : 0 < length old = omega (arith, a) in
    let stay : (k : ℕ) → 0 < k → slice_get new k ≡ slice_get old k = λ k k_some. meets.others k (λ same. absurd (omega (arith, same, k_some))) in
    record {
      learn = learn_further first old new h.learn (meeting_learns 0 n old new meets b a);
      others = λ k k_some. stay k k_some ∙ h.others k k_some;
      sees = λ k k_some k_low takes lane seen here there.
          let was : slice_get old k ≡ Some seen = sym (stay k k_some) ∙ there in
          elim (cases_eq k n) [
            | inl same ↦ met_begins 0 n old new meets b a lane seen here (subst (λ j. slice_get old j ≡ Some seen) same was)
            | inr apart ↦
                let before = place old 0 b in
                begins_further seen.sys.seat.seen before.0.sys.seat.seen lane.sys.seat.seen
                (h.sees k k_some (grind (arith, k_low, apart)) takes before.0 seen before.1 was)
                (met_grows 0 n old new meets b a lane before.0 here before.1)
          ];
    }

pub heard_other : (parts : List Bool) (n : ℕ) (first old : List Seated) → (slice_get parts n ≡ Some true → ⊥) → FirstLearns parts n first old → FirstLearns parts (n + 1) first old
heard_other parts n first old not h = record {
  learn = h.learn;
  others = h.others;
  sees = λ k k_some k_low takes. elim (cases_eq k n) [
    | inl same ↦ absurd (not (subst (λ j. slice_get parts j ≡ Some true) same takes))
    | inr apart ↦ h.sees k k_some (grind (arith, k_low, apart)) takes
  ];
}
