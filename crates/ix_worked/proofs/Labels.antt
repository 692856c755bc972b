-- The facts on labels that the sessions come to.
use Rattle.std.proofs.{Common.{◌≡◌, ℕ, ◌<◌, true, false, true≢false, refl, sym, ◌∙◌, ap, ◌==◌, ◌||◌, ◌&&◌, arith}, lemmas.Bool.{eq-eqb, or_left, or_right, false_from_ne_true}}
use Rattle.ix_label.specs.{Category.{Categories, bottom, top, with, leq, same, join, has}, Members.{has-bottom, has-with, has-top, leq-has, has-leq}}
use Rattle.ix_label.specs.Lattice.{same-decides, join-absorbs, join-comm, join-idem, join-bottom, join-bottom_right, leq-refl, bottom-leq, leq-top, IsLabel-bottom, IsLabel-with}
use Rattle.ix_worked.specs.Scripts.{three, four, five, seven, three_and_five, two_and_five}

-- a set has what was added to it
has-added : (s : Categories) (q : ℕ) → has (with s q) q ≡ true
has-added s q = has-with s q q ∙ or_left _ _ (eq-eqb q q refl)

-- a set with a category that the other lacks isn't below it
pub leq-lacking : (s b : Categories) (q : ℕ) → has b q ≡ false → leq (with s q) b ≡ false
leq-lacking s b q lacks = false_from_ne_true _ (λ h. true≢false (sym (leq-has _ b h q (has-added s q)) ∙ lacks))

pub leq-with_bottom : (s : Categories) (q : ℕ) → leq (with s q) bottom ≡ false
leq-with_bottom s q = leq-lacking s _ q (has-bottom q)

pub leq-with_one : (s : Categories) (q p : ℕ) → (q == p) ≡ false → leq (with s q) (with bottom p) ≡ false
leq-with_one s q p differ = leq-lacking s _ q (has-with _ p q ∙ (λ i. differ i || has-bottom q i))

pub same-refl : (a : Categories) → same a a ≡ true
same-refl a = (same-decides a a).1 refl

pub same-with_bottom : (s : Categories) (q : ℕ) → same (with s q) bottom ≡ false
same-with_bottom s q = false_from_ne_true _ (λ h. true≢false (sym (has-added s q) ∙ ap (λ l. has l q) ((same-decides _ _).0 h) ∙ has-bottom q))

pub leq-one_top : (q : ℕ) → q < 512 → leq (with bottom q) top ≡ true
leq-one_top q low = leq-top _ (IsLabel-with _ q IsLabel-bottom low)

pub leq-two_top : (q p : ℕ) → q < 512 → p < 512 → leq (with (with bottom q) p) top ≡ true
leq-two_top q p low lower = leq-top _ (IsLabel-with _ p (IsLabel-with _ q IsLabel-bottom low) lower)

-- a set with one category more is above it, and another
pub leq-more : (s : Categories) (q : ℕ) → leq s (with s q) ≡ true
leq-more s q = has-leq s _ (λ p one. has-with s q p ∙ or_right _ _ one)

pub join-more : (s : Categories) (q : ℕ) → join s (with s q) ≡ with s q
join-more s q = join-comm s _ ∙ join-absorbs s _ (leq-more s q)

pub join-less : (s : Categories) (q : ℕ) → join (with s q) s ≡ with s q
join-less s q = join-absorbs s _ (leq-more s q)

same-with_one : (s : Categories) (q p : ℕ) → (q == p) ≡ false → same (with s q) (with bottom p) ≡ false
unfolding same
same-with_one s q p differ = ap (λ b. b && leq (with bottom p) (with s q)) (leq-with_one s q p differ)

pub same-bottom_with : (s : Categories) (q : ℕ) → same bottom (with s q) ≡ false
unfolding same
same-bottom_with s q = ap (λ b. b && leq (with s q) bottom) (bottom-leq _) ∙ leq-with_bottom s q

-- ---- the labels of the scripts
pub leq-three_top : leq three top ≡ true
leq-three_top = leq-one_top 3 (omega arith)

pub leq-four_top : leq four top ≡ true
leq-four_top = leq-one_top 4 (omega arith)

pub leq-five_top : leq five top ≡ true
leq-five_top = leq-one_top 5 (omega arith)

pub leq-seven_top : leq seven top ≡ true
leq-seven_top = leq-one_top 7 (omega arith)

pub leq-three_and_five_top : leq three_and_five top ≡ true
leq-three_and_five_top = leq-two_top 3 5 (omega arith) (omega arith)

pub leq-two_and_five_top : leq two_and_five top ≡ true
leq-two_and_five_top = leq-two_top 2 5 (omega arith) (omega arith)

pub leq-seven_five : leq seven five ≡ false
leq-seven_five = leq-with_one _ 7 5 refl

pub leq-three_and_five_three : leq three_and_five three ≡ false
leq-three_and_five_three = leq-with_one _ 5 3 refl

pub same-three_and_five_three : same three_and_five three ≡ false
same-three_and_five_three = same-with_one _ 5 3 refl

pub leq-three_five : leq three five ≡ false
leq-three_five = leq-with_one _ 3 5 refl

pub leq-five_three : leq five three ≡ false
leq-five_three = leq-with_one _ 5 3 refl

pub leq-top_three : leq top three ≡ false
leq-top_three = false_from_ne_true _ (λ h. true≢false (sym (leq-has _ _ h 5 (has-top 5 (omega arith))) ∙ has-with _ 3 5 ∙ has-bottom 5))

pub same-three_three_and_five : same three three_and_five ≡ false
unfolding same
same-three_three_and_five = ap (λ b. b && leq three_and_five three) (leq-more _ 5) ∙ leq-with_one _ 5 3 refl

pub ruleset tops = (leq-three_top, leq-four_top, leq-five_top, leq-seven_top, leq-three_and_five_top, leq-two_and_five_top)

pub ruleset between = (leq-seven_five, leq-three_five, leq-five_three, leq-top_three, leq-three_and_five_three, same-three_and_five_three, same-three_three_and_five)

pub ruleset labels = (join-bottom, join-bottom_right, join-idem, join-more, join-less, leq-refl, bottom-leq, leq-with_bottom, leq-more, same-refl, same-with_bottom, same-bottom_with, tops, between)
