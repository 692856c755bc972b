-- Where labels are lowered, and where none is.
use Rattle.std.proofs.Common.{◌≡◌, ℕ, zero, suc, Bool, true, false, true≢false, ◌&&◌, List, [], ◌∷◌, Option, Some, None, refl, sym, ap, ◌∙◌, subst, subst₂, codes}
use Rattle.std.{specs.Option.option_map_or, proofs.lemmas.Bool.{false_from_ne_true, and_parts}}
use Rattle.ix_label.specs.{Category.{Categories, bottom, leq}, Lattice.leq-trans}
use Rattle.ix_model.specs.{world.World.{Object, Process, Frame, World, at}, opening.Opening.opening_world, history.{Step.{Given, step_of}, Events.Event, Lowering.{Lowered, Crosses}}}
use Rattle.ix_worked.{specs.{PairsOfRuns.{before, after, LowersNowhere, CrossesNowhere}, floating.TwoLevels.{two_levels, writing}}, proofs.worked.{lowering_moves, lowering_goes}}
use Rattle.ix_worked.proofs.{Chains.{Steps, number, bytes, stepped}, Computing.running, Labels.labels, Moves.{world_after, comes_to}}
use Rattle.ix_model.specs.history.Lowering as lowering
use Rattle.ix_worked.specs.privileges.Downgrading as session
use Rattle.ix_worked.proofs.TwoBytes as two

-- ---- a label is lowered
object_falls : (f g : Frame) (o : ℕ) (a b : Option Object) → at f.objects o ≡ a → at g.objects o ≡ b → option_map_or (λ x. option_map_or (λ y. leq x.label y.label) b true) a true ≡ false → Lowered f g
object_falls f g o None b is_a is_b h = absurd (true≢false h)
object_falls f g o (Some x) None is_a is_b h = absurd (true≢false h)
object_falls f g o (Some x) (Some y) is_a is_b h = lowering.Lowered.OfObject o x y is_a is_b h

pub object_crosses : (l : Categories) (f g : Frame) (o : ℕ) (a b : Option Object) → at f.objects o ≡ a → at g.objects o ≡ b
    → option_map_or (λ x. leq x.label l) a true ≡ false → option_map_or (λ y. leq y.label l) b false ≡ true → Crosses l f g
object_crosses l f g o None b is_a is_b h k = absurd (true≢false h)
object_crosses l f g o (Some x) None is_a is_b h k = absurd (true≢false (sym k))
object_crosses l f g o (Some x) (Some y) is_a is_b h k = lowering.Crosses.OfObject o x y is_a is_b h k

-- at the third entry
abbrev third : ℕ → World
third n = world_after session.one_line session.lowering lowering_moves n

lowers_there : Lowered (third 2).frame (third 3).frame
unfolding running
lowers_there = object_falls _ _ 1 _ _ refl refl (simp labels refl)

crosses_there : Crosses bottom (third 2).frame (third 3).frame
unfolding running
crosses_there = object_crosses _ _ _ 1 _ _ refl refl (simp labels refl) (simp labels refl)

-- what is so from the world before an entry to the one after it
from_to : (R : World → World → Type 0) → R (third 2) (third 3) → R (before session.one_line session.lowering 3) (after session.one_line session.lowering 3)
from_to R h = subst₂ R (sym (comes_to session.one_line session.lowering lowering_moves 2 lowering_goes)) (sym (comes_to session.one_line session.lowering lowering_moves 3 lowering_goes)) h

pub third_lowers : Lowered (before session.one_line session.lowering 3).frame (after session.one_line session.lowering 3).frame
third_lowers = from_to (λ v w. Lowered v.frame w.frame) lowers_there

pub third_crosses : Crosses bottom (before session.one_line session.lowering 3).frame (after session.one_line session.lowering 3).frame
third_crosses = from_to (λ v w. Crosses bottom v.frame w.frame) crosses_there

-- ---- none is
-- a test on what stands at the same number in two tables
abbrev pair : {A : Type 0} → (A → A → Bool) → Option A → Option A → Bool
pair p None b = true
pair p (Some x) None = true
pair p (Some x) (Some y) = p x y

abbrev pairs : {A : Type 0} → (A → A → Bool) → List (Option A) → List (Option A) → Bool
pairs p [] u = true
pairs p (x ∷ t) [] = true
pairs p (x ∷ t) (y ∷ u) = pair p x y && pairs p t u

holds_at : {A : Type 0} (p : A → A → Bool) (t u : List (Option A)) (n : ℕ) → pairs p t u ≡ true → pair p (at t n) (at u n) ≡ true
holds_at p [] u n h = refl
holds_at p (None ∷ t) [] zero h = refl
holds_at p (Some x ∷ t) [] zero h = refl
holds_at p (x ∷ t) [] (suc n) h = nothing _
  where
    nothing : (a : Option _) → pair p a None ≡ true
    nothing None = refl
    nothing (Some y) = refl
holds_at p (x ∷ t) (y ∷ u) zero h = (and_parts _ _ h).0
holds_at p (x ∷ t) (y ∷ u) (suc n) h = holds_at p t u n ((and_parts _ _ h).1)

rises : (f g : Frame) → pairs {A = Object} (λ x y. leq x.label y.label) f.objects g.objects ≡ true → pairs {A = Process} (λ x y. leq x.label y.label) f.processes g.processes ≡ true → Lowered f g → ⊥
rises f g objects processes (lowering.Lowered.OfObject o x y is_x is_y falls) =
    true≢false (sym (holds_at _ _ _ o objects)
    ∙ ap (λ a. pair (λ c d. leq c.label d.label) a (at g.objects o)) is_x
    ∙ ap (λ b. pair (λ c d. leq c.label d.label) (Some x) b) is_y ∙ falls)
rises f g objects processes (lowering.Lowered.OfProcess p x y is_x is_y falls) =
    true≢false (sym (holds_at _ _ _ p processes)
    ∙ ap (λ a. pair (λ c d. leq c.label d.label) a (at g.processes p)) is_x
    ∙ ap (λ b. pair (λ c d. leq c.label d.label) (Some x) b) is_y ∙ falls)

-- what crosses a label lowers one
falls_across : (l a b : Categories) → leq a l ≡ false → leq b l ≡ true → leq a b ≡ false
falls_across l a b above below = false_from_ne_true _ (λ h. true≢false (sym (leq-trans a b l h below) ∙ above))

crosses_lowers : (l : Categories) (f g : Frame) → Crosses l f g → Lowered f g
crosses_lowers l f g (lowering.Crosses.OfObject o x y is_x is_y above below) = lowering.Lowered.OfObject o x y is_x is_y (falls_across l _ _ above below)
crosses_lowers l f g (lowering.Crosses.OfProcess p x y is_x is_y above below) = lowering.Lowered.OfProcess p x y is_x is_y (falls_across l _ _ above below)

crosses_nowhere : (l : Categories) (w : World) (place : ℕ) (events : List Event) → LowersNowhere w place events → CrossesNowhere l w place events
crosses_nowhere l w place [] h = tt
crosses_nowhere l w place (e ∷ events) h = (λ c. h.0 (crosses_lowers l w.frame (step_of w place e).world.frame c), crosses_nowhere l (step_of w place e).world (suc place) events h.1)

-- a step from one world to another lowers nothing, and nothing after it does
lowers_on : (w : World) (place : ℕ) (e : Event) (g : Given) (events : List Event) → Steps w place e.pid e.op g → (Lowered w.frame g.world.frame → ⊥)
    → LowersNowhere g.world (suc place) events → LowersNowhere w place (e ∷ events)
lowers_on w place e g events link here rest =
    subst (λ x. (Lowered w.frame x.world.frame → ⊥) × LowersNowhere x.world (suc place) events) (sym (stepped w _ _ _ g link)) (here, rest)

-- ---- session by session
rises_1 : Lowered two.at_first.frame two.one_open.frame → ⊥
unfolding two.at_first two.one_open
rises_1 = rises _ _ (simp labels refl) (simp labels refl)

rises_2 : Lowered two.one_open.frame two.two_open.frame → ⊥
unfolding two.one_open two.two_open
rises_2 = rises _ _ (simp labels refl) (simp labels refl)

rises_3 : Lowered two.two_open.frame two.all_open.frame → ⊥
unfolding two.two_open two.all_open
rises_3 = rises _ _ (simp labels refl) (simp labels refl)

rises_4 : Lowered two.all_open.frame (two.written 65 65).frame → ⊥
unfolding two.all_open two.written
rises_4 = rises _ _ (simp labels refl) (simp labels refl)

rises_5 : Lowered (two.written 65 65).frame (two.read_low 65 65).frame → ⊥
unfolding two.written two.read_low
rises_5 = rises _ _ (simp labels refl) (simp labels refl)

rises_6 : Lowered (two.read_low 65 65).frame (two.read_high 65 65).frame → ⊥
unfolding two.read_low two.read_high
rises_6 = rises _ _ (simp labels refl) (simp labels refl)

falls_nowhere : LowersNowhere two.at_first 1 (writing (codes "AA"))
falls_nowhere =
    lowers_on two.at_first 1 two.opening_d_high (number two.one_open 0) (two.past_1 (codes "AA")) two.opens_d_high rises_1
    (lowers_on two.one_open 2 two.opening_d_low (number two.two_open 0) (two.past_2 (codes "AA")) two.opens_d_low rises_2
    (lowers_on two.two_open 3 two.opening_e_low (number two.all_open 1) (two.past_3 (codes "AA")) two.opens_e_low rises_3
    (lowers_on two.all_open 4 (two.writes (codes "AA")) (number (two.written 65 65) 2) two.past_4 (two.writes_d_high 65 65) rises_4
    (lowers_on (two.written 65 65) 5 two.reading_e_low (bytes (two.read_low 65 65) (codes "ok")) two.past_5 (two.reads_e_low 65 65) rises_5
    (lowers_on (two.read_low 65 65) 6 two.reading_d_low (bytes (two.read_high 65 65) (codes "AA")) [] (two.reads_d_low 65 65) rises_6 tt)))))

pub nothing_falls : LowersNowhere (opening_world two_levels) 1 (writing (codes "AA"))
nothing_falls = subst (λ w. LowersNowhere w 1 (writing (codes "AA"))) (sym two.opening) falls_nowhere

pub nothing_is_crossed : (l : Categories) → CrossesNowhere l (opening_world two_levels) 1 (writing (codes "AA"))
nothing_is_crossed l = crosses_nowhere l (opening_world two_levels) 1 (writing (codes "AA")) nothing_falls
