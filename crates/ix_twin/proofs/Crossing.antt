-- What crosses a label.
use Rattle.std.proofs.{Common.{◌≡◌, ℕ, zero, suc, true, false, true≢false, List, [], ◌∷◌, Option, Some, None, refl, sym, ap, ◌∙◌, ⊎_elim}, Math.Bool.or-true, lemmas.Bool.and_parts}
use Rattle.std.{proofs.lemmas.Bool.{not-true, or_cases, Decides.{Decides-and, Decides-not}}, specs.Bool.Decides}
use Rattle.ix_label.specs.Category.{Categories, leq}
use Rattle.ix_model.specs.{history.{Events.Event, Lowering.Crosses, Step.step_of}, world.World.{Frame, World, at}}
use Rattle.ix_iso.specs.Laws.{NoneCrosses}
use Rattle.ix_twin.specs.Tests.{crosses, none_crosses, some_falls_below}
use Rattle.ix_model.specs.history.Lowering as low

module _ {A : Type 0} (label : A → Categories) (l : Categories) where
  -- what stands at one number in two tables, and falls
  pub record Falls (xs ys : List (Option A)) : Type 0 where
    pub number : ℕ
    pub was : A
    pub now : A
    pub before : at xs number ≡ Some was
    pub after : at ys number ≡ Some now
    pub high : leq (label was) l ≡ false
    pub low : leq (label now) l ≡ true

  further : (x y : Option A) (xs ys : List (Option A)) → Falls xs ys → Falls (x ∷ xs) (y ∷ ys)
  further x y xs ys h = record { number = suc h.number; was = h.was; now = h.now; before = h.before; after = h.after; high = h.high; low = h.low }

  pub falls_there : (xs ys : List (Option A)) → some_falls_below label l xs ys ≡ true → Falls xs ys
  unfolding some_falls_below
  falls_there [] ys h = absurd (true≢false (sym h))
  falls_there (x ∷ xs) [] h = absurd (true≢false (sym h))
  falls_there (Some x ∷ xs) (Some y ∷ ys) h = ⊎_elim
      (λ k. let both = and_parts _ _ k in
      record { number = 0; was = x; now = y; before = refl; after = refl; high = not-true _ both.0; low = both.1 })
      (λ k. further _ _ xs ys (falls_there xs ys k))
      (or_cases _ _ h)
  falls_there (Some x ∷ xs) (None ∷ ys) h = further _ _ xs ys (falls_there xs ys h)
  falls_there (None ∷ xs) (y ∷ ys) h = further _ y xs ys (falls_there xs ys h)

  pub there_falls : (xs ys : List (Option A)) (n : ℕ) (x y : A) → at xs n ≡ Some x → at ys n ≡ Some y → leq (label x) l ≡ false → leq (label y) l ≡ true
      → some_falls_below label l xs ys ≡ true
  unfolding some_falls_below
  there_falls [] ys n x y before after high below = cc
  there_falls (a ∷ xs) [] n x y before after high below = cc
  there_falls (Some a ∷ xs) (Some b ∷ ys) zero x y before after high below =
      let one : a ≡ x = cc in
      let two : b ≡ y = cc in
      let was : leq (label a) l ≡ false = ap (λ z. leq (label z) l) one ∙ high in
      rw (was, ap (λ z. leq (label z) l) two ∙ below) refl
  there_falls (Some a ∷ xs) (None ∷ ys) zero x y before after high below = cc
  there_falls (None ∷ xs) (b ∷ ys) zero x y before after high below = cc
  there_falls (Some a ∷ xs) (Some b ∷ ys) (suc n) x y before after high below = rw (there_falls xs ys n x y before after high below) (or-true _)
  there_falls (Some a ∷ xs) (None ∷ ys) (suc n) x y before after high below = there_falls xs ys n x y before after high below
  there_falls (None ∷ xs) (b ∷ ys) (suc n) x y before after high below = there_falls xs ys n x y before after high below

module _ (l : Categories) (f g : Frame) where
  pub crosses_decides : Decides (crosses l f g) (Crosses l f g)
  unfolding crosses
  crosses_decides = (to, back)
    where
      to : crosses l f g ≡ true → Crosses l f g
      to h = ⊎_elim
          (λ k. let x = falls_there _ l f.objects g.objects k in low.OfObject x.number x.was _ x.before x.after x.high x.low)
          (λ k. let x = falls_there _ l f.processes g.processes k in low.OfProcess x.number x.was _ x.before x.after x.high x.low)
          (or_cases (some_falls_below (λ o. o.label) l f.objects g.objects) _ h)

      back : Crosses l f g → crosses l f g ≡ true
      back (low.OfObject o x y before after high below) = rw (there_falls (λ o. o.label) l f.objects g.objects o x y before after high below) refl
      back (low.OfProcess p x y before after high below) =
          rw (there_falls (λ p. p.label) l f.processes g.processes p x y before after high below) (or-true _)

module _ (l : Categories) where
  pub clear_decides : (w : World) (place : ℕ) (events : List Event) → Decides (none_crosses l w place events) (NoneCrosses l w place events)
  unfolding none_crosses
  clear_decides w place [] = (λ h. tt, λ h. refl)
  clear_decides w place (e ∷ events) =
      Decides-and _ _ (Decides-not _ (crosses_decides l w.frame (step_of w place e).world.frame)) (clear_decides (step_of w place e).world (suc place) events)
