-- The sides of all objects after one of them was changed.
use Rattle.std.proofs.Common.{◌≡◌, ◌<◌, ◌+◌, ◌*◌, ◌==◌, ◌&&◌, ℕ, Bool, true, false, List, [], ◌∷◌, length, Option, Some, None, is_some, refl, slice_get, if◌then◌else◌, sym, ap}
use Rattle.std.proofs.{Common.{◌∙◌, subst, arith, inl, inr}, lemmas.Bool.{eq-eqb, ne_eqb, Decides.eqb_tells}}
use Rattle.ix_flow.proofs.ReadMarks.{side_on}
use Rattle.ix_label.specs.Category.{Categories}
use Rattle.ix_model.specs.{history.History.{History, world_of}, world.{Contents.{held_at, on_side, side}, World.{HoldingOf, at, is_pipe}}}
use Rattle.ix_flow.specs.{Lowerings.label_of, Origins.{Marked, Origin, Written, marked_from, origins_of}, Sides.{ComesOf, IsLike, StandsIn, numbered, origin_at, source_in}}
use Rattle.ix_flow.specs.{Tracking.{AreLabelled, AreSides, HasEnd, IsFound, IsTracked, IsUnder, side_of}, declared.{side.Side.Side, sides.Sides.Sides, source.Source.Source}}
use Rattle.ix_flow.specs.Sides as come
use Rattle.ix_flow.specs.declared.source.Source.TheVariants as source

-- ---- labels
-- the label of what came from a source is one, whatever the byte's number
label_same : (h : History) (x : Source) (m n : ℕ) → label_of h (origin_at x m) ≡ label_of h (origin_at x n)
unfolding label_of
label_same h (source.Write place start label) m n = refl
label_same h (source.File object label) m n = refl
label_same h source.Gap m n = refl

-- the labels stay right where each source comes of what stood there, or of one under the right label
pub labelled_from : (labels : List Categories) (h : History) (s t : Side) (x : Source) → AreLabelled labels h s → ((y : Source) → StandsIn t y → ComesOf s x y)
    → IsUnder labels x (label_of h (origin_at x 0)) → AreLabelled labels h t
labelled_from labels h s t x was comes new = λ n low high. go n _ (comes _ (record { number = n; low = low; high = high; is = refl }))
  where
    go : (n : ℕ) (y : Source) → ComesOf s x y → IsUnder labels y (label_of h (origin_at y n))
    go n y (come.New is) = subst (λ z. IsUnder labels z (label_of h (origin_at z n))) (sym is) (subst (IsUnder labels x) (label_same h x 0 n) new)
    go n y (come.OfGap is) = subst (λ z. IsUnder labels z (label_of h (origin_at z n))) (sym is) tt
    go n y (come.Stood r) =
        subst (λ z. IsUnder labels z (label_of h (origin_at z n))) r.is
        (subst (IsUnder labels (source_in s.runs.entries r.number)) (label_same h _ _ n) (was _ r.low r.high))

pub labelled_less : (labels : List Categories) (h : History) (s t : Side) → AreLabelled labels h s → ((y : Source) → StandsIn t y → StandsIn s y) → AreLabelled labels h t
labelled_less labels h s t was stands = labelled_from _ h s t source.Gap was (λ y there. come.Stood (stands y there)) tt

pub labelled_write : (labels : List Categories) (h : History) (place start label : ℕ) → slice_get labels label ≡ Some (label_of h (Written place 0))
    → IsUnder labels (source.Write place start label) (label_of h (origin_at (source.Write place start label) 0))
unfolding label_of
labelled_write labels h place start label is = is

-- bytes that are marked from a number on have the origins from there on
pub origins_marked : (origin : ℕ → Origin) (k : ℕ) (bytes : List ℕ) → origins_of (marked_from origin k bytes) ≡ numbered origin k (length bytes)
unfolding marked_from numbered
origins_marked origin k [] = refl
origins_marked origin k (b ∷ bytes) = ap (λ xs. origin k ∷ xs) (origins_marked _ _ bytes)

-- ---- one end
module _ (old : Sides) (labels : List Categories) (h : History) (hs : List (HoldingOf Marked)) (o end : ℕ) (piped : Bool) (was : AreSides old labels h hs) (has : HasEnd h hs o end piped) where
  abbrev there : List Marked
  there = side end (held_at hs o)

  -- what is taken out of there
  pub found_tracked : (taken : Side) → IsFound (side_of old o end) taken → IsLike taken (origins_of there) × AreLabelled labels h taken
  found_tracked taken found = go _ found (was.tracked o end has.within (ap is_some has.there))
    where
      go : (s : Option Side) → IsFound s taken → IsTracked labels h s (origins_of there) → IsLike taken (origins_of there) × AreLabelled labels h taken
      go None found none = (subst (IsLike taken) (sym none) found.1, λ n low high. absurd (omega (arith, low, high, found.1.long)))
      go (Some s) found tracked = (subst (λ x. IsLike x (origins_of there)) (sym found) tracked.0, subst (AreLabelled labels h) (sym found) tracked.1)

  pub found_first : (taken : Side) → IsFound (side_of old o end) taken → piped ≡ false → taken.front ≡ 0
  found_first taken found plain = go _ refl found
    where
      go : (s : Option Side) → side_of old o end ≡ s → IsFound s taken → taken.front ≡ 0
      go None is found = found.0
      go (Some s) is found = ap (λ x. x.front) found ∙ was.first o end has.object s has.within has.there (has.kind ∙ plain) is

  -- another side at that end, for what is held there then
  pub edited_sides : (new : Sides) (f : List Marked → List Marked) (s : Side) → side_of new o end ≡ Some s
      → ((p other : ℕ) → (p * 2 + other ≡ o * 2 + end → ⊥) → side_of new p other ≡ side_of old p other)
      → IsLike s (origins_of (f there)) → AreLabelled labels h s → (piped ≡ false → s.front ≡ 0) → AreSides new labels h (on_side o end f hs)
  edited_sides new f s put others like labelled first = record {
    tracked = λ p other low lives. elim (eqb_tells (p * 2 + other) (o * 2 + end)) [
      | inl same ↦ tracked_here p other (omega (arith, same.1, low, has.within)) (omega (arith, same.1, low, has.within))
      | inr apart ↦ tracked_there p other low lives apart.1
    ];
    first = λ p other x y low lives plain is. elim (eqb_tells (p * 2 + other) (o * 2 + end)) [
      | inl same ↦
          let number : p ≡ o = omega (arith, same.1, low, has.within) in
          let which : other ≡ end = omega (arith, same.1, low, has.within) in
          let one : Some s ≡ Some y = sym put ∙ ap (λ n. side_of new n end) (sym number) ∙ ap (side_of new p) (sym which) ∙ is in
          let object : Some x ≡ Some has.object = sym lives ∙ ap (at (world_of h).frame.objects) number ∙ has.there in
          let same_side : y ≡ s = cc (one) in
          let same_object : has.object ≡ x = cc (object) in
          ap (λ (z : Side). z.front) same_side ∙ first (sym has.kind ∙ ap is_pipe same_object ∙ plain)
      | inr apart ↦ was.first p other x y low lives plain (sym (others p other apart.1) ∙ is)
    ];
  }
    where
      here : side end (held_at (on_side o end f hs) o) ≡ f there
      here = side_on f o end o end hs has.inside has.within has.within ∙ (λ i. if eq-eqb o o refl i && eq-eqb end end refl i then f there else there)

      tracked_here : (p other : ℕ) → p ≡ o → other ≡ end → IsTracked labels h (side_of new p other) (origins_of (side other (held_at (on_side o end f hs) p)))
      tracked_here p other number which =
          subst (λ n. IsTracked labels h (side_of new p n) (origins_of (side n (held_at (on_side o end f hs) p)))) (sym which)
          (subst (λ n. IsTracked labels h (side_of new n end) (origins_of (side end (held_at (on_side o end f hs) n)))) (sym number)
          (subst (λ x. IsTracked labels h x (origins_of (side end (held_at (on_side o end f hs) o)))) (sym put)
          (subst (λ ms. IsLike s (origins_of ms)) (sym here) like, labelled)))

      stays : (p other : ℕ) → other < 2 → (p * 2 + other ≡ o * 2 + end → ⊥) → side other (held_at (on_side o end f hs) p) ≡ side other (held_at hs p)
      stays p other low apart =
          let elsewhere : (p == o && other == end) ≡ false = elim (eqb_tells p o) [
            | inl same ↦ λ i. same.0 i && ne_eqb other end (λ which. apart (λ i. same.1 i * 2 + which i)) i
            | inr far ↦ ap (λ b. b && other == end) far.0
          ] in
          side_on f o end p other hs has.inside has.within low ∙ ap (λ b. if b then f (side other (held_at hs p)) else side other (held_at hs p)) elsewhere

      tracked_there : (p other : ℕ) → other < 2 → is_some (at (world_of h).frame.objects p) ≡ true → (p * 2 + other ≡ o * 2 + end → ⊥)
          → IsTracked labels h (side_of new p other) (origins_of (side other (held_at (on_side o end f hs) p)))
      tracked_there p other low lives apart =
          subst (λ (x : Option Side). IsTracked labels h x (origins_of (side other (held_at (on_side o end f hs) p)))) (sym (others p other apart))
          (subst (λ (ms : List Marked). IsTracked labels h (side_of old p other) (origins_of ms)) (sym (stays p other low apart)) (was.tracked p other low lives))
