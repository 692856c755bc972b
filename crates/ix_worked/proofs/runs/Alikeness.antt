-- Worlds that are alike, and worlds that aren't.
use Rattle.std.proofs.Common.{◌≡◌, ℕ, zero, suc, ◌==◌, true, false, true≢false, [], ◌∷◌, take, length, slice_index_or, Option, Some, None, refl, sym, ap, ◌∙◌, subst₂, codes}
use Rattle.std.specs.Option.{option_map_or}
use Rattle.ix_label.specs.Category.{Categories, bottom, leq}
use Rattle.ix_model.specs.{world.{World.{Object, Open, World, at}, Contents.{holding_of, offset_of}}, history.Step.run}
use Rattle.ix_model.specs.two_runs.{EqualLengths.{AlikeInLength, outline}, TwoRuns.{Alike, AlikeIn, shape}}
use Rattle.ix_worked.{specs.{PairsOfRuns.after, Scripts.seven, floating.TwoLevels.{two_levels, writing}}, proofs.{Chains.{◌⨾◌, number, run_given}, Labels.{labels, leq-with_bottom}}}
use Rattle.ix_worked.proofs.runs.Agreeing as agreeing
use Rattle.ix_worked.proofs.TwoBytes as two

-- ---- the worlds after the write
after_two : (a b : ℕ) → after two_levels (writing (a ∷ b ∷ [])) 4 ≡ two.written a b
after_two a b =
    ap (λ w. run w 1 (take 4 (writing (a ∷ b ∷ [])))) two.opening
    ∙ run_given two.at_first 1 (take 4 (writing (a ∷ b ∷ []))) (number two.one_open 0 ∷ number two.two_open 0 ∷ number two.all_open 1 ∷ number (two.written a b) 2 ∷ [])
    (two.opens_d_high ⨾ two.opens_d_low ⨾ two.opens_e_low ⨾ two.writes_d_high a b ⨾ tt)

after_three : after two_levels (writing (codes "ABC")) 4 ≡ agreeing.written_three
after_three =
    ap (λ w. run w 1 (take 4 (writing (codes "ABC")))) two.opening
    ∙ run_given two.at_first 1 (take 4 (writing (codes "ABC"))) (number two.one_open 0 ∷ number two.two_open 0 ∷ number two.all_open 1 ∷ number agreeing.written_three 3 ∷ [])
    (two.opens_d_high ⨾ two.opens_d_low ⨾ two.opens_e_low ⨾ agreeing.writes_three ⨾ tt)

-- what stands above L isn't below it
above : {A : Type 0} (label : A → Categories) (l : Categories) (a : Option A) (x : A) → option_map_or (λ y. leq (label y) l) a true ≡ false → a ≡ Some x → leq (label x) l ≡ true → ⊥
above label l a x is_above is low = true≢false (sym low ∙ ap (λ o. option_map_or (λ y. leq (label y) l) o true) (sym is) ∙ is_above)

-- the file is above bottom, and so is the open entry by which it was written
inside_two : AlikeIn bottom (two.written 65 65).frame (two.written 65 65).content (two.written 66 66).content
unfolding two.written
inside_two = record { bytes = same; offsets = λ e x is low. refl; statuses = λ p q is ended low. refl }
  where
    same : (o : ℕ) (x : Object) → at (two.written 65 65).frame.objects o ≡ Some x → leq x.label bottom ≡ true → holding_of (two.written 65 65).content o ≡ holding_of (two.written 66 66).content o
    same zero x is low = refl
    same (suc zero) x is low = absurd (above (λ (y : Object). y.label) bottom (at (two.written 65 65).frame.objects 1) x (leq-with_bottom bottom 7) is low)
    same (suc (suc n)) x is low = refl

inside_three : AlikeIn bottom (two.written 65 65).frame (two.written 65 65).content agreeing.written_three.content
unfolding two.written agreeing.written_three
inside_three = record { bytes = same; offsets = there; statuses = λ p q is ended low. refl }
  where
    same : (o : ℕ) (x : Object) → at (two.written 65 65).frame.objects o ≡ Some x → leq x.label bottom ≡ true → holding_of (two.written 65 65).content o ≡ holding_of agreeing.written_three.content o
    same zero x is low = refl
    same (suc zero) x is low = absurd (above (λ (y : Object). y.label) bottom (at (two.written 65 65).frame.objects 1) x (leq-with_bottom bottom 7) is low)
    same (suc (suc n)) x is low = refl

    there : (e : ℕ) (x : Open) → at (two.written 65 65).frame.opens e ≡ Some x → leq x.label bottom ≡ true → offset_of (two.written 65 65).content e ≡ offset_of agreeing.written_three.content e
    there zero x is low = absurd (above (λ (y : Open). y.label) bottom (at (two.written 65 65).frame.opens 0) x (leq-with_bottom bottom 7) is low)
    there (suc n) x is low = refl

shapes_two : shape (two.written 65 65) ≡ shape (two.written 66 66)
unfolding shape two.written
shapes_two = refl

outlines_two : outline (two.written 65 65) ≡ outline (two.written 66 66)
unfolding outline two.written
outlines_two = refl

shapes_three : shape (two.written 65 65) ≡ shape agreeing.written_three
unfolding shape two.written agreeing.written_three
shapes_three = refl

pub two_are_alike : Alike bottom (after two_levels (writing (codes "AA")) 4) (after two_levels (writing (codes "BB")) 4)
two_are_alike = subst₂ (λ v w. Alike bottom v w) (sym (after_two 65 65)) (sym (after_two 66 66)) (record { shapes = shapes_two; inside = inside_two })

pub two_are_alike_in_length : AlikeInLength bottom (after two_levels (writing (codes "AA")) 4) (after two_levels (writing (codes "BB")) 4)
two_are_alike_in_length = subst₂ (λ v w. AlikeInLength bottom v w) (sym (after_two 65 65)) (sym (after_two 66 66)) (record { outlines = outlines_two; inside = inside_two })

pub three_are_alike : Alike bottom (after two_levels (writing (codes "AA")) 4) (after two_levels (writing (codes "ABC")) 4)
three_are_alike = subst₂ (λ v w. Alike bottom v w) (sym (after_two 65 65)) (sym after_three) (record { shapes = shapes_three; inside = inside_three })

-- ---- worlds that aren't
longer : outline (two.written 65 65) ≡ outline agreeing.written_three → ⊥
unfolding outline two.written agreeing.written_three
longer same = true≢false (ap (λ (w : World). length (holding_of w.content 1).first == 2) same)

pub three_are_not_in_length : AlikeInLength bottom (after two_levels (writing (codes "AA")) 4) (after two_levels (writing (codes "ABC")) 4) → ⊥
three_are_not_in_length h =
    let both : AlikeInLength bottom (two.written 65 65) agreeing.written_three = subst₂ (λ v w. AlikeInLength bottom v w) (after_two 65 65) after_three h in
    longer both.outlines

same_bytes : (l : Categories) (v w : World) (o : ℕ) (a : Option Object) → at v.frame.objects o ≡ a → option_map_or (λ x. leq x.label l) a false ≡ true
    → Alike l v w → holding_of v.content o ≡ holding_of w.content o
same_bytes l v w o None is low h = absurd (true≢false (sym low))
same_bytes l v w o (Some x) is low h = h.inside.bytes o x is low

not_at_seven : Alike seven (two.written 65 65) (two.written 66 66) → ⊥
unfolding two.written
not_at_seven h =
    true≢false (ap (λ c. slice_index_or c.first 0 0 == 65) (same_bytes _ _ _ 1 _ refl (simp labels refl) h))

pub two_are_not_at_seven : Alike seven (after two_levels (writing (codes "AA")) 4) (after two_levels (writing (codes "BB")) 4) → ⊥
two_are_not_at_seven h = not_at_seven (subst₂ (λ v w. Alike seven v w) (after_two 65 65) (after_two 66 66) h)
