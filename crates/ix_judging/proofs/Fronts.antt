-- Good histories whose reports have the same first lines have the same first entries.
use Rattle.std.proofs.Common.{◌≡◌, ℕ, zero, suc, ◌-◌, List, [], ◌∷◌, take, length, refl, sym, ap, ◌∙◌, subst, arith}
use Rattle.ix_judging.specs.{Plan.{Plan, Lawful}, Lanes.{State, IsGood}, Runs.{IsTurn, IsWholeRun, entered}, Judge.{report_from, report_of}, Walk.told_call}
use Rattle.ix_judging.proofs.{Stores.length-entered, Turns.turn_told, GoodRuns.good_runs}

-- the first item and the rest of lists that begin alike
pub same_first : {X : Type 0} (n : ℕ) (x y : X) (xs ys : List X) → take (suc n) (x ∷ xs) ≡ take (suc n) (y ∷ ys)
    → (x ≡ y) × (take n xs ≡ take n ys)
same_first n x y xs ys is = let both = is in (cc, cc)

module _ {W E A L T : Type 0} (p : Plan W E A L T) (count : ℕ) (lawful : Lawful p count) where
  -- two calls whose turn it is, and whose lines are equal, are the same
  pub same_turn : (at : State W L) (e f : E) → length at.lanes ≡ count → IsTurn p at.lanes e → IsTurn p at.lanes f
      → p.line at.world at.place e ≡ p.line at.world at.place f → e ≡ f
  same_turn at e f all turn other same =
      cc (sym (turn_told p count lawful at e all turn) ∙ ap (told_call p at) same ∙ turn_told p count lawful at f all other)

  pub same_front : (n : ℕ) (at : State W L) (g h : List E) → length at.lanes ≡ count → IsWholeRun p at g → IsWholeRun p at h
      → take n (report_from p at g) ≡ take n (report_from p at h) → take n g ≡ take n h
  same_front zero at g h all first second same = refl
  same_front (suc n) at [] [] all first second same = refl
  same_front (suc n) at [] (f ∷ h) all first second same = cc (sym (first (p.seat f)) ∙ second.0.call)
  same_front (suc n) at (e ∷ g) [] all first second same = cc (sym (second (p.seat e)) ∙ first.0.call)
  same_front (suc n) at (e ∷ g) (f ∷ h) all first second same =
      let parts = same_first n _ _ _ _ same in
      let one = same_turn at e f all first.0 second.0 parts.0 in
      let rest = same_front n (entered p at e) g h (length-entered p at e ∙ all) first.1
      (subst (λ x. IsWholeRun p (entered p at x) h) (sym one) second.1)
      (subst (λ x. take n (report_from p (entered p at e) g) ≡ take n (report_from p (entered p at x) h)) (sym one) parts.1) in
      ap (λ x. x ∷ take n g) one ∙ ap (λ xs. f ∷ xs) rest

  -- runs with the same lines are the same
  pub one_run : (at : State W L) (g h : List E) → length at.lanes ≡ count → IsWholeRun p at g → IsWholeRun p at h
      → report_from p at g ≡ report_from p at h → g ≡ h
  one_run at [] [] all first second same = refl
  one_run at [] (f ∷ h) all first second same = cc (sym (first (p.seat f)) ∙ second.0.call)
  one_run at (e ∷ g) [] all first second same = cc (sym (second (p.seat e)) ∙ first.0.call)
  one_run at (e ∷ g) (f ∷ h) all first second same =
      let line : p.line at.world at.place e ≡ p.line at.world at.place f = cc same in
      let later : report_from p (entered p at e) g ≡ report_from p (entered p at f) h = cc in
      let one = same_turn at e f all first.0 second.0 line in
      let rest = one_run (entered p at e) g h (length-entered p at e ∙ all) first.1
      (subst (λ x. IsWholeRun p (entered p at x) h) (sym one) second.1)
      (subst (λ x. report_from p (entered p at e) g ≡ report_from p (entered p at x) h) (sym one) later) in
      ap (λ x. x ∷ g) one ∙ ap (λ xs. f ∷ xs) rest

  pub lines_tell : (n : ℕ) (at : State W L) (g h : List E) → length at.lanes ≡ count → IsGood p at g → IsGood p at h
      → take n (report_of p at g) ≡ take n (report_of p at h) → take (n - 1) g ≡ take (n - 1) h
  lines_tell zero at g h all first second same = refl
  lines_tell (suc n) at g h all first second same =
      let parts = same_first n _ _ _ _ same in
      let less : suc n - 1 ≡ n = omega arith in
      rw less (same_front n at g h all (good_runs p at g first) (good_runs p at h second) parts.1)
