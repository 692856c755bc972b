-- The inodes of one file system stand on it, below its ceiling, and hold nothing where none stands, whatever is edited.
use Rattle.std.proofs.Common.{◌≡◌, ◌<◌, ◌-◌, ◌∙◌, ℕ, zero, suc, true, ltb, List, [], ◌∷◌, length, set, get_or, replicate, Option, Some, None, sym, ap, arith}
use Rattle.std.proofs.Common.{inl, inr, refl, get_or-set_same, get_or-set_other}
use Rattle.std.proofs.lemmas.Bool.{cases_eq, lt-ltb}
use Rattle.ix_label.specs.{Category.{Categories, leq}, Lattice.bottom-leq}
use Rattle.ix_model.specs.world.World.{lowest_free}
use Rattle.ix_inode.specs.{declared.node.Node.Node, Shown.{new_node, taken}, Volumes.AreOn}

pub same_some : {A : Type 0} {x y : A} → Some x ≡ Some y → x ≡ y
same_some e = cc

-- one inode and its bytes edited
pub on_edit : (fs : ℕ) (c : Categories) (ns : List (Option Node)) (bs : List (List ℕ)) (n : ℕ) (x : Option Node) (b : List ℕ) → AreOn fs c ns bs → n < length ns
    → n < length bs → ((y : Node) → x ≡ Some y → (y.fs ≡ fs) × (leq y.label c ≡ true)) → (x ≡ None → b ≡ []) → AreOn fs c (set ns n x) (set bs n b)
on_edit fs c ns bs n x b h low held new none = record {
  fs = λ j y e. elim (cases_eq j n) [ inl i ↦ (new y (here j (Some y) i e)).0 | inr ne ↦ h.fs j y (other j (Some y) ne e) ];
  below = λ j y e. elim (cases_eq j n) [ inl i ↦ (new y (here j (Some y) i e)).1 | inr ne ↦ h.below j y (other j (Some y) ne e) ];
  empty = λ j e. elim (cases_eq j n) [
    | inl i ↦ ap (λ m. get_or (set bs n b) m []) i ∙ get_or-set_same bs n b [] held ∙ none (here j None i e)
    | inr ne ↦ get_or-set_other bs n j b [] ne ∙ h.empty j (other j None ne e)
  ];
}
  where
    here : (j : ℕ) (y : Option Node) → j ≡ n → get_or (set ns n x) j None ≡ y → x ≡ y
    here j y i e = sym (get_or-set_same ns n x None low) ∙ ap (λ m. get_or (set ns n x) m None) (sym i) ∙ e

    other : (j : ℕ) (y : Option Node) → (j ≡ n → ⊥) → get_or (set ns n x) j None ≡ y → get_or ns j None ≡ y
    other j y ne e = sym (get_or-set_other ns n j x None ne) ∙ e

none_in : {A : Type 0} (d : A) (m j : ℕ) → get_or (replicate m d) j d ≡ d
none_in d zero j = refl
none_in d (suc m) zero = refl
none_in d (suc m) (suc j) = none_in d m j

-- before there is any
on_none : (fs : ℕ) (c : Categories) (m : ℕ) → AreOn fs c (replicate m None) (replicate m [])
on_none fs c m = record {
  fs = λ j y e. absurd (cc (sym (none_in {A = Option Node} None m j) ∙ e));
  below = λ j y e. absurd (cc (sym (none_in {A = Option Node} None m j) ∙ e));
  empty = λ j e. none_in [] m j;
}

-- the first inode that is made takes the first number
pub taken_first : (m : ℕ) (x : Node) → 0 < m → taken (lowest_free {A = Node} (replicate m None)) x (replicate m None) ≡ Some x ∷ replicate (m - 1) None
taken_first zero x h = absurd (omega arith)
taken_first (suc m) x h =
    let e : m ≡ suc m - 1 = omega arith in
    let low : ltb 0 (suc (length (replicate {A = Option Node} m None))) ≡ true = lt-ltb 0 (suc (length (replicate {A = Option Node} m None))) (omega arith) in
    rw low (ap (λ k. Some x ∷ replicate {A = Option Node} k None) e)

-- the inodes of a file system as it is made
pub on_first : (fs : ℕ) (c : Categories) (m : ℕ) → AreOn fs c (Some (new_node fs true) ∷ replicate m None) (replicate (suc m) [])
on_first fs c m = on_edit fs c (None ∷ replicate m None) (replicate (suc m) []) 0 (Some (new_node fs true)) [] (on_none fs c (suc m)) (omega arith)
    (omega arith) (λ y e. let z : new_node fs true ≡ y = same_some e in
    (ap (λ (u : Node). u.fs) (sym z), ap (λ (u : Node). leq u.label c) (sym z) ∙ bottom-leq c)) (λ e. absurd (cc e))
