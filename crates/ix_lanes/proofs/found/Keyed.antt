-- The map of names, as its entries lie in a search tree.
use Rattle.std.proofs.Common.{◌≡◌, ℕ, Bool, true, false, cond, List, [], ◌∷◌, Some, None, is_some, refl, sym, ap, subst, ◌∙◌, Ordering, Less, Equal, Greater}
use Rattle.std.specs.{Global.Vec, Map.{lookup, set_value}, BTreeMap.{insert_entry, is_at}, Ordering.{is_eq, eq_by_cmp, nat_cmp, match_ordering}}
use Rattle.std.specs.{Cmp.Lexicographic.{slice_cmp, nat_list_cmp_total}, FinMap.Entries.{by_order}}
use Rattle.std.specs.FinMap.{find, put, get, insert, contains_key, from_entries, get-from_entries, get-insert, same_map, nat_cmp-IsAntisymmetric}
use Rattle.std.specs.FinMap.{slice_cmp-IsAntisymmetric}
use Rattle.ix_lanes.specs.asking.Pairs.{pairs_of}

-- names in the order of their bytes
abbrev pub by_bytes : List ℕ → List ℕ → Ordering
by_bytes a b = slice_cmp nat_cmp a b

pub find-pairs : {X : Type 0} (q : List ℕ) (es : List (Vec ℕ × X)) → find by_bytes q (pairs_of es) ≡ lookup (is_at (λ (k : Vec ℕ). slice_cmp nat_cmp q k.items)) es
find-pairs q [] = refl
find-pairs q (e ∷ es) = ap (cond (is_eq (slice_cmp nat_cmp q e.0.items)) (Some e.1)) (find-pairs q es)

-- what a name stands for
pub get-pairs : {X : Type 0} (q : List ℕ) (es : List (Vec ℕ × X)) → get (from_entries {R = by_bytes} (pairs_of es)) q ≡ lookup (is_at (λ (k : Vec ℕ). slice_cmp nat_cmp q k.items)) es
get-pairs q es = get-from_entries nat_list_cmp_total (pairs_of es) q ∙ find-pairs q es

pub pairs-inserted : {X : Type 0} (k : Vec ℕ) (v : X) (es : List (Vec ℕ × X))
    → pairs_of (insert_entry (λ (x y : Vec ℕ). slice_cmp nat_cmp x.items y.items) es k v) ≡ put by_bytes k.items v (pairs_of es)
pairs-inserted k v [] = refl
pairs-inserted k v (e ∷ es) =
    elim (by_bytes k.items e.0.items) as (λ r. pairs_of (match_ordering r ((k, v) ∷ e ∷ es) ((e.0, v) ∷ es) (e ∷ insert_entry (λ (x y : Vec ℕ). slice_cmp nat_cmp x.items y.items) es k v))
    ≡ by_order r ((k.items, v) ∷ (e.0.items, e.1) ∷ pairs_of es) ((e.0.items, v) ∷ pairs_of es) ((e.0.items, e.1) ∷ put by_bytes k.items v (pairs_of es))) [
      | Less ↦ refl
      | Equal ↦ refl
      | Greater ↦ ap (λ ps. (e.0.items, e.1) ∷ ps) (pairs-inserted k v es)
    ]

-- ---- a name that is there
-- that names tie, or that they are the same
tie_same : (r : Ordering) → is_eq r ≡ true → r ≡ Equal
tie_same Less h = cc
tie_same Equal h = refl
tie_same Greater h = cc

pub same_name : (a b : List ℕ) → eq_by_cmp by_bytes a b ≡ true → a ≡ b
same_name a b h = slice_cmp-IsAntisymmetric nat_cmp-IsAntisymmetric a b (tie_same (by_bytes a b) h)

-- of two tests in turn, where both don't pass at once, either may come first
pub turned : {A : Type 0} (p q : Bool) (x y z : A) → (p ≡ true → q ≡ true → ⊥) → cond p x (cond q y z) ≡ cond q y (cond p x z)
turned true true x y z apart = absurd (apart refl refl)
turned true false x y z apart = refl
turned false q x y z apart = refl

-- a test that is repeated
repeated : {A : Type 0} (p : Bool) (x y z : A) → cond p x z ≡ cond p x (cond p y z)
repeated true x y z = refl
repeated false x y z = refl

-- entries with one value set, where the name is found
abbrev pub with_value : {X : Type 0} → List ℕ → List (Vec ℕ × X) → X → List (Vec ℕ × X)
with_value name es v = set_value (is_at (λ (k : Vec ℕ). slice_cmp nat_cmp name k.items)) es v

find-value : {X : Type 0} (name q : List ℕ) (v : X) (es : List (Vec ℕ × X)) → is_some (find by_bytes name (pairs_of es)) ≡ true
    → find by_bytes q (pairs_of (with_value name es v)) ≡ cond (eq_by_cmp by_bytes q name) (Some v) (find by_bytes q (pairs_of es))
find-value {X} name q v [] there = cc
find-value {X} name q v (e ∷ es) there = go (find-value name q v es) (eq_by_cmp by_bytes name e.0.items) refl
  where
    go : (is_some (find by_bytes name (pairs_of es)) ≡ true → find by_bytes q (pairs_of (with_value name es v)) ≡ cond (eq_by_cmp by_bytes q name) (Some v) (find by_bytes q (pairs_of es)))
        → (b : Bool) → eq_by_cmp by_bytes name e.0.items ≡ b
        → find by_bytes q (pairs_of (cond b ((e.0, v) ∷ es) (e ∷ with_value name es v)))
        ≡ cond (eq_by_cmp by_bytes q name) (Some v) (find by_bytes q (pairs_of (e ∷ es)))
    go more true here =
        let same : eq_by_cmp by_bytes q name ≡ eq_by_cmp by_bytes q e.0.items = ap (eq_by_cmp by_bytes q) (same_name name e.0.items here) in
        rw same (repeated (eq_by_cmp by_bytes q e.0.items) (Some v) (Some e.1) (find by_bytes q (pairs_of es)))
    go more false here =
        let later : is_some (find by_bytes name (pairs_of es)) ≡ true =
        subst (λ (b : Bool). is_some (cond b (Some e.1) (find by_bytes name (pairs_of es))) ≡ true) here there in
        ap (cond (eq_by_cmp by_bytes q e.0.items) (Some e.1)) (more later)
        ∙ turned (eq_by_cmp by_bytes q e.0.items) (eq_by_cmp by_bytes q name) (Some e.1) (Some v) (find by_bytes q (pairs_of es))
        (λ one two. let same : eq_by_cmp by_bytes name e.0.items ≡ true = ap (λ x. eq_by_cmp by_bytes x e.0.items) (sym (same_name q name two)) ∙ one in cc)

-- the map with the value of a name that it has set
pub map-put : {X : Type 0} (name : List ℕ) (v : X) (es new : List (Vec ℕ × X)) → contains_key (from_entries {R = by_bytes} (pairs_of es)) name ≡ true
    → new ≡ with_value name es v
    → from_entries {R = by_bytes} (pairs_of new) ≡ insert (from_entries {R = by_bytes} (pairs_of es)) name v
map-put {X} name v es new there made = rw made (
    same_map nat_list_cmp_total (slice_cmp-IsAntisymmetric nat_cmp-IsAntisymmetric) _ _
    (λ q. get-from_entries nat_list_cmp_total _ q
    ∙ find-value name q v es (ap is_some (sym (get-from_entries nat_list_cmp_total (pairs_of es) name)) ∙ there)
    ∙ ap (cond (eq_by_cmp by_bytes q name) (Some v)) (sym (get-from_entries nat_list_cmp_total (pairs_of es) q))
    ∙ sym (get-insert nat_list_cmp_total (from_entries (pairs_of es)) name v q)))

-- a name that the map has is among its entries
pub not_there : {X : Type 0} (name : List ℕ) (es : List (Vec ℕ × X)) → lookup (is_at (λ (k : Vec ℕ). slice_cmp nat_cmp name k.items)) es ≡ None
    → contains_key (from_entries {R = by_bytes} (pairs_of es)) name ≡ true → ⊥
not_there name es none there = let some : false ≡ true = sym (ap is_some (get-pairs name es ∙ none)) ∙ there in cc
