-- Names that are looked through before those of a search tree.
use Rattle.std.proofs.Common.{◌≡◌, ◌<◌, ◌||◌, ℕ, zero, suc, Bool, true, false, cond, List, [], ◌∷◌, ◌++◌, None, Some, is_some, length, get_or, set}
use Rattle.std.proofs.Common.{refl, sym, ap, ◌∙◌, append_assoc, true≢false, arith}
use Rattle.std.specs.{Global.Vec, Map.{lookup, set_value}, BTreeMap.{insert_entry, is_at}, Ordering.{eq_by_cmp, nat_cmp}}
use Rattle.std.specs.{Cmp.Lexicographic.{slice_cmp, nat_list_cmp_total}, List.{list_any, position, position_or_len}}
use Rattle.std.specs.{FinMap.{contains_key, find, from_entries, get-from_entries, get-insert, insert, nat_cmp-IsAntisymmetric, same_map, slice_cmp-IsAntisymmetric}, FinMap.Entries.find-put}
use Rattle.std.proofs.lemmas.{Cmp.nat_list_eq_equiv, Grind.common_steps, Map.Text.is_eq-slice_cmp}
use Rattle.ix_model.specs.world.Naming.{same_bytes}
use Rattle.ix_lanes.{specs.asking.Pairs.pairs_of, proofs.found.Keyed.{by_bytes, pairs-inserted, same_name, turned}}

-- an entry of a name
abbrev pub is_of : {X : Type 0} → List ℕ → Vec ℕ × X → Bool
is_of name e = same_bytes e.0.items name

abbrev pub at : List ℕ → Vec ℕ → Bool
at name = is_at (λ (k : Vec ℕ). slice_cmp nat_cmp name k.items)

equal : {X : Type 0} (name : List ℕ) (e : Vec ℕ × X) → at name e.0 ≡ is_of name e
equal name e = is_eq-slice_cmp name e.0.items ∙ nat_list_eq_equiv.symm name e.0.items

neither : (a b : Bool) → (a || b) ≡ false → (a ≡ false) × (b ≡ false)
neither true b h = cc
neither false b h = (refl, h)

-- ---- a name that stands among the first entries
pub near_value : {X : Type 0} (name : List ℕ) (near es : List (Vec ℕ × X)) (i : ℕ) (d : Vec ℕ × X) → i < length near → is_of name (get_or near i d) ≡ true
    → ((k : ℕ) → k < i → is_of name (get_or near k d) ≡ false) → lookup (at name) (near ++ es) ≡ Some (get_or near i d).1
near_value name [] es i d low here before = absurd (omega (arith, low))
near_value name (e ∷ near) es zero d low here before = ap (λ b. cond b (Some e.1) (lookup (at name) (near ++ es))) (equal name e ∙ here)
near_value name (e ∷ near) es (suc i) d low here before =
    ap (λ b. cond b (Some e.1) (lookup (at name) (near ++ es))) (equal name e ∙ before 0 (omega arith))
    ∙ near_value name near es i d (omega (arith, low)) here (λ k l. before (suc k) (omega (arith, l)))

pub near_set : {X : Type 0} (name : List ℕ) (v : X) (near es : List (Vec ℕ × X)) (i : ℕ) (d : Vec ℕ × X) → i < length near → is_of name (get_or near i d) ≡ true
    → ((k : ℕ) → k < i → is_of name (get_or near k d) ≡ false) → set near i ((get_or near i d).0, v) ++ es ≡ set_value (at name) (near ++ es) v
near_set name v [] es i d low here before = absurd (omega (arith, low))
near_set name v (e ∷ near) es zero d low here before =
    sym (ap (λ b. cond b ((e.0, v) ∷ (near ++ es)) (e ∷ set_value (at name) (near ++ es) v)) (equal name e ∙ here))
near_set name v (e ∷ near) es (suc i) d low here before =
    ap (λ xs. e ∷ xs) (near_set name v near es i d (omega (arith, low)) here (λ k l. before (suc k) (omega (arith, l))))
    ∙ sym (ap (λ b. cond b ((e.0, v) ∷ (near ++ es)) (e ∷ set_value (at name) (near ++ es) v)) (equal name e ∙ before 0 (omega arith)))

-- ---- one that doesn't
pub nowhere : {X : Type 0} (name : List ℕ) (es : List (Vec ℕ × X)) → length es ≡ 0 → lookup (at name) es ≡ None
nowhere name [] none = refl
nowhere name (e ∷ es) none = absurd (omega (arith, none))

none_passes : {X : Type 0} (p : X → Bool) (xs : List X) → (position_or_len p xs < length xs → ⊥) → list_any p xs ≡ false
none_passes p [] none = refl
none_passes {X} p (x ∷ xs) none = go (none_passes p xs) (p x) refl
  where
    go : ((position_or_len p xs < length xs → ⊥) → list_any p xs ≡ false) → (b : Bool) → p x ≡ b → list_any p (x ∷ xs) ≡ false
    go more true is = absurd (none (rw is (omega arith)))
    go more false is = rw is (more (λ low. none (rw is (omega (arith, low)))))

pub no_place : {X : Type 0} (p : X → Bool) (xs : List X) → position p xs ≡ None → list_any p xs ≡ false
no_place p xs is = none_passes p xs (λ low. grind (arith, common_steps))

pub far_value : {X : Type 0} (name : List ℕ) (near es : List (Vec ℕ × X)) → list_any (is_of name) near ≡ false → lookup (at name) (near ++ es) ≡ lookup (at name) es
far_value name [] es none = refl
far_value name (e ∷ near) es none =
    let p = neither (is_of name e) (list_any (is_of name) near) none in
    ap (λ b. cond b (Some e.1) (lookup (at name) (near ++ es))) (equal name e ∙ p.0) ∙ far_value name near es p.1

pub far_set : {X : Type 0} (name : List ℕ) (v : X) (near es : List (Vec ℕ × X)) → list_any (is_of name) near ≡ false → near ++ set_value (at name) es v ≡ set_value (at name) (near ++ es) v
far_set name v [] es none = refl
far_set name v (e ∷ near) es none =
    let p = neither (is_of name e) (list_any (is_of name) near) none in
    ap (λ xs. e ∷ xs) (far_set name v near es p.1)
    ∙ sym (ap (λ b. cond b ((e.0, v) ∷ (near ++ es)) (e ∷ set_value (at name) (near ++ es) v)) (equal name e ∙ p.0))

-- a name that no entry is of isn't among the first
not_near : {X : Type 0} (name : List ℕ) (near es : List (Vec ℕ × X)) → is_some (find by_bytes name (pairs_of (near ++ es))) ≡ false → list_any (is_of name) near ≡ false
not_near name [] es none = refl
not_near {X} name (e ∷ near) es none = go (not_near name near es) (is_of name e) refl
  where
    go : (is_some (find by_bytes name (pairs_of (near ++ es))) ≡ false → list_any (is_of name) near ≡ false) → (b : Bool) → is_of name e ≡ b → list_any (is_of name) (e ∷ near) ≡ false
    go more true is = absurd (true≢false (sym (ap (λ b. is_some (cond b (Some e.1) (find by_bytes name (pairs_of (near ++ es))))) (equal name e ∙ is)) ∙ none))
    go more false is = ap (λ b. b || list_any (is_of name) near) is
        ∙ more (sym (ap (λ b. is_some (cond b (Some e.1) (find by_bytes name (pairs_of (near ++ es))))) (equal name e ∙ is)) ∙ none)

-- nor is one that the map hasn't
pub new_name : {X : Type 0} (name : List ℕ) (near es : List (Vec ℕ × X)) → contains_key (from_entries {R = by_bytes} (pairs_of (near ++ es))) name ≡ false
    → list_any (is_of name) near ≡ false
new_name name near es none = not_near name near es (ap is_some (sym (get-from_entries nat_list_cmp_total (pairs_of (near ++ es)) name)) ∙ none)

-- ---- a name more behind the first entries
after_near : {X : Type 0} (name q : List ℕ) (v : X) (near new es : List (Vec ℕ × X)) → list_any (is_of name) near ≡ false
    → find by_bytes q (pairs_of new) ≡ cond (eq_by_cmp by_bytes q name) (Some v) (find by_bytes q (pairs_of es))
    → find by_bytes q (pairs_of (near ++ new)) ≡ cond (eq_by_cmp by_bytes q name) (Some v) (find by_bytes q (pairs_of (near ++ es)))
after_near name q v [] new es none made = made
after_near name q v (e ∷ near) new es none made =
    let p = neither (is_of name e) (list_any (is_of name) near) none in
    ap (cond (eq_by_cmp by_bytes q e.0.items) (Some e.1)) (after_near name q v near new es p.1 made)
    ∙ turned (eq_by_cmp by_bytes q e.0.items) (eq_by_cmp by_bytes q name) (Some e.1) (Some v) (find by_bytes q (pairs_of (near ++ es)))
    (λ one two. true≢false (sym (ap (λ x. eq_by_cmp by_bytes x e.0.items) (sym (same_name q name two)) ∙ one) ∙ (equal name e ∙ p.0)))

map-more : {X : Type 0} (name : List ℕ) (v : X) (near new es : List (Vec ℕ × X)) → list_any (is_of name) near ≡ false
    → ((q : List ℕ) → find by_bytes q (pairs_of new) ≡ cond (eq_by_cmp by_bytes q name) (Some v) (find by_bytes q (pairs_of es)))
    → from_entries {R = by_bytes} (pairs_of (near ++ new)) ≡ insert (from_entries {R = by_bytes} (pairs_of (near ++ es))) name v
map-more name v near new es none made =
    same_map nat_list_cmp_total (slice_cmp-IsAntisymmetric nat_cmp-IsAntisymmetric) _ _
    (λ q. get-from_entries nat_list_cmp_total _ q ∙ after_near name q v near new es none (made q)
    ∙ ap (cond (eq_by_cmp by_bytes q name) (Some v)) (sym (get-from_entries nat_list_cmp_total (pairs_of (near ++ es)) q))
    ∙ sym (get-insert nat_list_cmp_total (from_entries (pairs_of (near ++ es))) name v q))

-- the map with a name more among the first
pub map-pushed : {X : Type 0} (k : Vec ℕ) (name : List ℕ) (v : X) (near new es : List (Vec ℕ × X)) → list_any (is_of name) near ≡ false → k.items ≡ name
    → new ≡ near ++ (k, v) ∷ [] → from_entries {R = by_bytes} (pairs_of (new ++ es)) ≡ insert (from_entries {R = by_bytes} (pairs_of (near ++ es))) name v
map-pushed k name v near new es none is made =
    ap (λ all. from_entries {R = by_bytes} (pairs_of all)) (ap (λ xs. xs ++ es) made ∙ append_assoc near ((k, v) ∷ []) es)
    ∙ map-more name v near ((k, v) ∷ es) es none (λ q. ap (λ n. cond (eq_by_cmp by_bytes q n) (Some v) (find by_bytes q (pairs_of es))) is)

-- or in the tree
pub map-far : {X : Type 0} (k : Vec ℕ) (name : List ℕ) (v : X) (near es new : List (Vec ℕ × X)) → list_any (is_of name) near ≡ false → k.items ≡ name
    → new ≡ insert_entry (λ (x y : Vec ℕ). slice_cmp nat_cmp x.items y.items) es k v
    → from_entries {R = by_bytes} (pairs_of (near ++ new)) ≡ insert (from_entries {R = by_bytes} (pairs_of (near ++ es))) name v
map-far k name v near es new none is made = map-more name v near new es none
    (λ q. ap (λ all. find by_bytes q (pairs_of all)) made ∙ ap (find by_bytes q) (pairs-inserted k v es) ∙ find-put by_bytes nat_list_cmp_total q k.items v (pairs_of es)
    ∙ ap (λ n. cond (eq_by_cmp by_bytes q n) (Some v) (find by_bytes q (pairs_of es))) is)
