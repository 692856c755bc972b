-- A table of objects with one more, under a name in a directory.
use Rattle.std.proofs.Common.{◌≡◌, ◌≢◌, ◌<◌, ◌+◌, ◌==◌, ℕ, zero, suc, List, [], ◌∷◌, ◌++◌, length, map, sum, cond, Option, Some, None, option_map, ap}
use Rattle.std.{proofs.Common.{refl, sym, ◌∙◌, subst, arith, length-set, inl, inr}, specs.{Option.option_map_or, List.sum_by}}
use Rattle.std.proofs.lemmas.{Bool.Decides.eqb_tells, List.{get_or-set_same, get_or-set_other, length-append, Sums.{sum-map, sum_by-set, sum_by_push}}}
use Rattle.ix_model.specs.{world.{World.{Object, at, put, change}, Naming.last_name, Owners.{times_in, times_named, names_in_all}}, opening.Opening.object_of}
use Rattle.ix_model.{specs.declared.config.ObjSpec.ObjSpec, proofs.tables.Tables.{seen_changed, at_changed}}

-- the directory with the object's name, and the table with the object
abbrev pub naming : ObjSpec → ℕ → Object → Object
naming b o x = record x { names = x.names ++ (last_name b.path.names, o) ∷ [] }

abbrev pub with_one : List (Option Object) → ObjSpec → ℕ → ℕ → ℕ → List (Option Object)
with_one t b d k o = change (put t o (Some (object_of k b))) d (naming b o)

-- where it goes: a free number, and a directory that is there
pub record Place (t : List (Option Object)) (o d : ℕ) : Type 0 where
  pub low : o < length t
  pub free : at t o ≡ None
  pub dir : Object
  pub is_dir : at t d ≡ Some dir

module _ (t : List (Option Object)) (b : ObjSpec) (o d k : ℕ) (p : Place t o d) where
  abbrev pub after : List (Option Object)
  after = with_one t b d k o

  -- nothing is at the new number
  pub not_new : (m : ℕ) (x : Object) → at t m ≡ Some x → m ≢ o
  not_new m x is same = let e = sym p.free ∙ ap (at t) (sym same) ∙ is in cc

  pub at_new : at after o ≡ Some (object_of k b)
  at_new = get_or-set_other _ d o _ None (λ same. not_new d _ p.is_dir (sym same)) ∙ get_or-set_same t o _ None p.low

  pub at_dir : at after d ≡ Some (naming b o p.dir)
  at_dir = at_changed _ d _ ∙ ap (option_map _) (get_or-set_other t o d _ None (not_new d _ p.is_dir) ∙ p.is_dir)

  pub at_rest : (m : ℕ) → m ≢ o → m ≢ d → at after m ≡ at t m
  at_rest m other apart = get_or-set_other _ d m _ None apart ∙ get_or-set_other t o m _ None other

  -- what doesn't look at names sees what it saw
  pub seen : {B : Type 0} (F : Option Object → B) → ((x : Object) → F (Some (naming b o x)) ≡ F (Some x)) → (m : ℕ) → m ≢ o → F (at after m) ≡ F (at t m)
  seen F same m other = seen_changed F _ same _ d m ∙ ap F (get_or-set_other t o m _ None other)

  -- what holds of the new object, of the directory and of the others holds of each
  pub each_after : (P : ℕ → Object → Type 0) → P o (object_of k b) → P d (naming b o p.dir) → ((m : ℕ) (x : Object) → m ≢ o → m ≢ d → at t m ≡ Some x → P m x)
      → (m : ℕ) (x : Object) → at after m ≡ Some x → P m x
  each_after P new dir rest m x is = elim (eqb_tells m o) [
    | inl here ↦
        let both = sym at_new ∙ ap (at after) (sym here.1) ∙ is in
        let same : object_of k b ≡ x = cc in
        subst (λ y. P m y) same (subst (λ i. P i (object_of k b)) (sym here.1) new)
    | inr other ↦ elim (eqb_tells m d) [
      | inl here ↦
          let both = sym at_dir ∙ ap (at after) (sym here.1) ∙ is in
          let same : naming b o p.dir ≡ x = cc in
          subst (λ y. P m y) same (subst (λ i. P i (naming b o p.dir)) (sym here.1) dir)
      | inr apart ↦ rest m x other.1 apart.1 (sym (at_rest m other.1 apart.1) ∙ is)
    ]
  ]

  pub length-after : length after ≡ length t
  length-after = length-set _ d _ ∙ length-set t o _

  -- a sum over the table, in which a free number and the new object count nothing
  sum_after : (F : Option Object → ℕ) → F None ≡ 0 → F (Some (object_of k b)) ≡ 0 → sum (map F after) + F (Some p.dir) ≡ sum (map F t) + F (Some (naming b o p.dir))
  sum_after F none new =
      let u : List (Option Object) = put t o (Some (object_of k b)) in
      let old : at u d ≡ Some p.dir = get_or-set_other t o d (Some (object_of k b)) None (not_new d p.dir p.is_dir) ∙ p.is_dir in
      let within : d < length t = there d p.dir t p.is_dir in
      let put_one : sum_by F u + F (at t o) ≡ sum_by F t + F (Some (object_of k b)) = sum_by-set F t o (Some (object_of k b)) None p.low in
      let changed : sum_by F after + F (at u d) ≡ sum_by F u + F (option_map (naming b o) (at u d)) =
      sum_by-set F u d (option_map (naming b o) (at u d)) None (omega (arith, length-set t o (Some (object_of k b)))) in
      let before : F (at u d) ≡ F (Some p.dir) = ap F old in
      let then : F (option_map (naming b o) (at u d)) ≡ F (Some (naming b o p.dir)) = ap (λ x. F (option_map (naming b o) x)) old in
      let free : F (at t o) ≡ 0 = ap F p.free ∙ none in
      let whole : sum (map F after) ≡ sum_by F after = sum-map F after in
      let was : sum (map F t) ≡ sum_by F t = sum-map F t in
      omega arith
    where
      there : (n : ℕ) (x : Object) (l : List (Option Object)) → at l n ≡ Some x → n < length l
      there n x [] is = cc
      there zero x (y ∷ l) is = omega arith
      there (suc n) x (y ∷ l) is = omega (arith, there n x l is)

  -- the new object has one name more, the others have as many as before
  pub times_after : (q : ℕ) → times_named after q ≡ times_named t q + cond (o == q) 1 0
  times_after q =
      let more =
      sum_by_push (λ n. cond (n.1 == q) 1 0) p.dir.names (last_name b.path.names, o) in
      omega (arith, sum_after (times_in q) refl refl)

  pub names_after : names_in_all after ≡ suc (names_in_all t)
  names_after = omega (arith, sum_after (λ x. option_map_or (λ y. length y.names) x 0) refl refl, length-append p.dir.names ((last_name b.path.names, o) ∷ []))
