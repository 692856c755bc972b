-- One object more leaves the names sound.
use Rattle.std.proofs.Common.{◌≡◌, ◌≢◌, ◌<◌, ◌+◌, ◌==◌, ℕ, suc, Bool, true, false, true≢false, not, List, [], ◌∷◌, ◌++◌, map, sum, count_by, cond, Option, Some}
use Rattle.std.{proofs.Common.{if◌then◌else◌, None, refl, sym, ap, ◌∙◌, arith, inl, inr}, specs.{Option.option_map_or, List.list_any}}
use Rattle.std.proofs.lemmas.Bool.{and_parts, or_parts, or_from, and_from, not-true, not_from_false, cases_lt, eq-eqb, ne_eqb, Decides.eqb_tells}
use Rattle.std.proofs.lemmas.List.{map-append, Folds.list_any-append, Sums.{sum_by-cons, sum_by_push}}
use Rattle.ix_model.specs.world.{Naming.{same_bytes, last_name}, World.{Object, at, is_file, is_dir, is_pipe}, Owners.{times_in, times_named}}
use Rattle.ix_model.specs.{opening.{Opening.object_of, Valid.all_differ}, declared.config.ObjSpec.ObjSpec}
use Rattle.ix_model.proofs.opening.{Built.Named, Placing.{Place, naming, with_one, not_new, at_new, seen, each_after, times_after}}
use Rattle.ix_model.specs.declared.reply.Kind.TheVariants as kind

-- an object line makes no pipe
pub new_no_pipe : (k : ℕ) (b : ObjSpec) → is_pipe (object_of k b) ≡ false
new_no_pipe k b = go _
  where
    go : (d : Bool) → is_pipe (record (object_of k b) { kind = if d then kind.Dir else kind.File }) ≡ false
    go true = refl
    go false = refl

-- names that differ, with one that is none of them
differ_push : (es : List (List ℕ × ℕ)) (name : List ℕ) (o : ℕ) → list_any (λ e. same_bytes e.0 name) es ≡ false → all_differ (map (λ e. e.0) es) ≡ true
    → all_differ (map (λ e. e.0) (es ++ (name, o) ∷ [])) ≡ true
differ_push [] name o new differ = refl
differ_push (e ∷ es) name o new differ =
    let news = or_parts _ (list_any (λ x. same_bytes x.0 name) es) new in
    let parts = and_parts (not (list_any _ (map (λ x. x.0) es))) (all_differ (map (λ x. x.0) es)) differ in
    let split = map-append (λ x. x.0) es ((name, o) ∷ []) in
    let none =
    ap (list_any (same_bytes e.0)) split ∙ list_any-append (same_bytes e.0) (map (λ x. x.0) es) _ ∙ or_from _ _ (not-true _ parts.0) (or_from _ _ news.0 refl) in
    and_from _ _ (not_from_false _ none) (differ_push es _ o news.1 parts.1)

-- a sum over a table that counts nothing anywhere
pub sum_nothing : {A : Type 0} (F : Option A → ℕ) (t : List (Option A)) → ((m : ℕ) → F (at t m) ≡ 0) → sum (map F t) ≡ 0
sum_nothing F [] none = refl
sum_nothing F (x ∷ t) none = sum_by-cons (λ n. n) _ (map F t) ∙ omega (arith, none 0, sum_nothing F t (λ m. none (suc m)))

-- what isn't there isn't named
unnamed : (t : List (Option Object)) (o : ℕ) → Named t → at t o ≡ None → times_named t o ≡ 0
unnamed t o r free = sum_nothing _ t (λ m. go m _ refl)
  where
    go : (m : ℕ) (x : Option Object) → at t m ≡ x → times_in o x ≡ 0
    go m None is = refl
    go m (Some x) is = elim (cases_lt 0 (count_by (λ n. n.1 == o) x.names)) [
      | inl some ↦ absurd (true≢false (sym (r.living m o x is some) ∙ ap (λ y. option_map_or (λ z. not (is_pipe z)) y false) free))
      | inr none ↦ omega arith
    ]

module _ (t : List (Option Object)) (b : ObjSpec) (o d k : ℕ) (p : Place t o d) (r : Named t) (dir : is_dir p.dir ≡ true)
    (new : list_any (λ e. same_bytes e.0 (last_name b.path.names)) p.dir.names ≡ false) where
  abbrev next : List (Option Object)
  next = with_one t b d k o

  pub not_root : o ≢ 0
  not_root same = absurd (true≢false (sym r.root ∙ ap (λ n. option_map_or is_dir (at t n) false) (sym same) ∙ ap (λ x. option_map_or is_dir x false) p.free))

  no_pipe_at : (q : ℕ) → option_map_or (λ y. not (is_pipe y)) (at t q) false ≡ true → option_map_or (λ y. not (is_pipe y)) (at next q) false ≡ true
  no_pipe_at q h = seen t b o d k p (λ x. option_map_or (λ y. not (is_pipe y)) x false) (λ x. refl) q
      (λ same. absurd (true≢false (sym h ∙ ap (λ n. option_map_or (λ y. not (is_pipe y)) (at t n) false) same
      ∙ ap (λ x. option_map_or (λ y. not (is_pipe y)) x false) p.free))) ∙ h

  named_in_dir : (q : ℕ) → 0 < count_by (λ n. n.1 == q) (naming b o p.dir).names → option_map_or (λ y. not (is_pipe y)) (at next q) false ≡ true
  named_in_dir q h = elim (eqb_tells o q) [
    | inl here ↦ ap (λ n. option_map_or (λ y. not (is_pipe y)) (at next n) false) (sym here.1)
        ∙ ap (λ x. option_map_or (λ y. not (is_pipe y)) x false) (at_new t b o d k p) ∙ not_from_false _ (new_no_pipe k b)
    | inr other ↦
        let more : count_by (λ n. n.1 == q) (naming b o p.dir).names ≡ count_by (λ n. n.1 == q) p.dir.names + cond {A = ℕ} (o == q) 1 0 =
        sum_by_push (λ (n : List ℕ × ℕ). cond {A = ℕ} (n.1 == q) 1 0) p.dir.names (last_name b.path.names, o) in
        let none : cond {A = ℕ} (o == q) 1 0 ≡ 0 = ap (λ x. cond {A = ℕ} x 1 0) other.0 in
        no_pipe_at q (r.living d q p.dir p.is_dir (omega arith))
  ]

  times_there : (m : ℕ) → m ≢ o → times_named next m ≡ times_named t m
  times_there m other =
      let none : cond {A = ℕ} (o == m) 1 0 ≡ 0 = ap (λ x. cond {A = ℕ} x 1 0) (ne_eqb o m (λ same. other (sym same))) in
      omega (arith, times_after t b o d k p m)

  times_new : times_named next o ≡ 1
  times_new =
      let one = ap (λ x. cond {A = ℕ} x 1 0) (eq-eqb o o refl) in
      omega (arith, times_after t b o d k p o, unnamed t o r p.free)

  pub named_after : Named next
  named_after = record {
    root = seen t b o d k p (λ x. option_map_or is_dir x false) (λ x. refl) 0 (λ same. not_root (sym same)) ∙ r.root;
    in_directories = each_after t b o d k p (λ m x. is_dir x ≡ false → x.names ≡ []) (λ h. refl) (λ h. absurd (true≢false (sym dir ∙ h))) (λ m x other apart is. r.in_directories m x is);
    living = λ m q x is. each_after t b o d k p (λ m x. 0 < count_by (λ n. n.1 == q) x.names → option_map_or (λ y. not (is_pipe y)) (at next q) false ≡ true)
        (λ h. absurd (omega arith)) (named_in_dir q) (λ m x other apart is h. no_pipe_at q (r.living m q x is h)) m x is;
    differ = each_after t b o d k p (λ m x. all_differ (map (λ n. n.0) x.names) ≡ true) refl (differ_push p.dir.names (last_name b.path.names) o new
        (r.differ d p.dir p.is_dir)) (λ m x other apart is. r.differ m x is);
    once = each_after t b o d k p (λ m x. is_dir x ≡ true → times_named next m ≡ (if m == 0 then 0 else 1))
        (λ h. times_new ∙ sym (ap (λ x. if x then 0 else 1) (ne_eqb o 0 not_root)))
        (λ h. times_there d (not_new t b o d k p d p.dir p.is_dir) ∙ r.once d p.dir p.is_dir h)
        (λ m x other apart is h. times_there m other ∙ r.once m x is h);
    files = each_after t b o d k p (λ m x. is_file x ≡ true → 0 < times_named next m)
        (λ h. omega (arith, times_new))
        (λ h. omega (arith, times_after t b o d k p d, r.files d p.dir p.is_dir h))
        (λ m x other apart is h. omega (arith, times_there m other, r.files m x is h));
  }
