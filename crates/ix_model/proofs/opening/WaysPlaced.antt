-- One object more leaves paths leading where they led, and its own to it.
use Rattle.std.proofs.Common.{◌≡◌, ◌==◌, ℕ, Bool, true, false, true≢false, ◌||◌, List, [], ◌∷◌, ◌++◌, find, if◌then◌else◌, Option, Some, None, option_map, refl}
use Rattle.std.{proofs.Common.{unwrap_or, sym, ap, ◌∙◌, inl, inr}, specs.{Option.option_or, List.list_any}}
use Rattle.std.proofs.lemmas.{Bool.{or_parts, or_cases, eq-eqb, cond-true, cond-false, Decides.eqb_tells}, List.Folds.{list_any-append, find-append}}
use Rattle.ix_model.specs.{world.{Naming.{same_bytes, last_name}, World.{Object, at, is_dir}}, rows.Walks.{nothing, node, child}}
use Rattle.ix_model.specs.{opening.{Opening.object_of, Valid.{fs_of, is_taken, has_directory}}, declared.config.{FsSpec.FsSpec, Limits.Limits, ObjSpec.ObjSpec}}
use Rattle.ix_model.proofs.{tables.Alike.{bytes_are, bytes_itself}, opening.{Leading.{lead, lead_on, lead_kept}, Built.{DirAt, Ways}}}
use Rattle.ix_model.proofs.opening.{Lines.{parent_of, Line, still_there, now_there, dir_there}, Placing.{Place, naming, with_one, not_new, at_new, at_dir, at_rest, each_after}}
use Rattle.ix_model.specs.declared.reply.Kind.TheVariants as kind

-- ---- what is found under a name, in a list with one name more
found_kept : (es fs : List (List ℕ × ℕ)) (name : List ℕ) (m : ℕ) → option_map (λ e. e.1) (find (λ e. same_bytes e.0 name) es) ≡ Some m
    → option_map (λ e. e.1) (find (λ e. same_bytes e.0 name) (es ++ fs)) ≡ Some m
found_kept es fs name m h = ap (option_map (λ e. e.1)) (find-append (λ e. same_bytes e.0 name) es fs) ∙ go _ h
  where
    go : (x : Option (List ℕ × ℕ)) → option_map (λ e. e.1) x ≡ Some m → option_map (λ e. e.1) (option_or x (find (λ e. same_bytes e.0 name) fs)) ≡ Some m
    go None h = cc
    go (Some e) h = h

found_new : (es : List (List ℕ × ℕ)) (name : List ℕ) (o : ℕ) → list_any (λ e. same_bytes e.0 name) es ≡ false → option_map (λ e. e.1) (find (λ e. same_bytes e.0 name) (es ++ (name, o) ∷ [])) ≡ Some o
found_new [] name o new = ap (option_map (λ e. e.1)) (cond-true _ _ None (bytes_itself name))
found_new (e ∷ es) name o new =
    let p = or_parts _ (list_any (λ x. same_bytes x.0 name) es) new in
    ap (option_map (λ x. x.1)) (cond-false _ _ (find (λ x. same_bytes x.0 name) _) p.0) ∙ found_new es _ o p.1

-- ---- an object that was there, with or without one name more
record Moved (t : List (Option Object)) (m : ℕ) (x : Object) : Type 0 where
  object : Object
  is_object : at t m ≡ Some object
  dir : is_dir object ≡ is_dir x
  fs : object.fs ≡ x.fs

module _ (fss : List FsSpec) (l : Limits) (before : List ObjSpec) (t : List (Option Object)) (b : ObjSpec) (o k : ℕ) (w : Ways fss before t)
    (line : Line fss l before b) (home : DirAt fss t w.place (parent_of b.path.names)) (p : Place t o home.number) (same_dir : p.dir ≡ home.object)
    (on : k ≡ fs_of fss b.path.names) where
  abbrev next : List (Option Object)
  next = with_one t b home.number k o

  moved : (m : ℕ) (x : Object) → at t m ≡ Some x → Moved next m x
  moved m x is = elim (eqb_tells m home.number) [
    | inl here ↦
        let both = sym p.is_dir ∙ ap (at t) (sym here.1) ∙ is in
        let same : p.dir ≡ x = cc in
        record { object = naming b o p.dir; is_object = ap (at next) here.1 ∙ at_dir t b o _ k p; dir = ap is_dir same; fs = ap (λ y. y.fs) same }
    | inr apart ↦ (let is_object = at_rest t b o home.number k p m (not_new t b o home.number k p m x is) apart.1 ∙ is in search)
  ]

  -- the directory hasn't the name yet
  pub name_is_new : list_any (λ e. same_bytes e.0 (last_name b.path.names)) p.dir.names ≡ false
  name_is_new = go _ refl
    where
      go : (any : Bool) → list_any (λ e. same_bytes e.0 (last_name b.path.names)) p.dir.names ≡ any → any ≡ false
      go false is = refl
      go true is =
          let made = w.entries home.number p.dir _ p.is_dir is in
          let path = ap (λ names. names ++ last_name b.path.names ∷ []) home.back ∙ sym line.is_path in
          absurd (true≢false (sym made ∙ ap (is_taken fss before) path ∙ line.new))

  child_kept : (n m : ℕ) (name : List ℕ) → child (node t n) name ≡ Some m → child (node next n) name ≡ Some m
  child_kept n m name h = elim (eqb_tells n o) [
    | inl here ↦
        let none = sym (ap (λ x. child (unwrap_or x nothing) name) (ap (at t) here.1 ∙ p.free)) ∙ h in
        cc
    | inr other ↦ elim (eqb_tells n home.number) [
      | inl here ↦
          let was = sym (ap (λ x. child (unwrap_or x nothing) name) (ap (at t) here.1 ∙ p.is_dir)) ∙ h in
          ap (λ x. child (unwrap_or x nothing) name) (ap (at next) here.1 ∙ at_dir t b o _ k p) ∙ found_kept p.dir.names ((last_name b.path.names, o) ∷ []) name m was
      | inr apart ↦ ap (λ x. child (unwrap_or x nothing) name) (at_rest t b o _ k p n other.1 apart.1) ∙ h
    ]
  ]

  child_new : child (node next home.number) (last_name b.path.names) ≡ Some o
  child_new = ap (λ x. child (unwrap_or x nothing) (last_name b.path.names)) (at_dir t b o _ k p) ∙ found_new p.dir.names (last_name b.path.names) o name_is_new

  leads_to_new : lead next 0 b.path.names ≡ Some o
  leads_to_new = ap (lead next 0) line.is_path ∙ lead_on _ 0 _ o _ _
      (lead_kept t _ child_kept 0 _ _ home.leads) child_new

  place_then : ℕ → List (List ℕ)
  place_then m = if m == o then b.path.names else w.place m

  place_kept : (m : ℕ) → (m == o) ≡ false → place_then m ≡ w.place m
  unfolding place_then
  place_kept m other = cond-false _ b.path.names _ other

  place_new : place_then o ≡ b.path.names
  unfolding place_then
  place_new = cond-true _ b.path.names _ (eq-eqb o o refl)

  other_than : (m : ℕ) (x : Object) → at t m ≡ Some x → (m == o) ≡ false
  other_than m x is = elim (eqb_tells m o) [
    | inl here ↦ absurd (not_new t b o _ k p m x is here.1)
    | inr other ↦ other.0
  ]

  entries_then : (m : ℕ) (x : Object) (name : List ℕ) → at next m ≡ Some x → list_any (λ e. same_bytes e.0 name) x.names ≡ true → is_taken fss (before ++ b ∷ []) (place_then m ++ name ∷ []) ≡ true
  entries_then m x name is = each_after t b o home.number k p (λ m x. list_any (λ e. same_bytes e.0 name) x.names ≡ true → is_taken fss (before ++ b ∷ []) (place_then m ++ name ∷ []) ≡ true)
      (λ h. absurd (true≢false (sym h)))
      in_dir
      (λ m x other apart is h. kept m x is (w.entries m x name is h))
      m x is
    where
      kept : (m : ℕ) (x : Object) → at t m ≡ Some x → is_taken fss before (w.place m ++ name ∷ []) ≡ true → is_taken fss (before ++ b ∷ []) (place_then m ++ name ∷ []) ≡ true
      kept m x is h = ap (λ names. is_taken fss (before ++ b ∷ []) (names ++ name ∷ [])) (place_kept m (other_than m x is)) ∙ still_there fss before b (w.place m ++ name ∷ []) h

      in_dir : list_any (λ e. same_bytes e.0 name) (p.dir.names ++ (last_name b.path.names, o) ∷ []) ≡ true → is_taken fss (before ++ b ∷ []) (place_then home.number ++ name ∷ []) ≡ true
      in_dir h = elim (or_cases (list_any (λ e. same_bytes e.0 name) p.dir.names) (same_bytes (last_name b.path.names) name || false)
          (sym (list_any-append (λ (e : List ℕ × ℕ). same_bytes e.0 name) p.dir.names ((last_name b.path.names, o) ∷ [])) ∙ h)) [
            | inl old ↦ kept home.number p.dir p.is_dir (w.entries home.number p.dir name p.is_dir old)
            | inr new ↦ elim (or_cases (same_bytes (last_name b.path.names) name) false new) [
              | inl same ↦
                  let path : place_then home.number ++ name ∷ [] ≡ b.path.names =
                  (λ i. (place_kept home.number (other_than home.number p.dir p.is_dir) ∙ home.back) i ++ sym (bytes_are (last_name b.path.names) name same) i ∷ []) ∙ sym line.is_path in
                  ap (is_taken fss (before ++ b ∷ [])) path ∙ now_there fss before b
              | inr none ↦ absurd (true≢false (sym none))
            ]
          ]

  dirs_then : (names : List (List ℕ)) → has_directory fss (before ++ b ∷ []) names ≡ true → DirAt fss next place_then names
  dirs_then names h = elim (dir_there fss before b names h) [
    | inl old ↦
        let r = w.dirs names old in
        let y = moved r.number r.object r.is_object in
        record {
          number = r.number;
          leads = lead_kept t next child_kept 0 r.number names r.leads;
          object = y.object;
          is_object = y.is_object;
          dir = y.dir ∙ r.dir;
          on = y.fs ∙ r.on;
          back = place_kept r.number (other_than r.number r.object r.is_object) ∙ r.back;
        }
    | inr new ↦ record {
      number = o;
      leads = ap (lead next 0) (sym new.1) ∙ leads_to_new;
      object = object_of k b;
      is_object = at_new t b o home.number k p;
      dir = ap (λ d. is_dir (record (object_of k b) { kind = if d then kind.Dir else kind.File })) new.0;
      on = ap Some (on ∙ ap (fs_of fss) new.1);
      back = place_new ∙ new.1;
    }
  ]

  pub ways_after : Ways fss (before ++ b ∷ []) next
  ways_after = record { place = place_then; entries = entries_then; dirs = dirs_then }
