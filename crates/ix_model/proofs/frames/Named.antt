-- A name more, and a name fewer, in one directory.
use Rattle.std.proofs.Common.{◌≡◌, ◌≢◌, ◌<◌, ◌≤◌, ◌+◌, ◌==◌, ℕ, Bool, true, false, true≢false, not, ◌&&◌, ◌||◌, List, [], ◌∷◌, ◌++◌, map, sum, length, count_by, length-append}
use Rattle.std.proofs.Common.{cond, Option, Some, None, is_none, option_map, if◌then◌else◌, refl, sym, ap, ◌∙◌, subst, arith, inl, inr, length-set}
use Rattle.std.{specs.Option.option_map_or, proofs.lemmas.Bool.{Decides.eqb_tells, ltb-true, ne_eqb, eq-eqb}}
use Rattle.ix_model.specs.world.{Directories.{with_name, without_name, has_room_for_a_name}, Owners.{times_named, names_in_all}}
use Rattle.ix_model.specs.{world.World.{Frame, Object, at, change, is_file, is_dir, is_pipe, held}, rows.Walks.child, opening.Valid.all_differ}
use Rattle.ix_model.{specs.laws.Sound.{OpensSound, ProcessesSound, ClaimsSound, WithinLimits}, proofs.frames.{Frames.FrameSound, Awaiting.{NamesBut, LivesBut, Awaiting, arrived}}}
use Rattle.ix_model.proofs.tables.{Tables.seen_changed, Finds.{in_table, at_change, sum_put}, Labels.labels_object}
use Rattle.ix_model.proofs.tables.Listed.{Names, count_more, differ_more, others, count_out, differ_fewer, length_fewer}

-- an object with other names
abbrev pub renaming : (Names → Names) → Object → Object
renaming k y = record y { names = k y.names }

module _ (f : Frame) (d : ℕ) (x : Object) (is : at f.objects d ≡ Some x) (dir : is_dir x ≡ true) (k : Names → Names) where
  abbrev renamed : List (Option Object)
  renamed = change f.objects d (renaming k)

  -- a test that doesn't look at names
  sees : {B : Type 0} (F : Option Object → B) → ((y : Object) → F (Some (renaming k y)) ≡ F (Some y)) → (m : ℕ) → F (at renamed m) ≡ F (at f.objects m)
  sees F blind m = seen_changed F _ blind _ d m

  sum_renamed : (F : Option Object → ℕ) → sum (map F renamed) + F (Some x) ≡ sum (map F f.objects) + F (Some (renaming k x))
  sum_renamed F =
      let one = ap F is in
      let two = ap (λ y. F (option_map (renaming k) y)) is in
      omega (arith, one, two, sum_put F f.objects d (option_map (renaming k) (at f.objects d)) (in_table f.objects d x is))

  pub times_renamed : (m : ℕ) → times_named renamed m + count_by (λ n. n.1 == m) x.names ≡ times_named f.objects m + count_by (λ n. n.1 == m) (k x.names)
  times_renamed m = sum_renamed _

  pub names_in_renamed : names_in_all renamed + length x.names ≡ names_in_all f.objects + length (k x.names)
  names_in_renamed = sum_renamed _

  it_is : (y : Object) → at f.objects d ≡ Some y → x ≡ y
  it_is y here = let e = sym is ∙ here in cc

  -- what is said of the new list of names, of an object o
  module _ (o : ℕ) (named : (m : ℕ) → 0 < count_by (λ n. n.1 == m) (k x.names) → option_map_or (λ y. not (is_pipe y)) (at f.objects m) false ≡ true)
      (differ : all_differ (map (λ n. n.0) (k x.names)) ≡ true) (counts : (m : ℕ) → m ≢ o
      → count_by (λ n. n.1 == m) (k x.names) ≡ count_by (λ n. n.1 == m) x.names) (few : names_in_all renamed ≤ f.limits.names) where
    times_apart : (m : ℕ) → m ≢ o → times_named renamed m ≡ times_named f.objects m
    times_apart m other = omega (arith, times_renamed m, counts m other)

    names_renamed : NamesBut o f → NamesBut o (record f { objects = renamed })
    names_renamed n = record {
      root = sees (λ y. option_map_or is_dir y false) (λ y. refl) 0 ∙ n.root;
      in_directories = λ e y here other. elim (at_change _ d _ e y here) [
        | inl c ↦ absurd (true≢false (sym dir ∙ ap is_dir (it_is _ c.is_was) ∙ ap is_dir (sym c.same) ∙ other))
        | inr apart ↦ n.in_directories e y apart.1 other
      ];
      living = λ e m y here some. sees (λ z. option_map_or (λ y. not (is_pipe y)) z false) (λ z. refl) m ∙ elim (at_change _ d _ e y here) [
        | inl c ↦
            let list = ap (λ z. z.names) c.same ∙ ap (λ z. k z.names) (sym (it_is _ c.is_was)) in
            named m (subst (λ ns. 0 < count_by (λ n. n.1 == m) ns) list some)
        | inr apart ↦ n.living e m y apart.1 some
      ];
      differ = λ e y here. elim (at_change _ d _ e y here) [
        | inl c ↦ ap (λ z. all_differ (map (λ n. n.0) z.names)) c.same ∙ ap (λ z. all_differ (map (λ n. n.0) (k z.names))) (sym (it_is _ c.is_was)) ∙ differ
        | inr apart ↦ n.differ e y apart.1
      ];
      once = λ m y other here is_d. times_apart m other ∙ elim (at_change _ d _ m y here) [
        | inl c ↦ n.once m c.was other (ap (at f.objects) c.here ∙ c.is_was) (ap is_dir (sym c.same) ∙ is_d)
        | inr apart ↦ n.once m y other apart.1 is_d
      ];
    }

    lives_renamed : LivesBut o f → LivesBut o (record f { objects = renamed })
    lives_renamed l = record {
      file = λ m y other here kind. ap (λ t. not (t == 0) || held f.opens m 0) (times_apart m other) ∙ elim (at_change _ d _ m y here) [
        | inl c ↦ l.file m c.was other (ap (at f.objects) c.here ∙ c.is_was) (ap is_file (sym c.same) ∙ kind)
        | inr apart ↦ l.file m y other apart.1 kind
      ];
      pipe = λ m y other here kind. elim (at_change _ d _ m y here) [
        | inl c ↦ l.pipe m c.was other (ap (at f.objects) c.here ∙ c.is_was) (ap is_pipe (sym c.same) ∙ kind)
        | inr apart ↦ l.pipe m y other apart.1 kind
      ];
    }

    opens_renamed : OpensSound f → OpensSound (record f { objects = renamed })
    opens_renamed r = record {
      descriptor = r.descriptor;
      owned = r.owned;
      target = λ e y here. sees (λ z. option_map_or (λ y. not (is_dir y)) z false) (λ z. refl) y.object ∙ r.target e y here;
      end = λ e y here. ap (λ b. y.end == 0 || y.end == 1 && b) (sees (λ z. option_map_or is_pipe z false) (λ z. refl) y.object) ∙ r.end e y here;
    }

    processes_renamed : ProcessesSound f → ProcessesSound (record f { objects = renamed })
    processes_renamed r = record { none = r.none; home = λ p q lives. sees (λ z. option_map_or is_dir z false) (λ z. refl) q.cwd ∙ r.home p q lives; parent = r.parent; descriptors = r.descriptors }

    claims_renamed : ClaimsSound f → ClaimsSound (record f { objects = renamed })
    claims_renamed r = record {
      claimant = λ m end p y here claim. elim (at_change _ d _ m y here) [
        | inl c ↦ r.claimant m end p c.was (ap (at f.objects) c.here ∙ c.is_was) (ap (λ z. at z.claims end) (sym c.same) ∙ claim)
        | inr apart ↦ r.claimant m end p y apart.1 claim
      ];
    }

    limits_renamed : WithinLimits f → WithinLimits (record f { objects = renamed })
    limits_renamed l = record {
      objects = length-set f.objects d _ ∙ l.objects;
      pipes = λ m y here. elim (at_change _ d _ m y here) [
        | inl c ↦ ap (λ z. is_none z.fs) c.same ∙ l.pipes m c.was (ap (at f.objects) c.here ∙ c.is_was) ∙ ap is_pipe (sym c.same)
        | inr apart ↦ l.pipes m y apart.1
      ];
      past = λ m y here kind. elim (at_change _ d _ m y here) [
        | inl c ↦ l.past m c.was (ap (at f.objects) c.here ∙ c.is_was) (ap is_pipe (sym c.same) ∙ kind)
        | inr apart ↦ l.past m y apart.1 kind
      ];
      numbers = λ m j y here on. elim (at_change _ d _ m y here) [
        | inl c ↦ l.numbers m j c.was (ap (at f.objects) c.here ∙ c.is_was) (ap (λ z. z.fs) (sym c.same) ∙ on)
        | inr apart ↦ l.numbers m j y apart.1 on
      ];
      opens = l.opens;
      processes = l.processes;
      names = few;
      log = l.log;
    }

    pub awaiting_renamed : Awaiting o f → Awaiting o (record f { objects = renamed })
    awaiting_renamed s = record {
      labels = labels_object f s.labels d _ (λ y here. s.labels.objects d y here);
      names = names_renamed s.names;
      lives = lives_renamed s.lives;
      opens = opens_renamed s.opens;
      processes = processes_renamed s.processes;
      claims = claims_renamed s.claims;
      limits = limits_renamed s.limits;
    }

-- ---- a name more
found_none : (o : Option (List ℕ × ℕ)) → option_map (λ e. e.1) o ≡ None → o ≡ None
found_none None h = refl
found_none (Some e) h = cc

module _ (f : Frame) (d o : ℕ) (x y : Object) (name : List ℕ) (is : at f.objects d ≡ Some x) (dir : is_dir x ≡ true) (there : at f.objects o ≡ Some y)
    (no_pipe : is_pipe y ≡ false) (absent : child x name ≡ None) (room : has_room_for_a_name f ≡ true) where
  abbrev more : Names → Names
  more es = es ++ (name, o) ∷ []

  few_more : names_in_all (change f.objects d (with_name name o)) ≤ f.limits.names
  unfolding has_room_for_a_name
  few_more =
      let low = ltb-true _ f.limits.names room in
      let n = names_in_renamed f d x is dir more in
      omega (arith, n, low, length-append x.names ((name, o) ∷ []))

  names_it : Awaiting o f → (m : ℕ) → 0 < count_by (λ n. n.1 == m) (more x.names) → option_map_or (λ z. not (is_pipe z)) (at f.objects m) false ≡ true
  names_it s m some = elim (eqb_tells o m) [
    | inl same ↦ ap (λ n. option_map_or (λ z. not (is_pipe z)) (at f.objects n) false) (sym same.1) ∙ ap (λ z. option_map_or (λ z. not (is_pipe z)) z false) there ∙ ap not no_pipe
    | inr other ↦
        let zero_more : cond {A = ℕ} (o == m) 1 0 ≡ 0 = ap (λ b. cond b 1 0) other.0 in
        s.names.living d m x is (omega (arith, count_more m o name x.names, zero_more, some))
  ]

  counts_apart : (m : ℕ) → m ≢ o → count_by (λ n. n.1 == m) (more x.names) ≡ count_by (λ n. n.1 == m) x.names
  counts_apart m other =
      let zero_more : cond {A = ℕ} (o == m) 1 0 ≡ 0 = ap (λ b. cond b 1 0) (ne_eqb o m (λ e. other (sym e))) in
      omega (arith, count_more m o name x.names, zero_more)

  -- the object has that name, and whatever it needs to be named for
  pub named_sound : Awaiting o f → (is_dir y ≡ true → (times_named f.objects o ≡ 0) × (o ≢ 0)) → FrameSound (record f { objects = change f.objects d (with_name name o) })
  named_sound s fresh =
      let one_more : cond {A = ℕ} (o == o) 1 0 ≡ 1 = ap (λ b. cond {A = ℕ} b 1 0) (eq-eqb o o refl) in
      let times : times_named (change f.objects d (with_name name o)) o ≡ times_named f.objects o + 1 = omega (arith, times_renamed f d x is dir more o, count_more o o name x.names, one_more) in
      let same_kind : (F : Option Object → Bool) → ((z : Object) → F (Some (renaming more z)) ≡ F (Some z))
      → F (at (change f.objects d (with_name name o)) o) ≡ F (Some y) = λ F blind. seen_changed F (renaming more) blind f.objects d o ∙ ap F there in
      arrived o _ (awaiting_renamed f d x is dir more o (names_it s) (differ_more x.names name o (s.names.differ d x is) (found_none _ absent)) counts_apart few_more s)
      (record {
        once = λ z here is_d.
            let was_dir : is_dir y ≡ true = sym (same_kind (λ t. option_map_or is_dir t false) (λ t. refl)) ∙ ap (λ t. option_map_or is_dir t false) here ∙ is_d in
            let p = fresh was_dir in
            let none : times_named f.objects o ≡ 0 = p.0 in
            let total : times_named (change f.objects d (with_name name o)) o ≡ 1 = omega (arith, times, none) in
            total ∙ sym (ap (λ b. if b then 0 else 1) (ne_eqb o 0 p.1));
        file = λ z here kind.
            let some : (times_named (change f.objects d (with_name name o)) o == 0) ≡ false = ne_eqb _ 0 (λ e. absurd (omega (arith, times, e))) in
            ap (λ b. not b || held f.opens o 0) some;
        pipe = λ z here kind. absurd (true≢false (sym kind ∙ sym (ap (λ t. option_map_or is_pipe t false) here) ∙ same_kind (λ t. option_map_or is_pipe t false) (λ t. refl) ∙ no_pipe));
      })

-- ---- a name fewer
module _ (f : Frame) (d o : ℕ) (x : Object) (name : List ℕ) (is : at f.objects d ≡ Some x) (dir : is_dir x ≡ true) (leads : child x name ≡ Some o) where
  abbrev fewer : Names → Names
  fewer es = others name es

  counted : NamesBut o f → (m : ℕ) → count_by (λ n. n.1 == m) (fewer x.names) + cond {A = ℕ} (o == m) 1 0 ≡ count_by (λ n. n.1 == m) x.names
  counted n m = count_out name o m x.names (n.differ d x is) leads

  -- it is named once less
  pub times_fewer : NamesBut o f → times_named (change f.objects d (without_name name)) o + 1 ≡ times_named f.objects o
  times_fewer n =
      let one_less : cond {A = ℕ} (o == o) 1 0 ≡ 1 = ap (λ b. cond b 1 0) (eq-eqb o o refl) in
      omega (arith, times_renamed f d x is dir fewer o, counted n o, one_less)

  pub unnamed : Awaiting o f → Awaiting o (record f { objects = change f.objects d (without_name name) })
  unnamed s =
      let few = names_in_renamed f d x is dir fewer in
      awaiting_renamed f d x is dir fewer o
      (λ m some. s.names.living d m x is (omega (arith, counted s.names m, some)))
      (differ_fewer name x.names (s.names.differ d x is))
      (λ m other.
      let zero_less : cond {A = ℕ} (o == m) 1 0 ≡ 0 = ap (λ b. cond {A = ℕ} b 1 0) (ne_eqb o m (λ e. other (sym e))) in
      omega (arith, counted s.names m, zero_less))
      (omega (arith, few, length_fewer name x.names, s.limits.names)) s
