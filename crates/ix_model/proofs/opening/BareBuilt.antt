-- What holds of the objects before any line.
use Rattle.std.proofs.Common.{◌≡◌, ◌<◌, ◌≤◌, ◌+◌, ◌==◌, ℕ, zero, suc, Bool, true, false, true≢false, not, List, [], ◌∷◌, ◌++◌, length, length-set, map, subst, arith, inr}
use Rattle.std.proofs.Common.{sum, drop, count_by, find, replicate, if◌then◌else◌, Option, Some, None, is_some, option_map, unwrap_or, refl, sym, ap, ◌∙◌, inl}
use Rattle.std.{specs.{Option.{option_map_or, option_and_then}, List.{list_any, list_all, sum_by}}, proofs.lemmas.Bool.{and_parts, or_cases, or_left, ne_eqb}}
use Rattle.std.proofs.lemmas.{List.{length-replicate, Sums.{sum-map, sum_by-set}}, Iterator.Adapters.position_from-zero}
use Rattle.ix_label.specs.Lattice.{bottom-leq}
use Rattle.ix_model.specs.world.{Naming.{same_bytes, same_names}, World.{fs_at, Object, Holding, at, is_file, is_dir, is_pipe}, Numbers.first_inode}
use Rattle.ix_model.specs.{world.{Contents.holds_nothing, Owners.times_named}, declared.config.{FsSpec.FsSpec, Limits.Limits}}
use Rattle.ix_model.{specs.rows.{Walks.{nothing, node, child}, Telling.{blocks_for, blocks_where}}, proofs.tables.{Alike.names_are, Inodes.{first-cons, first_next, one_fs, filled_one}}}
use Rattle.ix_model.specs.opening.{Opening.{root_of, mounts}, Valid.{all_differ, fs_fits, fs_of, is_mount, is_taken, has_directory}}
use Rattle.ix_model.proofs.opening.{Openings.all_one, Built.{Fits, Named, DirAt, Ways, is_on_fs, Counted, Held, Built}, NamesPlaced.sum_nothing}
use Rattle.ix_model.proofs.opening.Bare.{some_inodes, roots, length-roots, root_at, is_root, with_mounts, bare_table, at_first, at_others, each_root}
use Rattle.ix_model.proofs.opening.Mounts.{length-mounts, mounts_names, mounts_any, mounts_past, mounts_without, mounts_once, mount_at, mounted}

-- ---- the further file systems
pub first_split : (fss : List FsSpec) (k : ℕ) → 0 < length fss → first_inode fss (suc k) ≡ first_inode fss 1 + first_inode (drop 1 fss) k
first_split [] k some = absurd (omega arith)
first_split (s ∷ ms) k some = omega (arith, first-cons s ms k, first-cons s ms 0)

pub further_fit : (fss : List FsSpec) → list_all fs_fits fss ≡ true → list_all fs_fits (drop 1 fss) ≡ true
further_fit [] fit = refl
further_fit (s ∷ ms) fit = (and_parts _ _ fit).1

further_differ : (fss : List FsSpec) → all_differ (map (λ s. s.name) fss) ≡ true → all_differ (map (λ s. s.name) (drop 1 fss)) ≡ true
further_differ [] differ = refl
further_differ (s ∷ ms) differ = (and_parts (not (list_any _ (map (λ t. t.name) ms))) (all_differ (map (λ t. t.name) ms)) differ).1

length-further : (fss : List FsSpec) → 0 < length fss → suc (length (drop 1 fss)) ≡ length fss
length-further [] some = absurd (omega arith)
length-further (s ∷ ms) some = refl

-- ---- holdings
blocks_of_nothing : (p : ℕ → Bool) (m n : ℕ) → blocks_where p m (replicate n holds_nothing) ≡ 0
blocks_of_nothing p m zero = refl
blocks_of_nothing p m (suc n) =
    let first = go (p m) in
    omega (arith, blocks_of_nothing p (suc m) n)
  where
    go : (b : Bool) → (if b then blocks_for (length holds_nothing.first) else 0) ≡ 0
    go true = refl
    go false = refl

module _ (fss : List FsSpec) (l : Limits) (fit : list_all fs_fits fss ≡ true) (some : 0 < length fss) (names : all_differ (map (λ s. s.name) fss) ≡ true) (few : length fss ≤ suc l.names) where
  abbrev table : List (Option Object)
  table = bare_table fss l.pipes

  abbrev named : List (List ℕ × ℕ)
  named = mounts (first_inode fss 1) (drop 1 fss)

  first_some : 1 ≤ first_inode fss 1
  first_some = omega (arith, first_next fss 0, some_inodes fss 0 fit some)

  past_first : (k : ℕ) → 0 < first_inode fss (suc k)
  past_first k = omega (arith, first_split fss k some, first_some)

  root_there : (k : ℕ) → suc k < length fss → at table (first_inode fss (suc k)) ≡ Some (root_of (suc k))
  root_there k low = at_others _ _ fit some _ (λ e. absurd (omega (arith, past_first k)))
      ∙ root_at 0 _ _ _ fit low ∙ ap (λ n. Some (root_of n)) (omega arith)

  each : (P : ℕ → Object → Type 0) → P 0 (with_mounts fss (root_of 0)) → ((k : ℕ) → suc k < length fss → P (first_inode fss (suc k)) (root_of (suc k)))
      → (o : ℕ) (x : Object) → at table o ≡ Some x → P o x
  each P first others = each_root _ _ fit some P first others

  -- ---- each object by itself
  bare_fits : (o : ℕ) (x : Object) → at table o ≡ Some x → Fits fss o x
  bare_fits = each _
      (record { low = bottom-leq _; no_pipe = refl; unclaimed = refl; fs = 0; is_fs = refl; from = omega arith; to = omega (arith, some_inodes fss 0 fit some) })
      (λ k low. record { low = bottom-leq _; no_pipe = refl; unclaimed = refl; fs = suc k; is_fs = refl; from = omega arith; to = omega (arith, some_inodes fss (suc k) fit low) })

  -- ---- names
  -- a sum over the table is what the first root counts
  sum_bare : (F : Option Object → ℕ) → F None ≡ 0 → ((k : ℕ) → F (Some (root_of k)) ≡ 0) → sum (map F table) ≡ F (Some (with_mounts fss (root_of 0)))
  sum_bare F none empty =
      let u : List (Option Object) = roots 0 fss l.pipes in
      let old : at u 0 ≡ Some (root_of 0) = root_at 0 fss l.pipes 0 fit some in
      let low : 0 < length u = omega (arith, length-roots 0 fss l.pipes fit, first_next fss 0, some_inodes fss 0 fit some, long (length fss) some) in
      let changed : sum_by F table + F (at u 0) ≡ sum_by F u + F (option_map (with_mounts fss) (at u 0)) = sum_by-set F u 0 (option_map (with_mounts fss) (at u 0)) None low in
      let was : F (at u 0) ≡ 0 = ap F old ∙ empty 0 in
      let now : F (option_map (with_mounts fss) (at u 0)) ≡ F (Some (with_mounts fss (root_of 0))) = ap (λ x. F (option_map (with_mounts fss) x)) old in
      let before : sum (map F u) ≡ 0 = sum_nothing F u (λ m. go m (at u m) refl) in
      omega (arith, sum-map F table, sum-map F u)
    where
      long : (n : ℕ) → 0 < n → 1 ≤ first_inode fss n
      long zero h = absurd (omega arith)
      long (suc k) h = past_first k

      go : (m : ℕ) (x : Option Object) → at (roots 0 fss l.pipes) m ≡ x → F x ≡ 0
      go m None is = none
      go m (Some x) is = let r = is_root 0 _ _ m x fit is in ap (λ y. F (Some y)) r.root ∙ empty (0 + r.place)

  times_bare : (q : ℕ) → times_named table q ≡ count_by (λ n. n.1 == q) named
  times_bare q = sum_bare _ refl (λ k. refl)

  further_low : (k : ℕ) → suc k < length fss → k < length (drop 1 fss)
  further_low k low = omega (arith, length-further fss some)

  root_named_once : (k : ℕ) → suc k < length fss → times_named table (first_inode fss (suc k)) ≡ 1
  root_named_once k low =
      ap (times_named table) (first_split _ k some)
      ∙ times_bare _
      ∙ mounts_once _ _ k (further_fit fss fit) (further_low k low)

  named_root : (q : ℕ) → 0 < count_by (λ n. n.1 == q) named → option_map_or (λ y. not (is_pipe y)) (at table q) false ≡ true
  named_root q h =
      let r = mount_at _ _ q h in
      ap (λ x. option_map_or (λ y. not (is_pipe y)) x false) (ap (at table) (r.is ∙ sym (first_split _ _ some)) ∙ root_there _ (omega (arith, r.low, length-further fss some)))

  bare_named : Named table
  bare_named = record {
    root = ap (λ x. option_map_or is_dir x false) (at_first fss l.pipes fit some);
    in_directories = each (λ o x. is_dir x ≡ false → x.names ≡ []) (λ h. absurd (true≢false h)) (λ k low h. refl);
    living = λ m q x is. each (λ m x. 0 < count_by (λ n. n.1 == q) x.names → option_map_or (λ y. not (is_pipe y)) (at table q) false ≡ true) (named_root q) (λ k low h. absurd (omega arith)) m x is;
    differ = each (λ o x. all_differ (map (λ n. n.0) x.names) ≡ true) (ap all_differ (mounts_names (first_inode fss 1) (drop 1 fss)) ∙ further_differ fss names) (λ k low. refl);
    once = each (λ o x. is_dir x ≡ true → times_named table o ≡ (if o == 0 then 0 else 1))
        (λ h. times_bare 0 ∙ mounts_past (drop 1 fss) (first_inode fss 1) 0 first_some)
        (λ k low h. root_named_once k low ∙ sym (ap (λ b. if b then 0 else 1) (ne_eqb (first_inode fss (suc k)) 0 (λ e. absurd (omega (arith, past_first k))))));
    files = each (λ o x. is_file x ≡ true → 0 < times_named table o) (λ h. absurd (true≢false (sym h))) (λ k low h. absurd (true≢false (sym h)));
  }

  -- ---- paths
  place_bare : ℕ → List (List ℕ)
  place_bare o = option_map_or (λ name. name ∷ []) (option_map (λ e. e.0) (find (λ e. e.1 == o) named)) []

  place_root : place_bare 0 ≡ []
  unfolding place_bare
  place_root = ap (λ x. option_map_or (λ name. name ∷ []) (option_map (λ e. e.0) x) []) (mounts_without _ _ 0 first_some)

  entries_bare : (d : ℕ) (x : Object) (name : List ℕ) → at table d ≡ Some x → list_any (λ e. same_bytes e.0 name) x.names ≡ true → is_taken fss [] (place_bare d ++ name ∷ []) ≡ true
  entries_bare d x name is = each (λ d x. list_any (λ e. same_bytes e.0 name) x.names ≡ true → is_taken fss [] (place_bare d ++ name ∷ []) ≡ true)
      (λ h. ap (λ p. is_taken fss [] (p ++ name ∷ [])) place_root ∙ or_left _ _ (mounts_any (first_inode fss 1) (drop 1 fss) name h))
      (λ k low h. absurd (true≢false (sym h)))
      d x is

  root_dir : (p : List (List ℕ)) → same_names [] p ≡ true → DirAt fss table place_bare p
  root_dir p h =
      let none = names_are [] p h in
      subst (λ q. DirAt fss table place_bare q) none (record {
        number = 0;
        leads = refl;
        object = with_mounts fss (root_of 0);
        is_object =
            at_first _ _ fit some;
        dir = refl;
        on = refl;
        back = place_root;
      })

  mount_dir : (p : List (List ℕ)) → is_mount fss p ≡ true → DirAt fss table place_bare p
  unfolding place_bare
  mount_dir p h =
      let r = mounted (drop 1 fss) p (first_inode fss 1) 0 (further_fit fss fit) h in
      let low : suc r.place < length fss = omega (arith, r.low, length-further fss some) in
      let number : first_inode fss 1 + first_inode (drop 1 fss) r.place ≡ first_inode fss (suc r.place) = sym (first_split fss r.place some) in
      let child_is : child (node table 0) r.name ≡ Some (first_inode fss (suc r.place)) =
      ap (λ x. child (unwrap_or x nothing) r.name) (at_first fss l.pipes fit some) ∙ r.child ∙ ap Some number in
      let on : Some (suc r.place) ≡ Some (fs_of fss (r.name ∷ [])) =
      ap Some (omega arith) ∙ sym (ap (λ o. Some (option_map_or suc o 0)) (position_from-zero (λ (s : FsSpec). same_bytes s.name r.name) (drop 1 fss) ∙ r.found)) in
      subst (λ (q : List (List ℕ)). DirAt fss table place_bare q) (sym r.is) (record {
        number = first_inode fss (suc r.place);
        leads = ap (option_and_then (λ m. Some m)) child_is;
        object = root_of (suc r.place);
        is_object = root_there r.place low;
        dir = refl;
        on = on;
        back = ap (λ o. option_map_or (λ name. name ∷ []) (option_map (λ (e : List ℕ × ℕ). e.0) (find (λ e. e.1 == o) named)) []) (sym number)
            ∙ ap (λ x. option_map_or (λ name. name ∷ []) x []) r.back;
      })

  bare_ways : Ways fss [] table
  bare_ways = record { place = place_bare; entries = entries_bare; dirs = dirs }
    where
      dirs : (p : List (List ℕ)) → has_directory fss [] p ≡ true → DirAt fss table place_bare p
      dirs p h = elim (or_cases _ _ h) [
        | inl there ↦ elim (or_cases _ _ there) [
          | inl root ↦ root_dir p root
          | inr mount ↦ mount_dir p mount
        ]
        | inr none ↦ absurd (true≢false (sym none))
      ]

  -- ---- counts
  gap : (k m : ℕ) → first_inode fss k < m → m < first_inode fss k + (fs_at fss k).inodes → is_some (at table m) ≡ false
  gap k m from to = ap is_some (at_others _ _ fit some m (λ e. absurd (omega arith))) ∙ go _ refl
    where
      go : (x : Option Object) → at (roots 0 fss l.pipes) m ≡ x → is_some x ≡ false
      go None is = refl
      go (Some x) is =
          let r = is_root 0 _ _ m x fit is in
          let same = one_fs _ _ k m (omega (arith, r.is)) (omega (arith, r.is, some_inodes fss r.place fit r.low)) (omega arith) to in
          let first = r.is ∙ ap (first_inode fss) same in
          absurd (omega arith)

  bare_counted : Counted fss l [] table (replicate (length table) holds_nothing)
  bare_counted = record {
    long = length-set (roots 0 fss l.pipes) 0 _ ∙ length-roots 0 fss l.pipes fit;
    room = length-replicate {A = Holding} (length table) holds_nothing;
    short = λ o. subst (λ (h : Holding). length h.first ≤ 1048576) (sym (all_one holds_nothing (length table) o)) (omega arith);
    names = omega (arith, sum_bare (λ x. option_map_or (λ y. length y.names) x 0) refl (λ k. refl), length-mounts (first_inode fss 1) (drop 1 fss), length-further fss some);
    few = omega (arith, few);
    taken = λ k. omega (arith, filled_one table (first_inode fss k) (fs_at fss k).inodes (gap k));
    blocks = λ k. omega (arith, blocks_of_nothing (is_on_fs table k) 0 (length table));
    within = λ k. omega arith;
  }

  bare_held : Held table (replicate (length table) holds_nothing)
  bare_held = record {
    directory = λ o x is dir. ap (λ h. h.first) (all_one holds_nothing _ o);
    second = λ o. ap (λ h. h.second) (all_one holds_nothing _ o);
  }

  pub bare_built : Built fss l [] table (replicate (length table) holds_nothing)
  bare_built = record { fits = bare_fits; named = bare_named; ways = bare_ways; counted = bare_counted; held = bare_held }
