-- What the walks over chains say of the names of a directory.
use Rattle.std.proofs.Common.{◌≡◌, ℕ, ◌+◌, ◌<◌, true, false, List, [], length, find, get_or, Option, Some, None, option_map, refl, sym, ap, ◌∙◌, subst}
use Rattle.std.proofs.Common.{slice_get}
use Rattle.std.{specs.Option.option_map_or, proofs.lemmas.{List.{length-map, get_or_read}, Option.{slice_get-map, same_Some}}}
use Rattle.ix_links.{specs.{Chains.{Chains, chain_of}, Whole.IsPool}, proofs.{Held.held_once, Members.{member_at, place_of, passes}}}
use Rattle.ix_name.specs.{declared.entry.Entry.Entry, Directories.{Directories, names_of, under, AreDifferent}, Buckets.bucket_of}
use Rattle.ix_name.specs.{Entries.{entry_at, is_of, is_at, pair_of, pair_at, stands_in}, Indexed.{directories, AreIndexed}}
use Rattle.ix_name.proofs.{Filed.{names_of-lists, standing, stands, is_of_parts, is_of_from, same_refl, some_within}, Searched.{none_hashed, none_is, found_is}}
use Rattle.ix_name.proofs.Indexed.{dir_within, count_of}

-- an entry of a name at an index
record Hit (es : List (Option Entry)) (d : ℕ) (name : List ℕ) (i : ℕ) : Type 0 where
  entry : Entry
  is : entry_at es i ≡ Some entry
  its : is_of d name entry ≡ true

hit_at : (es : List (Option Entry)) (d : ℕ) (name : List ℕ) (i : ℕ) → is_at es d name i ≡ true → Hit es d name i
hit_at es d name i h = go (entry_at es i) refl h
  where
    go : (o : Option Entry) → entry_at es i ≡ o → option_map_or (is_of d name) o false ≡ true → Hit es d name i
    go None is said = absurd (cc said)
    go (Some e) is said = record { entry = e; is = is; its = said }

-- what was read at an index
read_at : (es : List (Option Entry)) (i : ℕ) (e : Entry) (x : Option Entry) → entry_at es i ≡ Some e → x ≡ get_or es i x → x ≡ Some e
read_at es i e x is read = get_or_read es i x (some_within es i e is) read None ∙ is

module _ (es : List (Option Entry)) (dirs buckets : Chains) (counts : List ℕ) (width : ℕ) (old : AreIndexed es dirs buckets counts width) (v : Directories) (shown : directories es dirs ≡ v) where
  names_are : (d : ℕ) → names_of (directories es dirs) d ≡ names_of v d
  names_are d = ap (λ w. names_of w d) shown

  -- a search in the bucket
  module _ (b d : ℕ) (name : List ℕ) (ws : List (Option Entry)) (home : b ≡ bucket_of width d name) (entries : ws ≡ es) where
    searched : find (is_at ws d name) (get_or buckets.chains b []) ≡ find (is_at es d name) (get_or buckets.chains (bucket_of width d name) [])
    searched = ap (λ us. find (is_at us d name) (get_or buckets.chains b [])) entries ∙ ap (λ k. find (is_at es d name) (get_or buckets.chains k [])) home

    pub missed : None ≡ find (is_at ws d name) (chain_of b buckets) → under name (names_of v d) ≡ None
    missed none = ap (under name) (sym (names_are d)) ∙ none_is es dirs.chains old.by_dir d name (none_hashed width buckets.chains es old.by_bucket d name (sym (none ∙ searched)))

    module _ (i : ℕ) (some : Some i ≡ find (is_at ws d name) (chain_of b buckets)) where
      hit : Hit es d name i
      hit = hit_at es d name i (passes (is_at es d name) (get_or buckets.chains (bucket_of width d name) []) i (sym (some ∙ searched)))

      pub hit_within : i < length es
      hit_within = some_within es i hit.entry hit.is

      pub hit_some : (x : Option Entry) → x ≡ get_or es i x → x ≡ None → ⊥
      hit_some x read none = cc (read_at es i hit.entry x hit.is read)

      module _ (x : Option Entry) (e : Entry) (read : x ≡ get_or es i x) (was : x ≡ Some e) where
        same_entry : hit.entry ≡ e
        same_entry = same_Some hit.entry e (sym (read_at es i hit.entry x hit.is read) ∙ was)

        pub hit_is : entry_at es i ≡ Some e
        hit_is = hit.is ∙ ap (λ a. Some a) same_entry

        pub hit_its : is_of d name e ≡ true
        hit_its = subst (λ a. is_of d name a ≡ true) same_entry hit.its

        pub hit_named : under name (names_of v d) ≡ Some e.obj.0
        hit_named = ap (under name) (sym (names_are d)) ∙ found_is es dirs.chains old.by_dir d name old.unique i e hit_is hit_its

  -- the names by place
  pair_in : (d k : ℕ) → slice_get (names_of (directories es dirs) d) k ≡ option_map (pair_at es) (slice_get (chain_of d dirs) k)
  pair_in d k = ap (λ (ps : List (List ℕ × ℕ)). slice_get ps k) (names_of-lists es dirs.chains d) ∙ slice_get-map (pair_at es) (chain_of d dirs) k

  held : (d k i : ℕ) → slice_get (chain_of d dirs) k ≡ Some i → (e : Entry) × ((entry_at es i ≡ Some e) × (e.dir ≡ d))
  held d k i h = standing (λ x. x.dir) dirs.chains es old.by_dir d i (member_at i k (chain_of d dirs) h)

  module _ (d k i : ℕ) (some : Some i ≡ slice_get (chain_of d dirs) k) where
    pub held_within : i < length es
    held_within = let e = held d k i (sym some) in some_within es i e.0 e.1.0

    pub held_some : (x : Option Entry) → x ≡ get_or es i x → x ≡ None → ⊥
    held_some x read none = let e = held d k i (sym some) in cc (read_at es i e.0 x e.1.0 read)

    pub held_named : (x : Option Entry) (e : Entry) → x ≡ get_or es i x → x ≡ Some e → slice_get (names_of v d) k ≡ Some (e.name, e.obj.0)
    held_named x e read was =
        let there = held d k i (sym some) in
        let is : entry_at es i ≡ Some e = there.1.0 ∙ sym (read_at es i there.0 x there.1.0 read) ∙ was in
        ap (λ (ps : List (List ℕ × ℕ)). slice_get ps k) (sym (names_are d)) ∙ pair_in d k ∙ ap (option_map (pair_at es)) (sym some) ∙ ap (λ (o : Option Entry). Some (pair_of o)) is

  pub counted : (d n : ℕ) → d < length v.lists → n ≡ get_or counts d n → n ≡ length (names_of v d)
  counted d n low read =
      count_of counts dirs old.counted d n (dir_within es dirs v shown d low) read ∙ sym (length-map (chain_of d dirs) (pair_at es)) ∙ ap length (sym (names_of-lists es dirs.chains d) ∙ names_are d)

  place_of_pair : (d k : ℕ) (p : List ℕ × ℕ) → slice_get (names_of (directories es dirs) d) k ≡ Some p → (i : ℕ) × (slice_get (chain_of d dirs) k ≡ Some i) × (pair_at es i ≡ p)
  place_of_pair d k p h = go (slice_get (chain_of d dirs) k) refl (sym (pair_in d k) ∙ h)
    where
      go : (o : Option ℕ) → slice_get (chain_of d dirs) k ≡ o → option_map (pair_at es) o ≡ Some p → (i : ℕ) × (slice_get (chain_of d dirs) k ≡ Some i) × (pair_at es i ≡ p)
      go None is said = absurd (cc said)
      go (Some i) is said = (i, is, (cc said))

  -- what stands behind an index that was found, in its chain, is an index of the pool
  pub behind_within : (b d : ℕ) (name : List ℕ) (ws : List (Option Entry)) → b ≡ bucket_of width d name → ws ≡ es → (i next : ℕ) → Some i ≡ find (is_at ws d name) (chain_of b buckets)
      → ((c k : ℕ) → slice_get (chain_of c dirs) k ≡ Some i → Some next ≡ slice_get (chain_of c dirs) (k + 1)) → next < length es
  behind_within b d name ws home entries i next some behind =
      let h = hit b d name ws home entries i some in
      let parts = is_of_parts d name h.entry h.its in
      let place = place_of i (chain_of d dirs) (ap (λ c. stands_in dirs.chains c i) (sym parts.0) ∙ stands (λ x. x.dir) dirs.chains es old.by_dir i h.entry h.is) in
      held_within d (place.0 + 1) next (behind d place.0 place.1)

  -- a name stands at a place of a directory exactly where an entry of it stands at that place of the chain
  record Named (d k : ℕ) (name : List ℕ) : Type 0 where
    index : ℕ
    at : slice_get (chain_of d dirs) k ≡ Some index
    entry : Entry
    is : entry_at es index ≡ Some entry
    dir : entry.dir ≡ d
    named : entry.name ≡ name

  named_in : (d k o : ℕ) (name : List ℕ) → slice_get (names_of (directories es dirs) d) k ≡ Some (name, o) → Named d k name
  named_in d k o name h =
      let x = place_of_pair d k (name, o) h in
      let e = held d k x.0 x.1 in
      record { index = x.0; at = x.1; entry = e.0; is = e.1.0; dir = e.1.1; named = ap (λ (p : Option Entry). (pair_of p).0) (sym e.1.0) ∙ ap (λ (p : List ℕ × ℕ). p.0) x.2 }

  named_at : (d k o : ℕ) (name : List ℕ) → slice_get (names_of v d) k ≡ Some (name, o) → Named d k name
  named_at d k o name h = named_in d k o name (ap (λ (ps : List (List ℕ × ℕ)). slice_get ps k) (names_are d) ∙ h)

  -- what stands behind a name in its directory
  module _ (b d : ℕ) (name : List ℕ) (ws : List (Option Entry)) (home : b ≡ bucket_of width d name) (entries : ws ≡ es) (k o : ℕ) (there : slice_get (names_of v d) k ≡ Some (name, o)) where
    its_entry : is_of d name (named_at d k o name there).entry ≡ true
    its_entry = let n = named_at d k o name there in is_of_from d name n.entry n.dir (rw n.named (same_refl name))

    pub behind_missed : None ≡ find (is_at ws d name) (chain_of b buckets) → ⊥
    behind_missed none =
        let n = named_at d k o name there in
        let never = none_hashed width buckets.chains es old.by_bucket d name (sym (none ∙ searched b d name ws home entries)) n.index n.entry n.is in
        cc (never, its_entry)

    pub behind_at : (i : ℕ) → Some i ≡ find (is_at ws d name) (chain_of b buckets) → slice_get (chain_of d dirs) k ≡ Some i
    behind_at i some =
        let n = named_at d k o name there in
        let h = hit b d name ws home entries i some in
        n.at ∙ ap (λ j. Some j) (sym (old.unique i n.index h.entry n.entry h.is n.is (rw (n.dir, n.named) h.its)))

  pub none_behind : (d k : ℕ) → slice_get (chain_of d dirs) k ≡ None → None ≡ slice_get (names_of v d) k
  none_behind d k none = sym (ap (λ (ps : List (List ℕ × ℕ)). slice_get ps k) (sym (names_are d)) ∙ pair_in d k ∙ ap (option_map (pair_at es)) none)

  different_here : IsPool dirs → (d : ℕ) → AreDifferent (names_of (directories es dirs) d)
  different_here pooled d i j a b at_i at_j same =
      let x = place_of_pair d i a at_i in
      let y = place_of_pair d j b at_j in
      let ex = held d i x.0 x.1 in
      let ey = held d j y.0 y.1 in
      let name_x : ex.0.name ≡ a.0 = ap (λ (o : Option Entry). (pair_of o).0) (sym ex.1.0) ∙ ap (λ (p : List ℕ × ℕ). p.0) x.2 in
      let name_y : ey.0.name ≡ b.0 = ap (λ (o : Option Entry). (pair_of o).0) (sym ey.1.0) ∙ ap (λ (p : List ℕ × ℕ). p.0) y.2 in
      let one : x.0 ≡ y.0 = old.unique x.0 y.0 ex.0 ey.0 ex.1.0 ey.1.0 (is_of_from ey.0.dir ey.0.name ex.0 (ex.1.1 ∙ sym ey.1.1) (rw (name_x, name_y) same)) in
      held_once dirs d i j y.0 pooled (x.1 ∙ ap (λ k. Some k) one) y.1

  pub different : IsPool dirs → (d : ℕ) → AreDifferent (names_of v d)
  different pooled d = subst AreDifferent (names_are d) (different_here pooled d)
