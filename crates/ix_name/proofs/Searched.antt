-- A search among the indices of a chain, and what a directory has under a name.
use Rattle.std.proofs.Common.{◌≡◌, ◌==◌, ℕ, Bool, true, false, List, [], ◌∷◌, map, find, Option, Some, None, option_map, refl, sym, ap, ◌∙◌, get_or}
use Rattle.std.{specs.{Option.option_map_or, Cmp.Lexicographic.same_text}, proofs.{lemmas.Bool.{eqb-true, eq-eqb}, Math.Bool.or-true}}
use Rattle.ix_name.specs.{Buckets.{bucket_of, bucket_in}, Directories.under, declared.entry.Entry.Entry}
use Rattle.ix_name.specs.Entries.{entry_at, is_of, pair_of, pair_at, lists_of, stands_in, AreFiled, AreUnique}
use Rattle.ix_model.specs.world.Naming.{same_bytes}
use Rattle.ix_links.proofs.Members.{member, none_found}
use Rattle.ix_name.proofs.Filed.{names_of-lists, standing, stands, is_of_parts, is_of_from}

find_one : (p : ℕ → Bool) (i : ℕ) (xs : List ℕ) → member i xs ≡ true → p i ≡ true → ((j : ℕ) → member j xs ≡ true → p j ≡ true → j ≡ i) → find p xs ≡ Some i
find_one p i [] there yes_ one = absurd (cc there)
find_one p i (x ∷ xs) there yes_ one = go (p x) refl (x == i) refl there (λ rest. find_one p i xs rest yes_ (λ j h. one j (rw h (or-true (x == j)))))
  where
    go : (b : Bool) → p x ≡ b → (s : Bool) → (x == i) ≡ s → member i (x ∷ xs) ≡ true → (member i xs ≡ true → find p xs ≡ Some i) → find p (x ∷ xs) ≡ Some i
    go true is s h t rest = rw is (ap (λ k. Some k) (one x (rw (eq-eqb x x refl) refl) is))
    go false is true h t rest = absurd (cc (is, yes_, ap p (eqb-true x i h)))
    go false is false h t rest = rw is (rest (rw h at t))

find_none : (p : ℕ → Bool) (xs : List ℕ) → ((j : ℕ) → member j xs ≡ true → p j ≡ false) → find p xs ≡ None
find_none p [] never = refl
find_none p (x ∷ xs) never = rw (never x (rw (eq-eqb x x refl) refl), find_none p xs (λ j h. never j (rw h (or-true (x == j))))) refl

-- the object under a name, by a search among the indices
under_by : (es : List (Option Entry)) (name : List ℕ) (xs : List ℕ) → under name (map (pair_at es) xs) ≡ option_map (λ i. (pair_at es i).1) (find (λ i. same_bytes (pair_at es i).0 name) xs)
under_by es name [] = refl
under_by es name (x ∷ xs) = go (same_bytes (pair_at es x).0 name) refl (under_by es name xs)
  where
    go : (b : Bool) → same_bytes (pair_at es x).0 name ≡ b
        → under name (map (pair_at es) xs) ≡ option_map (λ i. (pair_at es i).1) (find (λ i. same_bytes (pair_at es i).0 name) xs)
        → under name (map (pair_at es) (x ∷ xs)) ≡ option_map (λ i. (pair_at es i).1) (find (λ i. same_bytes (pair_at es i).0 name) (x ∷ xs))
    go true is rest = rw is refl
    go false is rest = rw is rest

module _ (es : List (Option Entry)) (chains : List (List ℕ)) (old : AreFiled (λ x. x.dir) chains es) (d : ℕ) (name : List ℕ) where
  -- an entry of the name is what the directory has under it
  pub found_is : AreUnique es → (i : ℕ) (e : Entry) → entry_at es i ≡ Some e → is_of d name e ≡ true → under name (get_or (lists_of es chains) d []) ≡ Some e.obj.0
  found_is unique i e is its =
      let parts = is_of_parts d name e its in
      let pair : pair_at es i ≡ (e.name, e.obj.0) = ap pair_of is in
      let there : member i (get_or chains d []) ≡ true = ap (λ c. stands_in chains c i) (sym parts.0) ∙ stands (λ x. x.dir) chains es old i e is in
      let hit : same_bytes (pair_at es i).0 name ≡ true = ap (λ (p : List ℕ × ℕ). same_bytes p.0 name) pair ∙ parts.1 in
      let first : find (λ k. same_bytes (pair_at es k).0 name) (get_or chains d []) ≡ Some i = find_one (λ k. same_bytes (pair_at es k).0 name) i (get_or chains d []) there hit one in
      ap (under name) (names_of-lists es chains d) ∙ under_by es name (get_or chains d []) ∙ ap (option_map (λ k. (pair_at es k).1)) first ∙ ap (λ (p : List ℕ × ℕ). Some p.1) pair
    where
      one : (j : ℕ) → member j (get_or chains d []) ≡ true → same_bytes (pair_at es j).0 name ≡ true → j ≡ i
      one j in_chain same =
          let found = standing (λ x. x.dir) chains es old d j in_chain in
          let parts = is_of_parts d name e its in
          let named : same_bytes found.0.name name ≡ true = ap (λ (o : Option Entry). same_bytes (pair_of o).0 name) (sym found.1.0) ∙ same in
          let alike_names : same_bytes found.0.name e.name ≡ true = ap (same_bytes found.0.name) (same_text e.name name (sym parts.1)) ∙ named in
          unique j i found.0 e found.1.0 is (is_of_from e.dir e.name found.0 (found.1.1 ∙ sym parts.0) alike_names)

  -- with no entry of the name the directory has nothing under it, and the other way round
  pub none_is : ((j : ℕ) (a : Entry) → entry_at es j ≡ Some a → is_of d name a ≡ false) → under name (get_or (lists_of es chains) d []) ≡ None
  none_is absent = ap (under name) (names_of-lists es chains d) ∙ under_by es name (get_or chains d [])
      ∙ ap (option_map (λ k. (pair_at es k).1)) (find_none (λ k. same_bytes (pair_at es k).0 name) (get_or chains d []) never)
    where
      never : (j : ℕ) → member j (get_or chains d []) ≡ true → same_bytes (pair_at es j).0 name ≡ false
      never j in_chain =
          let found = standing (λ x. x.dir) chains es old d j in_chain in
          ap (λ (o : Option Entry). same_bytes (pair_of o).0 name) found.1.0
          ∙ go found.0 (same_bytes found.0.name name) refl (absent j found.0 found.1.0) found.1.1
        where
          go : (a : Entry) (b : Bool) → same_bytes a.name name ≡ b → is_of d name a ≡ false → a.dir ≡ d → same_bytes a.name name ≡ false
          go a false is h at = is
          go a true is h at = absurd (cc (h, is_of_from d name a at is))

  pub none_of : under name (get_or (lists_of es chains) d []) ≡ None → (j : ℕ) (a : Entry) → entry_at es j ≡ Some a → is_of d name a ≡ false
  none_of none j a is = go (is_of d name a) refl
    where
      searched : find (λ k. same_bytes (pair_at es k).0 name) (get_or chains d []) ≡ None
      searched = nothing (find (λ k. same_bytes (pair_at es k).0 name) (get_or chains d [])) (sym (ap (under name) (names_of-lists es chains d) ∙ under_by es name (get_or chains d [])) ∙ none)
        where
          nothing : (o : Option ℕ) → option_map (λ k. (pair_at es k).1) o ≡ None → o ≡ None
          nothing None h = refl
          nothing (Some k) h = absurd (cc h)

      go : (b : Bool) → is_of d name a ≡ b → is_of d name a ≡ false
      go false h = h
      go true h =
          let parts = is_of_parts d name a h in
          let there : member j (get_or chains d []) ≡ true = ap (λ c. stands_in chains c j) (sym parts.0) ∙ stands (λ x. x.dir) chains es old j a is in
          let miss = none_found (λ k. same_bytes (pair_at es k).0 name) (get_or chains d []) j searched there in
          absurd (cc (miss, parts.1, is))

-- a search of the bucket finds every entry of the name
pub none_hashed : (n : ℕ) (buckets : List (List ℕ)) (es : List (Option Entry)) → AreFiled (bucket_in n) buckets es → (d : ℕ) (name : List ℕ)
    → find (λ i. option_map_or (is_of d name) (entry_at es i) false) (get_or buckets (bucket_of n d name) []) ≡ None → (j : ℕ) (a : Entry)
    → entry_at es j ≡ Some a → is_of d name a ≡ false
none_hashed n buckets es old d name none j a is = go (is_of d name a) refl
  where
    go : (b : Bool) → is_of d name a ≡ b → is_of d name a ≡ false
    go false h = h
    go true h =
        let parts = is_of_parts d name a h in
        let home : bucket_in n a ≡ bucket_of n d name = ap (λ k. bucket_of n k a.name) parts.0 ∙ ap (bucket_of n d) (same_text a.name name (sym parts.1)) in
        let there : member j (get_or buckets (bucket_of n d name) []) ≡ true = ap (λ c. stands_in buckets c j) (sym home) ∙ stands (bucket_in n) buckets es old j a is in
        let miss = none_found (λ i. option_map_or (is_of d name) (entry_at es i) false) (get_or buckets (bucket_of n d name) []) j none there in
        absurd (cc (miss, h, ap (λ (o : Option Entry). option_map_or (is_of d name) o false) is))
