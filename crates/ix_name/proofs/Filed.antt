-- What an edit of the chains and of the entries does to the lists of pairs, and to what the chains hold.
use Rattle.std.proofs.Common.{◌≡◌, ◌<◌, ◌==◌, ◌⊎◌, ℕ, zero, suc, Bool, true, false, ◌||◌, List, [], ◌∷◌, ◌++◌, length, map, Option, Some, None, refl, sym, ap}
use Rattle.std.proofs.Common.{◌∙◌, arith, inl, inr, get_or, set}
use Rattle.std.specs.Option.{option_map_or}
use Rattle.std.proofs.{lemmas.Bool.Decides.eqb_tells, lemmas.List.{get_or-set_same, get_or-set_other, map-set, map-append}, lemmas.List.Folds.list_any-append}
use Rattle.std.proofs.{lemmas.Cmp.nat_list_eq_equiv, lemmas.Bool.{and_parts, or_parts, eqb-true, eq-eqb, ne_eqb}}
use Rattle.std.proofs.Math.{ListN.get_or-map, Bool.{or-true, or-false}}
use Rattle.ix_model.specs.world.Naming.{same_bytes}
use Rattle.ix_name.specs.{Directories.without, Entries.{entry_at, is_of, pair_of, pair_at, lists_of, stands_in, AreFiled, AreUnique}}
use Rattle.ix_name.specs.declared.entry.Entry.{Entry}
use Rattle.ix_links.proofs.Members.{member, dropped, member-dropped_same, member-dropped_other}

abbrev Pairs : Type 0
Pairs = List (List ℕ × ℕ)

-- ---- the pairs of a list of indices
pairs_elsewhere : (es : List (Option Entry)) (i : ℕ) (x : Option Entry) (xs : List ℕ) → member i xs ≡ false → map (pair_at (set es i x)) xs ≡ map (pair_at es) xs
pairs_elsewhere es i x [] out = refl
pairs_elsewhere es i x (j ∷ xs) out =
    let parts = or_parts (j == i) (member i xs) out in
    let other : j ≡ i → ⊥ = λ e. absurd (cc (parts.0, ap (λ k. k == i) e ∙ eq-eqb i i refl)) in
    let here : pair_at (set es i x) j ≡ pair_at es j = ap pair_of (get_or-set_other es i j x None other) in
    rw (here, pairs_elsewhere es i x xs parts.1) refl

lists_elsewhere : (es : List (Option Entry)) (i : ℕ) (x : Option Entry) (chains : List (List ℕ)) → ((c : ℕ) → stands_in chains c i ≡ false) → lists_of (set es i x) chains ≡ lists_of es chains
lists_elsewhere es i x [] out = refl
lists_elsewhere es i x (xs ∷ chains) out = rw (pairs_elsewhere es i x xs (out 0), lists_elsewhere es i x chains (λ c. out (suc c))) refl

pub names_of-lists : (es : List (Option Entry)) (chains : List (List ℕ)) (d : ℕ) → get_or (lists_of es chains) d [] ≡ map (pair_at es) (get_or chains d [])
names_of-lists es chains d = get_or-map (map (pair_at es)) chains d []

-- ---- an index more at the end of a chain
module _ (es : List (Option Entry)) (chains : List (List ℕ)) (d i : ℕ) (e : Entry) (within : i < length es) (fresh : (c : ℕ) → stands_in chains c i ≡ false) where
  pair_here : pair_at (set es i (Some e)) i ≡ (e.name, e.obj.0)
  pair_here = ap pair_of (get_or-set_same es i (Some e) None within)

  pub lists_more : lists_of (set es i (Some e)) (set chains d (get_or chains d [] ++ i ∷ [])) ≡ set (lists_of es chains) d (get_or (lists_of es chains) d [] ++ (e.name, e.obj.0) ∷ [])
  lists_more =
      let more : map (pair_at (set es i (Some e))) (get_or chains d [] ++ i ∷ []) ≡ get_or (lists_of es chains) d [] ++ (e.name, e.obj.0) ∷ [] =
      map-append (pair_at (set es i (Some e))) (get_or chains d []) (i ∷ []) ∙ rw (pairs_elsewhere es i (Some e) (get_or chains d []) (fresh d), pair_here, names_of-lists es chains d) refl in
      map-set (map (pair_at (set es i (Some e)))) chains d (get_or chains d [] ++ i ∷ []) ∙ rw (lists_elsewhere es i (Some e) chains fresh, more) refl

  unfoldable new : List (List ℕ)
  new = set chains d (get_or chains d [] ++ i ∷ [])

  here_more : (j : ℕ) → d < length chains → stands_in new d j ≡ (stands_in chains d j || ((i == j) || false))
  unfolding new
  here_more j low = ap (member j) (get_or-set_same chains d (get_or chains d [] ++ i ∷ []) [] low) ∙ list_any-append (λ k. k == j) (get_or chains d []) (i ∷ [])

  there_more : (c j : ℕ) → (c ≡ d → ⊥) → stands_in new c j ≡ stands_in chains c j
  unfolding new
  there_more c j other = ap (member j) (get_or-set_other chains d c (get_or chains d [] ++ i ∷ []) [] other)

  entry_here : entry_at (set es i (Some e)) i ≡ Some e
  entry_here = get_or-set_same es i (Some e) None within

  entry_there : (j : ℕ) → (i ≡ j → ⊥) → entry_at (set es i (Some e)) j ≡ entry_at es j
  entry_there j other = get_or-set_other es i j (Some e) None (λ h. other (sym h))

  pub filed_more : (chain_of : Entry → ℕ) → chain_of e ≡ d → d < length chains → AreFiled chain_of chains es → AreFiled chain_of (set chains d (get_or chains d [] ++ i ∷ [])) (set es i (Some e))
  unfolding new
  filed_more chain_of its low old = record { filed = λ c j. go c j (eqb_tells c d) (eqb_tells i j) }
    where
      go : (c j : ℕ) → (((c == d) ≡ true) × (c ≡ d)) ⊎ (((c == d) ≡ false) × (c ≡ d → ⊥)) → (((i == j) ≡ true) × (i ≡ j)) ⊎ (((i == j) ≡ false) × (i ≡ j → ⊥))
          → stands_in new c j ≡ option_map_or (λ x. chain_of x == c) (entry_at (set es i (Some e)) j) false
      go c j (inl at_d) (inl at_i) =
          let left : stands_in new c j ≡ true = ap (λ k. stands_in new k j) at_d.1 ∙ here_more j low ∙ rw at_i.0 (or-true (stands_in chains d j)) in
          let right : option_map_or (λ x. chain_of x == c) (entry_at (set es i (Some e)) j) false ≡ true =
          ap (λ k. option_map_or (λ x. chain_of x == c) (entry_at (set es i (Some e)) k) false) (sym at_i.1)
          ∙ rw (entry_here, its, at_d.1) (eq-eqb d d refl) in
          left ∙ sym right
      go c j (inl at_d) (inr at_i) =
          let left : stands_in new c j ≡ stands_in chains d j = ap (λ k. stands_in new k j) at_d.1 ∙ here_more j low ∙ rw at_i.0 (or-false (stands_in chains d j)) in
          left ∙ ap (λ k. stands_in chains k j) (sym at_d.1) ∙ old.filed c j ∙ rw (entry_there j at_i.1) refl
      go c j (inr at_d) (inl at_i) =
          let right : option_map_or (λ x. chain_of x == c) (entry_at (set es i (Some e)) j) false ≡ false =
          ap (λ k. option_map_or (λ x. chain_of x == c) (entry_at (set es i (Some e)) k) false) (sym at_i.1)
          ∙ rw (entry_here, its) (ne_eqb d c (λ h. at_d.1 (sym h))) in
          there_more c j at_d.1 ∙ ap (stands_in chains c) (sym at_i.1) ∙ fresh c ∙ sym right
      go c j (inr at_d) (inr at_i) = there_more c j at_d.1 ∙ old.filed c j ∙ rw (entry_there j at_i.1) refl

-- ---- an index fewer
pub some_within : {A : Type 0} (t : List (Option A)) (i : ℕ) (a : A) → get_or t i None ≡ Some a → i < length t
some_within [] i a h = absurd (cc h)
some_within (x ∷ t) zero a h = omega arith
some_within (x ∷ t) (suc i) a h = let rest = some_within t i a h in omega (arith, rest)

pub same_refl : (a : List ℕ) → same_bytes a a ≡ true
same_refl a = nat_list_eq_equiv.refl a

same_sym : (a b : List ℕ) → same_bytes a b ≡ true → same_bytes b a ≡ true
same_sym a b h = nat_list_eq_equiv.symm b a ∙ h

pub is_of_parts : (d : ℕ) (name : List ℕ) (a : Entry) → is_of d name a ≡ true → (a.dir ≡ d) × (same_bytes a.name name ≡ true)
is_of_parts d name a h = let both = and_parts (a.dir == d) (same_bytes a.name name) h in (eqb-true a.dir d both.0, both.1)

pub is_of_from : (d : ℕ) (name : List ℕ) (a : Entry) → a.dir ≡ d → same_bytes a.name name ≡ true → is_of d name a ≡ true
is_of_from d name a at same = rw (at, eq-eqb d d refl, same) refl

-- what stands at an index of a chain
pub standing : (chain_of : Entry → ℕ) (chains : List (List ℕ)) (es : List (Option Entry)) (old : AreFiled chain_of chains es) (c j : ℕ)
    → stands_in chains c j ≡ true → (a : Entry) × ((entry_at es j ≡ Some a) × (chain_of a ≡ c))
standing chain_of chains es old c j h = go (entry_at es j) refl (sym (old.filed c j) ∙ h)
  where
    go : (o : Option Entry) → entry_at es j ≡ o → option_map_or (λ x. chain_of x == c) o false ≡ true → (a : Entry) × ((entry_at es j ≡ Some a) × (chain_of a ≡ c))
    go None is said = absurd (cc said)
    go (Some a) is said = (a, (is, eqb-true (chain_of a) c said))

pub stands : (chain_of : Entry → ℕ) (chains : List (List ℕ)) (es : List (Option Entry)) (old : AreFiled chain_of chains es) (j : ℕ) (a : Entry)
    → entry_at es j ≡ Some a → stands_in chains (chain_of a) j ≡ true
stands chain_of chains es old j a is = old.filed (chain_of a) j ∙ rw is (eq-eqb (chain_of a) (chain_of a) refl)

pairs_fewer : (es : List (Option Entry)) (i : ℕ) (name : List ℕ) (xs : List ℕ) → ((j : ℕ) → member j xs ≡ true → (j == i) ≡ same_bytes (pair_at es j).0 name)
    → map (pair_at es) (dropped i xs) ≡ without name (map (pair_at es) xs)
pairs_fewer es i name [] alike = refl
pairs_fewer es i name (x ∷ xs) alike = go (x == i) refl (alike x (rw (eq-eqb x x refl) refl)) (pairs_fewer es i name xs (λ j h. alike j (rw h (or-true (x == j)))))
  where
    go : (b : Bool) → (x == i) ≡ b → (x == i) ≡ same_bytes (pair_at es x).0 name → map (pair_at es) (dropped i xs) ≡ without name (map (pair_at es) xs)
        → map (pair_at es) (dropped i (x ∷ xs)) ≡ without name (map (pair_at es) (x ∷ xs))
    go true is same rest = rw (is, sym same ∙ is) rest
    go false is same rest = rw (is, sym same ∙ is) (ap (λ (ps : Pairs). pair_at es x ∷ ps) rest)

module _ (es : List (Option Entry)) (chains : List (List ℕ)) (d i : ℕ) (e : Entry) (is : entry_at es i ≡ Some e) (low : d < length chains) where
  unfoldable fewer : List (List ℕ)
  fewer = set chains d (dropped i (get_or chains d []))

  here_fewer : (j : ℕ) → stands_in fewer d j ≡ member j (dropped i (get_or chains d []))
  unfolding fewer
  here_fewer j = ap (member j) (get_or-set_same chains d (dropped i (get_or chains d [])) [] low)

  there_fewer : (c j : ℕ) → (c ≡ d → ⊥) → stands_in fewer c j ≡ stands_in chains c j
  unfolding fewer
  there_fewer c j other = ap (member j) (get_or-set_other chains d c (dropped i (get_or chains d [])) [] other)

  entry_gone : entry_at (set es i None) i ≡ None
  entry_gone = get_or-set_same es i None None (some_within es i e is)

  entry_stays : (j : ℕ) → (i ≡ j → ⊥) → entry_at (set es i None) j ≡ entry_at es j
  entry_stays j other = get_or-set_other es i j None None (λ h. other (sym h))

  pub filed_fewer : (chain_of : Entry → ℕ) → chain_of e ≡ d → AreFiled chain_of chains es → AreFiled chain_of (set chains d (dropped i (get_or chains d []))) (set es i None)
  unfolding fewer
  filed_fewer chain_of its old = record { filed = λ c j. go c j (eqb_tells c d) (eqb_tells i j) }
    where
      go : (c j : ℕ) → (((c == d) ≡ true) × (c ≡ d)) ⊎ (((c == d) ≡ false) × (c ≡ d → ⊥)) → (((i == j) ≡ true) × (i ≡ j)) ⊎ (((i == j) ≡ false) × (i ≡ j → ⊥))
          → stands_in fewer c j ≡ option_map_or (λ x. chain_of x == c) (entry_at (set es i None) j) false
      go c j (inl at_d) (inl at_i) =
          let left : stands_in fewer c j ≡ false = ap (λ k. stands_in fewer k j) at_d.1 ∙ here_fewer j
          ∙ ap (λ k. member k (dropped i (get_or chains d []))) (sym at_i.1) ∙ member-dropped_same i (get_or chains d []) in
          left ∙ sym (ap (λ k. option_map_or (λ x. chain_of x == c) (entry_at (set es i None) k) false) (sym at_i.1) ∙ rw entry_gone refl)
      go c j (inl at_d) (inr at_i) =
          let left : stands_in fewer c j ≡ stands_in chains d j = ap (λ k. stands_in fewer k j) at_d.1 ∙ here_fewer j ∙ member-dropped_other i j (get_or chains d []) (λ h. at_i.1 (sym h)) in
          left ∙ ap (λ k. stands_in chains k j) (sym at_d.1) ∙ old.filed c j ∙ rw (entry_stays j at_i.1) refl
      go c j (inr at_d) (inl at_i) =
          let left : stands_in chains c j ≡ false = ap (stands_in chains c) (sym at_i.1) ∙ old.filed c i ∙ rw (is, its) (ne_eqb d c (λ h. at_d.1 (sym h))) in
          there_fewer c j at_d.1 ∙ left ∙ sym (ap (λ k. option_map_or (λ x. chain_of x == c) (entry_at (set es i None) k) false) (sym at_i.1) ∙ rw entry_gone refl)
      go c j (inr at_d) (inr at_i) = there_fewer c j at_d.1 ∙ old.filed c j ∙ rw (entry_stays j at_i.1) refl

  -- the entry alone has its name there
  alike : AreFiled (λ x. x.dir) chains es → AreUnique es → e.dir ≡ d → (j : ℕ) → member j (get_or chains d []) ≡ true → (j == i) ≡ same_bytes (pair_at es j).0 e.name
  alike old unique its j in_chain =
      let found = standing (λ x. x.dir) chains es old d j in_chain in
      rw found.1.0 (go found.0 found.1.0 found.1.1 (eqb_tells j i))
    where
      go : (a : Entry) → entry_at es j ≡ Some a → a.dir ≡ d → (((j == i) ≡ true) × (j ≡ i)) ⊎ (((j == i) ≡ false) × (j ≡ i → ⊥)) → (j == i) ≡ same_bytes a.name e.name
      go a at_j dir (inl same) =
          let one : a ≡ e = cc (at_j, is, ap (entry_at es) same.1) in
          same.0 ∙ sym (ap (λ (x : Entry). same_bytes x.name e.name) one ∙ same_refl e.name)
      go a at_j dir (inr other) = other.0 ∙ sym (none (same_bytes a.name e.name) refl)
        where
          none : (b : Bool) → same_bytes a.name e.name ≡ b → same_bytes a.name e.name ≡ false
          none false h = h
          none true h = absurd (other.1 (unique j i a e at_j is (is_of_from e.dir e.name a (dir ∙ sym its) h)))

  pub lists_fewer : AreFiled (λ x. x.dir) chains es → AreUnique es → e.dir ≡ d → lists_of (set es i None) (set chains d (dropped i (get_or chains d [])))
      ≡ set (lists_of es chains) d (without e.name (get_or (lists_of es chains) d []))
  unfolding fewer
  lists_fewer old unique its =
      let filed = filed_fewer (λ x. x.dir) its old in
      let out : (c : ℕ) → stands_in fewer c i ≡ false = λ c. filed.filed c i ∙ ap (λ (o : Option Entry). option_map_or (λ x. x.dir == c) o false) entry_gone in
      lists_elsewhere es i None fewer out
      ∙ map-set (map (pair_at es)) chains d (dropped i (get_or chains d []))
      ∙ ap (set (lists_of es chains) d) (pairs_fewer es i e.name (get_or chains d []) (alike old unique its) ∙ ap (without e.name) (sym (names_of-lists es chains d)))

  pub unique_fewer : AreUnique es → AreUnique (set es i None)
  unique_fewer unique = λ j k a b at_j at_k same. unique j k a b (stayed j a at_j) (stayed k b at_k) same
    where
      stayed : (j : ℕ) (a : Entry) → entry_at (set es i None) j ≡ Some a → entry_at es j ≡ Some a
      stayed j a h = go (eqb_tells i j)
        where
          go : (((i == j) ≡ true) × (i ≡ j)) ⊎ (((i == j) ≡ false) × (i ≡ j → ⊥)) → entry_at es j ≡ Some a
          go (inl same) = absurd (cc (entry_gone, h, ap (entry_at (set es i None)) same.1))
          go (inr other) = sym (entry_stays j other.1) ∙ h

-- ---- unique names with an entry more
is_of_sym : (a b : Entry) → is_of b.dir b.name a ≡ true → is_of a.dir a.name b ≡ true
is_of_sym a b h = let parts = is_of_parts b.dir b.name a h in is_of_from a.dir a.name b (sym parts.0) (same_sym a.name b.name parts.1)

pub unique_more : (es : List (Option Entry)) (i : ℕ) (e : Entry) → i < length es → ((j : ℕ) (a : Entry) → entry_at es j ≡ Some a → is_of e.dir e.name a ≡ false)
    → AreUnique es → AreUnique (set es i (Some e))
unique_more es i e within absent unique = λ j k a b at_j at_k same. go j k a b at_j at_k same (eqb_tells i j) (eqb_tells i k)
  where
    here : entry_at (set es i (Some e)) i ≡ Some e
    here = get_or-set_same es i (Some e) None within

    there : (j : ℕ) → (i ≡ j → ⊥) → entry_at (set es i (Some e)) j ≡ entry_at es j
    there j other = get_or-set_other es i j (Some e) None (λ h. other (sym h))

    go : (j k : ℕ) (a b : Entry) → entry_at (set es i (Some e)) j ≡ Some a → entry_at (set es i (Some e)) k ≡ Some b → is_of b.dir b.name a ≡ true
        → (((i == j) ≡ true) × (i ≡ j)) ⊎ (((i == j) ≡ false) × (i ≡ j → ⊥)) → (((i == k) ≡ true) × (i ≡ k)) ⊎ (((i == k) ≡ false) × (i ≡ k → ⊥)) → j ≡ k
    go j k a b at_j at_k same (inl x) (inl y) = sym x.1 ∙ y.1
    go j k a b at_j at_k same (inl x) (inr y) =
        let first : e ≡ a = cc (here, at_j, ap (entry_at (set es i (Some e))) x.1) in
        let old : entry_at es k ≡ Some b = sym (there k y.1) ∙ at_k in
        absurd (cc (absent k b old, ap (λ (x : Entry). is_of x.dir x.name b) first, is_of_sym a b same))
    go j k a b at_j at_k same (inr x) (inl y) =
        let second : e ≡ b = cc (here, at_k, ap (entry_at (set es i (Some e))) y.1) in
        let old : entry_at es j ≡ Some a = sym (there j x.1) ∙ at_j in
        absurd (cc (absent j a old, ap (λ (x : Entry). is_of x.dir x.name a) second, same))
    go j k a b at_j at_k same (inr x) (inr y) = unique j k a b (sym (there j x.1) ∙ at_j) (sym (there k y.1) ∙ at_k) same
