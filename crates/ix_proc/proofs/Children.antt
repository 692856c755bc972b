-- The first slot that passes a test is that of the lowest pid whose process passes it.
use Rattle.std.proofs.Common.{◌≡◌, ◌<◌, ◌==◌, ℕ, Bool, true, false, true≢false, ◌&&◌, List, [], ◌∷◌, length, position, cond, if◌then◌else◌, Option}
use Rattle.std.{proofs.Common.{Some, None, is_some, option_map, slice_get, refl, sym, ap, subst, ◌∙◌, arith, inl, inr}, specs.{Option.option_map_or, List.{find, list_any}}}
use Rattle.std.proofs.lemmas.{List.{length-map, Sums.position_or_len_is}, Bool.{Decides.{eqb_tells, nat_tests}, lt-ltb, le-ltb, cases_lt}}
use Rattle.ix_model.specs.{world.{Callers.number_of, World.{Process, at, living, is_ended}}, rows.OnProcesses.is_child, declared.ids.Pid.Pid}
use Rattle.ix_proc.specs.{Table.ProcTable, Kin.linked, declared.slot.{Slot.Slot, Record.Record}}
use Rattle.ix_proc.proofs.{Looking.{lookup_above, lookup_below}, Laying.{at_processes, at_laid, length_laid}, Staying.Childless}
use Rattle.ix_proc.specs.Slots.{pid_in, record_at, process_of, process_in, lookup, led, found, laid, table_of, Above, Rises, AreSlots, is_child_record}

some_if : (b : Bool) (n : ℕ) → is_some (cond b (Some n) None) ≡ b
some_if true n = refl
some_if false n = refl

-- whether a list has what passes, by its search
any_position : {A : Type 0} (p : A → Bool) (xs : List A) → list_any p xs ≡ is_some (position p xs)
any_position p [] = refl
any_position p (x ∷ xs) = go (p x) refl (any_position p xs)
  where
    go : (b : Bool) → p x ≡ b → list_any p xs ≡ is_some (position p xs) → list_any p (x ∷ xs) ≡ is_some (position p (x ∷ xs))
    go true e more = rw (e, lt-ltb 0 (length (x ∷ xs)) (omega arith)) refl
    go false e more = rw e (more ∙ some_if _ _ ∙ grind (arith, nat_tests) ∙ sym (some_if _ _))

abbrev passes : (Slot → Bool) → Option Slot → Bool
passes T s = option_map_or T s false

-- what is known of the first slot that passes
pub record First (T : Slot → Bool) (t : List Slot) (s : Slot) : Type 0 where
  pub here : lookup t (pid_in s) ≡ Some s
  pub yes_here : T s ≡ true
  pub none_before : (q : ℕ) → q < pid_in s → passes T (lookup t q) ≡ false

first_more : (T : Slot → Bool) (x : Slot) (t : List Slot) (s : Slot) → Above (pid_in x) t → T x ≡ false → First T t s → First T (x ∷ t) s
first_more T x t s above fails f = record {
  here = elim (cases_lt (pid_in x) (pid_in s)) [
    | inl less ↦ grind (arith, nat_tests, f.here)
    | inr more ↦ absurd (let none = lookup_above t (pid_in x) (pid_in s) above more in cc (none, f.here))
  ];
  yes_here = f.yes_here;
  none_before = λ q less. elim (eqb_tells (pid_in x) q) [
    | inl e ↦ rw e.0 fails
    | inr e ↦ rw e.0 (f.none_before q less)
  ];
}

pub first_found : (T : Slot → Bool) (t : List Slot) (s : Slot) → Rises t → find T t ≡ Some s → First T t s
first_found T [] s h is = absurd (cc is)
first_found T (x ∷ t) s h is = go _ refl is (λ more. first_found T t s h.1 more)
  where
    go : (b : Bool) → T x ≡ b → (if b then Some x else find T t) ≡ Some s → (find T t ≡ Some s → First T t s) → First T (x ∷ t) s
    go true e is rest =
        let same : x ≡ s = cc in
        subst (First T _) same (record {
          here = grind (arith, nat_tests);
          yes_here = e;
          none_before = λ q less. let none = lookup_above t (pid_in x) q h.0 (omega arith) in elim (eqb_tells (pid_in x) q) [ inl s ↦ absurd (omega (arith, s.1)) | inr s ↦ rw (s.0, none) refl ];
        })
    go false e is rest = first_more T x t s h.0 e (rest is)

none_found : (T : Slot → Bool) (t : List Slot) (q : ℕ) → find T t ≡ None → passes T (lookup t q) ≡ false
none_found T [] q is = refl
none_found T (x ∷ t) q is = go _ refl is (λ more. none_found T t q more)
  where
    go : (b : Bool) → T x ≡ b → (if b then Some x else find T t) ≡ None → (find T t ≡ None → passes T (lookup t q) ≡ false) → passes T (lookup (x ∷ t) q) ≡ false
    go true e is rest = absurd (cc is)
    go false e is rest = elim (eqb_tells (pid_in x) q) [ inl s ↦ rw s.0 e | inr s ↦ rw s.0 (rest is) ]

-- ---- a test of slots, and the same one of the tables
module _ (T : Slot → Bool) (Q : Option Process → Bool) (t : List Slot) (rs : List Record) (n l : ℕ) (are : AreSlots t rs n) (same : (s : Slot)
    → Q (Some (process_of (record_at rs s.link))) ≡ T s) (none : Q None ≡ false) where
  seen : (o : Option Slot) → Q (process_in (led rs o)) ≡ passes T o
  seen None = none
  seen (Some s) = same s

  seen_at : (q : ℕ) → Q (at (table_of (laid t rs n) l).processes q) ≡ passes T (lookup t q)
  seen_at q = ap Q (at_processes l _ q ∙ ap process_in (at_laid t rs n q are.below)) ∙ seen _

  many : length (table_of (laid t rs n) l).processes ≡ n
  many = simp length-map (length_laid t rs n)

  pub positioned : (r : Option Slot) → find T t ≡ r → position Q (table_of (laid t rs n) l).processes ≡ option_map pid_in r
  positioned None is =
      let end = position_or_len_is Q (table_of (laid t rs n) l).processes (length (table_of (laid t rs n) l).processes) None (omega arith) (λ k low. seen_at k
      ∙ none_found T t k is) (λ low. absurd (omega arith)) in
      rw (end, le-ltb (length (table_of (laid t rs n) l).processes) (length (table_of (laid t rs n) l).processes) (omega arith)) refl
  positioned (Some s) is =
      let first = first_found T t s are.rises is in
      let low : pid_in s < n = elim (cases_lt (pid_in s) n) [ inl low ↦ low | inr past ↦ absurd (let gone = lookup_below t n (pid_in s) are.below past in cc (gone, first.here)) ] in
      let inside : pid_in s < length (table_of (laid t rs n) l).processes = omega (arith, low, many) in
      let place = position_or_len_is Q (table_of (laid t rs n) l).processes (pid_in s) None (omega arith) (λ k less. seen_at k ∙ first.none_before k less)
      (λ _. seen_at (pid_in s) ∙ ap (passes T) first.here ∙ first.yes_here) in
      rw (place, lt-ltb (pid_in s) (length (table_of (laid t rs n) l).processes) inside) refl

  pub any_is : list_any Q (table_of (laid t rs n) l).processes ≡ is_some (find T t)
  any_is = any_position Q _ ∙ ap is_some (positioned _ refl) ∙ some_pid _
    where
      some_pid : (r : Option Slot) → is_some (option_map pid_in r) ≡ is_some r
      some_pid None = refl
      some_pid (Some s) = refl

-- ---- the links of those that pass
first_some : (P : Record → Bool) (t : List Slot) (rs : List Record) → is_some (slice_get (linked P t rs) 0) ≡ is_some (find (λ (s : Slot). P (record_at rs s.link)) t)
first_some P [] rs = refl
first_some P (s ∷ t) rs = go _ (first_some P t rs)
  where
    go : (b : Bool) → is_some (slice_get (linked P t rs) 0) ≡ is_some (find (λ (s : Slot). P (record_at rs s.link)) t)
        → is_some (slice_get (if b then s.link ∷ linked P t rs else linked P t rs) 0) ≡ is_some (if b then Some s else
        find (λ (s : Slot). P (record_at rs s.link)) t)
    go true more = refl
    go false more = more

pub find_linked : (P E : Record → Bool) (t : List Slot) (rs : List Record) → find (λ (i : ℕ). E (record_at rs i)) (linked P t rs)
    ≡ option_map (λ (s : Slot). s.link) (find (λ (s : Slot). P (record_at rs s.link) && E (record_at rs s.link)) t)
find_linked P E [] rs = refl
find_linked P E (s ∷ t) rs = go _ _ refl _ (find_linked P E t rs)
  where
    go : (b e : Bool) → E (record_at rs s.link) ≡ e → (right : Option Slot) → find (λ (i : ℕ). E (record_at rs i)) (linked P t rs)
        ≡ option_map (λ (s : Slot). s.link) right → find (λ (i : ℕ). E (record_at rs i)) (if b then s.link ∷ linked P t rs else linked P t rs)
        ≡ option_map (λ (s : Slot). s.link) (if b && e then Some s else right)
    go true true is right more = ap (λ c. if c then Some s.link else find (λ i. E (record_at rs i)) (linked P t rs)) is
    go true false is right more = ap (λ c. if c then Some s.link else find (λ i. E (record_at rs i)) (linked P t rs)) is ∙ more
    go false e is right more = more

-- none passes where the links are none
none_linked : (P : Record → Bool) (t : List Slot) (rs : List Record) → is_some (slice_get (linked P t rs) 0) ≡ false → (q : ℕ) (u : Slot) → lookup t q ≡ Some u → P (record_at rs u.link) ≡ false
none_linked P [] rs empty q u is = absurd (cc is)
none_linked P (s ∷ t) rs empty q u is = go (P _) refl empty (λ more. none_linked P t rs more q u)
  where
    go : (b : Bool) → P (record_at rs s.link) ≡ b → is_some (slice_get (if b then s.link ∷ linked P t rs else linked P t rs) 0) ≡ false
        → (is_some (slice_get (linked P t rs) 0) ≡ false → lookup t q ≡ Some u → P (record_at rs u.link) ≡ false) → P (record_at rs u.link) ≡ false
    go true e none rest = absurd (true≢false none)
    go false e none rest = elim (eqb_tells (pid_in s) q) [
      | inl h ↦ (let first : Some s ≡ Some u = sym (rw h.0 refl) ∙ is in let equal : s ≡ u = cc in ap (λ (y : Slot). P (record_at rs y.link)) (sym equal) ∙ e)
      | inr h ↦ rest none (sym (rw h.0 refl) ∙ is)
    ]

child_seen : (pid : ℕ) (r : Record) → is_child pid (Some (process_of r)) ≡ is_child_record pid r
child_seen pid r = go _
  where
    go : (o : Option Pid) → option_map_or (λ q. q == pid) (option_map number_of o) false ≡ option_map_or (λ q. q.0 == pid) o false
    go None = refl
    go (Some q) = refl

-- ---- the children of a process in the tables
module _ (t : List Slot) (rs : List Record) (n limit : ℕ) (are : AreSlots t rs n) (table : ProcTable) (view : table_of (laid t rs n) limit ≡ table) (p : ℕ) where
  pub has_child_is : list_any (is_child p) table.processes ≡ is_some (slice_get (linked (is_child_record p) t rs) 0)
  has_child_is = ap (λ u. list_any (is_child p) u.processes) (sym view)
      ∙ any_is (λ s. is_child_record p (record_at rs s.link)) (is_child p) t rs n limit are (λ s. child_seen p (record_at rs s.link)) refl
      ∙ sym (first_some (is_child_record p) t rs)

  pub childless_from : list_any (is_child p) table.processes ≡ false → Childless t rs p
  childless_from none q u is = none_linked (is_child_record p) t rs (sym has_child_is ∙ none) q u is

  pub lives_in : (q : ℕ) → is_some (living (at table.processes q)) ≡ is_some (living (process_in (found t rs q)))
  lives_in q = ap (λ u. is_some (living (at u.processes q))) (sym view) ∙ ap (λ o. is_some (living o)) (at_processes limit _ q ∙ ap process_in (at_laid t rs n q are.below))

  abbrev has_ended : Record → Bool
  has_ended r = is_some r.ended

  abbrev pub ended_test : Slot → Bool
  ended_test s = is_child_record p (record_at rs s.link) && has_ended (record_at rs s.link)

  pub ended_is : (r : Option Slot) → find ended_test t ≡ r → position (λ q. is_child p q && is_ended q) table.processes ≡ option_map pid_in r
  ended_is r is = ap (λ u. position (λ q. is_child p q && is_ended q) u.processes) (sym view)
      ∙ positioned _ (λ q. is_child p q && is_ended q) t rs n limit are (λ s. ap (λ b. b && has_ended (record_at rs s.link))
      (child_seen p (record_at rs s.link))) refl r is

  -- the slot of the first link whose record has ended
  pub ended_slot : (i : ℕ) → find (λ (j : ℕ). is_some (record_at rs j).ended) (linked (is_child_record p) t rs) ≡ Some i → (s : Slot) × (find ended_test t ≡ Some s) × (s.link ≡ i)
  ended_slot i is = go _ refl (sym (find_linked (is_child_record p) has_ended t rs) ∙ is)
    where
      go : (o : Option Slot) → find ended_test t ≡ o → option_map (λ (s : Slot). s.link) o ≡ Some i → (s : Slot) × (find ended_test t ≡ Some s) × (s.link ≡ i)
      go None e h = absurd (cc h)
      go (Some s) e h = (s, e, (let same = h in cc))

  pub none_ended : find (λ (j : ℕ). is_some (record_at rs j).ended) (linked (is_child_record p) t rs) ≡ None → find ended_test t ≡ None
  none_ended is = go _ refl (sym (find_linked (is_child_record p) has_ended t rs) ∙ is)
    where
      go : (o : Option Slot) → find ended_test t ≡ o → option_map (λ (s : Slot). s.link) o ≡ None → find ended_test t ≡ None
      go None e h = e
      go (Some s) e h = absurd (cc h)
