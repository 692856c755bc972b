-- The good histories are those that runs come to.
use Rattle.std.{proofs.Common.{◌≡◌, ℕ, ◌≤◌, ◌<◌, nat_lt, true, List, [], ◌∷◌, Option, Some, None, refl, sym, ap, ◌∙◌, subst, arith, inl, inr, ◌⊎◌, slice_get}, specs.List.list_all}
use Rattle.std.proofs.lemmas.{Bool.{and_parts, and_from, cases_eq, eq-eqb, ne_eqb, le-leb, leb-true, lt-ltb, ltb-true}, Option.slice_get_cases}
use Rattle.ix_judging.specs.{Plan.{Plan, Lawful}, Runs.{HoldsSoFar, IsTurn, IsWholeRun, IsRun, asks, asks_in, entered, reached}}
use Rattle.ix_judging.specs.Lanes.{State, Calls, HoldsLanes, IsGood, asked_first, calls_from, calls_in, calls_of, entries_of, never_falls, replies_from, with_entry_first}
use Rattle.ix_judging.proofs.Stores.{after_other, after_same, asking_lane, asks-lane, asks-other, asks-same, asks_within, length-entered, none_past}

module _ {W E A L T : Type 0} (p : Plan W E A L T) where
  -- ---- one entry more at the front
  entries-mine : (k : ℕ) (e : E) (events : List E) → p.seat e ≡ k → entries_of p k (e ∷ events) ≡ e ∷ entries_of p k events
  entries-mine k e events mine = rw eq-eqb refl

  entries-other : (k : ℕ) (e : E) (events : List E) → (p.seat e ≡ k → ⊥) → entries_of p k (e ∷ events) ≡ entries_of p k events
  entries-other k e events apart = rw ne_eqb refl

  abbrev replies_at : State W L → ℕ → List E → List A
  replies_at at k events = replies_from p at.world at.place k events

  replies-mine : (at : State W L) (k : ℕ) (e : E) (events : List E) → p.seat e ≡ k
      → replies_at at k (e ∷ events) ≡ p.answer at.world at.place e ∷ replies_at (entered p at e) k events
  replies-mine at k e events mine = rw eq-eqb refl

  replies-other : (at : State W L) (k : ℕ) (e : E) (events : List E) → (p.seat e ≡ k → ⊥)
      → replies_at at k (e ∷ events) ≡ replies_at (entered p at e) k events
  replies-other at k e events apart = rw ne_eqb refl

  -- all that is asked for is answered
  abbrev all_made : List E → Calls E
  all_made events = record { entries = events; next = None }

  calls-lane : (lanes : List L) (k : ℕ) (l : L) (answers : List A) → slice_get lanes k ≡ Some l
      → calls_of p lanes k answers ≡ calls_from p k l answers
  calls-lane lanes k l answers there = ap (λ o. calls_in p k o answers) there

  next_of : (lanes : List L) (k : ℕ) → (calls_of p lanes k []).next ≡ asks p lanes k
  next_of lanes k = go _
    where
      go : (o : Option L) → (calls_in p k o []).next ≡ asks_in p k o
      go None = refl
      go (Some l) = refl

  none_made : (lanes : List L) (k : ℕ) → asks p lanes k ≡ None → calls_of p lanes k [] ≡ all_made []
  none_made lanes k none = go _ none
    where
      go : (o : Option L) → asks_in p k o ≡ None → calls_in p k o [] ≡ all_made []
      go None none = refl
      go (Some l) none = ap (λ o. record { entries = []; next = o }) none

  -- what the entry's lane asks for, once it is answered
  goes_on : (at : State W L) (e : E) (events : List E) → asks p at.lanes (p.seat e) ≡ Some e
      → calls_of p at.lanes (p.seat e) (replies_at at (p.seat e) (e ∷ events))
      ≡ with_entry_first e (calls_of p (entered p at e).lanes (p.seat e) (replies_at (entered p at e) (p.seat e) events))
  goes_on at e events call =
      let found = asking_lane p at.lanes (p.seat e) e call in
      let a = p.answer at.world at.place e in
      let rest = replies_at (entered p at e) (p.seat e) events in
      ap (calls_of p at.lanes (p.seat e)) (replies-mine at _ e _ refl)
      ∙ calls-lane at.lanes (p.seat e) _ (a ∷ rest) found.1
      ∙ ap (λ o. asked_first o (calls_from p (p.seat e) (p.goes (p.seat e) found.0 a) rest)) found.2
      ∙ ap (with_entry_first e) (sym (calls-lane _ _ _ _ (after_same p at.lanes _ a _ found.1)))

  -- what another lane asks for stays
  stays : (at : State W L) (e : E) (events : List E) (k : ℕ) → (p.seat e ≡ k → ⊥)
      → calls_of p at.lanes k (replies_at at k (e ∷ events)) ≡ calls_of p (entered p at e).lanes k (replies_at (entered p at e) k events)
  stays at e events k apart =
      ap (calls_of p at.lanes k) (replies-other at k e _ apart)
      ∙ ap (λ o. calls_in p k o (replies_at (entered p at e) k events))
      (sym (after_other p _ _ k _ (λ is. apart (sym is))))

  -- ---- phases
  tail_rises : (e : E) (events : List E) → never_falls p (e ∷ events) ≡ true → never_falls p events ≡ true
  tail_rises e [] h = refl
  tail_rises e (f ∷ events) h = (and_parts _ _ h).1

  -- no entry of a seat lies before the first entry
  first_is_least : (k : ℕ) (e f : E) (events later : List E) → never_falls p (e ∷ events) ≡ true → entries_of p k events ≡ f ∷ later
      → p.phase e ≤ p.phase f
  first_is_least k e f [] later h has = cc has
  first_is_least k e f (g ∷ events) later h has =
      let parts = and_parts _ _ h in
      let here = leb-true _ _ parts.0 in
      elim (cases_eq _ k) [
        | inl mine ↦ let same : g ≡ f = cc (sym (entries-mine k g events mine) ∙ has) in subst (λ x. p.phase e ≤ p.phase x) same here
        | inr apart ↦ let more = first_is_least k g f events _ parts.1 (sym (entries-other k g _ apart) ∙ has) in omega (arith, here, more)
      ]

  -- ---- seats
  seats_parts : (count : ℕ) (e : E) (events : List E) → list_all (λ x. nat_lt (p.seat x) count) (e ∷ events) ≡ true
      → (p.seat e < count) × (list_all (λ x. nat_lt (p.seat x) count) events ≡ true)
  seats_parts count e events h =
      let parts = and_parts _ (list_all (λ x. nat_lt _ count) events) h in
      (ltb-true _ count parts.0, parts.1)

  -- ---- what is asked for first is what is made first
  first_made : (k : ℕ) (o : Option E) (later : Calls E) (f : E) (events : List E) → asked_first o later ≡ all_made (f ∷ events) → o ≡ Some f
  first_made k None later f events is = cc (ap (λ (x : Calls E). x.entries) is)
  first_made k (Some e) later f events is =
      let same : e ≡ f = cc (ap (λ (x : Calls E). x.entries) is) in ap (λ x. Some x) same

  -- a call that a lane asks for is the first that it makes
  made_after : (f : E) (events : List E) (o : Option E) (later : Calls E) → o ≡ Some f → asked_first o later ≡ all_made events
      → (more : List E) × (events ≡ f ∷ more)
  made_after f events None later has made = cc has
  made_after f events (Some e) later has made =
      let both = ap (λ x. x.entries) made in
      let same : e ≡ f = cc in (later.entries, sym both ∙ ap (λ x. x ∷ later.entries) same)

  made_from : (k : ℕ) (f : E) (events : List E) (answers : List A) (l : L) → p.first k l ≡ Some f
      → calls_from p k l answers ≡ all_made events → (more : List E) × (events ≡ f ∷ more)
  made_from k f events [] l has made =
      let none = ap (λ x. x.next) made in
      cc (sym none ∙ has)
  made_from k f events (a ∷ answers) l has made = made_after f _ _ (calls_from p k (p.goes k l a) answers) has made

  made_first : (lanes : List L) (k : ℕ) (f : E) (answers : List A) (events : List E) → asks p lanes k ≡ Some f
      → calls_of p lanes k answers ≡ all_made events → (more : List E) × (events ≡ f ∷ more)
  made_first lanes k f answers events call is =
      let found = asking_lane p _ k f call in
      made_from k f _ _ _ found.2 (sym (calls-lane _ k _ _ found.1) ∙ is)

  -- ---- a good history runs
  -- its lane asks for the first entry
  first_asked : (at : State W L) (e : E) (events : List E) → HoldsLanes p at (e ∷ events) → asks p at.lanes (p.seat e) ≡ Some e
  first_asked at e events h =
      let within = (seats_parts _ e _ h.seats).0 in
      elim (slice_get_cases at.lanes (p.seat e)).1 [
        | inl there ↦
            let made : calls_of p at.lanes (p.seat e) (replies_at at (p.seat e) (e ∷ events)) ≡ all_made (e ∷ entries_of p (p.seat e) events) =
            h.calls (p.seat e) within ∙ ap all_made (entries-mine (p.seat e) e events refl) in
            let a = p.answer at.world at.place e in
            let rest = replies_at (entered p at e) (p.seat e) events in
            asks-lane p at.lanes (p.seat e) there.0 there.2
            ∙ first_made (p.seat e) (p.first _ there.0) (calls_from p (p.seat e) (p.goes (p.seat e) there.0 a) rest) e (entries_of p (p.seat e) events)
            (sym (ap (calls_of p at.lanes (p.seat e)) (replies-mine at (p.seat e) e events refl) ∙ calls-lane at.lanes (p.seat e) there.0 (a ∷ rest) there.2) ∙ made)
        | inr past ↦ absurd (omega (arith, past.0, within))
      ]

  first_turn : (at : State W L) (e : E) (events : List E) → IsGood p at (e ∷ events) → IsTurn p at.lanes e
  first_turn at e events g = record {
    call = first_asked at e events g.lanes;
    least = λ k f is.
        let made = g.lanes.calls k (asks_within p _ k f is) in
        let among = made_first at.lanes k f (replies_at at k (e ∷ events)) (entries_of p k (e ∷ events)) is made in
        elim (cases_eq (p.seat e) k) [
          | inl mine ↦ let same : e ≡ f = cc (sym (entries-mine k e events mine) ∙ among.1) in subst (λ (x : E). p.phase e ≤ p.phase x) same (omega arith)
          | inr apart ↦ first_is_least k e f events among.0 g.order (sym (entries-other k e events apart) ∙ among.1)
        ];
  }

  -- an entry that comes first, and what comes after it
  drop_first : (e : E) (c : Calls E) (events : List E) → with_entry_first e c ≡ all_made (e ∷ events) → c ≡ all_made events
  drop_first e c events h =
      let entries = ap (λ x. x.entries) h in
      let next = ap (λ x. x.next) h in
      let rest : c.entries ≡ events = cc in
      λ i. record { entries = rest i; next = next i }

  good_after : (at : State W L) (e : E) (events : List E) → IsGood p at (e ∷ events) → IsGood p (entered p at e) events
  good_after at e events g =
      let call = first_asked at e _ g.lanes in
      let parts = seats_parts _ e _ g.lanes.seats in
      record {
        lanes = record {
          seats = subst (λ n. list_all (λ x. nat_lt (p.seat x) n) events ≡ true) (sym (length-entered p at e)) parts.1;
          calls = λ k within.
              let was = subst (λ n. k < n) (length-entered p at e) within in
              elim (cases_eq _ k) [
                | inl mine ↦ subst (λ m. calls_of p (entered p at e).lanes m (replies_at (entered p at e) m events) ≡ all_made (entries_of p m events)) mine
                    (drop_first e (calls_of p (entered p at e).lanes (p.seat e) (replies_at (entered p at e) (p.seat e) events)) _
                    (sym (goes_on at e _ call) ∙ g.lanes.calls _ parts.0 ∙ ap all_made (entries-mine _ e _ refl)))
                | inr apart ↦ sym (stays at e _ k apart) ∙ g.lanes.calls k was ∙ ap all_made (entries-other k e _ apart)
              ];
        };
        order = tail_rises e _ g.order;
      }

  pub good_runs : (at : State W L) (events : List E) → IsGood p at events → IsWholeRun p at events
  good_runs at [] g = λ k. elim (below_or k _) [
    | inl below ↦ sym (next_of _ k) ∙ ap (λ x. x.next) (g.lanes.calls k below)
    | inr past ↦ none_past p _ k past
  ]
    where
      below_or : (k n : ℕ) → (k < n) ⊎ (n ≤ k)
      below_or k n = grind arith
  good_runs at (e ∷ events) g = (first_turn at e events g, good_runs (entered p at e) events (good_after at e _ g))

  -- ---- what was run so far holds the calls of the lanes so far
  none_so_far : (lanes : List L) (k : ℕ) → calls_of p lanes k [] ≡ record { entries = []; next = asks p lanes k }
  none_so_far lanes k = go _
    where
      go : (o : Option L) → calls_in p k o [] ≡ record { entries = []; next = asks_in p k o }
      go None = refl
      go (Some l) = refl

  pub takes_hold : (at : State W L) (events : List E) → IsRun p at events → HoldsSoFar p at events
  takes_hold at [] takes = record { seats = refl; calls = λ k within. none_so_far _ k }
  takes_hold at (e ∷ events) takes =
      let call = takes.0.call in
      let g = takes_hold (entered p at e) events takes.1 in
      let within = asks_within p _ _ e call in
      record {
        seats =
            and_from _ (list_all (λ x. nat_lt _ _) events) (lt-ltb _ _ within)
            (subst (λ n. list_all (λ x. nat_lt (p.seat x) n) events ≡ true) (length-entered p at e) g.seats);
        calls = λ k was.
            let is_within = subst (λ n. k < n) (sym (length-entered p at e)) was in
            elim (cases_eq _ k) [
              | inl mine ↦ subst (λ m. calls_of p at.lanes m (replies_at at m (e ∷ events))
                  ≡ record { entries = entries_of p m (e ∷ events); next = asks p (reached p (entered p at e) events).lanes m }) mine
                  (goes_on at e _ call ∙ ap (with_entry_first e) (g.calls _ (subst (λ n. p.seat e < n) (sym (length-entered p at e)) within))
                  ∙ ap (λ es. record { entries = es; next = asks p (reached p (entered p at e) events).lanes (p.seat e) }) (sym (entries-mine _ e _ refl)))
              | inr apart ↦ stays at e _ k apart ∙ g.calls k is_within
                  ∙ ap (λ es. record { entries = es; next = asks p (reached p (entered p at e) events).lanes k }) (sym (entries-other k e _ apart))
            ];
      }

  -- ---- what runs come to is good
  module _ (count : ℕ) (lawful : Lawful p count) where
    -- no call is next whose phase is earlier
    next_rises : (at : State W L) (e f : E) → IsTurn p at.lanes e → IsTurn p (entered p at e).lanes f → p.phase e ≤ p.phase f
    next_rises at e f turn next = elim (cases_eq _ _) [
      | inl same ↦
          let found = asking_lane p _ _ e turn.call in
          let a = p.answer at.world at.place e in
          let later =
          sym (asks-same p at e _ found.1) ∙ subst (λ n. asks p (entered p at e).lanes n ≡ Some f) same next.call in
          lawful.rises _ found.0 a e f found.2 later
      | inr apart ↦ turn.least _ f (sym (asks-other p at e _ apart) ∙ next.call)
    ]

    rises : (at : State W L) (e : E) (events : List E) → IsTurn p at.lanes e → IsWholeRun p (entered p at e) events
        → never_falls p events ≡ true → never_falls p (e ∷ events) ≡ true
    rises at e [] turn runs order = refl
    rises at e (f ∷ events) turn runs order =
        and_from _ _ (le-leb _ _ (next_rises at e f turn runs.0)) order

    pub runs_good : (at : State W L) (events : List E) → IsWholeRun p at events → IsGood p at events
    runs_good at [] over = record {
      lanes = record { seats = refl; calls = λ k within. none_made _ k (over k) };
      order = refl;
    }
    runs_good at (e ∷ events) runs =
        let turn = runs.0 in
        let g = runs_good (entered p at e) events runs.1 in
        let within = asks_within p _ _ e turn.call in
        record {
          lanes = record {
            seats = and_from _ (list_all (λ x. nat_lt _ _) events) (lt-ltb _ _ within)
                (subst (λ n. list_all (λ x. nat_lt (p.seat x) n) events ≡ true) (length-entered p at e) g.lanes.seats);
            calls = λ k was.
                let is_within = subst (λ n. k < n) (sym (length-entered p at e)) was in
                elim (cases_eq _ k) [
                  | inl mine ↦ subst (λ m. calls_of p at.lanes m (replies_at at m (e ∷ events)) ≡ all_made (entries_of p m (e ∷ events))) mine
                      (goes_on at e _ turn.call ∙ ap (with_entry_first e) (g.lanes.calls _ (subst (λ n. p.seat e < n) (sym (length-entered p at e)) within))
                      ∙ ap all_made (sym (entries-mine _ e _ refl)))
                  | inr apart ↦ stays at e _ k apart ∙ g.lanes.calls k is_within ∙ ap all_made (sym (entries-other k e _ apart))
                ];
          };
          order = rises at e _ turn runs.1 g.order;
        }
