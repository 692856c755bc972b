-- What the search from object 0 finds: the directories that are reached.
use Rattle.std.proofs.Common.{◌≡◌, ℕ, zero, suc, ◌+◌, ◌-◌, ◌<◌, ◌≤◌, Bool, true, false, cond, ◌==◌, ◌&&◌, ◌||◌, List, [], ◌∷◌, ◌++◌, length, get_or, set, map}
use Rattle.std.proofs.Common.{replicate, count_by, Some, ◌⊎◌, inl, inr, refl, sym, ap, subst, ◌∙◌, append_assoc, arith}
use Rattle.std.{specs.{Prelude.slice_get, Cmp.both_ways, List.{Contains, list_any}}, proofs.lemmas.List.Sums.{sum_by-set, sum_by-cons, count_by-le-length}}
use Rattle.std.proofs.lemmas.Bool.{cases_lt, cases_eq, or_cases, or_left, or_right, and_parts, and_from, eqb-true, eq-eqb}
use Rattle.std.proofs.lemmas.List.{append-nil, length-append, get_or-set_same, get_or-set_other, length-set, length-replicate}
use Rattle.std.proofs.lemmas.List.Elements.{Contains-append_left, Contains-append_right, Contains-append_cases}
use Rattle.ix_image.specs.{Trees.{LinkOf, NodeOf, Holds, Bytes, Links, links_held, are_links, links_of, is_directory}, Fitting.{names_it, is_reached}}
use Rattle.ix_image.specs.{Found.{marked, IsDirAt, Finds}, Meant.AreMarks}

-- ---- lists
pub any_found : {A : Type 0} (p : A → Bool) (xs : List A) → list_any p xs ≡ true → (i : ℕ) × (x : A) × (slice_get xs i ≡ Some x) × (p x ≡ true)
any_found p [] h = absurd (cc h)
any_found p (x ∷ xs) h = elim (or_cases _ _ h) [
  | inl here ↦ (0, x, refl, here)
  | inr there ↦ let r = any_found p xs there in (suc r.0, r.1, r.2, r.3)
]

pub any_from : {A : Type 0} (p : A → Bool) (xs : List A) (i : ℕ) (x : A) → slice_get xs i ≡ Some x → p x ≡ true → list_any p xs ≡ true
any_from p [] i x is h = absurd (cc is)
any_from p (y ∷ xs) zero x is h = or_left _ _ (ap p (cc is) ∙ h)
any_from p (y ∷ xs) (suc i) x is h = or_right (p y) (list_any p xs) (any_from p xs i x is h)

-- a test that implies another
any_implies : {A : Type 0} (p q : A → Bool) (xs : List A) → ((x : A) → p x ≡ true → q x ≡ true) → list_any p xs ≡ true → list_any q xs ≡ true
any_implies p q xs h any = let r = any_found p xs any in any_from q xs _ _ r.2 (h r.1 r.3)

any_mapped : (ls : List LinkOf) (n : ℕ) → list_any (λ m. m == n) (map (λ l. l.1) ls) ≡ list_any (λ l. l.1 == n) ls
any_mapped [] n = refl
any_mapped (l ∷ ls) n = ap (λ b. (l.1 == n) || b) (any_mapped ls n)

-- a number that is one of one
is_alone : (n m : ℕ) → list_any (λ k. k == m) (n ∷ []) ≡ true → m ≡ n
is_alone n m h = sym (eqb-true n m (elim (or_cases _ _ h) [ inl e ↦ e | inr e ↦ absurd (cc e) ]))

any_append : (ns ms : List ℕ) (n : ℕ) → list_any (λ m. m == n) (ns ++ ms) ≡ true → (list_any (λ m. m == n) ns ≡ true) ⊎ (list_any (λ m. m == n) ms ≡ true)
any_append [] ms n h = inr h
any_append (x ∷ ns) ms n h = elim (or_cases (x == n) _ h) [
  | inl here ↦ inl (or_left _ _ here)
  | inr there ↦ elim (any_append ns ms n there) [ inl l ↦ inl (or_right (x == n) _ l) | inr r ↦ inr r ]
]

any_left : (ns ms : List ℕ) (n : ℕ) → list_any (λ m. m == n) ns ≡ true → list_any (λ m. m == n) (ns ++ ms) ≡ true
any_left [] ms n h = absurd (cc h)
any_left (x ∷ ns) ms n h = elim (or_cases (x == n) _ h) [ inl here ↦ or_left _ _ here | inr there ↦ or_right (x == n) _ (any_left ns ms n there) ]

any_right : (ns ms : List ℕ) (n : ℕ) → list_any (λ m. m == n) ms ≡ true → list_any (λ m. m == n) (ns ++ ms) ≡ true
any_right [] ms n h = h
any_right (x ∷ ns) ms n h = or_right (x == n) _ (any_right ns ms n h)

contained_at : (xs : List ℕ) (x : ℕ) → Contains xs x → (k : ℕ) × (k < length xs) × (slice_get xs k ≡ Some x)
contained_at [] x h = absurd (omega (arith, h.1))
contained_at (y ∷ xs) x (k, low, is) = go k low is
  where
    go : (k : ℕ) → k < suc (length xs) → get_or (y ∷ xs) k x ≡ x → (k : ℕ) × (k < suc (length xs)) × (slice_get (y ∷ xs) k ≡ Some x)
    go zero low is = (0, low, ap (λ z. Some z) is)
    go (suc k) low is = let r = further xs k (omega arith) is in (suc r.0, omega (arith, r.1), r.2)
      where
        further : (zs : List ℕ) (k : ℕ) → k < length zs → get_or zs k x ≡ x → (k : ℕ) × (k < length zs) × (slice_get zs k ≡ Some x)
        further [] k low is = absurd (omega arith)
        further (z ∷ zs) zero low is = (0, omega arith, ap (λ w. Some w) is)
        further (z ∷ zs) (suc k) low is = let r = further zs k (omega arith) is in (suc r.0, omega (arith, r.1), r.2)

got_contains : (xs : List ℕ) (k x : ℕ) → slice_get xs k ≡ Some x → Contains xs x
got_contains [] k x is = absurd (cc is)
got_contains (y ∷ xs) zero x is = (0, omega arith, (cc is))
got_contains (y ∷ xs) (suc k) x is = let r = got_contains xs k x is in (suc r.0, omega (arith, r.1), r.2)

got_within : {A : Type 0} (xs : List A) (k : ℕ) (x : A) → slice_get xs k ≡ Some x → k < length xs
got_within [] k x is = absurd (cc is)
got_within (y ∷ xs) zero x is = omega arith
got_within (y ∷ xs) (suc k) x is = omega (arith, got_within xs k x is)

got_left : {A : Type 0} (xs ys : List A) (k : ℕ) → k < length xs → slice_get (xs ++ ys) k ≡ slice_get xs k
got_left [] ys k low = absurd (omega arith)
got_left (x ∷ xs) ys zero low = refl
got_left (x ∷ xs) ys (suc k) low = got_left xs ys k (omega arith)

got_right : (xs ys : List ℕ) (k x : ℕ) → length xs ≤ k → slice_get (xs ++ ys) k ≡ Some x → Contains ys x
got_right [] ys k x high is = got_contains ys k x is
got_right (y ∷ xs) ys zero x high is = absurd (omega arith)
got_right (y ∷ xs) ys (suc k) x high is = got_right xs ys k x (omega arith) is

nothing_in : (x : ℕ) → Contains [] x → ⊥
nothing_in x h = omega (arith, h.1)

none_counted : (n : ℕ) → count_by (λ b. b) (replicate n false) ≡ 0
none_counted zero = refl
none_counted (suc n) = sum_by-cons (λ b. cond b 1 0) false (replicate n false) ∙ (omega (arith, none_counted n))

-- a mark that the code reads
pub got_mark : (marks : List Bool) (i : ℕ) (b : Bool) → i < length marks → b ≡ get_or marks i b → marked marks i ≡ b
got_mark [] i b low is = absurd (omega arith)
got_mark (m ∷ marks) zero b low is = sym is
got_mark (m ∷ marks) (suc i) b low is = got_mark marks i b (omega arith) is

pub got_place : (places : List ℕ) (i n : ℕ) → i < length places → n ≡ get_or places i n → slice_get places i ≡ Some n
got_place [] i n low is = absurd (omega arith)
got_place (m ∷ places) zero n low is = ap (λ z. Some z) (sym is)
got_place (m ∷ places) (suc i) n low is = got_place places i n (omega arith) is

-- ---- finding
module _ (nodes : List NodeOf) where
  -- an object that has names is a directory
  has_names : (n : ℕ) (x : NodeOf) → names_it n x ≡ true → is_directory x ≡ true
  has_names n x h = go _ h
    where
      go : (held : Holds) → list_any (λ l. l.1 == n) (links_held held) ≡ true → are_links held ≡ true
      go (Bytes b) h = absurd (cc h)
      go (Links ls) h = refl

  -- nothing is found of numbers where each directory of one is marked
  nothing_found : (numbers : List ℕ) (marks : List Bool) (places : List ℕ) → ((i : ℕ) (x : NodeOf) → IsDirAt nodes i x → list_any (λ n. n == x.number) numbers ≡ true → marked marks i ≡ true)
      → Finds nodes numbers marks places marks places
  nothing_found numbers marks places known = record {
    more = [];
    behind = sym (append-nil places);
    long = refl;
    few = omega arith;
    kept = λ i h. h;
    new = λ i h. inl h;
    named = λ i h. absurd (nothing_in i h);
    all = known;
  }

  pub finds_none : (marks : List Bool) (places : List ℕ) → Finds nodes [] marks places marks places
  finds_none marks places = nothing_found [] _ _ (λ i x at h. absurd (cc h))

  -- it is one number, and what has it is marked, or there is no such directory
  pub finds_no_more : (n : ℕ) (marks : List Bool) (places : List ℕ) → ((i : ℕ) (x : NodeOf) → IsDirAt nodes i x → x.number ≡ n → marked marks i ≡ true) → Finds nodes (n ∷ []) marks places marks places
  finds_no_more n marks places known = nothing_found _ _ _ (λ i x at h. known i x at (is_alone n _ h))

  -- a directory is found that wasn't yet
  pub finds_one : (n i : ℕ) (x : NodeOf) (marks : List Bool) (places : List ℕ) → length marks ≡ length nodes → IsDirAt nodes i x → x.number ≡ n → marked marks i ≡ false
      → ((j : ℕ) (y : NodeOf) → IsDirAt nodes j y → y.number ≡ n → j ≡ i) → Finds nodes (n ∷ []) marks places (set marks i true) (places ++ i ∷ [])
  finds_one n i x marks places long at number unmarked only =
      let within : i < length marks = omega (arith, got_within _ i x at.is) in
      record {
        more = i ∷ [];
        behind = refl;
        long = length-set marks i true;
        few =
            let off = ap (λ b. cond {A = ℕ} b 1 0) unmarked in
            let total = sum_by-set (λ b. cond {A = ℕ} b 1 0) marks i true false within in
            omega arith;
        kept = λ j h. elim (cases_eq j i) [
          | inl same ↦ ap (marked (set marks i true)) same ∙ get_or-set_same marks i true false within
          | inr other ↦ get_or-set_other marks i j true false other ∙ h
        ];
        new = λ j h. elim (cases_eq j i) [
          | inl same ↦ inr (0, omega arith, sym same)
          | inr other ↦ inl (sym (get_or-set_other marks i j true false other) ∙ h)
        ];
        named = λ j h.
            let same : j ≡ i = only_one j h in (
              x,
              subst (λ k. IsDirAt nodes k x) (sym same) at,
              or_left _ false (eq-eqb n x.number (sym number)),
              ap (marked (set marks i true)) same
                  ∙ get_or-set_same marks i true false within,
            );
        all = λ j y is h.
            ap (marked (set marks i true)) (only j y is (is_alone n _ h)) ∙ get_or-set_same marks i true false within;
      }
    where
      only_one : (j : ℕ) → Contains (i ∷ []) j → j ≡ i
      only_one j (zero, low, is) = sym is
      only_one j (suc k, low, is) = absurd (omega arith)

  -- what is found of some numbers, and then of others
  pub finds_both : (ns ms : List ℕ) (m0 : List Bool) (p0 : List ℕ) (m1 : List Bool) (p1 : List ℕ) (m2 : List Bool) (p2 : List ℕ) → Finds nodes ns m0 p0 m1 p1 → Finds nodes ms m1 p1 m2 p2
      → Finds nodes (ns ++ ms) m0 p0 m2 p2
  finds_both ns ms m0 p0 m1 p1 m2 p2 a b = record {
    more = a.more ++ b.more;
    behind = b.behind ∙ ap (λ p. p ++ b.more) a.behind ∙ append_assoc p0 a.more b.more;
    long = b.long ∙ a.long;
    few = omega (arith, length-append a.more b.more, b.few);
    kept = λ i h. b.kept i (a.kept i h);
    new = λ i h. elim (b.new i h) [
      | inl before ↦ elim (a.new i before) [ inl long_before ↦ inl long_before | inr first ↦ inr (Contains-append_left a.more b.more i first) ]
      | inr second ↦ inr (Contains-append_right a.more b.more i second)
    ];
    named = λ i h. elim (Contains-append_cases a.more b.more i h) [
      | inl first ↦ let r = a.named i first in (r.0, r.1, any_left ns ms _ r.2, b.kept i r.3)
      | inr second ↦ let r = b.named i second in (r.0, r.1, any_right ns ms _ r.2, r.3)
    ];
    all = λ i x at h. elim (any_append ns ms _ h) [
      | inl first ↦ b.kept i (a.all i x at first)
      | inr second ↦ b.all i x at second
    ];
  }

  -- what was found of the first of some names, and the names that are left
  pub record FindsSoFar (links rest : List LinkOf) (m : List Bool) (p : List ℕ) (m2 : List Bool) (p2 : List ℕ) : Type 0 where
    pub done : List ℕ
    pub whole : done ++ map (λ l. l.1) rest ≡ map (λ l. l.1) links
    pub finds : Finds nodes done m p m2 p2

  pub finds_begin : (links : List LinkOf) (m : List Bool) (p : List ℕ) → FindsSoFar links links m p m p
  finds_begin links m p = record { done = []; whole = refl; finds = finds_none m p }

  pub finds_more : (links rest more : List LinkOf) (l : LinkOf) (m : List Bool) (p : List ℕ) (m2 : List Bool) (p2 : List ℕ) (m3 : List Bool) (p3 : List ℕ) → rest ≡ l ∷ more
      → FindsSoFar links rest m p m2 p2 → Finds nodes (l.1 ∷ []) m2 p2 m3 p3
      → FindsSoFar links more m p m3 p3
  finds_more links rest more l m p m2 p2 m3 p3 split so_far one = record {
    done = so_far.done ++ l.1 ∷ [];
    whole = append_assoc so_far.done _ (map (λ l. l.1) more) ∙ ap (λ ls. so_far.done ++ map (λ l. l.1) ls) (sym split) ∙ so_far.whole;
    finds = finds_both _ _ m p m2 p2 m3 p3 so_far.finds one;
  }

  pub finds_end : (links rest : List LinkOf) (m : List Bool) (p : List ℕ) (m2 : List Bool) (p2 : List ℕ) → rest ≡ [] → FindsSoFar links rest m p m2 p2 → Finds nodes (map (λ l. l.1) links) m p m2 p2
  finds_end links rest m p m2 p2 none so_far =
      subst (λ ns. Finds nodes ns m p m2 p2) (sym (append-nil so_far.done) ∙ ap (λ ls. so_far.done ++ map (λ l. l.1) ls) (sym none) ∙ so_far.whole) so_far.finds

  -- ---- reaching
  reached_root : (k n : ℕ) → n ≡ 0 → is_reached nodes k n ≡ true
  unfolding is_reached
  reached_root zero n is = eq-eqb n 0 is
  reached_root (suc k) n is = or_left (n == 0) _ (eq-eqb n 0 is)

  reached_by : (k n i : ℕ) (x : NodeOf) → slice_get nodes i ≡ Some x → names_it n x ≡ true → is_reached nodes k x.number ≡ true → is_reached nodes (suc k) n ≡ true
  unfolding is_reached
  reached_by k n i x at named reached = or_right _ _ (any_from _ _ i x at (and_from _ _ named reached))

  reached_more : (k n : ℕ) → is_reached nodes k n ≡ true → is_reached nodes (suc k) n ≡ true
  unfolding is_reached
  reached_more zero n h = or_left _ _ h
  reached_more (suc k) n h = elim (or_cases (n == 0) _ h) [
    | inl root ↦ or_left _ _ root
    | inr named ↦ or_right (n == 0) _ (any_implies (λ y. names_it n y && is_reached nodes k y.number) (λ y. names_it n y && is_reached nodes (suc k) y.number) nodes
        (λ y both. let p = and_parts _ _ both in and_from _ _ p.0 (reached_more k _ p.1)) named)
  ]

  reached_further : (d k n : ℕ) → is_reached nodes k n ≡ true → is_reached nodes (d + k) n ≡ true
  reached_further zero k n h = ap (λ j. is_reached nodes j n) zero_more ∙ h
    where
      zero_more : 0 + k ≡ k
      zero_more = omega arith
  reached_further (suc d) k n h = ap (λ j. is_reached nodes j n) one_more ∙ reached_more _ n (reached_further d k n h)
    where
      one_more : suc d + k ≡ suc (d + k)
      one_more = omega arith

  reached_within : (k j n : ℕ) → k ≤ j → is_reached nodes k n ≡ true → is_reached nodes j n ≡ true
  reached_within k j n low h = ap (λ m. is_reached nodes m n) (sym parts) ∙ reached_further _ k n h
    where
      parts : (j - k) + k ≡ j
      parts = omega arith

  -- what was found so far, of which the first were looked into
  pub record Searched (marks : List Bool) (places : List ℕ) (at : ℕ) : Type 0 where
    pub within : at ≤ length places
    pub count : count_by (λ b. b) marks ≡ length places
    pub long : length marks ≡ length nodes
    pub sound : (p i : ℕ) → slice_get places p ≡ Some i → (x : NodeOf) × IsDirAt nodes i x × (is_reached nodes p x.number ≡ true) × (marked marks i ≡ true)
    pub listed : (i : ℕ) → marked marks i ≡ true → Contains places i
    pub closed : (p i : ℕ) (x : NodeOf) → p < at → slice_get places p ≡ Some i → IsDirAt nodes i x → (j : ℕ) (y : NodeOf) → IsDirAt nodes j y → names_it y.number x ≡ true → marked marks j ≡ true
    pub root : (i : ℕ) (x : NodeOf) → IsDirAt nodes i x → x.number ≡ 0 → marked marks i ≡ true

  -- at first nothing is marked, and object 0 is found
  pub search_begins : (marks : List Bool) (places : List ℕ) → Finds nodes (0 ∷ []) (replicate (length nodes) false) [] marks places → Searched marks places 0
  search_begins marks places f = record {
    within = omega arith;
    count = f.few ∙ ap (λ n. n + length f.more) (none_counted (length nodes)) ∙ zero_more _ ∙ sym (ap (λ q. length q) f.behind);
    long = f.long ∙ length-replicate _ false;
    sound = λ p i is. let r = f.named i (got_contains _ p i (sym (ap (λ q. slice_get q p) f.behind) ∙ is)) in
        (r.0, r.1, reached_root p _ (is_alone 0 _ r.2), r.3);
    listed = λ i h. elim (f.new i h) [
      | inl before ↦ absurd (cc (unmarked (length nodes) i, before))
      | inr more ↦ subst (λ q. Contains q i) (sym f.behind) more
    ];
    closed = λ p i x low. absurd (omega arith);
    root = λ i x at number. f.all i x at (or_left _ false (eq-eqb 0 x.number (sym number)));
  }
    where
      zero_more : (n : ℕ) → 0 + n ≡ n
      zero_more n = omega arith

      unmarked : (n i : ℕ) → marked (replicate n false) i ≡ false
      unmarked zero i = refl
      unmarked (suc n) zero = refl
      unmarked (suc n) (suc i) = unmarked n i

  -- the next is looked into
  pub search_goes_on : (m : List Bool) (p : List ℕ) (at i : ℕ) (x : NodeOf) (m2 : List Bool) (p2 : List ℕ) → Searched m p at → at < length p → slice_get p at ≡ Some i → IsDirAt nodes i x
      → Finds nodes (map (λ l. l.1) (links_of x)) m p m2 p2 → Searched m2 p2 (at + 1)
  search_goes_on m p at i x m2 p2 s low here dir f = record {
    within = omega (arith, length-append p f.more, ap (λ q. length q) f.behind);
    count = f.few ∙ ap (λ n. n + length f.more) s.count ∙ sym (ap (λ q. length q) f.behind ∙ length-append p f.more);
    long = f.long ∙ s.long;
    sound = λ q j is. sound q j (sym (ap (λ r. slice_get r q) f.behind) ∙ is);
    listed = λ j h. subst (λ q. Contains q j) (sym f.behind) (elim (f.new j h) [
      | inl before ↦ Contains-append_left p f.more j (s.listed j before)
      | inr more ↦ Contains-append_right p f.more j more
    ]);
    closed = λ q j y low2 is at_j k z at_k named. closed q j y low2 (sym (ap (λ r. slice_get r q) f.behind) ∙ is) at_j k z at_k named;
    root = λ j y at_j number. f.kept j (s.root j y at_j number);
  }
    where
      reached_here : is_reached nodes at x.number ≡ true
      reached_here =
          let r = s.sound at i here in
          let same : r.0 ≡ x = cc (r.1.is, dir.is) in
          ap (λ y. is_reached nodes at y.number) (sym same) ∙ r.2

      sound : (q j : ℕ) → slice_get (p ++ f.more) q ≡ Some j → (y : NodeOf) × IsDirAt nodes j y × (is_reached nodes q y.number ≡ true) × (marked m2 j ≡ true)
      sound q j is = elim (cases_lt q _) [
        | inl before ↦ let r = s.sound q j (sym (got_left p _ q before) ∙ is) in (r.0, r.1, r.2, f.kept j r.3)
        | inr behind ↦
            let r = f.named j (got_right p _ q j behind is) in
            (r.0, r.1, reached_within _ q _ (omega arith) (reached_by at _ i x dir.is (sym (any_mapped (links_of x) _) ∙ r.2) reached_here), r.3)
      ]

      closed : (q j : ℕ) (y : NodeOf) → q < at + 1 → slice_get (p ++ f.more) q ≡ Some j → IsDirAt nodes j y → (k : ℕ) (z : NodeOf) → IsDirAt nodes k z → names_it z.number y ≡ true → marked m2 k ≡ true
      closed q j y low2 is at_j k z at_k named = elim (cases_lt q at) [
        | inl before ↦ f.kept k (s.closed q j y before (sym (got_left p _ q (omega arith)) ∙ is) at_j k z at_k named)
        | inr now ↦
            let q-is : q ≡ at = omega arith in
            let there = ap (slice_get p) (sym q-is) ∙ sym (got_left p _ q (omega arith)) ∙ is in
            let place : i ≡ j = cc (here, there) in
            let same : y ≡ x = cc (place, at_j.is, dir.is) in
            f.all k z at_k (any_mapped (links_of x) _ ∙ ap (names_it z.number) (sym same) ∙ named)
      ]

  -- all were looked into
  complete : (m : List Bool) (p : List ℕ) (at : ℕ) → Searched m p at → length p ≤ at → (k i : ℕ) (x : NodeOf) → IsDirAt nodes i x → is_reached nodes k x.number ≡ true → marked m i ≡ true
  unfolding is_reached
  complete m p at s all zero i x dir h = s.root i x dir (eqb-true x.number 0 h)
  complete m p at s all (suc k) i x dir h = elim (or_cases _ _ h) [
    | inl root ↦ s.root i x dir (eqb-true x.number 0 root)
    | inr some ↦
        let r = any_found _ _ some in
        let both = and_parts _ _ r.3 in
        let by : IsDirAt nodes r.0 r.1 = record { is = r.2; dir = has_names _ r.1 both.0 } in
        let q = contained_at p _ (s.listed r.0 (complete m p at s all k r.0 r.1 by both.1)) in
        s.closed q.0 r.0 r.1 (omega (arith, q.1)) q.2 by i x dir both.0
  ]

  pub search_ends : (m : List Bool) (p : List ℕ) (at : ℕ) → Searched m p at → length p ≤ at → AreMarks nodes m
  search_ends m p at s all = record {
    long = s.long;
    each = λ i x is dir. both_ways _ _
        (λ h.
        let q = contained_at p i (s.listed i h) in
        let r = s.sound q.0 i q.2 in
        let same : r.0 ≡ x = cc (r.1.is, is) in
        let few : length p ≤ length nodes = omega (arith, s.long, count_by-le-length (λ b. b) m) in
        reached_within _ _ _ (omega (arith, q.1)) (ap (λ y. is_reached nodes q.0 y.number) (sym same) ∙ r.2))
        (λ h. complete m p at s all _ i x (record { is = is; dir = dir }) h);
  }

  -- whatever is found is there
  pub places_low : (m : List Bool) (p : List ℕ) (at k i : ℕ) → Searched m p at → slice_get p k ≡ Some i → i < length nodes
  places_low m p at k i s is = got_within _ i _ (s.sound k i is).1.is

  pub places_few : (m : List Bool) (p : List ℕ) (at : ℕ) → Searched m p at → length p ≤ length nodes
  places_few m p at s = omega (arith, s.long, count_by-le-length (λ b. b) m)

  pub dir_found : (m : List Bool) (p : List ℕ) (at k i : ℕ) (x : NodeOf) → Searched m p at → slice_get p k ≡ Some i → slice_get nodes i ≡ Some x → IsDirAt nodes i x
  dir_found m p at k i x s is got =
      let r = s.sound k i is in
      let same : r.0 ≡ x = cc (r.1.is, got) in
      record { is = got; dir = ap is_directory (sym same) ∙ r.1.dir }
