-- Texts of names, joined and compared.
use Rattle.std.proofs.Common.{◌≡◌, ℕ, suc, ◌+◌, ◌*◌, ◌-◌, ◌≤◌, ◌<◌, ◌==◌, Bool, true, false, not, ◌&&◌, nat_eq, nat_lt, nat_le, List, [], ◌∷◌, ◌++◌, length, ap}
use Rattle.std.{proofs.Common.{take, map, inl, inr, refl, sym, ◌∙◌, arith, length-append, Bor, Option, Some, None}, specs.{Option.option_map_or, List.{list_all, slice_get, sum, sum_by}}}
use Rattle.std.proofs.lemmas.{Bool.{cases_Bool, le-leb, leb-true, Decides.nat_tests}, List.{take-append-le, take_all, Folds.list_all-append, Sums.{sum-map, sum_by-append}}}
use Rattle.ix_model.specs.world.{Naming.{is_name, may_stand_in_name, same_bytes, same_names}, Texts.{with_front, between_slashes, names_in, is_path_text, with_name}}

-- ---- tests
pub both : (a b : Bool) → (a && b) ≡ true → (a ≡ true) × (b ≡ true)
both true b h = (refl, h)
both false b h = cc

pub join_tests : (a b : Bool) → a ≡ true → b ≡ true → (a && b) ≡ true
join_tests true b h k = k
join_tests false b h k = cc

pub and_assoc : (a b c : Bool) → ((a && b) && c) ≡ (a && (b && c))
and_assoc true b c = refl
and_assoc false b c = refl

-- ---- there is a piece
pub some_piece : (text : List ℕ) → (x : List ℕ) × (xs : List (List ℕ)) × (between_slashes text ≡ x ∷ xs)
unfolding between_slashes
some_piece [] = ([], [], refl)
some_piece (b ∷ text) = elim (cases_Bool (b == 47)) [
  | inl e ↦ ([], between_slashes text, rw e refl)
  | inr e ↦ let k = some_piece text in (b ∷ k.0, k.1, rw (e, k.2) refl)
]

-- ---- two texts, with a slash between them
front_append : (b : ℕ) (ps ys : List (List ℕ)) (x : List ℕ) (xs : List (List ℕ)) → ps ≡ x ∷ xs → with_front b (ps ++ ys) ≡ with_front b ps ++ ys
front_append b ps ys x xs h = rw h refl

pub slash_append : (a b : List ℕ) → between_slashes (a ++ 47 ∷ b) ≡ between_slashes a ++ between_slashes b
unfolding between_slashes
slash_append [] b = refl
slash_append (x ∷ a) b = elim (cases_Bool (x == 47)) [
  | inl e ↦ rw e (ap (λ ps. [] ∷ ps) (slash_append a b))
  | inr e ↦
      let k = some_piece a in
      rw e (ap (with_front x) (slash_append a b) ∙ front_append x _ _ _ _ k.2)
]

-- ---- a name has no slash
plain_byte : (b : ℕ) → may_stand_in_name b ≡ true → (b == 47) ≡ false
plain_byte b h = grind (arith, nat_tests)

pub plain_piece : (name : List ℕ) → list_all may_stand_in_name name ≡ true → between_slashes name ≡ name ∷ []
unfolding between_slashes
plain_piece [] h = refl
plain_piece (b ∷ name) h =
    let parts = both (may_stand_in_name b) (list_all may_stand_in_name name) h in
    rw (plain_byte b parts.0, plain_piece name parts.1) refl

-- what a name is
pub record Named (name : List ℕ) : Type 0 where
  pub some : 0 < length name
  pub few : length name ≤ 28
  pub plain : list_all may_stand_in_name name ≡ true

pub named : (name : List ℕ) → is_name name ≡ true → Named name
unfolding is_name
named name h =
    let some = nat_lt 0 (length name) in
    let few = nat_le (length name) 28 in
    let dot = not (same_bytes name (46 ∷ [])) in
    let dots = not (same_bytes name (46 ∷ 46 ∷ [])) in
    let one = both _ _ h in
    let two = both _ dots one.0 in
    let three = both _ dot two.0 in
    let four = both some few three.0 in
    let many = four.0 in
    let most = four.1 in
    record { some = grind (arith, nat_tests); few = grind (arith, nat_tests); plain = one.1 }

pub no_name : is_name [] ≡ true → ⊥
no_name h = let k = (named [] h).some in omega arith

-- ---- the same texts have the same names
same_front : (x y : ℕ) (ps qs : List (List ℕ)) (p q : List ℕ) (ps' qs' : List (List ℕ)) → ps ≡ p ∷ ps' → qs ≡ q ∷ qs'
    → same_names (with_front x ps) (with_front y qs) ≡ (nat_eq x y && same_names ps qs)
same_front x y ps qs p q ps' qs' h k = rw (h, k) (and_assoc (nat_eq x y) (same_bytes p q) (same_names ps' qs'))

none_front : (y : ℕ) (qs : List (List ℕ)) (q : List ℕ) (qs' ps : List (List ℕ)) → qs ≡ q ∷ qs' → same_names ([] ∷ ps) (with_front y qs) ≡ false
none_front y qs q qs' ps h = rw h refl

front_none : (y : ℕ) (qs : List (List ℕ)) (q : List ℕ) (qs' ps : List (List ℕ)) → qs ≡ q ∷ qs' → same_names (with_front y qs) ([] ∷ ps) ≡ false
front_none y qs q qs' ps h = rw h refl

none_some : (qs : List (List ℕ)) (q : List ℕ) (qs' : List (List ℕ)) → qs ≡ q ∷ qs' → same_names [] qs ≡ false
none_some qs q qs' h = rw h refl

some_none : (qs : List (List ℕ)) (q : List ℕ) (qs' : List (List ℕ)) → qs ≡ q ∷ qs' → same_names qs [] ≡ false
some_none qs q qs' h = rw h refl

eq_test : (x y : ℕ) → (x == 47) ≡ true → (y == 47) ≡ true → nat_eq x y ≡ true
eq_test x y h k = grind (arith, nat_tests)

ne_test : (x y : ℕ) → (x == 47) ≡ true → (y == 47) ≡ false → nat_eq x y ≡ false
ne_test x y h k = grind (arith, nat_tests)

ne_test_back : (x y : ℕ) → (x == 47) ≡ false → (y == 47) ≡ true → nat_eq x y ≡ false
ne_test_back x y h k = grind (arith, nat_tests)

pub same_split : (a b : List ℕ) → same_names (between_slashes a) (between_slashes b) ≡ same_bytes a b
unfolding between_slashes
same_split [] [] = refl
same_split [] (y ∷ b) = let m = some_piece b in elim (cases_Bool (y == 47)) [
  | inl e ↦ rw e (none_some (between_slashes b) m.0 m.1 m.2)
  | inr e ↦ rw e (none_front y (between_slashes b) m.0 m.1 [] m.2)
]
same_split (x ∷ a) [] = let k = some_piece a in elim (cases_Bool (x == 47)) [
  | inl e ↦ rw e (some_none (between_slashes a) k.0 k.1 k.2)
  | inr e ↦ rw e (front_none x (between_slashes a) k.0 k.1 [] k.2)
]
same_split (x ∷ a) (y ∷ b) = let k = some_piece a in let m = some_piece b in elim (cases_Bool (x == 47)) [
  | inl e ↦ elim (cases_Bool (y == 47)) [
    | inl f ↦ rw (e, f, eq_test x y e f) (same_split a b)
    | inr f ↦ rw (e, f, ne_test x y e f) (none_front y (between_slashes b) m.0 m.1 (between_slashes a) m.2)
  ]
  | inr e ↦ elim (cases_Bool (y == 47)) [
    | inl f ↦ rw (e, f, ne_test_back x y e f) (front_none x (between_slashes a) k.0 k.1 (between_slashes b) k.2)
    | inr f ↦ rw (e, f) (same_front x y (between_slashes a) (between_slashes b) k.0 m.0 k.1 m.1 k.2 m.2 ∙ ap (λ t. nat_eq x y && t) (same_split a b))
  ]
]

pub same_text : (a b : List ℕ) → same_names (names_in a) (names_in b) ≡ same_bytes a b
same_text [] [] = refl
same_text [] (y ∷ b) = let m = some_piece _ in none_some _ _ _ m.2
same_text (x ∷ a) [] = let m = some_piece _ in some_none _ _ _ m.2
same_text (x ∷ a) (y ∷ b) = same_split _ _

-- ---- what names cost
abbrev cost : List (List ℕ) → ℕ
cost names = sum_by (λ name. length name + 1) names

cost_cons : (p : List ℕ) (ps : List (List ℕ)) → cost (p ∷ ps) ≡ suc (length p) + cost ps
cost_cons p ps = let k = sum_by-append (λ name. length name + 1) (p ∷ []) ps in omega arith

cost_front : (b : ℕ) (ps : List (List ℕ)) (p : List ℕ) (ps' : List (List ℕ)) → ps ≡ p ∷ ps' → cost (with_front b ps) ≡ suc (cost ps)
cost_front b ps p ps' h = let k = cost_cons p ps' in let l = cost_cons (b ∷ p) ps' in rw h (omega arith)

cost_split : (text : List ℕ) → cost (between_slashes text) ≡ suc (length text)
unfolding between_slashes
cost_split [] = refl
cost_split (b ∷ text) = elim (cases_Bool (b == 47)) [
  | inl e ↦ rw e (let k = cost_split text in let l = cost_cons [] (between_slashes text) in omega arith)
  | inr e ↦ let k = some_piece text in rw e (cost_front b (between_slashes text) k.0 k.1 k.2 ∙ ap suc (cost_split text))
]

costs_few : (ps : List (List ℕ)) → list_all is_name ps ≡ true → cost ps ≤ 29 * length ps
costs_few [] h = omega arith
costs_few (p ∷ ps) h =
    let parts = both _ _ h in
    let one = (named p parts.0).few in
    let more = costs_few ps parts.1 in
    let whole = cost_cons p ps in
    omega arith

-- ---- texts of paths
-- what a text of a path is
pub record OfPath (text : List ℕ) : Type 0 where
  pub all : list_all is_name (names_in text) ≡ true
  pub few : length (names_in text) ≤ 16

pub of_path : (text : List ℕ) → is_path_text text ≡ true → OfPath text
unfolding is_path_text
of_path text h =
    let parts = both _ _ h in
    record { all = parts.0; few = leb-true _ 16 parts.1 }

pub is_path : (text : List ℕ) → list_all is_name (names_in text) ≡ true → length (names_in text) ≤ 16 → is_path_text text ≡ true
unfolding is_path_text
is_path text all few = join_tests _ _ all (le-leb _ 16 few)

text_costs : (text : List ℕ) → 0 < length text → cost (names_in text) ≡ length text + 1
text_costs [] h = absurd (omega arith)
text_costs (b ∷ text) h = let k = cost_split (b ∷ text) in omega arith

pub text_cost : (text : List ℕ) → 0 < length text → sum (map (λ name. length name + 1) (names_in text)) ≡ length text + 1
text_cost text h = sum-map (λ name. length name + 1) (names_in text) ∙ text_costs _ h

pub text_fits : (text : List ℕ) → is_path_text text ≡ true → length text ≤ 463
text_fits [] h = omega arith
text_fits (b ∷ text) h =
    let p = of_path _ h in
    let few = p.few in
    let one = text_costs (b ∷ text) (omega arith) in
    let two = costs_few (names_in (b ∷ text)) p.all in
    omega arith

-- one name more
pub names_with : (text name : List ℕ) → is_name name ≡ true → names_in (with_name text name) ≡ names_in text ++ name ∷ []
names_with [] [] h = absurd (no_name h)
names_with [] (c ∷ name) h = plain_piece _ (named _ h).plain
names_with (b ∷ text) name h = slash_append _ _ ∙ ap (λ ps. between_slashes (b ∷ text) ++ ps) (plain_piece _ (named _ h).plain)

pub path_with : (text name : List ℕ) → is_path_text text ≡ true → is_name name ≡ true → length (names_in text) < 16 → is_path_text (with_name text name) ≡ true
path_with text name h k few =
    let names = names_with _ _ k in
    let all : list_all is_name (names_in text ++ name ∷ []) ≡ true = list_all-append is_name (names_in text) (name ∷ []) ∙ join_tests _ _ (of_path text h).all (join_tests _ _ k refl) in
    let long = length-append (names_in text) (name ∷ []) in
    is_path (with_name text name) (ap (list_all is_name) names ∙ all) (let l = ap length names in omega arith)

-- the first name, and those behind it
pub record Cut (text name more : List ℕ) : Type 0 where
  pub is_named : is_name name ≡ true
  pub rest : is_path_text more ≡ true
  pub names : names_in text ≡ name ∷ names_in more

cut_named : (text name : List ℕ) (ps : List (List ℕ)) → is_path_text text ≡ true → names_in text ≡ name ∷ ps → (is_name name ≡ true) × (list_all is_name ps ≡ true) × (length ps ≤ 15)
cut_named text name ps h k =
    let p = of_path _ h in
    let all = ap (list_all is_name) (sym k) ∙ p.all in
    let parts = both _ _ all in
    let few = p.few in
    let long = ap length k in
    (parts.0, parts.1, omega arith)

pub cut_some : (text name more : List ℕ) → 0 < length text → is_path_text text ≡ true → between_slashes text ≡ name ∷ between_slashes more → Cut text name more
unfolding between_slashes
cut_some [] name more some h k = absurd (omega arith)
cut_some (b ∷ text) name [] some h k = let parts = cut_named _ _ _ h k in absurd (no_name (both _ _ parts.1).0)
cut_some (b ∷ text) name (c ∷ more) some h k =
    let parts = cut_named _ _ _ h k in
    let rest = is_path (c ∷ more) parts.1 (let few = parts.2 in omega arith) in search

pub cut_none : (text name : List ℕ) → 0 < length text → is_path_text text ≡ true → between_slashes text ≡ name ∷ [] → Cut text name []
cut_none [] name some h k = absurd (omega arith)
cut_none (b ∷ text) name some h k =
    let parts = cut_named _ _ [] h k in
    let rest = is_path [] refl (omega arith) in search

-- the names but the last
take_front : (xs : List (List ℕ)) (x : List ℕ) → take (length (xs ++ x ∷ []) - 1) (xs ++ x ∷ []) ≡ xs
take_front xs x =
    let long : length (xs ++ x ∷ []) - 1 ≡ length xs = let l = length-append xs (x ∷ []) in omega arith in
    ap (λ n. take n (xs ++ x ∷ [])) long ∙ take-append-le (length xs) xs (x ∷ []) (omega arith) ∙ take_all (length xs) xs (omega arith)

pub record Front (text front : List ℕ) : Type 0 where
  pub is : is_path_text front ≡ true
  pub names : names_in front ≡ take (length (names_in text) - 1) (names_in text)

pub front_some : (text front last : List ℕ) → 0 < length text → is_path_text text ≡ true → between_slashes text ≡ between_slashes front ++ last ∷ [] → Front text front
unfolding between_slashes
front_some [] front last some h k = absurd (omega arith)
front_some (b ∷ text) [] last some h k =
    let parts = cut_named _ [] _ h k in absurd (no_name parts.0)
front_some (b ∷ text) (c ∷ front) last some h k =
    let p = of_path _ h in
    let names = between_slashes (c ∷ front) in
    let all = sym (list_all-append is_name names _) ∙ ap (list_all is_name) (sym k) ∙ p.all in
    let few = p.few in
    let long = ap length k ∙ length-append names _ in
    record {
      is = is_path _ (both _ _ all).0 (omega arith);
      names = sym (ap (λ ps. take (length ps - 1) ps) k ∙ take_front _ last);
    }

pub front_all : (text : List ℕ) → between_slashes text ≡ text ∷ [] → Front text []
front_all [] k = record { is = is_path [] refl (omega arith); names = refl }
front_all (b ∷ text) k = record { is = is_path [] refl (omega arith); names = sym (ap (λ ps. take (length ps - 1) ps) k) }

-- the same, where what stands behind is told as the code tells it
abbrev rest_of : Option (Bor (List ℕ)) → List (List ℕ)
rest_of more = option_map_or (λ m. between_slashes m.now) more []

pub cut_at : (text name : List ℕ) (more : Option (Bor (List ℕ))) (m : Bor (List ℕ)) → 0 < length text → is_path_text text ≡ true
    → between_slashes text ≡ name ∷ option_map_or (λ m. between_slashes m.now) more [] → more ≡ Some m → Cut text name m.now
cut_at text name more m some h k e = cut_some _ _ _ some h (k ∙ ap (λ o. name ∷ rest_of o) e)

pub cut_last : (text name : List ℕ) (more : Option (Bor (List ℕ))) → 0 < length text → is_path_text text ≡ true
    → between_slashes text ≡ name ∷ option_map_or (λ m. between_slashes m.now) more [] → more ≡ None → Cut text name []
cut_last text name more some h k e = cut_none _ _ some h (k ∙ ap (λ o. name ∷ rest_of o) e)

-- a text that grows by a name
pub record Grown (text name word : List ℕ) (count : ℕ) : Type 0 where
  pub is : is_path_text (with_name text word) ≡ true
  pub names : names_in (with_name text word) ≡ names_in text ++ name ∷ []
  pub fits : length (with_name text word) ≤ 463
  pub counted : length (names_in (with_name text word)) ≡ count + 1

pub grows : (text name word : List ℕ) (count : ℕ) → is_path_text text ≡ true → is_name name ≡ true → word ≡ name → length (names_in text) ≡ count → count < 16 → Grown text name word count
grows text name word count h k same counted few =
    let named = ap is_name same ∙ k in
    let whole = path_with _ _ h named (omega arith) in
    let names : names_in (with_name text word) ≡ names_in text ++ word ∷ [] = names_with text word named in
    let long = ap length names ∙ length-append (names_in text) (word ∷ []) in
    record { is = whole; names = names ∙ ap (λ n. names_in text ++ n ∷ []) same; fits = text_fits (with_name text word) whole; counted = omega arith }

-- a text whose only name is this one is that name
pub same_just : (name text : List ℕ) → is_name name ≡ true → same_names (name ∷ []) (names_in text) ≡ same_bytes name text
same_just name text h = ap (λ ps. same_names ps (names_in text)) (sym (names_with [] _ h)) ∙ same_text _ _

-- the last name
behind : (xs : List (List ℕ)) (x : List ℕ) → slice_get (xs ++ x ∷ []) (length xs) ≡ Some x
behind [] x = refl
behind (y ∷ xs) x = behind xs x

last_of : (xs : List (List ℕ)) (x : List ℕ) → slice_get (xs ++ x ∷ []) (length (xs ++ x ∷ []) - 1) ≡ Some x
last_of xs x =
    let long : length (xs ++ x ∷ []) - 1 ≡ length xs = let l = length-append xs (x ∷ []) in omega arith in
    ap (slice_get (xs ++ x ∷ [])) long ∙ behind xs x

pub record Last (text last : List ℕ) : Type 0 where
  pub at : Some last ≡ slice_get (names_in text) (length (names_in text) - 1)
  pub is_named : is_name last ≡ true

pub last_piece : (text last : List ℕ) (names : List (List ℕ)) → 0 < length text → is_path_text text ≡ true
    → between_slashes text ≡ names ++ last ∷ [] → Last text last
last_piece [] last names some h k = absurd (omega arith)
last_piece (b ∷ text) last names some h k =
    let p = of_path _ h in
    let all =
    sym (list_all-append is_name names _) ∙ ap (list_all is_name) (sym k) ∙ p.all in
    record {
      at = sym (ap (λ ps. slice_get ps (length ps - 1)) k ∙ last_of names _);
      is_named = (both _ _ (both _ _ all).1).0;
    }

-- no names are left exactly where no text is
pub none_left : (text : List ℕ) → (length text == 0) ≡ (length (names_in text) == 0)
none_left [] = refl
none_left (b ∷ text) =
    let k = some_piece _ in
    let here : (length (b ∷ text) == 0) ≡ false = grind (arith, nat_tests) in
    let there : (length (k.0 ∷ k.1) == 0) ≡ false = grind (arith, nat_tests) in
    here ∙ sym (ap (λ ps. length ps == 0) k.2 ∙ there)
