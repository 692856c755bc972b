-- Where the object of a number stands among objects whose numbers rise.
use Rattle.std.proofs.Common.{◌≡◌, ℕ, zero, suc, ◌+◌, ◌<◌, ◌≤◌, Bool, true, false, cond, eqb, ◌==◌, ◌&&◌, ◌||◌, List, [], ◌∷◌, ◌++◌, length, get_or, Some}
use Rattle.std.proofs.{Common.{Ok, Err, Ordering, refl, sym, ap, subst, ◌∙◌, arith, inl, inr}, lemmas.List.{Folds.list_any_none, Sorted.searchable_from_sorted}}
use Rattle.std.specs.{Prelude.slice_get, List.{HoldsAt, list_any, Sorted.{IsBinarySearchResult, IsSortedBy, IsNonDecreasingBy}}, Cmp.nat_cmp_total}
use Rattle.std.specs.{Ordering.{nat_cmp, is_lt, ordering_index}, declared.cmp.Ordering.TheVariants.{Less, Equal, Greater}}
use Rattle.std.proofs.lemmas.{Bool.{cases_lt, le-ltb, eq-eqb, ne_eqb, eqb-true}, List.{append-nil, length-map, get_or-map}}
use Rattle.ix_image.specs.{declared.node.Node.Node, Trees.{NodeOf, links_of, is_directory}, Image.NumbersRise, Meant.{IsAt, node_of, nodes_of}}
use Rattle.ix_image.specs.Fitting.{has_object, has_directory, root_links}

-- ---- orders of numbers
equal_is : (m n : ℕ) → nat_cmp m n ≡ Equal → m ≡ n
equal_is m n e = go _ _ refl e
  where
    go : (b c : Bool) → eqb m n ≡ c → cond b Less (cond c Equal Greater) ≡ Equal → m ≡ n
    go true c is e = absurd (cc e)
    go false true is e = eqb-true m n is
    go false false is e = absurd (cc e)

differs : (m n : ℕ) (o : Ordering) → nat_cmp m n ≡ o → (o ≡ Equal → ⊥) → (m == n) ≡ false
differs m n o is other = ne_eqb m n (λ same. other (sym is ∙ equal same))
  where
    equal : m ≡ n → nat_cmp m n ≡ Equal
    equal same = rw (le-ltb m n (omega arith), eq-eqb) refl

-- ---- numbers that rise
first_low : (least : ℕ) (xs : List NodeOf) (d : NodeOf) → NumbersRise least xs → 0 < length xs → least ≤ (get_or xs 0 d).number
first_low least [] d rise some = absurd (omega arith)
first_low least (x ∷ xs) d rise some = rise.0

next_higher : (least : ℕ) (xs : List NodeOf) (k : ℕ) (d : NodeOf) → NumbersRise least xs → suc k < length xs → (get_or xs k d).number < (get_or xs (suc k) d).number
next_higher least [] k d rise low = absurd (omega arith)
next_higher least (x ∷ xs) zero d rise low = omega (arith, first_low _ xs d rise.1 (omega arith))
next_higher least (x ∷ xs) (suc k) d rise low = next_higher (x.number + 1) xs k d rise.1 (omega arith)

higher : (least : ℕ) (xs : List NodeOf) (k : ℕ) (d : NodeOf) → NumbersRise least xs → k + 1 < length xs → (get_or xs k d).number < (get_or xs (k + 1) d).number
higher least xs k d rise low =
    subst (λ j. (get_or xs k d).number < (get_or xs j d).number) (omega arith) (next_higher _ xs k d rise (omega arith))

sorted : (xs : List Node) → NumbersRise 0 (nodes_of xs) → IsSortedBy (λ a b. is_lt (nat_cmp a.number b.number)) xs
sorted xs rise k d from low =
    let up =
    let h = higher 0 (nodes_of xs) k (node_of d) rise (omega (arith, length-map xs node_of)) in
    subst (λ (n : ℕ). n < (get_or xs (k + 1) d).number) (ap (λ (x : NodeOf). x.number) (get_or-map node_of xs k d _ (omega arith)))
    (subst (λ (n : ℕ). (get_or (nodes_of xs) k (node_of d)).number < n) (ap (λ (x : NodeOf). x.number) (get_or-map node_of xs _ d _ low)) h) in
    not_less (get_or xs (k + 1) d).number _ (omega arith)
  where
    not_less : (m n : ℕ) → n ≤ m → is_lt (nat_cmp m n) ≡ false
    not_less m n high = ap (λ b. is_lt (cond b Less (cond (eqb m n) Equal Greater))) (le-ltb m n high) ∙ rest _
      where
        rest : (b : Bool) → is_lt (cond b Equal Greater) ≡ false
        rest true = refl
        rest false = refl

searchable : (xs : List Node) (n : ℕ) → NumbersRise 0 (nodes_of xs) → IsNonDecreasingBy (λ y. ordering_index (nat_cmp y.number n)) xs
searchable xs n rise = searchable_from_sorted nat_cmp_total (λ y. y.number) xs n (sorted xs rise)

-- ---- what a search finds
-- an object at a place
pub at_place : (xs : List Node) (i n : ℕ) → i < length xs → HoldsAt (λ y. nat_cmp y.number n ≡ Equal) xs i → IsAt (nodes_of xs) i n
at_place [] i n low h = absurd (omega arith)
at_place (x ∷ xs) zero n low h = record { node = node_of x; is = refl; number = equal_is _ n (h x) }
at_place (x ∷ xs) (suc i) n low h = let rest = at_place xs i n (omega arith) h in record { node = rest.node; is = rest.is; number = rest.number }

pub found_at : (xs : List Node) (n i : ℕ) → IsBinarySearchResult (λ y. nat_cmp y.number n) xs (Ok i) → i < length xs → IsAt (nodes_of xs) i n
found_at xs n i result low = at_place xs i n low result

pub found_none : (xs : List Node) (n i : ℕ) → NumbersRise 0 (nodes_of xs) → IsBinarySearchResult (λ y. nat_cmp y.number n) xs (Err i) → has_object (nodes_of xs) n ≡ false
found_none xs n i rise result =
    let point = result (searchable xs n rise) in
    mapped xs ∙ list_any_none (λ y. y.number == n) xs (λ k d low. elim (cases_lt k i) [
      | inl below ↦ differs _ n _ (point.0 k d (omega arith) below) (λ e. cc)
      | inr from ↦ differs _ n _ (point.1 k d from low) (λ e. cc)
    ])
  where
    mapped : (ys : List Node) → has_object (nodes_of ys) n ≡ list_any (λ (y : Node). y.number == n) ys
    mapped [] = refl
    mapped (y ∷ ys) = ap (λ b. (y.number == n) || b) (mapped ys)

-- ---- the only one of a number
-- the objects behind one have higher numbers
number_from : (least : ℕ) (nodes : List NodeOf) (i : ℕ) (y : NodeOf) → NumbersRise least nodes → slice_get nodes i ≡ Some y → least ≤ y.number
number_from least [] i y rise is = absurd (cc is)
number_from least (x ∷ nodes) zero y rise is = let same : x ≡ y = cc is in subst (λ z. least ≤ z.number) same rise.0
number_from least (x ∷ nodes) (suc i) y rise is = omega (arith, rise.0, number_from (x.number + 1) _ i y rise.1 is)

none_lower : (least : ℕ) (nodes : List NodeOf) (n : ℕ) → NumbersRise least nodes → n < least → has_directory nodes n ≡ false
none_lower least [] n rise low = refl
none_lower least (x ∷ nodes) n rise low =
    let other = ne_eqb x.number n (λ same. absurd (omega (arith, same))) in
    ap (λ b. (b && is_directory x) || has_directory nodes n) other ∙ none_lower (x.number + 1) nodes n rise.1 (omega (arith, rise.0))

only_directory : (least : ℕ) (nodes : List NodeOf) (i n : ℕ) (y : NodeOf) → NumbersRise least nodes → slice_get nodes i ≡ Some y → y.number ≡ n → is_directory y ≡ has_directory nodes n
only_directory least [] i n y rise is number = absurd (cc is)
only_directory least (x ∷ nodes) zero n y rise is number =
    let same : x ≡ y = cc is in
    let here = eq-eqb x.number n (ap (λ z. z.number) same ∙ number) in
    sym (ap (λ b. (b && is_directory x) || has_directory nodes n) here
    ∙ ap (λ b. is_directory x || b) (none_lower _ _ n rise.1 (omega (arith, eqb-true x.number n here))) ∙ or_no _ ∙ ap is_directory same)
  where
    or_no : (b : Bool) → (b || false) ≡ b
    or_no true = refl
    or_no false = refl
only_directory least (x ∷ nodes) (suc i) n y rise is number =
    let low = number_from _ _ i y rise.1 is in
    let other = ne_eqb x.number n (λ same. absurd (omega (arith, same, number))) in
    only_directory (x.number + 1) _ i n y rise.1 is number ∙ sym (ap (λ b. (b && is_directory x) || has_directory nodes n) other)

-- an object among those that the code has
pub got_node : (nodes : List Node) (i : ℕ) (x : Node) → i < length nodes → x ≡ get_or nodes i x → slice_get (nodes_of nodes) i ≡ Some (node_of x)
got_node [] i x low is = absurd (omega arith)
got_node (y ∷ nodes) zero x low is = ap (λ z. Some (node_of z)) (sym is)
got_node (y ∷ nodes) (suc i) x low is = got_node nodes i x (omega arith) is

pub number_here : (nodes : List Node) (i n : ℕ) (x : Node) → i < length nodes → x ≡ get_or nodes i x → IsAt (nodes_of nodes) i n → x.number ≡ n
number_here nodes i n x low is at =
    let same : at.node ≡ node_of x = cc (at.is, got_node nodes i x low is) in
    sym (ap (λ z. z.number) same) ∙ at.number

pub at_low : (nodes : List Node) (i n : ℕ) → IsAt (nodes_of nodes) i n → i < length nodes
at_low nodes i n at = go _ i _ at.is
  where
    go : (nodes : List Node) (i : ℕ) (y : NodeOf) → slice_get (nodes_of nodes) i ≡ Some y → i < length nodes
    go [] i y is = absurd (cc is)
    go (x ∷ nodes) zero y is = omega arith
    go (x ∷ nodes) (suc i) y is = omega (arith, go nodes i y is)

pub directory_here : (nodes : List Node) (i n : ℕ) (x : Node) → NumbersRise 0 (nodes_of nodes) → i < length nodes → x ≡ get_or nodes i x → IsAt (nodes_of nodes) i n → is_directory (node_of x)
    ≡ has_directory (nodes_of nodes) n
directory_here nodes i n x rise low is at = only_directory 0 _ i n _ rise (got_node _ i x low is) (number_here _ i n x low is at)

not_there : (b d : Bool) (rest none : Bool) → (b || none) ≡ false → (none ≡ false → rest ≡ false) → ((b && d) || rest) ≡ false
not_there true d rest none h more = absurd (cc h)
not_there false d rest none h more = more h

pub no_directory : (nodes : List NodeOf) (n : ℕ) → has_object nodes n ≡ false → has_directory nodes n ≡ false
no_directory [] n none = refl
no_directory (x ∷ nodes) n none = not_there _ _ _ _ none (no_directory nodes n)

pub object_here : (nodes : List NodeOf) (i n : ℕ) → IsAt nodes i n → has_object nodes n ≡ true
object_here nodes i n at = go _ i _ at.is at.number
  where
    go : (nodes : List NodeOf) (i : ℕ) (y : NodeOf) → slice_get nodes i ≡ Some y → y.number ≡ n → has_object nodes n ≡ true
    go [] i y is number = absurd (cc is)
    go (x ∷ nodes) zero y is number = let same : x ≡ y = cc is in ap (λ b. b || has_object nodes n) (eq-eqb x.number n (ap (λ z. z.number) same ∙ number))
    go (x ∷ nodes) (suc i) y is number = ap (λ b. (x.number == n) || b) (go nodes i y is number) ∙ or_yes _
      where
        or_yes : (b : Bool) → (b || true) ≡ true
        or_yes true = refl
        or_yes false = refl

-- ---- the names in object 0
no_roots : (least : ℕ) (nodes : List NodeOf) → NumbersRise least nodes → 0 < least → root_links nodes ≡ []
no_roots least [] rise some = refl
no_roots least (x ∷ nodes) rise some =
    let other = ne_eqb x.number 0 (λ same. absurd (omega (arith, same))) in
    ap (λ b. cond b (links_of x) [] ++ root_links nodes) other ∙ no_roots (x.number + 1) nodes rise.1 (omega arith)

first_got : (nodes : List Node) (x : Node) → 0 < length nodes → x ≡ get_or nodes 0 x → slice_get nodes 0 ≡ Some x
first_got [] x low is = absurd (omega arith)
first_got (y ∷ nodes) x low is = ap (λ z. Some z) (sym is)

roots_there : (nodes : List Node) (x : Node) → NumbersRise 0 (nodes_of nodes) → slice_get nodes 0 ≡ Some x → x.number ≡ 0 → links_of (node_of x) ≡ root_links (nodes_of nodes)
roots_there [] x rise is zeroth = absurd (cc is)
roots_there (y ∷ nodes) x rise is zeroth =
    let same : y ≡ x = cc is in
    sym (ap (λ b. cond b (links_of (node_of y)) [] ++ root_links (nodes_of nodes)) (eq-eqb y.number 0 (ap (λ z. z.number) same ∙ zeroth))
    ∙ ap (λ r. links_of (node_of y) ++ r) (no_roots _ _ rise.1 (omega arith))
    ∙ append-nil _ ∙ ap (λ z. links_of (node_of z)) same)

roots_elsewhere : (nodes : List Node) (x : Node) → NumbersRise 0 (nodes_of nodes) → slice_get nodes 0 ≡ Some x → (x.number ≡ 0 → ⊥) → [] ≡ root_links (nodes_of nodes)
roots_elsewhere [] x rise is other = absurd (cc is)
roots_elsewhere (y ∷ nodes) x rise is other =
    let same : y ≡ x = cc is in
    let not_zero : y.number ≡ 0 → ⊥ = λ z. other (ap (λ z. z.number) (sym same) ∙ z) in
    sym (ap (λ b. cond b (links_of (node_of y)) [] ++ root_links (nodes_of nodes)) (ne_eqb y.number 0 not_zero)
    ∙ no_roots _ _ rise.1 (omega arith))

pub roots_first : (nodes : List Node) (x : Node) → NumbersRise 0 (nodes_of nodes) → 0 < length nodes → x ≡ get_or nodes 0 x → x.number ≡ 0 → links_of (node_of x) ≡ root_links (nodes_of nodes)
roots_first nodes x rise low is zeroth = roots_there _ x rise (first_got _ x low is) zeroth

pub roots_other : (nodes : List Node) (x : Node) → NumbersRise 0 (nodes_of nodes) → 0 < length nodes → x ≡ get_or nodes 0 x → (x.number ≡ 0 → ⊥) → [] ≡ root_links (nodes_of nodes)
roots_other nodes x rise low is other = roots_elsewhere _ x rise (first_got _ x low is) other

-- ---- one object of a number
rises_between : (least : ℕ) (nodes : List NodeOf) (i j : ℕ) (x y : NodeOf) → NumbersRise least nodes → slice_get nodes i ≡ Some x → slice_get nodes j ≡ Some y → i < j → x.number < y.number
rises_between least [] i j x y rise is_x is_y low = absurd (cc is_x)
rises_between least (z ∷ nodes) i zero x y rise is_x is_y low = absurd (omega arith)
rises_between least (z ∷ nodes) zero (suc j) x y rise is_x is_y low =
    let same : z ≡ x = cc is_x in
    let from = number_from _ _ j y rise.1 is_y in
    let number = ap (λ w. w.number) same in
    omega arith
rises_between least (z ∷ nodes) (suc i) (suc j) x y rise is_x is_y low = rises_between (z.number + 1) _ i j x y rise.1 is_x is_y (omega arith)

pub same_place : (nodes : List NodeOf) (i j : ℕ) (x y : NodeOf) → NumbersRise 0 nodes → slice_get nodes i ≡ Some x → slice_get nodes j ≡ Some y → x.number ≡ y.number → i ≡ j
same_place nodes i j x y rise is_x is_y same = elim (cases_lt i j) [
  | inl low ↦ let less = rises_between 0 _ i j x y rise is_x is_y low in absurd (omega arith)
  | inr high ↦ elim (cases_lt j i) [
    | inl low ↦ let less = rises_between 0 _ j i y x rise is_y is_x low in absurd (omega arith)
    | inr low ↦ omega arith
  ]
]

other_number : (b none : Bool) (x : NodeOf) (n : ℕ) → (x.number == n) ≡ b → (b || none) ≡ false → (n ≡ x.number → ⊥)
other_number true none x n here h same = cc h
other_number false none x n here h same = cc (here, eq-eqb x.number n (sym same))

behind_none : (b none : Bool) → (b || none) ≡ false → none ≡ false
behind_none true none h = absurd (cc h)
behind_none false none h = h

pub not_of_number : (nodes : List NodeOf) (n i : ℕ) (x : NodeOf) → has_object nodes n ≡ false → slice_get nodes i ≡ Some x → (n ≡ x.number → ⊥)
not_of_number [] n i x none is same = cc is
not_of_number (y ∷ nodes) n zero x none is same =
    let at : y ≡ x = cc is in
    other_number _ _ y n refl none (same ∙ sym (ap (λ z. z.number) at))
not_of_number (y ∷ nodes) n (suc i) x none is same = not_of_number nodes n i x (behind_none _ _ none) is same
