-- Which objects of a world have names, as the code finds them.
use Rattle.std.proofs.Common.{◌≡◌, ℕ, zero, suc, ◌+◌, ◌<◌, ◌≤◌, Bool, true, false, not, cond, ◌==◌, ◌&&◌, ◌||◌, List, [], ◌∷◌, length, get_or, set, take, Some}
use Rattle.std.proofs.Common.{Option, None, option_map, unwrap_or, refl, sym, ap, ◌∙◌, arith, inl, inr}
use Rattle.std.specs.{Prelude.slice_get, Option.{option_map_or, option_and_then, is_some}, List.sum_by}
use Rattle.std.proofs.lemmas.{Bool.{cases_eq, eq-eqb, ne_eqb}, List.{get_or-set_same, get_or-set_other, take_all, Sums.{sum-map, sum_by_more}}}
use Rattle.ix_model.specs.{laws.Sound.Sound, world.{World.{World, Object, at, is_dir}, Owners.{times_in, times_named}, Directories.IsBehind}}
use Rattle.ix_model.specs.{rows.Walks.nothing, history.Views.{view_of, names_there}, declared.views.ObjView.ObjView}
use Rattle.ix_image.specs.{Trees.LinkOf, Taken.is_kept, Saving.{AreNamed, is_dir_kind, is_file_kind, kept_from, kept_view, names_at}}
use Rattle.ix_image.proofs.{Counted.given, Saved.{count_on, kept_there, none_kept}}

-- ---- a mark
pub mark_set : (named : List Bool) (i o : ℕ) → i < length named → get_or (set named i true) o false ≡ (o == i || get_or named o false)
mark_set named i o low = elim (cases_eq o i) [
  | inl same ↦ ap (λ k. get_or (set named i true) k false) same ∙ get_or-set_same named i true false low ∙ sym (ap (λ b. b || get_or named o false) (eq-eqb o i same))
  | inr other ↦ get_or-set_other named i o true false other ∙ sym (ap (λ b. b || get_or named o false) (ne_eqb o i other))
]

pub mark_past : (named : List Bool) (i o : ℕ) → length named ≤ i → o < length named → get_or named o false ≡ (o == i || get_or named o false)
mark_past named i o high low = sym (ap (λ b. b || get_or named o false) (ne_eqb o i (λ same. absurd (omega (arith, same)))))

-- ---- the names of a directory
-- where a directory stands, its names
abbrev there_of : Option Object → Option (List LinkOf)
there_of o = cond (is_dir (unwrap_or o nothing)) (Some (unwrap_or o nothing).names) None

abbrev names_of : Option Object → List LinkOf
names_of o = option_map_or (λ x. x.names) o []

some_number : (a b : ℕ) → Some a ≡ Some b → a ≡ b
some_number a b e = cc e

are : (o : Option Object) (count : ℕ) → option_map (λ (ls : List LinkOf). length ls) (there_of o) ≡ Some count → (there_of o ≡ Some (names_of o)) × (count ≡ length (names_of o))
are None count h = absurd (cc h)
are (Some x) count h = go _ h
  where
    go : (b : Bool) → option_map (λ (ls : List LinkOf). length ls) (cond {A = Option (List LinkOf)} b (Some x.names) None) ≡ Some count
        → (cond {A = Option (List LinkOf)} b (Some x.names) None ≡ Some x.names) × (count ≡ length x.names)
    go true h = (refl, sym (some_number _ _ h))
    go false h = absurd (cc h)

are_not : (o : Option Object) → option_map (λ (ls : List LinkOf). length ls) (there_of o) ≡ None → ((x : Object) → o ≡ Some x → is_dir x ≡ false → x.names ≡ []) → names_of o ≡ []
are_not None h none = refl
are_not (Some x) h none = go _ refl h
  where
    go : (b : Bool) → is_dir x ≡ b → option_map (λ (ls : List LinkOf). length ls) (cond {A = Option (List LinkOf)} b (Some x.names) None) ≡ None → x.names ≡ []
    go true is h = absurd (cc h)
    go false is h = none x refl is

pub names_are : (w : World) (n count : ℕ) → option_map (λ (ls : List LinkOf). length ls) (names_there w.frame.objects n) ≡ Some count → (names_there w.frame.objects n ≡ Some (names_at w n))
    × (count ≡ length (names_at w n))
names_are w n count h = are (at _ n) _ h

pub no_names : (w : World) (n : ℕ) → Sound w → option_map (λ (ls : List LinkOf). length ls) (names_there w.frame.objects n) ≡ None → names_at w n ≡ []
no_names w n sound h = are_not _ h (λ x is dir. sound.names.in_directories n x is dir)

pub first_name : (w : World) (n : ℕ) (next : Option LinkOf) → names_there w.frame.objects n ≡ Some (names_at w n) → next
    ≡ option_and_then (λ (ls : List LinkOf). slice_get ls 0) (names_there w.frame.objects n) → next ≡ slice_get (names_at w n) 0
first_name w n next there is = is ∙ ap (λ o. option_and_then (λ ls. slice_get ls 0) o) there

-- how often a directory names an object
pub times_given : (w : World) (n o : ℕ) → times_in o (at w.frame.objects n) ≡ given o (names_at w n)
times_given w n o = go (at _ n)
  where
    go : (x : Option Object) → times_in o x ≡ given o (names_of x)
    go None = refl
    go (Some x) = refl

-- ---- name after name
pub not_past : {A : Type 0} (xs : List A) (i : ℕ) → i < length xs → slice_get xs i ≡ None → ⊥
not_past [] i low none = omega arith
not_past (x ∷ xs) zero low none = cc none
not_past (x ∷ xs) (suc i) low none = not_past xs i (omega arith) none

got : (xs : List LinkOf) (i : ℕ) (x : LinkOf) → slice_get xs i ≡ Some x → x ≡ get_or xs i x
got [] i x is = absurd (cc is)
got (y ∷ xs) zero x is = sym (cc is)
got (y ∷ xs) (suc i) x is = got xs i x is

got_low : (xs : List LinkOf) (i : ℕ) (x : LinkOf) → slice_get xs i ≡ Some x → i < length xs
got_low [] i x is = absurd (cc is)
got_low (y ∷ xs) zero x is = omega arith
got_low (y ∷ xs) (suc i) x is = omega (arith, got_low xs i x is)

-- some were counted, or one more is
some_or : (f b : Bool) (g k : ℕ) → cond {A = ℕ} b 1 0 ≡ k → (b || (f || not (g == 0))) ≡ (f || not (g + k == 0))
some_or f true g k is = sym (ap (λ c. f || not c) (ne_eqb _ 0 (λ zeros. absurd (omega (arith, is, zeros)))) ∙ or_true f)
  where
    or_true : (f : Bool) → (f || true) ≡ true
    or_true true = refl
    or_true false = refl
some_or f false g k is = ap (λ m. f || not (m == 0)) (sym (omega (arith, is)))

-- the marks so far, in a directory
abbrev pub MarkedTo : List LinkOf → ℕ → List Bool → List Bool → Type 0
MarkedTo names i old now = (o : ℕ) → o < length old → get_or now o false ≡ (get_or old o false || not (given o (take i names) == 0))

pub none_marked : (names : List LinkOf) (old : List Bool) → MarkedTo names 0 old old
none_marked names old o low = or_no _
  where
    or_no : (b : Bool) → b ≡ (b || false)
    or_no true = refl
    or_no false = refl

pub one_marked : (names : List LinkOf) (i : ℕ) (l : LinkOf) (old now after : List Bool) → slice_get names i ≡ Some l → length now ≡ length old
    → ((o : ℕ) → o < length now → get_or after o false ≡ (o == l.1 || get_or now o false)) → MarkedTo names i old now
    → MarkedTo names (i + 1) old after
one_marked names i l old now after is long marked so_far o low =
    marked o (omega arith) ∙ ap (λ b. (o == l.1) || b) (so_far o low)
    ∙ some_or _ _ _ _ (ap (λ b. cond b 1 0) (turn o _))
    ∙ ap (λ m. get_or old o false || not (m == 0)) (sym (sum_by_more (λ k. cond (k.1 == o) 1 0) names i l (got_low _ i l is)
    ∙ ap (λ k. given o (take i names) + cond (k.1 == o) 1 0) (sym (got _ i l is))))
  where
    turn : (a b : ℕ) → (a == b) ≡ (b == a)
    turn a b = elim (cases_eq a b) [
      | inl same ↦ eq-eqb a b same ∙ sym (eq-eqb b a (sym same))
      | inr other ↦ ne_eqb a b other ∙ sym (ne_eqb b a (λ same. other (sym same)))
    ]

pub all_marked : (w : World) (n i : ℕ) (old now : List Bool) (o : ℕ) → length (names_at w n) ≤ i → MarkedTo (names_at w n) i old now → o < length old → get_or now o false
    ≡ (get_or old o false || not (times_in o (at w.frame.objects n) == 0))
all_marked w n i old now o all so_far low =
    so_far o low ∙ ap (λ ls. get_or old o false || not (given o ls == 0)) (take_all i _ all) ∙ ap (λ m. get_or old o false || not (m == 0)) (sym (times_given w n o))

pub nothing_marked : (w : World) (n : ℕ) (old : List Bool) (o : ℕ) → names_at w n ≡ [] → get_or old o false ≡ (get_or old o false || not (times_in o (at w.frame.objects n) == 0))
nothing_marked w n old o none =
    or_no _ ∙ ap (λ m. get_or old o false || not (m == 0)) (sym (times_given w n o ∙ ap (λ ls. given o ls) none))
  where
    or_no : (b : Bool) → b ≡ (b || false)
    or_no true = refl
    or_no false = refl

-- ---- directory after directory
pub record NamedTo (objects : List (Option Object)) (n : ℕ) (named : List Bool) : Type 0 where
  pub long : length named ≡ length objects
  pub each : (o : ℕ) → o < length named → get_or named o false ≡ not (sum_by (times_in o) (take n objects) == 0)

pub named_begin : (objects : List (Option Object)) (named : List Bool) → length named ≡ length objects → ((o : ℕ) → get_or named o false ≡ false) → NamedTo objects 0 named
named_begin objects named long none = record { long = long; each = λ o low. none o }

pub named_on : (objects : List (Option Object)) (n : ℕ) (named after : List Bool) → n < length objects → length after ≡ length named
    → ((o : ℕ) → o < length named → get_or after o false ≡ (get_or named o false || not (times_in o (at objects n) == 0))) → NamedTo objects n named → NamedTo objects (n + 1) after
named_on objects n named after low long marked so_far = record {
  long = long ∙ so_far.long;
  each = λ o small.
      let within : o < length named = omega arith in
      marked o within ∙ ap (λ b. b || not (times_in o (at objects n) == 0)) (so_far.each o within) ∙ both _ _
      ∙ ap (λ m. not (m == 0)) (sym (sum_by_more _ objects n None low));
}
  where
    both : (a b : ℕ) → (not (a == 0) || not (b == 0)) ≡ not (a + b == 0)
    both zero b = ap (λ m. not (m == 0)) (omega arith)
    both (suc a) b = ap (λ c. not c || not (b == 0)) (ne_eqb _ 0 (λ zeros. absurd (omega (arith, zeros)))) ∙ sym (ap not (ne_eqb _ 0 (λ zeros. absurd (omega (arith, zeros)))))

pub named_end : (w : World) (n : ℕ) (named : List Bool) → length w.frame.objects ≤ n → NamedTo w.frame.objects n named → AreNamed w named
named_end w n named all so_far = record {
  long = so_far.long;
  each = λ o low. so_far.each o low ∙ ap (λ xs. not (sum_by (times_in o) xs == 0)) (take_all n w.frame.objects all)
      ∙ ap (λ m. not (m == 0)) (sym (sum-map (times_in o) w.frame.objects));
}

-- ---- what is kept
table_low : (table : List (Option Object)) (n : ℕ) (v : ObjView) → option_map view_of (at table n) ≡ Some v → n < length table
table_low [] n v is = absurd (cc is)
table_low (y ∷ table) zero v is = omega arith
table_low (y ∷ table) (suc n) v is = omega (arith, table_low table n v is)

pub view_low : (w : World) (named : List Bool) (n : ℕ) (v : ObjView) → AreNamed w named → Some v ≡ option_map view_of (at w.frame.objects n) → n < length named
view_low w named n v are is = omega (arith, are.long, table_low _ n v (sym is))

pub view_kept : (w : World) (named : List Bool) (n : ℕ) (v : ObjView) (b : Bool) → AreNamed w named → Some v ≡ option_map view_of (at w.frame.objects n) → b
    ≡ (is_dir_kind v.kind || is_file_kind v.kind && get_or named n false)
    → cond {A = Option ObjView} b (Some v) None ≡ kept_view w n
view_kept w named n v b are is test = go _ refl is
  where
    some_is : (a b : ObjView) → Some a ≡ Some b → a ≡ b
    some_is a b e = cc e

    marked : get_or named n false ≡ not (times_named w.frame.objects n == 0)
    marked = are.each n (view_low w _ n v are is)

    go : (o : Option Object) → at w.frame.objects n ≡ o → Some v ≡ option_map view_of o → cond {A = Option ObjView} b (Some v) None ≡ kept_view w n
    go None at_is h = absurd (cc h)
    go (Some x) at_is h =
        let seen = some_is v _ h in
        (λ j. cond ((test ∙ (λ j. is_dir_kind (seen j).kind || is_file_kind (seen j).kind && marked j)) j) (Some (seen j)) None)
        ∙ sym (ap (λ o. option_and_then (λ y. cond (is_kept w n y) (Some (view_of y)) None) o) at_is)

pub view_none : (w : World) (n : ℕ) → None ≡ option_map view_of (at w.frame.objects n) → None ≡ kept_view w n
view_none w n is = go _ refl is
  where
    go : (o : Option Object) → at w.frame.objects n ≡ o → None ≡ option_map view_of o → None ≡ kept_view w n
    go None at_is h = sym (ap (λ o. option_and_then (λ y. cond (is_kept w n y) (Some (view_of y)) None) o) at_is)
    go (Some x) at_is h = absurd (cc h)

-- ---- how many are kept
pub count_some : (w : World) (n : ℕ) → n < length w.frame.objects → is_some (kept_view w n) ≡ true → length (kept_from w n) ≡ 1 + length (kept_from w (n + 1))
count_some w n low h = go _ refl h
  where
    go : (o : Option ObjView) → kept_view w n ≡ o → is_some o ≡ true → length (kept_from w n) ≡ 1 + length (kept_from w (n + 1))
    go None is h = absurd (cc h)
    go (Some v) is h = count_on w n low ∙ ap (λ xs. length xs + length (kept_from w (n + 1))) (kept_there w n v is).alone

pub count_none : (w : World) (n : ℕ) → n < length w.frame.objects → is_some (kept_view w n) ≡ false → length (kept_from w n) ≡ 0 + length (kept_from w (n + 1))
count_none w n low h = go _ refl h
  where
    go : (o : Option ObjView) → kept_view w n ≡ o → is_some o ≡ false → length (kept_from w n) ≡ 0 + length (kept_from w (n + 1))
    go None is h = count_on w n low ∙ ap (λ xs. length xs + length (kept_from w (n + 1))) (none_kept w n is)
    go (Some v) is h = absurd (cc h)

-- ---- a loop over names
pub entry_there : {A : Type 0} (f : A → LinkOf) (next : Option A) (e : A) (names : List LinkOf) (i : ℕ) → next ≡ Some e → option_map f next ≡ slice_get names i → slice_get names i ≡ Some (f e)
entry_there f next e names i is there = sym there ∙ ap (λ o. option_map f o) is

pub next_there : (w : World) (n i : ℕ) (name : List ℕ) (o : ℕ) (next : Option LinkOf) → names_there w.frame.objects n ≡ Some (names_at w n) → slice_get (names_at w n) i ≡ Some (name, o)
    → ((names : List LinkOf) → names_there w.frame.objects n ≡ Some names → IsBehind names name next) → next ≡ slice_get (names_at w n) (i + 1)
next_there w n i name o next there is behind = behind _ there i o is
