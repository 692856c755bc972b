-- The schedule of lines, made line after line.
use Rattle.std.proofs.Common.{◌≡◌, ℕ, zero, suc, ◌+◌, ◌-◌, ◌<◌, ◌≤◌, ◌==◌, nat_lt, map, replicate, Bor, Bool, true, false, ◌||◌, cond, List, [], ◌∷◌, ◌++◌, length, drop, take, set, get_or, max}
use Rattle.std.proofs.Common.{count_by, Option, Some, None, option_map, refl, sym, ap, ◌∙◌, subst, ◌⊎◌, arith, append_assoc, add-one, inl, inr}
use Rattle.std.{specs.{List.slice_get, Option.{option_copied, option_map_or}, Slice.IsItemAt, Vec.vec_items}}
use Rattle.std.{proofs.lemmas.List.{append-nil, get_or-map, get_or_past, drop_all, length-drop, length-map, length-replicate, map-append, map-set, get_or-set_same, get_or-set_other}}
use Rattle.std.proofs.{Math.{Nat.max_comm, Seq.{drop-cons, take-nil}}, lemmas.{Bool.{cases_Bool, cases_eq, cases_lt, eq-eqb, le-ltb, lt-ltb, ne_eqb, false≢true}, List.Sums.sum_by-cons}}
use Rattle.std.proofs.lemmas.Option.{none-some, same_Some, slice_get-get_or, slice_get_past}
use Rattle.std.specs.declared.vec.Vec.{Vec}
use Rattle.ix_model.specs.world.Naming.{same_bytes}
use Rattle.ix_script.{specs.{lines.{Before.{is_phase, lanes_of}, Roles.role_of}, scripts.{Held.{IsSchedule, own_of}, Schedule.stretches_of}}, proofs.reader.Walking.next_line}
use Rattle.ix_script.specs.declared.{line.Line.Line, role.Role.Role, schedule.{Schedule.Schedule, Stretch.Stretch}}
use Rattle.ix_script.specs.scripts.Schedule.{phases, seat_begun, seat_from, seat_marked, begins_part, part_len, stretch_by, begun_after, begun_in, stretches_from, stretch_in}
use Rattle.ix_script.specs.declared.line.Line.TheVariants as line
use Rattle.ix_script.specs.declared.role.Role.TheVariants as role

-- ---- seats
pub seat_here : (lanes : List (List ℕ)) (i : ℕ) (name d : List ℕ) → i < length lanes → same_bytes name (get_or lanes i d) ≡ true → seat_from i name (drop i lanes) ≡ Some i
seat_here lanes i name d low is = rw (drop-cons lanes i d low, is) refl

pub seat_later : (lanes : List (List ℕ)) (i : ℕ) (name d : List ℕ) → i < length lanes → same_bytes name (get_or lanes i d) ≡ false
    → seat_from i name (drop i lanes) ≡ seat_from (i + 1) name (drop (i + 1) lanes)
seat_later lanes i name d low is = rw (drop-cons lanes i d low, is) (ap (λ n. seat_from n name (drop n lanes)) (sym (add-one i)))

pub seat_none : (lanes : List (List ℕ)) (i : ℕ) (name : List ℕ) → length lanes ≤ i → seat_from i name (drop i lanes) ≡ None
seat_none lanes i name past = ap (seat_from i name) (drop_all i lanes past)

pub seat_low : (n : ℕ) (name : List ℕ) (lanes : List (List ℕ)) (seat : ℕ) → seat_from n name lanes ≡ Some seat → seat < n + length lanes
seat_low n name [] seat is = absurd (none-some seat is)
seat_low n name (lane ∷ lanes) seat is = elim (cases_Bool (same_bytes name lane)) [
  | inl e ↦ let h : Some n ≡ Some seat = rw e at is in let k : n ≡ seat = cc in omega (arith, k)
  | inr e ↦ let h : seat_from (suc n) name lanes ≡ Some seat = rw e at is in omega (arith, seat_low (suc n) name lanes seat h)
]

-- ---- parts
-- whether it is the role of a `phase` line, and of a `lane` line
abbrev pub phase_role : Role → Bool
phase_role role.Phase = true
phase_role _ = false

abbrev pub lane_role : Role → Bool
lane_role role.Lane = true
lane_role _ = false

abbrev pub begins_role : Role → Bool
begins_role r = phase_role r || lane_role r

pub part_role : (r : Role) → (r ≡ role.Phase) ⊎ (r ≡ role.Lane) → begins_role r ≡ true
part_role r (inl is) = ap begins_role is
part_role r (inr is) = ap begins_role is

pub other_part : (r : Role) → (r ≡ role.Phase → ⊥) → (r ≡ role.Lane → ⊥) → begins_role r ≡ false
other_part role.Phase h k = absurd (h refl)
other_part role.Lane h k = absurd (k refl)
other_part _ h k = refl

part_by_role : (l : Line) → begins_role (role_of l) ≡ begins_part l
unfolding role_of
part_by_role line.Phase = refl
part_by_role (line.Lane name) = refl
part_by_role _ = refl

phase_by_role : (l : Line) → phase_role (role_of l) ≡ is_phase l
unfolding role_of
phase_by_role line.Phase = refl
phase_by_role _ = refl

no_stretch : (lanes : List (List ℕ)) (seat begun i : ℕ) (l : Line) (later : List Line) → lane_role (role_of l) ≡ false → stretch_by lanes seat begun i l later ≡ []
unfolding role_of
no_stretch lanes seat begun i (line.Lane name) later h = absurd (false≢true (sym h))
no_stretch lanes seat begun i _ later h = refl

part_found : (found : Option Line) (r : Role) → option_map role_of found ≡ Some r → option_map_or begins_part found false ≡ begins_role r
part_found None r is = absurd (none-some r is)
part_found (Some l) r is = sym (part_by_role l) ∙ ap begins_role (same_Some _ r is)

pub part_at : (found : Option Line) (r : Role) → Some r ≡ option_map role_of found → begins_role r ≡ option_map_or begins_part found false
part_at found r is = sym (part_found _ r (sym is))

at_line : (lines : List Line) (i : ℕ) → i < length lines → (l : Line) × (slice_get lines i ≡ Some l)
at_line lines i low = (get_or lines i line.Skipped, slice_get-get_or lines i line.Skipped low)

pub part_here : (lines : List Line) (i : ℕ) → option_map_or begins_part (slice_get lines i) false ≡ true → part_len (drop i lines) ≡ 0
part_here lines i is = elim (slice_get lines i) as (λ found. slice_get lines i ≡ found → option_map_or begins_part found false ≡ true → part_len (drop i lines) ≡ 0) [
  | Some l ↦ λ h begins. rw (next_line lines i l h, begins) refl
  | None ↦ λ h begins. absurd (false≢true begins)
] refl is

pub part_later : (lines : List Line) (i : ℕ) → i < length lines → option_map_or begins_part (slice_get lines i) false ≡ false
    → i + part_len (drop i lines) ≡ (i + 1) + part_len (drop (i + 1) lines)
part_later lines i low none =
    let at = at_line _ i low in
    let no = ap (λ found. option_map_or begins_part found false) (sym at.1) ∙ none in
    rw (next_line lines i at.0 at.1, no) (omega arith)

pub part_none : (lines : List Line) (i : ℕ) → length lines ≤ i → part_len (drop i lines) ≡ 0
part_none lines i past = ap part_len (drop_all i lines past)

part_few : (lines : List Line) → part_len lines ≤ length lines
part_few [] = omega arith
part_few (l ∷ lines) = elim (cases_Bool (begins_part l)) [
  | inl e ↦ rw e (omega arith)
  | inr e ↦ rw e (omega (arith, part_few lines))
]

pub part_within : (lines : List Line) (i : ℕ) → i ≤ length lines → i + part_len (drop i lines) ≤ length lines
part_within lines i low = omega (arith, part_few (drop i lines), length-drop i lines)

-- ---- no stretches
pub none_yet : {Z : Type 0} (items : List (Vec Stretch Z)) → items ≡ [] → (seat : ℕ) → own_of items seat ≡ []
none_yet items none seat = ap (λ xs. own_of xs seat) none

one_none : (items : List (List Stretch)) (seat : ℕ) → get_or (items ++ [] ∷ []) seat [] ≡ get_or items seat []
one_none [] zero = refl
one_none [] (suc seat) = refl
one_none (x ∷ items) zero = refl
one_none (x ∷ items) (suc seat) = one_none items _

pub none_more : {Z : Type 0} (items more : List (Vec Stretch Z)) (own : Vec Stretch Z) → own.items ≡ [] → more ≡ items ++ own ∷ [] → ((seat : ℕ) → own_of items seat ≡ [])
    → (seat : ℕ) → own_of more seat ≡ []
none_more items more own none is before seat =
    ap (λ xs. own_of xs seat) is ∙ ap (λ xs. get_or xs seat []) (map-append vec_items items (own ∷ []) ∙ ap (λ o. map vec_items items ++ o ∷ []) none)
    ∙ one_none (map vec_items items) seat ∙ before seat

-- ---- line after line
added : (items : List (List Stretch)) (at seat : ℕ) (t : Stretch) (own : List Stretch) → at < length items → own ≡ get_or items at [] ++ t ∷ []
    → get_or (set items at own) seat [] ≡ get_or items seat [] ++ cond (at == seat) (t ∷ []) []
added items at seat t own low is = elim (cases_eq seat at) [
  | inl e ↦ rw (e, eq-eqb) (get_or-set_same items at own [] low ∙ is)
  | inr ne ↦ rw (ne_eqb at seat (λ e. ne (sym e))) (get_or-set_other items at seat own [] ne ∙ sym (append-nil _))
]

pub item_is : {X : Type 0} (xs : List X) (i : ℕ) (r : Option (Bor X)) → IsItemAt xs i r → option_copied r ≡ slice_get xs i
item_is xs i None h = sym (slice_get_past xs i h.3)
item_is xs i (Some x) h = ap Some h.1 ∙ sym (slice_get-get_or xs i x.now h.3.0)

pub own_here : {Z : Type 0} (items : List (Vec Stretch Z)) (at : ℕ) (own : Vec Stretch Z) → at < length items → own ≡ get_or items at own → own.items ≡ own_of items at
own_here items at own low is = ap vec_items is ∙ sym (get_or-map vec_items items at own [] low)

pub own_past : {Z : Type 0} (items : List (Vec Stretch Z)) (at : ℕ) → length items ≤ at → own_of items at ≡ []
own_past items at past = get_or_past (map vec_items items) at [] (omega (arith, past, length-map items vec_items))

pub added_own : {Z : Type 0} (items : List (Vec Stretch Z)) (at seat : ℕ) (t : Stretch) (own : Vec Stretch Z) → at < length items → own.items ≡ own_of items at ++ t ∷ []
    → own_of (set items at own) seat ≡ own_of items seat ++ cond (at == seat) (t ∷ []) []
added_own items at seat t own low is = ap (λ xs. get_or xs seat []) (map-set vec_items items at own)
    ∙ added (map vec_items items) at seat t own.items (omega (arith, low, length-map items vec_items)) is

pub stretch_here : (lanes : List (List ℕ)) (seat begun i at phase end : ℕ) (lines : List Line) (name : List ℕ) → slice_get lines i ≡ Some (line.Lane name) → seat_from 0 name lanes ≡ Some at
    → phase ≡ begun - 1 → end ≡ (i + 1) + part_len (drop (i + 1) lines) → cond (at == seat) (record { phase = phase; first = i + 1; end = end } ∷ []) [] ≡ stretch_in lanes seat begun i lines
stretch_here lanes seat begun i at phase end lines name is place in_phase up_to = rw (is, place, in_phase, up_to) refl

-- the stretch of a lane that has no seat
pub unseated : (lanes : List (List ℕ)) (seat begun i : ℕ) (lines : List Line) (name : List ℕ) (old : List Stretch) → slice_get lines i ≡ Some (line.Lane name) → seat_from 0 name lanes ≡ None
    → old ≡ old ++ stretch_in lanes seat begun i lines
unseated lanes seat begun i lines name old is none = rw (is, none) (sym (append-nil old))

pub stretches_next : (lanes : List (List ℕ)) (seat begun i : ℕ) (lines : List Line) → i < length lines
    → stretches_from lanes seat begun i (drop i lines) ≡ stretch_in lanes seat begun i lines ++ stretches_from lanes seat (begun_in begun i lines) (i + 1) (drop (i + 1) lines)
stretches_next lanes seat begun i lines low =
    let at = at_line _ i low in
    rw (next_line lines i at.0 at.1, at.1) refl

count_cons : (l : Line) (lines : List Line) → count_by is_phase (l ∷ lines) ≡ cond (is_phase l) 1 0 + count_by is_phase lines
count_cons l lines = sum_by-cons (λ x. cond _ 1 0) l lines

one_begun : (begun : ℕ) (l : Line) (lines : List Line) → begun + count_by is_phase (l ∷ lines) ≡ begun_after begun l + count_by is_phase lines
one_begun begun l lines = ap (λ n. begun + n) (count_cons l lines) ∙ elim (cases_Bool (is_phase l)) [
  | inl e ↦ rw e (omega arith)
  | inr e ↦ rw e (omega arith)
]

pub phases_next : (begun i : ℕ) (lines : List Line) → i < length lines → begun + count_by is_phase (drop i lines) ≡ begun_in begun i lines + count_by is_phase (drop (i + 1) lines)
phases_next begun i lines low =
    let at = at_line _ i low in
    rw (next_line lines i at.0 at.1, at.1) (one_begun _ at.0 (drop _ lines))

-- the seats of the first lines are marked
abbrev pub Marked : List (List ℕ) → List Line → List ℕ → ℕ → Type 0
Marked names lines seats i = (j : ℕ) → seat_marked (get_or seats j 255) ≡ cond (nat_lt j i) (seat_begun names (slice_get lines j)) None

marked_next : (names : List (List ℕ)) (lines : List Line) (old new : List ℕ) (i : ℕ) → Marked names lines old i
    → ((j : ℕ) → seat_marked (get_or new j 255) ≡ cond (j == i) (seat_begun names (slice_get lines j)) (seat_marked (get_or old j 255))) → Marked names lines new (i + 1)
marked_next names lines old new i was set j = elim (cases_eq j i) [
  | inl e ↦ set j ∙ rw (e, eq-eqb i i refl, lt-ltb i (i + 1) (omega arith)) refl
  | inr ne ↦ elim (cases_lt j i) [
    | inl low ↦ set j ∙ rw (ne_eqb j i ne, was j, lt-ltb j i low, lt-ltb j (i + 1) (omega (arith, low))) refl
    | inr high ↦ set j ∙ rw (ne_eqb j i ne, was j, le-ltb j i high, le-ltb j (i + 1) (omega (arith, high, ne))) refl
  ]
]

all_marked : (names : List (List ℕ)) (lines : List Line) (seats : List ℕ) (i : ℕ) → length lines ≤ i → Marked names lines seats i
    → (j : ℕ) → seat_marked (get_or seats j 255) ≡ seat_begun names (slice_get lines j)
all_marked names lines seats i past m j = elim (cases_lt j i) [
  | inl low ↦ m j ∙ rw (lt-ltb j i low) refl
  | inr high ↦ m j ∙ rw (le-ltb j i high, slice_get_past lines j (omega (arith, past, high))) refl
]

-- what is made of the first lines, where the rest is still to be made
pub record Made (names : List (List ℕ)) (lines : List Line) (made : List (List Stretch)) (seats : List ℕ) (begun i : ℕ) : Type 0 where
  pub stretches : (seat : ℕ) → get_or made seat [] ++ stretches_from names seat begun i (drop i lines) ≡ stretches_from names seat 0 0 lines
  pub phases : begun + count_by is_phase (drop i lines) ≡ count_by is_phase lines
  pub lanes : length made ≡ length names
  pub few : begun ≤ i
  pub marked : Marked names lines seats i
  pub marks : length seats ≡ length lines

begun_few : (begun i : ℕ) (lines : List Line) → begun ≤ i → begun_in begun i lines ≤ i + 1
begun_few begun i lines few = elim (slice_get lines i) as (λ found. option_map_or (begun_after begun) found begun ≤ i + 1) [
  | Some l ↦ elim (cases_Bool (is_phase l)) [
    | inl e ↦ rw e (omega (arith, few))
    | inr e ↦ rw e (omega (arith, few))
  ]
  | None ↦ omega (arith, few)
]

pub made_next : (lanes : List (List ℕ)) (lines : List Line) (old new : List (List Stretch)) (seats marks : List ℕ) (begun after i : ℕ) → i < length lines → after ≡ begun_in begun i lines
    → length new ≡ length old → ((seat : ℕ) → get_or new seat [] ≡ get_or old seat [] ++ stretch_in lanes seat begun i lines) → length marks ≡ length lines
    → ((j : ℕ) → seat_marked (get_or marks j 255) ≡ cond (j == i) (seat_begun lanes (slice_get lines j)) (seat_marked (get_or seats j 255)))
    → Made lanes lines old seats begun i → Made lanes lines new marks after (i + 1)
made_next lanes lines old new seats marks begun after i low is long more count set was =
    let next : Made lanes lines new marks (begun_in begun i lines) (i + 1) =
    record {
      stretches = λ seat. rw (more) (append_assoc (get_or old seat []) (stretch_in lanes seat begun i lines) _)
          ∙ ap (λ ts. get_or old seat [] ++ ts) (sym (stretches_next _ _ _ i _ low)) ∙ was.stretches seat;
      phases = sym (phases_next _ i _ low) ∙ was.phases;
      lanes = long ∙ was.lanes;
      few = begun_few _ i _ was.few;
      marked = marked_next _ _ _ _ i was.marked set;
      marks = count;
    } in
    subst (λ n. Made lanes lines new marks n (i + 1)) (sym is) next

-- what a line does by its role
begun_by : (begun : ℕ) (found : Option Line) (r : Role) → Some r ≡ option_map role_of found → option_map_or (begun_after begun) found begun ≡ cond (phase_role r) (begun + 1) begun
begun_by begun None r is = absurd (none-some r (sym is))
begun_by begun (Some l) r is = ap (λ b. cond b (begun + 1) begun) (sym (phase_by_role l) ∙ ap phase_role (same_Some _ r (sym is)))

pub begun_here : (begun i : ℕ) (lines : List Line) (r : Role) → Some r ≡ option_map role_of (slice_get lines i) → begun_in begun i lines ≡ cond (phase_role r) (begun + 1) begun
begun_here begun i lines r is = begun_by _ _ r is

none_by : (lanes : List (List ℕ)) (seat begun i : ℕ) (lines : List Line) (found : Option Line) (r : Role) → Some r ≡ option_map role_of found → lane_role r ≡ false
    → option_map_or (λ l. stretch_by lanes seat begun (i + 1) l (drop (i + 1) lines)) found [] ≡ []
none_by lanes seat begun i lines None r is other = refl
none_by lanes seat begun i lines (Some l) r is other = no_stretch _ _ _ _ l _ (ap lane_role (same_Some _ r (sym is)) ∙ other)

pub none_here : (lanes : List (List ℕ)) (seat begun i : ℕ) (lines : List Line) (r : Role) (old : List Stretch) → Some r ≡ option_map role_of (slice_get lines i) → lane_role r ≡ false
    → old ≡ old ++ stretch_in lanes seat begun i lines
none_here lanes seat begun i lines r old is other = sym (append-nil old) ∙ ap (λ ts. old ++ ts) (sym (none_by _ _ _ i _ _ r is other))

pub other_phase : (r : Role) → (r ≡ role.Phase → ⊥) → phase_role r ≡ false
other_phase role.Phase h = absurd (h refl)
other_phase _ h = refl

pub other_lane : (r : Role) → (r ≡ role.Lane → ⊥) → lane_role r ≡ false
other_lane role.Lane h = absurd (h refl)
other_lane _ h = refl

blank : (n j : ℕ) → seat_marked (get_or (replicate n 255) j 255) ≡ None
blank zero j = refl
blank (suc n) zero = refl
blank (suc n) (suc j) = blank n j

pub blanked : (items : List ℕ) (n m k : ℕ) → items ≡ [] → k ≡ 0 → n ≡ m → take n items ++ replicate (n - k) 255 ≡ replicate m 255
blanked items n m k none short is =
    let whole : m - 0 ≡ m = omega arith in
    rw (none, short, is, take-nil, whole) refl

pub start_made : (names : List (List ℕ)) (lines : List Line) (made : List (List Stretch)) (seats : List ℕ) → length made ≡ length names → ((seat : ℕ) → get_or made seat [] ≡ [])
    → seats ≡ replicate (length lines) 255 → Made names lines made seats 0 0
start_made names lines made seats long none all = record {
  stretches = λ seat. ap (λ ts. ts ++ stretches_from names seat 0 0 lines) (none seat);
  phases = omega arith;
  lanes = long;
  few = omega arith;
  marked = λ j. rw (le-ltb j 0 (omega arith)) (ap (λ ms. seat_marked (get_or ms j 255)) all ∙ blank (length lines) j);
  marks = ap length all ∙ length-replicate _ _;
}

pub all_made : (names : List (List ℕ)) (lines : List Line) (s : Schedule) (begun i : ℕ) → length lines ≤ i → s.phases ≡ max begun 1
    → Made names lines (map vec_items s.stretches.items) s.seats.items begun i
    → IsSchedule s lines names
unfolding phases
all_made names lines s begun i past count m =
    let none = drop_all i lines past in
    let all : begun ≡ count_by is_phase lines = let e : begun + count_by is_phase [] ≡ count_by is_phase lines = rw none at m.phases in omega (arith, e) in
    record {
      phases = count ∙ max_comm begun 1 ∙ ap (max 1) all;
      stretches = λ seat. let e : own_of s.stretches.items seat ++ [] ≡ stretches_from names seat 0 0 lines = rw none at m.stretches seat in sym (append-nil _) ∙ e;
      seats = all_marked _ _ _ i past m.marked;
    }

-- what a line marks by its role
no_seat : (lanes : List (List ℕ)) (l : Line) → lane_role (role_of l) ≡ false → seat_begun lanes (Some l) ≡ None
unfolding role_of
no_seat lanes (line.Lane name) h = absurd (false≢true (sym h))
no_seat lanes _ h = refl

none_begun : (lanes : List (List ℕ)) (found : Option Line) (r : Role) → Some r ≡ option_map role_of found → lane_role r ≡ false → seat_begun lanes found ≡ None
none_begun lanes None r is other = refl
none_begun lanes (Some l) r is other = no_seat lanes l (ap lane_role (same_Some _ r (sym is)) ∙ other)

pub still_marked : (lanes : List (List ℕ)) (lines : List Line) (seats : List ℕ) (i j : ℕ) → seat_begun lanes (slice_get lines i) ≡ None → seat_marked (get_or seats i 255) ≡ None
    → seat_marked (get_or seats j 255) ≡ cond (j == i) (seat_begun lanes (slice_get lines j)) (seat_marked (get_or seats j 255))
still_marked lanes lines seats i j none unset = elim (cases_eq j i) [
  | inl e ↦ rw (e, eq-eqb i i refl, none) unset
  | inr ne ↦ rw (ne_eqb j i ne) refl
]

pub none_marked : (lanes : List (List ℕ)) (lines : List Line) (seats : List ℕ) (i : ℕ) (r : Role) (j : ℕ) → Some r ≡ option_map role_of (slice_get lines i) → lane_role r ≡ false
    → seat_marked (get_or seats i 255) ≡ None → seat_marked (get_or seats j 255) ≡ cond (j == i) (seat_begun lanes (slice_get lines j)) (seat_marked (get_or seats j 255))
none_marked lanes lines seats i r j is other unset = still_marked _ _ seats i j (none_begun _ _ r is other) unset

pub seat_set : (lanes : List (List ℕ)) (lines : List Line) (seats : List ℕ) (i seat j : ℕ) (name : List ℕ) → i < length seats → seat < 64 → slice_get lines i ≡ Some (line.Lane name)
    → seat_from 0 name lanes ≡ Some seat → seat_marked (get_or (set seats i seat) j 255) ≡ cond (j == i) (seat_begun lanes (slice_get lines j)) (seat_marked (get_or seats j 255))
seat_set lanes lines seats i seat j name low few is place = elim (cases_eq j i) [
  | inl e ↦ rw (e, eq-eqb i i refl, get_or-set_same seats i seat 255 low, is, place, ne_eqb seat 255 (λ same. omega (arith, few, same))) refl
  | inr ne ↦ rw (ne_eqb j i ne, get_or-set_other seats i j seat 255 ne) refl
]

pub stretch_at : (names : List (List ℕ)) (lines whole : List Line) (s : Schedule) (seat n : ℕ) → lines ≡ whole → names ≡ lanes_of lines → IsSchedule s lines names
    → slice_get (own_of s.stretches.items seat) n ≡ slice_get (stretches_of whole seat) n
unfolding stretches_of
stretch_at names lines whole s seat n is lanes m =
    ap (λ ts. slice_get ts n) (m.stretches seat ∙ ap (λ ns. stretches_from ns seat 0 0 lines) lanes) ∙ ap (λ ls. slice_get (stretches_from (lanes_of ls) seat 0 0 ls) n) is
