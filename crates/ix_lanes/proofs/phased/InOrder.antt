-- A serial run that asks for one call at a time: the entries that are left, line by line and call by call.
use Rattle.std.proofs.Common.{◌≡◌, ℕ, suc, ◌+◌, ◌<◌, Bool, true, false, true≢false, List, [], ◌∷◌, length, map, take, drop, set, Option, Some, None, inl}
use Rattle.std.proofs.Common.{IfSome, is_some, inr, if◌then◌else◌, option_map, refl, sym, ap, ◌∙◌, subst, arith, slice_get, slice_index_or, length-set}
use Rattle.std.specs.{List.fold, Option.option_map_or}
use Rattle.std.proofs.{Math.Seq.drop-cons, lemmas.Bool.cases_Bool, lemmas.Bool.Decides.Decides-eqb, lemmas.List.{get_or-map, map-set, set-get_or}}
use Rattle.std.proofs.lemmas.Option.{get_or_from_slice_get, slice_get-get_or, slice_get_within}
use Rattle.ix_model.specs.{history.{Events.Event, Step.step_of}, world.World.World}
use Rattle.ix_policy.specs.declared.rule.Rule.{Rule}
use Rattle.ix_asking.specs.{Asking.{Answered, Asked, Asking, Ask, Due, IsDue, came_as, first, heard, mapped}, Runs.entry_of, declared.copying.Copying.Copying}
use Rattle.ix_asking.specs.Asking as asking
use Rattle.ix_script.specs.{lines.{Before.lanes_of, Roles.role_of}, declared.{line.Line.Line, role.Role.Role}}
use Rattle.ix_script.specs.scripts.Schedule.{begins_part, is_seat, seat_after}
use Rattle.ix_script.specs.declared.line.Line.TheVariants as line
use Rattle.ix_lanes.specs.{asking.Asked.{Names, Numbers, asked, named, no_names}, asking.LineAsks.{line_asks, one_call}, asking.Places.{KeepsPlaces, standing}}
use Rattle.ix_lanes.specs.{asking.Ruled.rules_told, declared.{asking.{handed.Handed.Handed, places.Places.Places}, running.part.Part.Part}}
use Rattle.ix_lanes.specs.histories.{Indexed.line_in, Serial.{answered, header_of, made_then, names_of, renamed, serial_from}}
use Rattle.ix_lanes.specs.running.{Fields.all_placed, Left.{Holds, IsHeard, IsPending, is_over, part_left}, Phases.{lane_among, seat_at}}
use Rattle.ix_lanes.specs.declared.asking.handed.Handed.TheVariants as handed
use Rattle.ix_lanes.specs.declared.running.part.Part.TheVariants as part
use Rattle.ix_lanes.specs.running.Serially.{ArePlaced, IsWithin, SerialLeft, after_line, entries_left, entry_next, line_left, most_entries, next_entry}
use Rattle.ix_lanes.specs.running.Serially.{role_begins}
use Rattle.ix_lanes.proofs.{found.{Indexed.each_set, Roles.begins-role}, phased.{Among.{part_asks, part_names}, Lefts.{due_here, pending_due}, Placed.keeps-lines}}
use Rattle.ix_lanes.proofs.serially.LaneSteps.{seat_within}

-- ---- seats
fold_low : (lanes : List (List ℕ)) (start : Option ℕ) (lines : List Line) → IfSome start (λ k. k < length lanes) → IfSome (fold (seat_after lanes) start lines) (λ k. k < length lanes)
fold_low lanes start [] h = h
fold_low lanes start (l ∷ lines) h = fold_low lanes (seat_after lanes start l) lines (seat_within lanes start l (length lanes) refl h)

-- a line stands in a lane that there is
pub seat_low : (s lines : List Line) (k : ℕ) → seat_at s lines ≡ Some k → k < length (lanes_of s)
seat_low s lines k is = subst (λ (o : Option ℕ). IfSome o (λ n. n < length (lanes_of s))) is (fold_low (lanes_of s) None lines tt)

-- ---- calls
-- of what a seat asks for, the call that stands next is made first
pub made_due : {R : Type 0} (k : ℕ) (w : World) (place : ℕ) (p : Asking R) (after : World → ℕ → R → List Event) (a : Asked) → first p ≡ Due a
    → made_then k w place p after
    ≡ entry_of k a ∷ made_then k (step_of w place (entry_of k a)).world (place + 1) (heard p (answered (step_of w place (entry_of k a)))) after
made_due k w place (asking.Done r) after a h = cc
made_due k w place (Ask x later) after a h =
    let same : x ≡ a = cc in
    λ i. entry_of k (same i) ∷ made_then k (step_of w place (entry_of k (same i))).world (place + 1) (later (answered (step_of w place (entry_of k (same i))))) after

-- ---- lines
module _ (s : List Line) (i : ℕ) (low : i < length s) where
  next_line : drop i s ≡ line_in s i ∷ drop (i + 1) s
  next_line = let more : suc i ≡ i + 1 = omega arith in drop-cons s i line.Skipped low ∙ ap (λ n. line_in s i ∷ drop n s) more

  module _ (w : World) (place : ℕ) (names : List Names) where
    -- a line of no lane
    pub line_of_none : serial_from s w place names None (i + 1) (drop i s) ≡ serial_from s w place names (seat_after (lanes_of s) None (line_in s i)) (suc (i + 1)) (drop (i + 1) s)
    line_of_none = ap (serial_from s w place names None (i + 1)) next_line

    -- a line of a lane
    pub line_of_seat : (k : ℕ) → serial_from s w place names (Some k) (i + 1) (drop i s)
        ≡ made_then k w place (line_asks (rules_told s) (header_of s) (names_of names k) (i + 1) (line_in s i))
        (λ v next g. serial_from s v next (renamed names k (line_in s i) g) (seat_after (lanes_of s) (Some k) (line_in s i)) (suc (i + 1)) (drop (i + 1) s))
    line_of_seat k = ap (serial_from s w place names (Some k) (i + 1)) next_line

    -- one that asks for nothing
    pub line_asks_none : (k : ℕ) → line_asks (rules_told s) (header_of s) (names_of names k) (i + 1) (line_in s i) ≡ asking.Done handed.Nothing
        → serial_from s w place names (Some k) (i + 1) (drop i s)
        ≡ serial_from s w place (renamed names k (line_in s i) handed.Nothing) (seat_after (lanes_of s) (Some k) (line_in s i)) (suc (i + 1)) (drop (i + 1) s)
    line_asks_none k none =
        line_of_seat k
        ∙ ap (λ p. made_then k w place p (λ v next g. serial_from s v next (renamed names k (line_in s i) g) (seat_after (lanes_of s) (Some k) (line_in s i)) (suc (i + 1)) (drop (i + 1) s))) none

-- ---- names
module _ (all : List Places) (k : ℕ) (p : Places) (there : slice_get all k ≡ Some p) where
  -- the names of a lane
  pub names_there : names_of (map standing all) k ≡ standing p
  names_there = get_or-map standing all k p no_names (slice_get_within all k p there) ∙ ap standing (get_or_from_slice_get all k p p there)

  -- which were given something
  pub names_set : (q : Places) (l : Line) (g : Handed) → standing q ≡ named (standing p) l g → map standing (set all k q) ≡ renamed (map standing all) k l g
  names_set q l g is = map-set standing all k q ∙ ap (set (map standing all) k) (is ∙ ap (λ n. named n l g) (sym names_there))

  -- keep their places
  pub placed_set : (s : List Line) (q : Places) → ArePlaced s all → KeepsPlaces p q → ArePlaced s (set all k q)
  placed_set s q placed keeps = record {
    count = length-set all k q ∙ placed.count;
    placed = each_set (λ seat names. all_placed names (lane_among s seat s) ≡ true) all k q (slice_get_within all k p there)
        (keeps-lines p q keeps (lane_among s k s) (placed.placed k p there)) (λ seat names other. placed.placed seat names);
  }

-- ---- where a run comes to a line
module _ (s : List Line) (i : ℕ) (low : i < length s) (all : List Places) (k : ℕ) (p : Places) (there : slice_get all k ≡ Some p) (seat : Option ℕ) (is : seat ≡ Some k)
    (rules : Option (List Rule)) (header : Numbers) (told : rules ≡ rules_told s) (tables : header ≡ header_of s) (l : Line) (same : l ≡ line_in s i) where
  abbrev names : List Names
  names = map standing all

  asks_is : line_asks rules header (standing p) (i + 1) l ≡ line_asks (rules_told s) (header_of s) (names_of names k) (i + 1) (line_in s i)
  asks_is = λ j. line_asks (told j) (tables j) (sym (names_there all k p there) j) (i + 1) (same j)

  left_is : (c : Copying) (at_part : Part) → part_left header (standing p) (i + 1) l c at_part ≡ part_left (header_of s) (names_of names k) (i + 1) (line_in s i) c at_part
  left_is c at_part = λ j. part_left (tables j) (sym (names_there all k p there) j) (i + 1) (same j) c at_part

  -- which asks for a call
  module _ (c : Copying) (at_part : Part) (asks : part_left header (standing p) (i + 1) l c at_part ≡ line_asks rules header (standing p) (i + 1) l) (not : is_over at_part ≡ false) where
    abbrev stands : List Places → Option ℕ → SerialLeft
    stands places at_seat = record { script = s; names = map standing places; at = i; seat = at_seat; copying = c; part = at_part }

    begun_here : (w : World) (place : ℕ) → entries_left (stands all (Some k)) w place ≡ serial_from s w place names (Some k) (i + 1) (drop i s)
    begun_here w place =
        rw not (ap (λ q. made_then k w place q (after_line (stands all (Some k)) k)) (sym (left_is c at_part) ∙ asks ∙ asks_is))
        ∙ sym (line_of_seat s i low w place names k)

    pub begun_left : (w : World) (place : ℕ) → entries_left (stands (set all k p) seat) w place ≡ serial_from s w place names seat (i + 1) (drop i s)
    begun_left w place =
        (λ j. entries_left (stands (itself j) (is j)) w place) ∙ begun_here w place ∙ ap (λ o. serial_from s w place names o (i + 1) (drop i s)) (sym is)
      where
        itself : set all k p ≡ all
        itself = ap (set all k) (sym (get_or_from_slice_get all k p p there)) ∙ set-get_or all k p

    pub begun_within : (buf : List ℕ) → seat ≡ seat_at s (take i s) → (kept : Option Line) → kept ≡ Some (line_in s i) → role_begins (role_of (line_in s i)) ≡ false
        → IsPending at_part (part_left header (standing p) (i + 1) l c at_part) → Holds l buf at_part → IsWithin s (set all k p) i seat kept buf c at_part
    begun_within buf seated kept line apart pending holds = record {
      within = omega (arith, low);
      in_lane = seated;
      low = λ h. low;
      line = λ h. line;
      apart = λ h. apart;
      seated = λ h. ap is_some is;
      pending = λ m here.
          let one : k ≡ m = let h : Some k ≡ Some m = sym is ∙ here in cc in
          let all_is : set all k p ≡ all = ap (set all k) (sym (get_or_from_slice_get all k p p there)) ∙ set-get_or all k p in
          let path : part_left header (standing p) (i + 1) l c at_part ≡ part_left (header_of s) (names_of (map standing (set all k p)) m) (i + 1) (line_in s i) c at_part =
          (λ j. part_left (tables j) (sym (names_there all k p there) j) (i + 1) (same j) c at_part)
          ∙ (λ j. part_left (header_of s) (names_of (map standing (sym all_is j)) (one j)) (i + 1) (line_in s i) c at_part) in
          subst (IsPending at_part) path pending;
      holds = subst (λ (x : Line). Holds x buf at_part) same holds;
    }

  -- which asks for none
  pub skipped : line_asks rules header (standing p) (i + 1) l ≡ asking.Done handed.Nothing → (q : Places) → standing q ≡ named (standing p) l handed.Nothing
      → (next : Option ℕ) → next ≡ seat_after (lanes_of s) seat (line_in s i) → (j : ℕ) → j ≡ i + 1
      → (w : World) (place : ℕ) → serial_from s w place (map standing (set all k q)) next (j + 1) (drop j s) ≡ serial_from s w place names seat (i + 1) (drop i s)
  skipped none q given next seated j at w place =
      let more : j + 1 ≡ suc (i + 1) = omega (arith, at) in
      (λ x. serial_from s w place (names_set all k p there q l handed.Nothing given x) ((seated ∙ ap (λ o. seat_after (lanes_of s) o (line_in s i)) is) x) (more x) (drop (at x) s))
      ∙ ap (λ m. serial_from s w place (renamed names k m handed.Nothing) (seat_after (lanes_of s) (Some k) (line_in s i)) (suc (i + 1)) (drop (i + 1) s)) same
      ∙ sym (line_asks_none s i low w place names k (sym asks_is ∙ none))
      ∙ ap (λ o. serial_from s w place names o (i + 1) (drop i s)) (sym is)

-- a line of no lane
pub passed : (s : List Line) (i : ℕ) → i < length s → (names : List Names) (seat : Option ℕ) → seat ≡ None → (next : Option ℕ) → next ≡ seat_after (lanes_of s) seat (line_in s i)
    → (j : ℕ) → j ≡ i + 1 → (w : World) (place : ℕ) → serial_from s w place names next (j + 1) (drop j s) ≡ serial_from s w place names seat (i + 1) (drop i s)
passed s i low names seat none next seated j at w place =
    let more : j + 1 ≡ suc (i + 1) = omega (arith, at) in
    (λ x. serial_from s w place names ((seated ∙ ap (λ o. seat_after (lanes_of s) o (line_in s i)) none) x) (more x) (drop (at x) s))
    ∙ sym (line_of_none s i low w place names) ∙ ap (λ o. serial_from s w place names o (i + 1) (drop i s)) (sym none)

-- ---- the seat in which a line may ask
-- it is that of its lane
pub asking_seat : (r : Role) (seat asked : Option ℕ) (k : ℕ) → asked ≡ (if role_begins r then None else seat) → asked ≡ Some k → seat ≡ Some k
asking_seat r seat asked k is some = elim (cases_Bool (role_begins r)) [
  | inl e ↦ let none : asked ≡ None = rw e at is in cc
  | inr e ↦ let same : asked ≡ seat = rw e at is in sym same ∙ some
]

module _ (s : List Line) (i : ℕ) (low : i < length s) (names : List Names) where
  -- a line that begins a part asks for nothing, and leaves the names
  part_passed : begins_part (line_in s i) ≡ true → (k : ℕ) (w : World) (place : ℕ)
      → serial_from s w place names (seat_after (lanes_of s) (Some k) (line_in s i)) (suc (i + 1)) (drop (i + 1) s) ≡ serial_from s w place names (Some k) (i + 1) (drop i s)
  part_passed part k w place =
      let kept : renamed names k (line_in s i) handed.Nothing ≡ names = ap (set names k) (part_names (names_of names k) (line_in s i) part) ∙ set-get_or names k no_names in
      sym (line_asks_none s i low w place names k (part_asks (rules_told s) (header_of s) (names_of names k) (i + 1) (line_in s i) part)
      ∙ ap (λ all. serial_from s w place all (seat_after (lanes_of s) (Some k) (line_in s i)) (suc (i + 1)) (drop (i + 1) s)) kept)

  -- where it may ask in no seat, it is passed
  pub unasked : (r : Role) → r ≡ role_of (line_in s i) → (seat asked : Option ℕ) → asked ≡ (if role_begins r then None else seat) → asked ≡ None
      → (next : Option ℕ) → next ≡ seat_after (lanes_of s) seat (line_in s i) → (j : ℕ) → j ≡ i + 1
      → (w : World) (place : ℕ) → serial_from s w place names next (j + 1) (drop j s) ≡ serial_from s w place names seat (i + 1) (drop i s)
  unasked r role seat asked is none next seated j at w place = go seat refl
    where
      go : (o : Option ℕ) → seat ≡ o → serial_from s w place names next (j + 1) (drop j s) ≡ serial_from s w place names seat (i + 1) (drop i s)
      go None out = passed s i low names seat out next seated j at w place
      go (Some k) within = elim (cases_Bool (role_begins r)) [
        | inr e ↦ let same : asked ≡ seat = rw e at is in passed s i low names seat (sym same ∙ none) next seated j at w place
        | inl e ↦
            let part : begins_part (line_in s i) ≡ true = sym (begins-role (line_in s i)) ∙ ap role_begins (sym role) ∙ e in
            let more : j + 1 ≡ suc (i + 1) = omega (arith, at) in
            (λ x. serial_from s w place names ((seated ∙ ap (λ o. seat_after (lanes_of s) o (line_in s i)) within) x) (more x) (drop (at x) s))
            ∙ part_passed part k w place
            ∙ ap (λ o. serial_from s w place names o (i + 1) (drop i s)) (sym within)
      ]

-- a lane of a line, and its names
module _ (s : List Line) (all : List Places) (i k : ℕ) (placed : ArePlaced s all) (is : seat_at s (take i s) ≡ Some k) where
  pub lane_within : k < length all
  lane_within = let low = seat_low s (take i s) k is in omega (arith, low, placed.count)

  pub lane_there : (d : Places) → slice_get all k ≡ Some (slice_index_or all k d)
  lane_there d = slice_get-get_or all k d lane_within

  pub lane_mine : is_seat k (seat_at s (take i s)) ≡ true
  lane_mine = let one : is_seat k (Some k) ≡ true = (Decides-eqb k k).1 refl in ap (is_seat k) is ∙ one

-- and begins no part
pub asking_apart : (r : Role) (seat asked : Option ℕ) (k : ℕ) → asked ≡ (if role_begins r then None else seat) → asked ≡ Some k → role_begins r ≡ false
asking_apart r seat asked k is some = elim (cases_Bool (role_begins r)) [
  | inl e ↦ let none : asked ≡ None = rw e at is in cc
  | inr e ↦ e
]

-- ---- where a run stands in a line
-- a call stands next
pub due_stands : (c : SerialLeft) → is_some (next_entry c) ≡ true → (is_over c.part ≡ false) × ((k : ℕ) → c.seat ≡ Some k → IsDue (first (line_left c k))) × (is_some c.seat ≡ true)
due_stands c due = go (is_over c.part) refl c.seat refl
  where
    at_seat : (k : ℕ) (n : asking.Next Handed) → is_some (entry_next k n) ≡ true → IsDue n
    at_seat k (asking.Came g) h = absurd (true≢false (sym h))
    at_seat k (Due a) h = tt

    go : (b : Bool) → is_over c.part ≡ b → (o : Option ℕ) → c.seat ≡ o → (is_over c.part ≡ false) × ((k : ℕ) → c.seat ≡ Some k → IsDue (first (line_left c k))) × (is_some c.seat ≡ true)
    go true over o is = absurd (true≢false (sym (rw over at due)))
    go false over None is = absurd (true≢false (sym (rw (over, is) at due)))
    go false over (Some k) is = (
      over,
      λ m here. let one : k ≡ m = let h : Some k ≡ Some m = sym is ∙ here in cc in
          subst (λ (n : ℕ). IsDue (first (line_left c n))) one (at_seat k (first (line_left c k)) (rw (over, is) at due)),
      ap is_some is,
    )

-- and in a run that contracts see so
pub due_seen : {c d : SerialLeft} → c ≡ d → is_some (next_entry d) ≡ true → (is_over c.part ≡ false) × ((k : ℕ) → c.seat ≡ Some k → IsDue (first (line_left c k))) × (is_some c.seat ≡ true)
due_seen {c} {d} is due = due_stands c (subst (λ (x : SerialLeft). is_some (next_entry x) ≡ true) (sym is) due)

-- none stands next, and none is left
pub none_left : (c : SerialLeft) → (is_over c.part ≡ false → (k : ℕ) → c.seat ≡ Some k → IsDue (first (line_left c k))) → next_entry c ≡ None → (w : World) (place : ℕ) → entries_left c w place ≡ []
none_left c due none w place = go (is_over c.part) refl c.seat refl
  where
    not_due : (k : ℕ) (n : asking.Next Handed) → IsDue n → entry_next k n ≡ None → ⊥
    not_due k (asking.Came g) h is = h
    not_due k (Due a) h is = cc

    go : (b : Bool) → is_over c.part ≡ b → (o : Option ℕ) → c.seat ≡ o → entries_left c w place ≡ []
    go true over o is = rw over refl
    go false over None is = rw (over, is) refl
    go false over (Some k) is = absurd (not_due k (first (line_left c k)) (due over k is) (rw (over, is) at none))

-- the next entry of what a seat asks for is the call that stands next
next_due : (k : ℕ) (n : asking.Next Handed) (e : Event) → entry_next k n ≡ Some e → (a : Asked) × (n ≡ Due a) × (entry_of k a ≡ e)
next_due k (asking.Came g) e h = cc
next_due k (Due a) e h = (a, refl, cc)

module _ (s : List Line) (names : List Names) (i : ℕ) (seat : Option ℕ) (k : ℕ) (is : seat ≡ Some k) (c : Copying) (at_part : Part) (not : is_over at_part ≡ false) where
  abbrev here : SerialLeft
  here = record { script = s; names = names; at = i; seat = seat; copying = c; part = at_part }

  abbrev rest_of : World → ℕ → Asking Handed → List Event
  rest_of w place p = made_then k w place p (after_line here k)

  left_here : (w : World) (place : ℕ) → entries_left here w place ≡ rest_of w place (line_left here k)
  left_here w place = rw (not, is) refl

  -- it is answered, and the line goes on
  pub line_goes : (a : Answered) (rest : Asking Handed) → heard (line_left here k) a ≡ rest → (w : World) (place : ℕ) (e : Event) → next_entry here ≡ Some e → answered (step_of w place e) ≡ a
      → entries_left here w place ≡ e ∷ rest_of (step_of w place e).world (place + 1) rest
  line_goes a rest on w place e next told =
      let due = next_due k (first (line_left here k)) e (rw (not, is) at next) in
      left_here w place
      ∙ made_due k w place (line_left here k) (after_line here k) due.0 due.1
      ∙ (λ j. due.2 j ∷ rest_of (step_of w place (due.2 j)).world (place + 1) (heard (line_left here k) (answered (step_of w place (due.2 j)))))
      ∙ ap (λ x. e ∷ rest_of (step_of w place e).world (place + 1) (heard (line_left here k) x)) told
      ∙ ap (λ x. e ∷ rest_of (step_of w place e).world (place + 1) x) on

  -- and asks for a further call
  pub line_asks_on : (d : Copying) (q : Part) → is_over q ≡ false → (a : Answered)
      → part_left (header_of s) (names_of names k) (i + 1) (line_in s i) d q ≡ heard (line_left here k) a
      → (w : World) (place : ℕ) (e : Event) → next_entry here ≡ Some e → answered (step_of w place e) ≡ a
      → entries_left here w place ≡ e ∷ entries_left (record { script = s; names = names; at = i; seat = seat; copying = d; part = q }) (step_of w place e).world (place + 1)
  line_asks_on d q not_q a on w place e next told =
      line_goes a (part_left (header_of s) (names_of names k) (i + 1) (line_in s i) d q) (sym on) w place e next told
      ∙ (let more : entries_left (record { script = s; names = names; at = i; seat = seat; copying = d; part = q }) (step_of w place e).world (place + 1)
      ≡ rest_of (step_of w place e).world (place + 1) (part_left (header_of s) (names_of names k) (i + 1) (line_in s i) d q) = rw (not_q, is) refl in
      ap (λ events. e ∷ events) (sym more))

  -- and is done
  pub line_done : (a : Answered) (g : Handed) → heard (line_left here k) a ≡ asking.Done g
      → (w : World) (place : ℕ) (e : Event) → next_entry here ≡ Some e → answered (step_of w place e) ≡ a
      → entries_left here w place ≡ e ∷ serial_from s (step_of w place e).world (place + 1) (renamed names k (line_in s i) g)
      (seat_after (lanes_of s) (Some k) (line_in s i)) (suc (i + 1)) (drop (i + 1) s)
  line_done a g done w place e next told = line_goes a (asking.Done g) done w place e next told

-- the lane of a line that a call stands next in
pub lane_is : (seat : Option ℕ) → is_some seat ≡ true → (k : ℕ) × (seat ≡ Some k)
lane_is (Some k) h = (k, refl)
lane_is None h = absurd (true≢false (sym h))

-- the entry that stands next is the first of those that are left
pub entries_next : (c : SerialLeft) (e : Event) → next_entry c ≡ Some e → (w : World) (place : ℕ) → (rest : List Event) × (entries_left c w place ≡ e ∷ rest)
entries_next c e next w place =
    let st = due_stands c (ap is_some next) in
    let k = lane_is c.seat st.2 in
    let goes = line_goes c.script c.names c.at c.seat k.0 k.1 c.copying c.part st.0 (answered (step_of w place e)) (heard (line_left c k.0) (answered (step_of w place e))) refl w place e next refl in
    (_, goes)

-- the call of a command
command_asks : (k : ℕ) (o : Option Asked) → entry_next k (first (one_call o)) ≡ option_map (entry_of k) o
command_asks k None = refl
command_asks k (Some a) = refl

pub command_next : (s : List Line) (all : List Places) (i k : ℕ) (p : Places) → slice_get all k ≡ Some p → (seat : Option ℕ) → seat ≡ Some k → (header : Numbers) → header ≡ header_of s
    → (l : Line) → l ≡ line_in s i → (c : Copying) (count : ℕ)
    → next_entry (record { script = s; names = map standing all; at = i; seat = seat; copying = c; part = part.Command count }) ≡ option_map (entry_of k) (asked header (standing p) (i + 1) l)
command_next s all i k p there seat is header tables l same c count =
    (λ j. option_map_or (λ m. entry_next m (first (one_call (asked (header_of s) (names_of (map standing all) m) (i + 1) (line_in s i))))) (is j) None)
    ∙ command_asks k _
    ∙ (λ j. option_map (entry_of k) (asked (sym tables j) (names_there all k p there j) (i + 1) (sym same j)))

-- a place by its index
pub indexed : (all : List Places) (k : ℕ) (p : Places) → k < length all → slice_index_or all k p ≡ p → slice_get all k ≡ Some p
indexed all k p low is = slice_get-get_or all k p low ∙ ap Some is

-- what a server asks for
pub mapped_next : {A B : Type 0} (k : ℕ) (f : A → B) (p : Asking A) → entry_next k (first (mapped f p)) ≡ entry_next k (first p)
mapped_next k f (asking.Done r) = refl
mapped_next k f (Ask a later) = refl

pub came_next : {A B : Type 0} (k : ℕ) (f : A → B) (n : asking.Next A) → entry_next k (came_as f n) ≡ entry_next k n
came_next k f (asking.Came r) = refl
came_next k f (Due a) = refl

-- ---- an answer to a line's call
module _ (s : List Line) (all : List Places) (i : ℕ) (seat : Option ℕ) (l : Option Line) (buf : List ℕ) (c : Copying) (at_part : Part) (h : IsWithin s all i seat l buf c at_part)
    (not : is_over at_part ≡ false) (k : ℕ) (is : seat ≡ Some k) (d : Copying) (q : Part) (a : Answered) where
  abbrev HeardOn : Type 0
  HeardOn = IsHeard (header_of s) (names_of (map standing all) k) (i + 1) (line_in s i) c at_part d q a None

  pub goes_on : HeardOn → is_over q ≡ false
  goes_on on = due_here (header_of s) (names_of (map standing all) k) (i + 1) (line_in s i) d q on.1

  -- it stands in the line still
  pub still_within : HeardOn → IsWithin s all i seat l buf d q
  still_within on = record {
    within = h.within;
    in_lane = h.in_lane;
    low = λ x. h.low not;
    line = λ x. h.line not;
    apart = λ x. h.apart not;
    seated = λ x. h.seated not;
    pending = λ m here.
        let one : k ≡ m = let e : Some k ≡ Some m = sym is ∙ here in cc in
        let due = pending_due (header_of s) (names_of (map standing all) k) (i + 1) (line_in s i) d q on.1 in
        let path : part_left (header_of s) (names_of (map standing all) k) (i + 1) (line_in s i) d q ≡ part_left (header_of s) (names_of (map standing all) m) (i + 1) (line_in s i) d q =
        λ j. part_left (header_of s) (names_of (map standing all) (one j)) (i + 1) (line_in s i) d q in
        subst (IsPending q) path due;
    holds = on.3 buf;
  }

  -- with fewer calls left
  pub still_fewer : HeardOn → most_entries (record { script = s; names = map standing all; at = i; seat = seat; copying = d; part = q })
      < most_entries (record { script = s; names = map standing all; at = i; seat = seat; copying = c; part = at_part })
  still_fewer on = let over = goes_on on in let less = on.2 in rw (over, not) (omega (arith, less))

-- the lines behind one that is done, once its names were given something
pub lines_behind : (s : List Line) (all : List Places) (i k : ℕ) (p : Places) → slice_get all k ≡ Some p → (seat : Option ℕ) → seat ≡ Some k → (l : Line) → l ≡ line_in s i
    → (g : Handed) (q : Places) → standing q ≡ named (standing p) l g → (next : Option ℕ) → next ≡ seat_after (lanes_of s) seat (line_in s i) → (j : ℕ) → j ≡ i + 1
    → (w : World) (place : ℕ) → serial_from s w place (map standing (set all k q)) next (j + 1) (drop j s)
    ≡ serial_from s w place (renamed (map standing all) k (line_in s i) g) (seat_after (lanes_of s) (Some k) (line_in s i)) (suc (i + 1)) (drop (i + 1) s)
lines_behind s all i k p there seat is l same g q given next seated j at w place =
    let more : j + 1 ≡ suc (i + 1) = omega (arith, at) in
    (λ x. serial_from s w place (names_set all k p there q l g given x) ((seated ∙ ap (λ o. seat_after (lanes_of s) o (line_in s i)) is) x) (more x) (drop (at x) s))
    ∙ ap (λ m. serial_from s w place (renamed (map standing all) k m g) (seat_after (lanes_of s) (Some k) (line_in s i)) (suc (i + 1)) (drop (i + 1) s)) same
