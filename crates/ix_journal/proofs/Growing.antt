-- A journal that grows by an entry.
use Rattle.std.proofs.Common.{◌≡◌, ℕ, ◌+◌, ◌-◌, ◌/◌, ◌<◌, ◌≤◌, ◌^◌, List, [], ◌∷◌, ◌++◌, length, take, drop, map, refl, sym, ap, subst, ◌∙◌, arith}
use Rattle.std.proofs.Common.{length-append}
use Rattle.std.{specs.List.All, proofs.Math.Seq.drop-append_seam, proofs.lemmas.List.{map-append, drop-append-le, take-append-le, take_all, length-drop}}
use Rattle.std.{proofs.lemmas.List.Elements.{All-nil, All-cons, All-head, All-tail, All-append}, proofs.lemmas.List.Sums.{sum-map, sum_by-append, sum_by-cons}}
use Rattle.ix_model.specs.{history.{Cost.{cost_of, cost_of_words, cost_of_history}, Events.{Op, Event}, Calls.op_of}, declared.call.Call.Call}
use Rattle.ix_journal.{specs.Heads.{words_of, labels_of, head_of, op_in, IsPacked}, specs.Recorded.Recorded, proofs.Coding.{packs, few_labels, label_there, call_stays}}
use Rattle.ix_label.specs.Category.{Categories}
use Rattle.ix_journal.specs.Entries.{Entries, Fits, with_event, words_in, event_in, record_of, IsWhole, AreEntries}

-- ---- what stands stays
length_words : (words : List ℕ) (r : Recorded) → r.start + r.len ≤ length words → r.start + r.len - r.start ≤ length (drop r.start words)
length_words words r h = omega (arith, length-drop r.start words)

words_stay : (words more : List ℕ) (r : Recorded) → r.start + r.len ≤ length words → words_in (words ++ more) r ≡ words_in words r
words_stay words more r h =
    ap (take (r.start + r.len - r.start)) (drop-append-le r.start words more (omega arith))
    ∙ take-append-le _ (drop r.start words) more (length_words words r h)

module _ (labels more_labels : List Categories) (words more : List ℕ) where
  whole_stays : (r : Recorded) → IsWhole labels words r → IsWhole (labels ++ more_labels) (words ++ more) r
  whole_stays r h =
      let P : List ℕ → Type 0 = λ (w : List ℕ). IsPacked r.head w in
      record {
        within = omega (arith, h.within, length-append words more);
        packed = subst P (sym (words_stay words more r h.within)) h.packed;
        labelled = omega (arith, h.labelled, length-append labels more_labels);
      }

  event_stays : (r : Recorded) → IsWhole labels words r → event_in (labels ++ more_labels) (words ++ more) r ≡ event_in labels words r
  event_stays r h =
      let with_op : Op → Event = λ (o : Op). record { seat = r.seat; line = r.line; pid = r.pid; op = o } in
      ap with_op (ap (op_in (labels ++ more_labels) r.head) (words_stay words more r h.within) ∙ call_stays labels more_labels r.head (words_in words r) h.labelled)

  events_stay : (records : List Recorded) → All (IsWhole labels words) records
      → map (event_in (labels ++ more_labels) (words ++ more)) records ≡ map (event_in labels words) records
  events_stay [] h = refl
  events_stay (r ∷ records) h =
      ap (λ (e : Event). e ∷ map (event_in (labels ++ more_labels) (words ++ more)) records) (event_stays r (All-head (IsWhole labels words) r records h))
      ∙ ap (λ (es : List Event). event_in labels words r ∷ es) (events_stay records (All-tail (IsWhole labels words) r records h))

  all_stay : (records : List Recorded) → All (IsWhole labels words) records → All (IsWhole (labels ++ more_labels) (words ++ more)) records
  all_stay records h = λ k d low. whole_stays _ (h k d low)

-- ---- what comes
module _ (labels : List Categories) (words : List ℕ) (e : Event) (c : Call) where
  -- its record
  abbrev pub comes : Recorded
  comes = record_of e c (length labels) (length words) (length (words_of c))

  words_come : words_in (words ++ words_of c) comes ≡ words_of c
  words_come =
      ap (take (length words + length (words_of c) - length words)) (drop-append_seam words (words_of c))
      ∙ take_all _ (words_of c) (omega arith)

  event_comes : op_of c ≡ e.op → event_in (labels ++ labels_of c) (words ++ words_of c) comes ≡ e
  event_comes same =
      let with_op : Op → Event = λ (o : Op). record e { op = o } in
      ap with_op (ap (op_in (labels ++ labels_of c) (head_of (length labels) c)) words_come ∙ (packs labels c).back ∙ same)

  whole_comes : IsWhole (labels ++ labels_of c) (words ++ words_of c) comes
  whole_comes =
      let P : List ℕ → Type 0 = λ (w : List ℕ). IsPacked (head_of (length labels) c) w in
      record {
        within = omega (arith, length-append words (words_of c));
        packed = subst P (sym words_come) (packs labels c).whole;
        labelled = label_there labels c;
      }

-- ---- costs
cost_is : (o : Op) → cost_of o ≡ 128 + cost_of_words o
unfolding cost_of
cost_is o = refl

pub no_cost : cost_of_history [] ≡ 0
unfolding cost_of_history
no_cost = refl

pub cost_more : (events : List Event) (e : Event) → cost_of_history (events ++ e ∷ []) ≡ cost_of_history events + cost_of e.op
unfolding cost_of_history
cost_more events e =
    let cost : Event → ℕ = λ (x : Event). cost_of x.op in
    omega (arith, sum-map cost (events ++ e ∷ []), sum-map cost events, sum_by-append cost events (e ∷ []), sum_by-cons cost e [])

-- ---- together
events_more : (labels : List Categories) (words : List ℕ) (records : List Recorded) (e : Event) (c : Call) → op_of c ≡ e.op → All (IsWhole labels words) records
    → map (event_in (labels ++ labels_of c) (words ++ words_of c)) (records ++ comes labels words e c ∷ []) ≡ map (event_in labels words) records ++ e ∷ []
events_more labels words records e c same h =
    let all : Recorded → Event = event_in (labels ++ labels_of c) (words ++ words_of c) in
    map-append all records (comes labels words e c ∷ [])
    ∙ ap (λ (es : List Event). es ++ all (comes labels words e c) ∷ []) (events_stay labels (labels_of c) words (words_of c) records h)
    ∙ ap (λ (x : Event). map (event_in labels words) records ++ x ∷ []) (event_comes labels words e c same)

-- what is reserved
pub record Room : Type 0 where
  pub records : ℕ
  pub words : ℕ
  pub labels : ℕ

abbrev pub AreIn : ℕ → ℕ → Room → List Recorded → List ℕ → List Categories → Type 0
AreIn cap used room records words labels = AreEntries cap used room.records room.words room.labels records words labels

-- no less
pub record IsRoomier (room more : Room) : Type 0 where
  pub records : room.records ≤ more.records
  pub words : room.words ≤ more.words
  pub labels : room.labels ≤ more.labels

-- room for one more
pub record HasRoom (used : ℕ) (room : Room) (records : List Recorded) (words : List ℕ) (labels : List Categories) (c : Call) : Type 0 where
  pub words_fit : length words + length (words_of c) ≤ room.words
  pub record_fits : length records < room.records
  pub label_fits : length labels + length (labels_of c) ≤ room.labels
  pub start : length words < 2 ^ 32
  pub end : length words + length (words_of c) < 2 ^ 32
  pub place : length labels < 2 ^ 32
  pub cost : used + cost_of (op_of c) ≤ 870400000

has_room : (cap used : ℕ) (room : Room) (records : List Recorded) (words : List ℕ) (labels : List Categories) (c : Call)
    → AreIn cap used room records words labels
    → cost_of_history (map (event_in labels words) records) + cost_of (op_of c) ≤ cap
    → HasRoom used room records words labels c
has_room cap used room records words labels c j h =
    let price = cost_is (op_of c) in
    let long = (packs labels c).long in
    record {
      words_fit = omega (arith, j.cost, j.held, j.words_fit, price, long, h);
      record_fits = omega (arith, j.cost, j.held, j.records_fit, price, h);
      label_fits = omega (arith, j.cost, j.held, j.labels_held, j.labels_fit, few_labels c, price, h);
      start = omega (arith, j.held, j.within, j.small);
      end = omega (arith, j.cost, j.held, j.small, price, long, h);
      place = omega (arith, j.held, j.within, j.small, j.labels_held);
      cost = omega (arith, j.cost, j.small, h);
    }

-- the records, words and labels with that entry, in whatever room there is now
pub record Grows (cap used : ℕ) (room : Room) (records : List Recorded) (words : List ℕ) (labels : List Categories) (e : Event)
    (next_records : List Recorded) (next_words : List ℕ) (next_labels : List Categories) : Type 0 where
  pub entries : AreIn cap used room next_records next_words next_labels
  pub events : map (event_in next_labels next_words) next_records ≡ map (event_in labels words) records ++ e ∷ []

-- none yet
pub none : (cap : ℕ) (room : Room) → cap ≤ 870400000 → cap / 128 ≤ room.records → cap ≤ room.words → cap / 128 ≤ room.labels → AreIn cap 0 room [] [] []
none cap room small r w l = record {
  small = small;
  cost = no_cost;
  within = omega arith;
  held = omega arith;
  whole = All-nil (IsWhole [] []);
  records_fit = r;
  words_fit = w;
  labels_held = omega arith;
  labels_fit = l;
}

-- ---- as contracts see it
fits_inside : (j k : Entries) (e : Event) → k ≡ j → Fits j e → Fits k e
fits_inside j k e same h = let P : Entries → Type 0 = λ x. Fits x e in subst P (sym same) h

module _ (cap used : ℕ) (room : Room) (records : List Recorded) (words : List ℕ) (labels : List Categories) (j : Entries) (e : Event) (c : Call)
    (same : op_of c ≡ e.op) (entries : AreIn cap used room records words labels)
    (seen : record { cap = cap; events = map (event_in labels words) records } ≡ j) (h : Fits j e) where
  inside : cost_of_history (map (event_in labels words) records) + cost_of e.op ≤ cap
  inside = fits_inside j (record { cap = cap; events = map (event_in labels words) records }) e seen h

  pub room_for : HasRoom used room records words labels c
  room_for = has_room cap used room records words labels c entries (omega (arith, inside, ap cost_of same))

  grown : (more : Room) → IsRoomier room more
      → Grows cap (used + cost_of e.op) more records words labels e (records ++ comes labels words e c ∷ []) (words ++ words_of c) (labels ++ labels_of c)
  grown more roomier =
      let one = comes labels words e c in
      let all : Recorded → Type 0 = IsWhole (labels ++ labels_of c) (words ++ words_of c) in
      let shown = events_more labels words records e c same entries.whole in
      let price = cost_is e.op in
      let held = (packs labels c).long in
      let words_cost = ap cost_of_words same in
      let long = length-append words (words_of c) in
      let many = length-append records (one ∷ []) in
      let named = length-append labels (labels_of c) in
      record {
        entries = record {
          small = entries.small;
          cost = ap cost_of_history shown ∙ cost_more (map (event_in labels words) records) e ∙ ap (λ n. n + cost_of e.op) entries.cost;
          within = omega (arith, entries.cost, inside);
          held = omega (arith, entries.held, price, held, words_cost, long, many);
          whole = All-append all records (one ∷ []) (all_stay labels (labels_of c) words (words_of c) records entries.whole)
              (All-cons all one [] (whole_comes labels words e c) (All-nil all));
          records_fit = omega (arith, entries.records_fit, roomier.records);
          words_fit = omega (arith, entries.words_fit, roomier.words);
          labels_held = omega (arith, entries.labels_held, few_labels c, many, named);
          labels_fit = omega (arith, entries.labels_fit, roomier.labels);
        };
        events = shown;
      }

  pub grows_for : (now : ℕ) (more : Room) (next_records : List Recorded) (next_words : List ℕ) (next_labels : List Categories) (at start len : ℕ)
      → now ≡ used + cost_of e.op → IsRoomier room more → next_words ≡ words ++ words_of c → next_labels ≡ labels ++ labels_of c
      → next_records ≡ records ++ record_of e c at start len ∷ [] → at ≡ length labels → start ≡ length words → len + start ≡ length next_words
      → Grows cap now more records words labels e next_records next_words next_labels
  grows_for now more next_records next_words next_labels at start len u roomier a n b p s l =
      let is : len ≡ length (words_of c) = omega (arith, s, l, ap length a, length-append words (words_of c)) in
      let shown : next_records ≡ records ++ comes labels words e c ∷ [] =
      b ∙ ap (λ k. records ++ record_of e c k start len ∷ []) p ∙ ap (λ k. records ++ record_of e c (length labels) k len ∷ []) s
      ∙ ap (λ k. records ++ record_of e c (length labels) (length words) k ∷ []) is in
      rw (u, shown, a, n) (grown more roomier)

pub seen_after : (cap : ℕ) (events next : List Event) (j : Entries) (e : Event) → record { cap = cap; events = events } ≡ j
    → next ≡ events ++ e ∷ [] → record { cap = cap; events = next } ≡ with_event e j
seen_after cap events next j e seen is =
    let made : List Event → Entries = λ (es : List Event). record { cap = cap; events = es } in
    ap made is ∙ ap (with_event e) seen
