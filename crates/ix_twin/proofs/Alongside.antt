-- Two runs that have one entry more each.
use Rattle.std.proofs.Common.{◌≡◌, ◌+◌, ℕ, suc, Bool, true, false, not, ◌&&◌, List, [], ◌∷◌, ◌++◌, length, refl, ap, ◌∙◌, arith, subst, ◌≤◌, codes, append_assoc, true≢false, Result, Ok}
use Rattle.std.proofs.{Common.{Err, sym, ◌<◌, Option, Some, None, if◌then◌else◌, inl, inr, append-nil, length-append}, Math.Bool.and-true, lemmas.Bool.cases_Bool}
use Rattle.ix_label.specs.Category.{Categories}
use Rattle.ix_model.specs.{declared.reply.Reply.Reply, history.{Events.Event, History.{History, next, with_entry, world_of}, Shown.AreShown, Step.{run, step_of}, Systems.bytes_in}}
use Rattle.ix_model.{specs.{opening.Opening.opening_world, two_runs.TwoRuns.{Agree, AgreeAt, is_one_kind}, world.World.World}, proofs.{clean.Showing.shown_step, words.Runs.world_of-push}}
use Rattle.ix_twin.specs.{Lines.pair_of, Parting.parting, Running.{heard_as, is_shown, AreAside, Aside, Ends, TurnsOn, first_left, next_place, pair_next, pairs_from, pairs_left}}
use Rattle.ix_twin.specs.{Running.{parting_left, second_left, MadeBoth, Makes, Turns}, Tests.{crosses, none_crosses, agrees, is_low, both_agree}, Twins.{HaveAgreed, IsGiven, Twins}}
use Rattle.ix_twin.{specs.{Twins.with_entries, declared.turn.Turn.Turn}, proofs.{Parted.{agree_here, here_agrees}, SameCalls.agree_decides}}
use Rattle.std.specs.Prelude.{IfOk, OnOk}
use Rattle.ix_lanes.specs.{histories.Serial.answered, running.Serially.{SerialLeft, entries_left, most_entries}}
use Rattle.ix_core.proofs.Seated.{gives_bytes}
use Rattle.ix_script.specs.{declared.line.Line.Line, lines.Before.{form_told, lanes_of}}
use Rattle.ix_replay.specs.report.Report.{entry_text}
use Rattle.ix_judging.specs.Bytes.{joined}
use Rattle.ix_serial.proofs.Stepping.{stands_next}
use Rattle.ix_model.specs.declared.reply.Reply.TheVariants as reply
use Rattle.ix_twin.specs.declared.turn.Turn.TheVariants as turn

-- what a last entry of each, at a place, is to be, for both to agree
pub record LastAgree (l : Categories) (v w : World) (place : ℕ) (e d : Event) : Type 0 where
  pub at : AgreeAt l v.frame e d
  pub kind : is_one_kind (step_of v place e).reply (step_of w place d).reply ≡ true

module _ (l : Categories) where
  -- runs that agree do so with one entry more, where that agrees
  pub agree_more : (v w : World) (place k : ℕ) (es ds : List Event) (e d : Event) → k ≡ length es + place → Agree l v w place es ds
      → LastAgree l (run v place es) (run w place ds) k e d → Agree l v w place (es ++ e ∷ []) (ds ++ d ∷ [])
  agree_more v w place k [] [] e d is agree last =
      let here = subst (λ n. LastAgree l v w n e d) (omega (arith, is)) last in
      (here.at, here.kind, tt)
  agree_more v w place k [] (b ∷ ds) e d is agree last = absurd agree
  agree_more v w place k (a ∷ es) [] e d is agree last = absurd agree
  agree_more v w place k (a ∷ es) (b ∷ ds) e d is agree last =
      (agree.0, agree.1, agree_more (step_of v place a).world (step_of w place b).world (suc place) k es ds e d (omega (arith, is)) agree.2 last)

  -- and where they agree with it, it does
  pub agree_last : (v w : World) (place k : ℕ) (es ds : List Event) (e d : Event) → k ≡ length es + place → length ds ≡ length es
      → Agree l v w place (es ++ e ∷ []) (ds ++ d ∷ []) → LastAgree l (run v place es) (run w place ds) k e d
  agree_last v w place k [] [] e d is same agree =
      let last : LastAgree l v w place e d = record { at = agree.0; kind = agree.1 } in
      subst (λ n. LastAgree l v w n e d) (omega (arith, is)) last
  agree_last v w place k [] (b ∷ ds) e d is same agree = absurd (omega (arith, same))
  agree_last v w place k (a ∷ es) [] e d is same agree = absurd (omega (arith, same))
  agree_last v w place k (a ∷ es) (b ∷ ds) e d is same agree =
      agree_last (step_of v place a).world (step_of w place b).world (suc place) k es ds e d (omega (arith, is)) (omega (arith, same)) agree.2

  and_three : (a b c : Bool) → (a && (b && c)) ≡ ((a && b) && c)
  and_three true b c = refl
  and_three false b c = refl

  -- none of them crosses where none did before, and the last doesn't
  pub clear_more : (w : World) (place k : ℕ) (es : List Event) (e : Event) → k ≡ length es + place
      → none_crosses l w place (es ++ e ∷ []) ≡ (none_crosses l w place es && not (crosses l (run w place es).frame (step_of (run w place es) k e).world.frame))
  unfolding none_crosses
  clear_more w place k [] e is =
      and-true _ ∙ ap (λ n. not (crosses l w.frame (step_of w n e).world.frame)) (omega (arith, is))
  clear_more w place k (a ∷ es) e is =
      let x = (step_of w place a).world in
      ap (λ b. not (crosses l w.frame x.frame) && b) (clear_more x (suc place) k es e (omega (arith, is)))
      ∙ and_three (not _) (none_crosses l x (suc place) es) _

-- What a step of two runs tells of both.

-- runs that agree are of one length
pub agree_lengths : (l : Categories) (v w : World) (place : ℕ) (es ds : List Event) → Agree l v w place es ds → length ds ≡ length es
agree_lengths l v w place [] [] agree = refl
agree_lengths l v w place [] (d ∷ ds) agree = absurd agree
agree_lengths l v w place (e ∷ es) [] agree = absurd agree
agree_lengths l v w place (e ∷ es) (d ∷ ds) agree = omega (arith, agree_lengths l (step_of v place e).world (step_of w place d).world (suc place) es ds agree.2)

module _ (t : Twins) (agreed : HaveAgreed t) (e d : Event) where
  same : length t.second.events ≡ length t.first.events
  same = agree_lengths _ _ _ 1 _ _ agreed

  abbrev IsLast : Type 0
  IsLast = LastAgree t.at (world_of t.first) (world_of t.second) (length t.first.events + 1) e d

  last : HaveAgreed (with_entries t e d) → IsLast
  unfolding world_of
  last all = agree_last _ _ _ 1 _ _ _ e d refl same all

  more : IsLast → HaveAgreed (with_entries t e d)
  unfolding world_of
  more one = agree_more _ _ _ 1 _ _ _ e d refl agreed one

  kinds : is_one_kind (next t.first e).reply (next t.second d).reply ≡ is_one_kind (next t.first e).reply (step_of (world_of t.second) (length t.first.events + 1) d).reply
  kinds = ap (λ n. is_one_kind (next t.first e).reply (step_of (world_of t.second) (n + 1) d).reply) same

  pub apart_calls : agrees t.at (world_of t.first).frame e d ≡ false → HaveAgreed (with_entries t e d) → ⊥
  apart_calls is all = true≢false (sym ((agree_decides _ _ e d).1 (last all).at) ∙ is)

  pub apart_kinds : is_one_kind (next t.first e).reply (next t.second d).reply ≡ false → HaveAgreed (with_entries t e d) → ⊥
  apart_kinds is all = true≢false (sym (last all).kind ∙ sym kinds ∙ is)

  pub both_agreed : agrees t.at (world_of t.first).frame e d ≡ true → is_one_kind (next t.first e).reply (next t.second d).reply ≡ true → HaveAgreed (with_entries t e d)
  both_agreed calls kind = more (record { at = (agree_decides _ _ e d).0 calls; kind = sym kinds ∙ kind })

-- whether nothing crossed, with one entry more, by whether nothing crossed before it
pub clear_with : (l : Categories) (h k : History) (e : Event) → k ≡ with_entry h e → (before : Bool) → before ≡ none_crosses l (opening_world h.config) 1 h.events
    → (before && not (crosses l (world_of h).frame (next h e).world.frame)) ≡ none_crosses l (opening_world k.config) 1 k.events
unfolding world_of
clear_with l h k e made before is =
    ap (λ b. b && not (crosses l (world_of h).frame (next h e).world.frame)) is
    ∙ sym (ap (λ x. none_crosses l (opening_world x.config) 1 x.events) made ∙ clear_more l _ 1 _ _ e refl)

-- what an entry gives is what is heard of it
pub given_as : (h : History) (e : Event) (r : Reply) (before after : List ℕ) → IsGiven h e r before after → answered (next h e) ≡ heard_as r after
given_as h e r before after is =
    let shown = subst (λ x. AreShown x (next h e).bytes) (sym is.reply) (shown_step _ _ _ _) in
    let bytes = gives_bytes r _ _ _ shown is.bytes in
    λ i. record { reply = sym is.reply i; bytes = sym bytes i }

-- and that are bytes as the reply says
pub heard_shown : (h : History) (e : Event) (r : Reply) (after : List ℕ) → answered (next h e) ≡ heard_as r after → AreShown r (bytes_in r after)
heard_shown h e r after is = subst (λ a. AreShown a.reply a.bytes) is (shown_step _ _ _ _)

-- they are few
pub few_shown : (r : Reply) (bytes : List ℕ) → AreShown r bytes → length bytes ≤ 4096
few_shown (reply.Bytes k) bytes h = omega (arith, h.0, h.1)
few_shown _ bytes h = omega (arith, ap length h)

-- ---- two lines
pub pair_pushed : (out one both text other : List ℕ) → one ≡ out ++ (codes "1 " ++ text) → both ≡ one ++ (codes "2 " ++ other) → both ≡ out ++ pair_of text other
pair_pushed out one both text other first second =
    second ∙ ap (λ ls. ls ++ (codes "2 " ++ other)) first ∙ append_assoc out _ _
    ∙ ap (λ ls. out ++ ls) (sym (append_assoc (codes "1 " ++ text) (codes "2 ") other))

-- whether they are shown
pub shown_as : (t : Twins) (e : Event) (low clear shown : Bool) → low ≡ is_low t.at (next t.first e).world.frame e.pid
    → clear ≡ none_crosses t.at (opening_world t.first.config) 1 t.first.events → shown ≡ (low && clear) → shown ≡ is_shown t e
shown_as t e low clear shown one two is =
    is ∙ turned low clear ∙ (λ i. two i && one i)
  where
    turned : (a b : Bool) → (a && b) ≡ (b && a)
    turned true true = refl
    turned true false = refl
    turned false true = refl
    turned false false = refl

pub on_ok : {A E P Q : Type 0} (r : Result A E) → (P → Q) → OnOk r P → OnOk r Q
on_ok (Ok x) f h = f h
on_ok (Err e) f h = tt

pub if_ok : {A E : Type 0} {P Q : A → Type 0} (r : Result A E) → ((x : A) → P x → Q x) → IfOk r P → IfOk r Q
if_ok (Ok x) f h = f x h
if_ok (Err e) f h = tt

-- Two runs side by side: how they end, and how they go on.
not_then : {A : Type 0} (b : Bool) (x y : A) → b ≡ false → (if b then x else y) ≡ y
not_then true x y is = absurd (true≢false is)
not_then false x y is = refl

module _ (a : Aside) where
  abbrev v : World
  v = world_of a.twins.first

  abbrev w : World
  w = world_of a.twins.second

  abbrev p : ℕ
  p = next_place a

  -- ---- how they end
  -- where they part and what is shown, if these are left
  abbrev EndsBy : List Event → List Event → Option ℕ → Type 0
  EndsBy es ds part = (parting a.twins.at v w p es ds ≡ part) × ((clear : Bool) → pairs_from a.twins.at a.first.script a.second.script clear v w p es ds ≡ [])

  ends_by : (es ds : List Event) (part : Option ℕ) → first_left a ≡ es → second_left a ≡ ds → EndsBy es ds part → Ends a part
  ends_by es ds part one two h =
      let clear = none_crosses a.twins.at (opening_world a.twins.first.config) 1 a.twins.first.events in (
        (λ i. parting a.twins.at v w p (one i) (two i)) ∙ h.0,
        (λ i. pairs_from a.twins.at a.first.script a.second.script clear v w p (one i) (two i)) ∙ h.1 clear,
      )

  -- neither has an entry left
  pub ends_over : first_left a ≡ [] → second_left a ≡ [] → Ends a None
  unfolding parting pairs_from
  ends_over one two = ends_by [] [] _ one two (refl, λ clear. refl)

  -- the first alone has
  pub ends_first : (e : Event) (es : List Event) → first_left a ≡ e ∷ es → second_left a ≡ [] → Ends a (Some p)
  unfolding parting pairs_from
  ends_first e es one two = ends_by _ [] _ one two (refl, λ clear. refl)

  -- the second alone has
  pub ends_second : (d : Event) (ds : List Event) → first_left a ≡ [] → second_left a ≡ d ∷ ds → Ends a (Some p)
  unfolding parting pairs_from
  ends_second d ds one two = ends_by [] _ _ one two (refl, λ clear. refl)

  -- their next entries don't agree
  apart_here : (e d : Event) (es ds : List Event) → both_agree a.twins.at v w p e d ≡ false → EndsBy (e ∷ es) (d ∷ ds) (Some p)
  unfolding parting pairs_from
  apart_here e d es ds is = (not_then _ _ _ is, λ clear. not_then _ _ _ is)

  module _ (same : length a.twins.second.events ≡ length a.twins.first.events) (agreed : HaveAgreed a.twins) (e d : Event) where
    abbrev first_end : World
    first_end = opening_world a.twins.first.config

    abbrev second_end : World
    second_end = opening_world a.twins.second.config

    last_agrees : LastAgree a.twins.at (run first_end 1 a.twins.first.events) (run second_end 1 a.twins.second.events) p e d → HaveAgreed (with_entries a.twins e d)
    last_agrees last = agree_more _ _ _ 1 p _ _ e d refl agreed last

    agree_is : both_agree a.twins.at v w p e d ≡ true → HaveAgreed (with_entries a.twins e d)
    unfolding world_of
    agree_is is = let here = agree_here _ v w p e d is in last_agrees (record { at = here.0; kind = here.1 })

    pub is_agree : HaveAgreed (with_entries a.twins e d) → both_agree a.twins.at v w p e d ≡ true
    unfolding world_of
    is_agree all =
        let last = agree_last _ _ _ 1 p _ _ e d refl same all in
        here_agrees _ v w p e d (last.at, last.kind)

    pub ends_apart : (es ds : List Event) → first_left a ≡ e ∷ es → second_left a ≡ d ∷ ds → (HaveAgreed (with_entries a.twins e d) → ⊥) → Ends a (Some p)
    ends_apart es ds one two apart = elim (cases_Bool _) [
      | inl is ↦ absurd (apart (agree_is is))
      | inr is ↦ ends_by _ _ _ one two (apart_here e d es ds is)
    ]

-- ---- how they go on
module _ (l : Categories) (s t : List Line) (a : Aside) (aside : AreAside l s t a) (e d : Event) (f g : SerialLeft) (fs : f.script ≡ a.first.script)
    (gs : g.script ≡ a.second.script) (fewer : most_entries f < most_entries a.first)
    (first_on : first_left a ≡ e ∷ entries_left f (next a.twins.first e).world (length a.twins.first.events + 1 + 1))
    (second_on : second_left a ≡ d ∷ entries_left g (next a.twins.second d).world (length a.twins.second.events + 1 + 1))
    (agree : HaveAgreed (with_entries a.twins e d)) where
  abbrev old_first : World
  old_first = world_of a.twins.first

  abbrev old_second : World
  old_second = world_of a.twins.second

  abbrev q : ℕ
  q = next_place a

  abbrev x : World
  x = (step_of old_first q e).world

  abbrev y : World
  y = (step_of old_second q d).world

  abbrev b : Aside
  b = record { twins = with_entries a.twins e d; first = f; second = g }

  x_is : world_of b.twins.first ≡ x
  x_is = world_of-push _ e

  y_next : (next a.twins.second d).world ≡ y
  y_next = ap (λ n. (step_of old_second (n + 1) d).world) aside.place

  y_is : world_of b.twins.second ≡ y
  y_is = world_of-push _ d ∙ y_next

  place_is : next_place b ≡ q + 1
  place_is = omega (arith, length-append a.twins.first.events (e ∷ []))

  place_up : next_place b ≡ suc q
  place_up = omega (arith, length-append a.twins.first.events (e ∷ []))

  abbrev es : List Event
  es = entries_left f x (q + 1)

  abbrev ds : List Event
  ds = entries_left g (next a.twins.second d).world (length a.twins.second.events + 1 + 1)

  es_is : first_left b ≡ es
  es_is = λ i. entries_left f (x_is i) (place_is i)

  ds_is : second_left b ≡ ds
  ds_is =
      let more : length (a.twins.second.events ++ d ∷ []) + 1 ≡ length a.twins.second.events + 1 + 1 = omega (arith, length-append a.twins.second.events (d ∷ [])) in
      λ i. entries_left g (world_of-push a.twins.second d i) (more i)

  here : both_agree a.twins.at old_first old_second q e d ≡ true
  here = is_agree a aside.place aside.agreed e d agree

  -- ---- where they part
  part_on : parting a.twins.at old_first old_second q (e ∷ es) (d ∷ ds) ≡ parting a.twins.at x y (suc q) es ds
  unfolding parting
  part_on = ap (λ c. if c then parting a.twins.at x y (suc q) es ds else Some q) here

  parting_on : parting_left a ≡ parting_left b
  parting_on =
      (λ i. parting a.twins.at old_first old_second q (first_on i) (second_on i)) ∙ part_on
      ∙ sym (λ i. parting a.twins.at (x_is i) (y_is i) (place_up i) (es_is i) (ds_is i))

  -- ---- what is shown
  abbrev clear : Bool
  clear = none_crosses a.twins.at (opening_world a.twins.first.config) 1 a.twins.first.events

  abbrev clear_on : Bool
  clear_on = clear && not (crosses a.twins.at old_first.frame x.frame)

  clear_is : none_crosses a.twins.at (opening_world a.twins.first.config) 1 (a.twins.first.events ++ e ∷ []) ≡ clear_on
  unfolding world_of
  clear_is = clear_more _ _ 1 q _ e refl

  abbrev pair : List ℕ
  pair = pair_of (entry_text (form_told a.first.script) (lanes_of a.first.script) q old_first e) (entry_text (form_told a.second.script) (lanes_of a.second.script) q old_second d)

  pair_is : pair_next a e d ≡ pair
  pair_is = ap (λ n. pair_of (entry_text (form_told a.first.script) (lanes_of a.first.script) q old_first e)
      (entry_text (form_told a.second.script) (lanes_of a.second.script) (n + 1) old_second d)) aside.place

  abbrev later : List (List ℕ)
  later = pairs_from a.twins.at a.first.script a.second.script clear_on x y (suc q) es ds

  later_is : pairs_left b ≡ later
  later_is = λ i. pairs_from a.twins.at (fs i) (gs i) (clear_is i) (x_is i) (y_is i) (place_up i) (es_is i) (ds_is i)

  pairs_here : pairs_from a.twins.at a.first.script a.second.script clear old_first old_second q (e ∷ es) (d ∷ ds) ≡ (if is_shown a.twins e then pair ∷ later else later)
  unfolding pairs_from
  pairs_here = ap (λ c. if c then (if is_shown a.twins e then pair ∷ later else later) else []) here

  pairs_on : pairs_left a ≡ (if is_shown a.twins e then pair_next a e d ∷ pairs_left b else pairs_left b)
  pairs_on =
      (λ i. pairs_from a.twins.at a.first.script a.second.script clear old_first old_second q (first_on i) (second_on i)) ∙ pairs_here
      ∙ sym (λ i. if is_shown a.twins e then pair_is i ∷ later_is i else later_is i)

  lines_on : (shown : Bool) (before after : List ℕ) (one : List ℕ) (ps qs : List (List ℕ)) → qs ≡ (if shown then one ∷ ps else ps)
      → after ≡ before ++ (if shown then one else []) → (after ++ joined ps ≡ before ++ joined qs) × (length qs ≡ (if shown then 1 else 0) + length ps)
  lines_on true before after one ps qs is more = (
    ap (λ bs. bs ++ joined ps) more ∙ append_assoc before one _ ∙ ap (λ ls. before ++ joined ls) (sym is),
    omega (arith, ap length is),
  )
  lines_on false before after one ps qs is more = (
    ap (λ bs. bs ++ joined ps) more ∙ ap (λ bs. bs ++ joined ps) (append-nil before) ∙ ap (λ ls. before ++ joined ls) (sym is),
    omega (arith, ap length is),
  )

  -- ---- all of it
  aside_on : AreAside l s t b
  aside_on = record {
    at = aside.at;
    first_script = fs ∙ aside.first_script;
    second_script = gs ∙ aside.second_script;
    first_stands = stands_next _ _ a.first f e aside.first_stands refl fs first_on;
    second_stands = stands_next _ _ a.second g d aside.second_stands refl gs second_on;
    agreed = agree;
    place = let two = length-append a.twins.second.events (d ∷ []) in omega (arith, length-append a.twins.first.events (e ∷ []), two, aside.place);
  }

  pub turns_on : (shown : Bool) (before after : List ℕ) → shown ≡ is_shown a.twins e → after ≡ before ++ (if shown then pair_next a e d else []) → TurnsOn l s t a b shown before after
  turns_on shown before after is more =
      let out = lines_on _ _ _ _ _ _ (pairs_on ∙ ap (λ c. if c then pair_next a e d ∷ pairs_left b else pairs_left b) (sym is)) more in
      record { aside = aside_on; place = place_is; parting = parting_on; lines = out.0; count = out.1; fewer = fewer }

-- A turn of two runs: an end, or an entry more of each.

-- where no entries were made, the runs end
pub turns_end : (l : Categories) (s t : List Line) (a b : Aside) (x : Turn) (new : Twins) (first second before after : List ℕ)
    → ((r q : Reply) (shown : Bool) → x ≡ turn.Agree r q shown → ⊥) → Makes x a new first second before after → Turns l s t x a b before after
turns_end l s t a b (turn.Agree r q shown) new first second before after not made = absurd (not r q shown refl)
turns_end l s t a b turn.Apart new first second before after not made = made
turns_end l s t a b turn.Over new first second before after not made = made

-- where they were, and both scripts heard of it, the runs go on
pub goes_on : (l : Categories) (s t : List Line) (a : Aside) (aside : AreAside l s t a) (new : Twins) (f g : SerialLeft) (r q : Reply) (shown : Bool) (first second before after : List ℕ)
    → (m : MadeBoth a new r q shown first second before after) → f.script ≡ a.first.script → g.script ≡ a.second.script → most_entries f < most_entries a.first
    → first_left a ≡ m.one ∷ entries_left f (next a.twins.first m.one).world (length a.twins.first.events + 1 + 1)
    → second_left a ≡ m.two ∷ entries_left g (next a.twins.second m.two).world (length a.twins.second.events + 1 + 1)
    → TurnsOn l s t a (record { twins = new; first = f; second = g }) shown before after
goes_on l s t a aside new f g r q shown first second before after m fs gs fewer first_on second_on =
    subst (λ x. TurnsOn l s t a (record { twins = x; first = f; second = g }) shown before after) (sym m.were.made)
    (turns_on l s t a aside _ _ f g fs gs fewer first_on second_on (subst (λ x. HaveAgreed x) m.were.made m.agree) _ _ _ m.shown_is m.lines)
