-- The lines that are shown are those of the places that are found.
use Rattle.std.proofs.Common.{◌≡◌, ◌+◌, ℕ, suc, Bool, true, false, not, ◌&&◌, List, [], ◌∷◌, ◌++◌, map, length, slice_index_or, if◌then◌else◌, refl, ap, ap₂, ◌∙◌, arith, ◌≤◌, Option}
use Rattle.std.{proofs.Common.{Some, None, codes, sym, append-nil, subst}, specs.{Fmt.decimal, List.flat_map}}
use Rattle.ix_label.specs.Category.{Categories}
use Rattle.ix_model.{specs.{history.{Events.Event, History.{History, world_of}, Step.step_of}, world.World.World}, proofs.words.Runs.world_of-none}
use Rattle.ix_script.specs.{declared.line.Line.Line, lines.Before.{form_told, lanes_of}, scripts.Scripts.config_of}
use Rattle.ix_lanes.specs.{histories.Serial.{serial, first_names, serial_from}, running.Serially.{SerialLeft, entries_left}}
use Rattle.ix_replay.specs.report.Report.{entry_lines, entry_text}
use Rattle.ix_twin.specs.{Lines.{line_at, pair_of, world_opened, begin_alike, end_line, parting_of, text_of, twin_text, verdict_line}, Parting.{shown_from, parting}, Running.all_pairs}
use Rattle.ix_twin.specs.{Running.{pairs_from, AreAside, Aside, Compares, Ends, TurnsOn, first_left, next_place, pairs_left, parting_left}, Tests.none_crosses}
use Rattle.ix_judging.specs.Bytes.{joined}
use Rattle.ix_serial.{proofs.Stepping.{stands_first, stands_last}, specs.Running.Stands}
use Rattle.ix_twin.proofs.Compared.{parting_alike, parting_other, shown_alike, shown_other}

-- a text for each place
abbrev Texts : Type 0
Texts = ℕ → List ℕ

-- the lines of a report from a place on are told by their places
abbrev Tells : Texts → List Line → ℕ → World → List Event → Type 0
Tells f s place v events = (k : ℕ) → f (place + k) ≡ slice_index_or (entry_lines (form_told s) (lanes_of s) place v events) k []

tells_first : (f : Texts) (s : List Line) (place : ℕ) (v : World) (e : Event) (events : List Event) → Tells f s place v (e ∷ events)
    → f place ≡ entry_text (form_told s) (lanes_of s) place v e
tells_first f s place v e events h = ap f (omega arith) ∙ h 0

tells_later : (f : Texts) (s : List Line) (place : ℕ) (v : World) (e : Event) (events : List Event) → Tells f s place v (e ∷ events)
    → Tells f s (suc place) (step_of v place e).world events
tells_later f s place v e events h k =
    let x = (step_of v place e).world in
    let there : suc place + k ≡ place + suc k = omega arith in
    let next : place + 1 ≡ suc place = omega arith in
    ap f there ∙ h _ ∙ ap (λ n. slice_index_or (entry_lines (form_told s) (lanes_of s) n x events) k []) next

module _ (l : Categories) (s t : List Line) (f g : Texts) where
  abbrev pair : ℕ → List ℕ
  pair place = pair_of (f place) (g place)

  pub pairs_shown : (clear : Bool) (v w : World) (place : ℕ) (es ds : List Event) → Tells f s place v es → Tells g t place w ds
      → map pair (shown_from l clear v w place es ds) ≡ pairs_from l s t clear v w place es ds
  unfolding shown_from pairs_from
  pairs_shown clear v w place [] ds one two = refl
  pairs_shown clear v w place (e ∷ es) [] one two = refl
  pairs_shown clear v w place (e ∷ es) (d ∷ ds) one two =
      let x = (step_of v place e).world in
      let y = (step_of w place d).world in
      let rest = pairs_shown (clear && not _) x y (suc place) es ds (tells_later f s place v e es one) (tells_later g t place w d ds two) in
      by_tests _ _ _ _ rest (ap₂ pair_of (tells_first f s _ v e es one) (tells_first g t _ w d ds two))
    where
      by_tests : (agree shown : Bool) (places : List ℕ) (pairs : List (List ℕ)) → map pair places ≡ pairs → {p : List ℕ} → pair place ≡ p
          → map pair (if agree then (if shown then place ∷ places else places) else []) ≡ (if agree then (if shown then p ∷ pairs else pairs) else [])
      by_tests true true places pairs rest here = ap₂ (λ p ps. p ∷ ps) here rest
      by_tests true false places pairs rest here = rest
      by_tests false shown places pairs rest here = refl

joined_map : (h : Texts) (places : List ℕ) → flat_map h places ≡ joined (map h places)
joined_map h [] = refl
joined_map h (place ∷ places) = ap (λ ls. h place ++ ls) (joined_map h places)

length_map : (h : Texts) (places : List ℕ) → length places ≡ length (map h places)
length_map h [] = refl
length_map h (place ∷ places) = ap suc (length_map h places)

-- those of the whole serial runs of two scripts
module _ (l : Categories) (s t : List Line) where
  abbrev places : List ℕ
  places = shown_from l true (world_opened s) (world_opened t) 1 (serial s) (serial t)

  abbrev both : ℕ → List ℕ
  both place = pair_of (line_at s place) (line_at t place)

  tells_line : (r : List Line) → Tells (line_at r) r 1 (world_opened r) (serial r)
  tells_line r k =
      ap (λ n. slice_index_or (entry_lines (form_told r) (lanes_of r) 1 (world_opened r) (serial r)) n []) (omega arith)

  shown_pairs : map both places ≡ all_pairs l s t
  shown_pairs = pairs_shown l s t _ _ _ (world_opened s) (world_opened t) 1 (serial s) (serial t) (tells_line s) (tells_line t)

  pub shown_text : flat_map both places ≡ joined (all_pairs l s t)
  shown_text = joined_map both places ∙ ap joined shown_pairs

  pub shown_count : length places ≡ length (all_pairs l s t)
  shown_count = length_map _ _ ∙ ap length shown_pairs

-- A comparison of two scripts: its beginning, a turn of it, and its ends.

-- ---- the beginning
module _ (l : Categories) (s t : List Line) (f g : SerialLeft) (fs : f.script ≡ s) (gs : g.script ≡ t)
    (one : (w : World) (place : ℕ) → entries_left f w place ≡ serial_from s w place (first_names s) None 1 s)
    (two : (w : World) (place : ℕ) → entries_left g w place ≡ serial_from t w place (first_names t) None 1 t) where
  abbrev bare : List Line → History
  bare r = record { config = config_of r; events = [] }

  abbrev pub begun : Aside
  begun = record { twins = record { at = l; first = bare s; second = bare t }; first = f; second = g }

  left_is : (r : List Line) (c : SerialLeft) → ((w : World) (place : ℕ) → entries_left c w place ≡ serial_from r w place (first_names r) None 1 r) → entries_left c (world_of (bare r)) 1 ≡ serial r
  unfolding serial
  left_is r c all = all _ 1 ∙ ap (λ w. serial_from r w 1 (first_names r) None 1 r) (world_of-none _)

  stands_bare : (r : List Line) (c : SerialLeft) → c.script ≡ r → ((w : World) (place : ℕ) → entries_left c w place ≡ serial_from r w place (first_names r) None 1 r) → Stands (bare r) c
  stands_bare r c is all =
      stands_first _ c (ap bare (sym is)) (subst (λ x. (w : World) (place : ℕ) → entries_left c w place ≡ serial_from x w place (first_names x) None 1 x) (sym is) all)

  begun_aside : AreAside l s t begun
  begun_aside = record {
    at = refl;
    first_script = fs;
    second_script = gs;
    first_stands = stands_bare s f fs one;
    second_stands = stands_bare t g gs two;
    agreed = tt;
    place = refl;
  }

  begun_parting : begin_alike l s t ≡ true → parting_of l s t ≡ parting_left begun
  begun_parting is = parting_alike l s t is
      ∙ sym (λ i. parting l (world_of-none (config_of s) i) (world_of-none (config_of t) i) 1 (left_is s f one i) (left_is t g two i))

  begun_pairs : pairs_left begun ≡ all_pairs l s t
  unfolding none_crosses
  begun_pairs = λ i. pairs_from l (fs i) (gs i) true (world_of-none (config_of s) i) (world_of-none (config_of t) i) 1 (left_is s f one i) (left_is t g two i)

  pub compares_first : begin_alike l s t ≡ true → Compares l s t begun [] 0 0
  compares_first is = record {
    aside = begun_aside;
    parting = begun_parting is;
    told = ap joined begun_pairs;
    count = omega (arith, ap length begun_pairs);
    place = refl;
    fewer = omega arith;
    few = omega arith;
  }

-- ---- a turn
pub compares_on : (l : Categories) (s t : List Line) (a b : Aside) (shown : Bool) (before after : List ℕ) (agreed places m n : ℕ)
    → Compares l s t a before agreed places → TurnsOn l s t a b shown before after → m ≡ length b.twins.first.events → m ≤ 6800000
    → n ≡ places + (if shown then 1 else 0) → Compares l s t b after m n
compares_on l s t a b shown before after agreed places m n old on is few count = record {
  aside = on.aside;
  parting = old.parting ∙ on.parting;
  told = on.lines ∙ old.told;
  count = counted _ count on.count;
  place = omega (arith, is);
  fewer = by_shown _ count;
  few = few;
}
  where
    counted : (x : Bool) → n ≡ places + (if x then 1 else 0) → length (pairs_left a) ≡ (if x then 1 else 0) + length (pairs_left b) → n + length (pairs_left b) ≡ length (all_pairs l s t)
    counted true is left = omega (arith, is, left, old.count)
    counted false is left = omega (arith, is, left, old.count)

    by_shown : (x : Bool) → n ≡ places + (if x then 1 else 0) → n ≤ m
    by_shown true eq = omega (arith, eq, is, old.fewer, old.place, on.place)
    by_shown false eq = omega (arith, eq, is, old.fewer, old.place, on.place)

-- ---- the ends
module _ (l : Categories) (s t : List Line) (alike : begin_alike l s t ≡ true) (a : Aside) (lines : List ℕ) (agreed places : ℕ) (c : Compares l s t a lines agreed places) where
  no_pairs : pairs_left a ≡ [] → (lines ≡ joined (all_pairs l s t)) × (places ≡ length (all_pairs l s t))
  no_pairs none =
      (sym (append-nil lines) ∙ ap (λ ps. lines ++ joined ps) (sym none) ∙ c.told, omega (arith, c.count, ap length none))

  text_with : (n : Option ℕ) → parting_left a ≡ n → pairs_left a ≡ [] → (verdict_line (length (serial s)) n ++ lines ++ end_line places) ≡ twin_text l s t
  unfolding twin_text
  text_with n part none =
      let shown = no_pairs none in
      (λ i. verdict_line (length (serial s)) (sym (c.parting ∙ part) i) ++ lines ++ end_line places)
      ∙ (λ i. verdict_line (length (serial s)) (parting_of l s t) ++ (shown.0 ∙ sym (shown_text l s t)) i ++ end_line ((shown.1 ∙ sym (shown_count l s t)) i))
      ∙ (λ i. text_of s t (parting_of l s t) (sym (shown_alike l s t alike) i))

  pub text_apart : Ends a (Some (next_place a)) → (codes "differ " ++ decimal (agreed + 1) ++ codes "\n" ++ lines ++ end_line places) ≡ twin_text l s t
  unfolding verdict_line
  text_apart ends = ap (λ n. codes "differ " ++ decimal n ++ codes "\n" ++ lines ++ end_line places) c.place ∙ text_with _ ends.0 ends.1

  pub text_over : Ends a None → first_left a ≡ [] → (codes "agree " ++ decimal agreed ++ codes "\n" ++ lines ++ end_line places) ≡ twin_text l s t
  unfolding verdict_line
  text_over ends none =
      let whole = ap length (stands_last _ _ c.aside.first_stands none ∙ ap serial c.aside.first_script) in
      ap (λ n. codes "agree " ++ decimal n ++ codes "\n" ++ lines ++ end_line places) (omega (arith, whole, c.place)) ∙ text_with _ ends.0 ends.1

-- where the scripts don't begin alike
pub text_unlike : (l : Categories) (s t : List Line) → begin_alike l s t ≡ false → (codes "differ " ++ decimal 0 ++ codes "\n" ++ [] ++ end_line 0) ≡ twin_text l s t
unfolding twin_text verdict_line
text_unlike l s t other = λ i. text_of s t (sym (parting_other l s t other) i) (sym (shown_other l s t other) i)
