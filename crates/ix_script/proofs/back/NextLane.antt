-- The line of the lane that comes next breaks no rule.
use Rattle.std.proofs.Common.{◌≡◌, ℕ, zero, suc, ◌+◌, ◌<◌, get_or, true, false, not, ◌&&◌, List, [], ◌∷◌, ◌++◌, length, nat_le, take, drop, Some, None, inl, inr, refl, sym}
use Rattle.std.proofs.Common.{ap, ◌∙◌, subst, arith}
use Rattle.std.{specs.{Prelude.codes, List.list_all}, proofs.lemmas.{Bool.{cases_Bool, false≢true}, List.{append-nil, take-append-drop, Folds.{list_any_at, list_all_at}}, Option.same_Some}}
use Rattle.ix_model.specs.world.Naming.{same_bytes}
use Rattle.ix_text.specs.{Bytes.{is_empty, begins_with, is_letter}, Names.{is_script_name, may_stand_in_script_name, is_reserved, name_of}}
use Rattle.ix_text.proofs.Tests.{both, list_all_weaker}
use Rattle.ix_script.specs.{texts.Cutting.{pieces, words_of, is_open, is_policy_line}, lines.Forms.{form_of, frame_form}, lines.Said.line_of}
use Rattle.ix_script.specs.{lines.Before.{form_told, in_body, is_known, phase_lanes, lanes_after, lanes_of}, lines.Kinds.{first_broken, places_fault}}
use Rattle.ix_script.specs.{lines.Rules.{has_empty_word, has_open_quote}, scripts.Schedule.{SeatsDiffer, seat_from}}
use Rattle.ix_script.specs.{reader.{Readers.LineRight, Told.{DraftTold, IsNextLane}}, declared.{body.Body.Body, draft.Draft.Draft, line.Line.Line}}
use Rattle.ix_script.specs.lines.Faults.{text_fault, words_fault, stand_fault, names_fault, said_fault, form_fault, command_fault, line_fault}
use Rattle.ix_script.specs.declared.form.Form.TheVariants as form
use Rattle.ix_script.specs.declared.line.Line.TheVariants as line
use Rattle.ix_script.specs.declared.words.Spot.TheVariants as spot
use Rattle.ix_script.proofs.{lines.Deciding.{by_words, said_by_form}, reader.{PhaseLanes.{ComesNext, comes_next}, Seats.seats_differ}}
use Rattle.ix_script.proofs.back.{HexBack.is_tame, PayloadBack.{tame_whole, tame_closed}}

-- ---- a name is one word
tame_byte : (b : ℕ) → may_stand_in_script_name b ≡ true → is_tame b ≡ true
tame_byte b h = grind arith

pub record IsWord (name : List ℕ) : Type 0 where
  pub whole : pieces spot.Front name ≡ name ∷ []
  pub some : is_empty name ≡ false
  pub closed : is_open name ≡ false

name_is_word : (name : List ℕ) → is_script_name name ≡ true → IsWord name
unfolding is_script_name
name_is_word [] h = cc
name_is_word (b ∷ name) h =
    let p = both (begins_with is_letter (b ∷ name) && nat_le (length (b ∷ name)) 16 && list_all may_stand_in_script_name (b ∷ name)) (not (is_reserved (b ∷ name))) h in
    let q = both (begins_with is_letter (b ∷ name) && nat_le (length (b ∷ name)) 16) (list_all may_stand_in_script_name (b ∷ name)) p.0 in
    let tame : list_all is_tame (b ∷ name) ≡ true = list_all_weaker may_stand_in_script_name is_tame tame_byte (b ∷ name) q.1 in
    record { whole = tame_whole b name tame; some = refl; closed = tame_closed b name tame }

-- ---- the words of the line
lane_words : (name : List ℕ) → pieces spot.Front name ≡ name ∷ [] → words_of (codes "lane " ++ name) ≡ codes "lane" ∷ name ∷ []
unfolding words_of pieces
lane_words name h = rw h refl

first_word : form_of (codes "lane") ≡ Some form.Lane
unfolding form_of frame_form
first_word = refl

-- ---- and its rules
pub lane_right : (before : List Line) (name : List ℕ) → is_script_name name ≡ true → text_fault (codes "lane " ++ name) ≡ None → is_empty before ≡ false
    → in_body before ≡ true → is_known name (phase_lanes before) ≡ false → is_known name (lanes_of before) ≡ true
    → LineRight before (line.Lane name) (line_fault before (codes "lane " ++ name)) (line_of (form_told before) (codes "lane " ++ name))
unfolding command_fault words_fault has_empty_word has_open_quote form_fault stand_fault names_fault said_fault is_policy_line places_fault first_broken name_of
lane_right before name named printable later started new known =
    let text : List ℕ = codes "lane " ++ name in
    let word : IsWord name = name_is_word name named in
    let words : words_of text ≡ codes "lane" ∷ name ∷ [] = lane_words name word.whole in
    let fits : said_fault before (line.Lane name) ≡ None = rw known refl in
    record {
      faultless = by_words before text printable later refl refl ∙ ap (command_fault before) words ∙ rw (first_word, word.some, word.closed, started, named, new, known) refl;
      meant = said_by_form (form_told before) text form.Lane (line.Lane name) refl refl (rw words first_word) (rw (words, named) refl);
      fits = fits;
    }

-- ---- the lane that comes next
-- of different names one that stands at a place doesn't stand before it
new_there : (n k : ℕ) (name : List ℕ) (lanes : List (List ℕ)) → seat_from n name lanes ≡ Some (n + k) → is_known name (take k lanes) ≡ false
new_there n zero name lanes is = refl
new_there n (suc k) name [] is = refl
new_there n (suc k) name (lane ∷ lanes) is = elim (cases_Bool (same_bytes name lane)) [
  | inl e ↦ let low : n ≡ n + suc k = same_Some n (n + suc k) (rw e at is) in absurd (omega (arith, low))
  | inr e ↦ let h : seat_from (suc n) name lanes ≡ Some (n + suc k) = rw e at is in rw e (new_there (suc n) k name lanes (h ∙ ap (λ (m : ℕ). Some m) (omega arith)))
]

-- the next lane is one of the script's
pub next_known : (d : Draft) (text : List ℕ) → IsNextLane d text → d.body.lanes ≡ lanes_after d.body.lanes (line.Lane (drop 5 text))
next_known d text next =
    let n : ComesNext d.body.in_order d.body.others d.body.lanes (drop 5 text) = comes_next d.body.in_order d.body.others d.body.lanes (drop 5 text) next.next in
    rw (list_any_at (same_bytes (drop 5 text)) d.body.lanes d.body.in_order [] n.low n.same) refl

named_there : (names : List (List ℕ)) (k : ℕ) → k < length names → list_all is_script_name names ≡ true → is_script_name (get_or names k []) ≡ true
named_there names k low all = elim (cases_Bool (is_script_name (get_or names k []))) [
  | inl e ↦ e
  | inr e ↦ absurd (false≢true (sym (list_all_at is_script_name names k [] low e) ∙ all))
]

pub next_right : (d : Draft) (text : List ℕ) → DraftTold d → text_fault text ≡ None → is_empty d.lines.said ≡ false → IsNextLane d text
    → LineRight d.lines.said (line.Lane (drop 5 text)) (line_fault d.lines.said text) (line_of (form_told d.lines.said) text)
next_right d text told printable later next =
    let name : List ℕ = drop 5 text in
    let whole : codes "lane " ++ name ≡ text = ap (λ (t : List ℕ). t ++ name) (sym next.begins) ∙ take-append-drop 5 text in
    let b : Body = d.body in
    let k : ℕ = b.in_order in
    let n : ComesNext k b.others b.lanes name = comes_next k b.others b.lanes name next.next in
    let differ : SeatsDiffer b.lanes = subst (λ (ls : List (List ℕ)). SeatsDiffer ls) (sym told.body.lanes) (seats_differ d.lines.said) in
    let lanes : take k b.lanes ≡ phase_lanes d.lines.said = sym (append-nil (take k b.lanes)) ∙ ap (λ (os : List (List ℕ)). take k b.lanes ++ os) (sym n.no_others) ∙ told.body.phase_lanes in
    let new : is_known name (phase_lanes d.lines.said) ≡ false = sym (ap (is_known name) lanes) ∙ new_there 0 k name b.lanes (differ k name n.low n.same ∙ ap (λ (m : ℕ). Some m) (omega arith)) in
    let known : is_known name (lanes_of d.lines.said) ≡ true = sym (ap (is_known name) told.body.lanes) ∙ list_any_at (same_bytes name) b.lanes k [] n.low n.same in
    subst (λ (t : List ℕ). LineRight d.lines.said (line.Lane name) (line_fault d.lines.said t) (line_of (form_told d.lines.said) t)) whole
    (lane_right d.lines.said name (ap is_script_name n.is ∙ named_there b.lanes k n.low told.body.named) (ap text_fault whole ∙ printable) later (sym told.body.started ∙ next.started) new known)
