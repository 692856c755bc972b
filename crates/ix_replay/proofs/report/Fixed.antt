-- A report fixes its history.
use Rattle.std.proofs.Common.{◌≡◌, ℕ, ◌+◌, true, List, [], ◌∷◌, ◌++◌, length, codes, Option, refl, sym, ap, ◌∙◌, subst, append_assoc}
use Rattle.std.{specs.{List.list_all, Fmt.decimal}, proofs.lemmas.{List.append_cancel_left, Option.same_Some}}
use Rattle.ix_label.specs.{Category.Categories, declared.form.Form.Form}
use Rattle.ix_model.specs.{declared.reply.Reply.Reply, world.World.World, opening.Opening.opening_world, history.{Step.{run, step_of}, Events.Event}}
use Rattle.ix_script.specs.{lines.Before.{form_told, lanes_of}, scripts.Scripts.config_of, declared.line.Line.Line}
use Rattle.ix_text.specs.Names.{is_script_name}
use Rattle.ix_report.specs.{CallText.call_text, LineText.{entry_line, head_line, seen_text}, ReplyText.reply_text}
use Rattle.ix_replay.specs.report.Report.{closing_text, entries_text, entry_text, lane_name, report_of}
use Rattle.ix_lanes.specs.histories.{Serial.answered, Lanes.{Lanes, lane_asks, replies_of}}
use Rattle.ix_replay.proofs.{report.Askers.{Askers, Follows, follow, is_next, moved, next_of, seat_low}, report.Beginnings.{no_number, no_space, same_word}}
use Rattle.ix_replay.proofs.report.LaneNames.{Differ, lane_no_space, lanes_differ}

-- ---- the line of an entry
-- what stands behind the lane's name
abbrev after_lane : Form → Event → Reply → List ℕ → Option Categories → List ℕ
after_lane form e r bytes label =
    decimal e.line ++ (codes " " ++ (call_text form e.pid e.op ++ (codes " = " ++ (reply_text form r bytes ++ (codes " @ " ++ (seen_text form label ++ codes "\n"))))))

-- it begins with the place and the lane's name, a space behind each
line_begins : (form : Form) (place : ℕ) (lane : List ℕ) (e : Event) (r : Reply) (bytes : List ℕ) (label : Option Categories)
    → entry_line form place lane e r bytes label ≡ decimal place ++ (codes " " ++ (lane ++ (codes " " ++ after_lane form e r bytes label)))
unfolding entry_line
line_begins form place lane e r bytes label = simp append_assoc refl

module _ (form : Form) (lanes : List (List ℕ)) (place : ℕ) (w : World) where
  pub begins : (e : Event) (text : List ℕ) → (rest : List ℕ) × (entry_text form lanes place w e ++ text ≡ decimal place ++ 32 ∷ (lane_name lanes e.seat ++ 32 ∷ rest))
  begins e text =
      let b = line_begins form place (lane_name lanes e.seat) e _ _ _ in
      (_, ap (λ (line : List ℕ). line ++ text) b ∙ append_assoc (decimal place) _ text ∙ ap (λ (line : List ℕ). decimal place ++ 32 ∷ line) (append_assoc (lane_name lanes e.seat) _ text))

  -- no line of an entry stands where a history ends
  no_entry : (e : Event) (x text : List ℕ) → 111 ∷ x ≡ entry_text form lanes place w e ++ text → ⊥
  no_entry e x text same = let b = begins e text in no_number place x _ (same ∙ b.1)

  -- texts that begin with the lines of two entries are the same: the lanes have one name
  one_name : (e f : Event) (x y : List ℕ) → no_space (lane_name lanes e.seat) ≡ true → no_space (lane_name lanes f.seat) ≡ true
      → entry_text form lanes place w e ++ x ≡ entry_text form lanes place w f ++ y → lane_name lanes e.seat ≡ lane_name lanes f.seat
  one_name e f x y h k same =
      let b = begins e x in
      let c = begins f y in
      let both : 32 ∷ (lane_name lanes e.seat ++ 32 ∷ b.0) ≡ 32 ∷ (lane_name lanes f.seat ++ 32 ∷ c.0) = append_cancel_left (decimal place) _ _ (sym b.1 ∙ same ∙ c.1) in
      let names : lane_name lanes e.seat ++ 32 ∷ b.0 ≡ lane_name lanes f.seat ++ 32 ∷ c.0 = cc in
      same_word (lane_name lanes e.seat) (lane_name lanes f.seat) b.0 c.0 h k names

-- ---- two histories
module _ (form : Form) (lanes : List (List ℕ)) (differ : Differ lanes) (named : list_all is_script_name lanes ≡ true) where
  -- entries whose lanes ask alike are one where the texts are the same
  one_entry : (askers : Askers) (w : World) (place : ℕ) (e f : Event) (g h : List Event) (x y : List ℕ) → Follows (length lanes) askers w place (e ∷ g) → Follows (length lanes) askers w place (f ∷ h)
      → entry_text form lanes place w e ++ x ≡ entry_text form lanes place w f ++ y → e ≡ f
  one_entry askers w place e f g h x y this that same =
      let e_low = seat_low (length lanes) askers w place e g this in
      let f_low = seat_low (length lanes) askers w place f h that in
      let name = one_name form lanes place w e f x y (lane_no_space lanes e.seat named e_low) (lane_no_space lanes f.seat named f_low) same in
      let seat : e.seat ≡ f.seat = differ e.seat f.seat e_low f_low name in
      same_Some e f (sym (is_next (length lanes) askers w place e g this) ∙ ap (λ n. next_of n (askers n)) seat ∙ is_next (length lanes) askers w place f h that)

  one_from : (askers : Askers) (w : World) (place : ℕ) (g h : List Event) (x y : List ℕ) → Follows (length lanes) askers w place g → Follows (length lanes) askers w place h
      → entries_text form lanes place w g ++ 111 ∷ x ≡ entries_text form lanes place w h ++ 111 ∷ y → g ≡ h
  one_from askers w place [] [] x y this that same = refl
  one_from askers w place [] (f ∷ h) x y this that same =
      absurd (no_entry form lanes place w f x _ (same ∙ append_assoc (entry_text form lanes place w f) (entries_text form lanes (place + 1) (step_of w place f).world h) (111 ∷ y)))
  one_from askers w place (e ∷ g) [] x y this that same =
      absurd (no_entry form lanes place w e y _ (sym same ∙ append_assoc (entry_text form lanes place w e) (entries_text form lanes (place + 1) (step_of w place e).world g) (111 ∷ x)))
  one_from askers w place (e ∷ g) (f ∷ h) x y this that same =
      let after = step_of w place e in
      let split = sym (append_assoc (entry_text form lanes place w e) _ (111 ∷ x)) ∙ same ∙ append_assoc (entry_text form lanes place w f) _ (111 ∷ y) in
      let first : e ≡ f = one_entry askers w place e f g h _ _ this that split in
      let those : Follows (length lanes) askers w place (e ∷ h) = subst (λ (z : Event). Follows (length lanes) askers w place (z ∷ h)) (sym first) that in
      let texts = split ∙ ap (λ (z : Event). entry_text form lanes place w z ++ (entries_text form lanes (place + 1) (step_of w place z).world h ++ 111 ∷ y)) (sym first) in
      let later : g ≡ h =
      one_from (moved askers e.seat (answered after)) after.world (place + 1) g h x y (follow (length lanes) askers w place e g this) (follow (length lanes) askers w place e h those)
      (append_cancel_left (entry_text form lanes place w e) _ _ texts) in
      λ i. first i ∷ later i

-- ---- scripts
follows : (s : List Line) (events : List Event) → Lanes s events → Follows (length (lanes_of s)) (lane_asks s) (opening_world (config_of s)) 1 events
unfolding replies_of
follows s events lanes = record { seats = lanes.seats; calls = lanes.calls }

-- what closes a report begins with the letter o
closes : (form : Form) (w : World) (n : ℕ) → (rest : List ℕ) × (closing_text form w n ≡ 111 ∷ rest)
unfolding closing_text
closes form w n = (_, refl)

-- a report is its first line, the lines of its entries, and what begins with the letter o
report_parts : (s : List Line) (events : List Event)
    → (rest : List ℕ) × (report_of s events ≡ head_line (form_told s) ++ (entries_text (form_told s) (lanes_of s) 1 (opening_world (config_of s)) events ++ 111 ∷ rest))
unfolding report_of
report_parts s events =
    let form : Form = form_told s in
    let w = opening_world (config_of s) in
    let c = closes form (run w 1 events) (length events) in
    let split = append_assoc (head_line form) (entries_text form (lanes_of s) 1 w events) (closing_text form (run w 1 events) (length events)) in
    (c.0, split ∙ ap (λ (text : List ℕ). head_line form ++ (entries_text form (lanes_of s) 1 w events ++ text)) c.1)

pub one_history : (s : List Line) → list_all is_script_name (lanes_of s) ≡ true → (g h : List Event) → Lanes s g → Lanes s h → report_of s g ≡ report_of s h → g ≡ h
one_history s named g h this that same =
    let a = report_parts s g in
    let b = report_parts s h in
    one_from (form_told s) (lanes_of s) (lanes_differ s) named (lane_asks s) (opening_world (config_of s)) 1 g h a.0 b.0 (follows s g this) (follows s h that)
    (append_cancel_left (head_line (form_told s)) _ _ (sym a.1 ∙ same ∙ b.1))
