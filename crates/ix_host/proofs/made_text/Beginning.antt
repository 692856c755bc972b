-- What every text begins with has no fault, and the lane stands ready after it.
use Rattle.std.proofs.Common.{◌≡◌, ℕ, ◌+◌, ◌<◌, true, false, List, [], ◌∷◌, ◌++◌, length, replicate, Option, Some, None, refl, sym, ap, ◌∙◌, arith}
use Rattle.std.{specs.Prelude.{codes, unwrap_or}, proofs.lemmas.Option.none-some}
use Rattle.ix_label.specs.{declared.form.Form.TheVariants.One, Category.{Categories, bottom}, Forms.all_of, Lattice.bottom-leq}
use Rattle.ix_model.specs.world.{Privs.no_privileges, Paths.path_from}
use Rattle.ix_script.specs.{lines.{Before.form_told, Said.line_of, Faults.{or_next, line_fault, fault_from}}, declared.line.Line.Line}
use Rattle.ix_script.specs.declared.line.Line.TheVariants as line
use Rattle.ix_script.specs.declared.line.What.TheVariants as what
use Rattle.ix_host.proofs.{made_text.Reading.{judging, telling}, made_text.Labels.{IsWord, bottom_word, star_word}}
use Rattle.ix_host.proofs.made_text.Commands.{Ready, IsCommand, ready_next, opens_a, opens_b, opens_c}

-- ---- one line
no_fault : (o : Option ℕ) (n : ℕ) (later : Option (ℕ × ℕ)) → o ≡ None → later ≡ None → or_next o n later ≡ None
no_fault None n later h more = more
no_fault (Some rule) n later h more = absurd (none-some rule (sym h))

-- a line without a fault, and none after it
pub sound_line : (before : List Line) (text : List ℕ) (texts : List (List ℕ)) (l : Line) → line_of (form_told before) text ≡ Some l
    → line_fault before text ≡ None → fault_from (before ++ l ∷ []) texts ≡ None → fault_from before (text ∷ texts) ≡ None
unfolding fault_from
sound_line before text texts l means sound more =
    no_fault (line_fault before text) (length before + 1) (fault_from (before ++ unwrap_or (line_of (form_told before) text) line.Skipped ∷ []) texts) sound
    (ap (λ o. fault_from (before ++ unwrap_or o line.Skipped ∷ []) texts) means ∙ more)

-- a command, and no fault after it
pub command_line : (before : List Line) (n : ℕ) (text : List ℕ) (texts : List (List ℕ)) (l : Line) → Ready before n → IsCommand text l → n < 200000
    → fault_from (before ++ l ∷ []) texts ≡ None → fault_from before (text ∷ texts) ≡ None
command_line before n text texts l r k few more = sound_line before text texts l (k.means (form_told before)) (k.sound before n r few) more

-- a text says a line, and has no fault with these before it
record IsSound (before : List Line) (text : List ℕ) (l : Line) : Type 0 where
  means : line_of (form_told before) text ≡ Some l
  sound : line_fault before text ≡ None

-- ---- the lines before the commands
module _ (s t u : Categories) (low_eight : IsWord (codes "0-7") s) (three : IsWord (codes "3") t) (five : IsWord (codes "5") u) where
  abbrev of_a : Line
  of_a = line.Proc (codes "a") bottom s no_privileges no_privileges

  abbrev of_b : Line
  of_b = line.Proc (codes "b") t (all_of One) no_privileges no_privileges

  abbrev of_c : Line
  of_c = line.Proc (codes "c") bottom bottom no_privileges no_privileges

  abbrev file_x : Line
  file_x = line.File (path_from true (codes "x")) bottom false no_privileges no_privileges (replicate 64 0)

  abbrev file_y : Line
  file_y = line.File (path_from true (codes "y")) u false no_privileges no_privileges (replicate 64 0)

  abbrev header : List Line
  header = line.Version One ∷ line.Limit what.Log 0 ∷ of_a ∷ of_b ∷ of_c ∷ file_x ∷ file_y ∷ line.Phase ∷ line.Lane (codes "g") ∷ []

  version : IsSound ([]) (codes "ix 1") (line.Version One)
  unfolding judging telling
  version = record { means = refl; sound = refl }

  no_log : IsSound (line.Version One ∷ []) (codes "limit log 0") (line.Limit what.Log 0)
  unfolding judging telling
  no_log = record { means = refl; sound = refl }

  tells_a : IsSound (line.Version One ∷ line.Limit what.Log 0 ∷ []) (codes "proc a - 0-7 - -") (of_a)
  unfolding judging telling
  tells_a = record { means = rw (bottom_word.meant, low_eight.meant) refl; sound = rw (bottom_word.meant, low_eight.meant, bottom-leq s) refl }

  tells_b : IsSound (line.Version One ∷ line.Limit what.Log 0 ∷ of_a ∷ []) (codes "proc b 3 * - -") (of_b)
  unfolding judging telling
  tells_b = record { means = rw (three.meant, star_word.meant) refl; sound = rw (three.meant, star_word.meant, three.low) refl }

  tells_c : IsSound (line.Version One ∷ line.Limit what.Log 0 ∷ of_a ∷ of_b ∷ []) (codes "proc c - - - -") (of_c)
  unfolding judging telling
  tells_c = record { means = rw bottom_word.meant refl; sound = rw (bottom_word.meant, bottom-leq bottom) refl }

  makes_x : IsSound (line.Version One ∷ line.Limit what.Log 0 ∷ of_a ∷ of_b ∷ of_c ∷ []) (codes "file /x - free - - 64*00") (file_x)
  unfolding judging telling
  makes_x = record { means = rw bottom_word.meant refl; sound = rw (bottom_word.meant, bottom-leq (all_of One)) refl }

  makes_y : IsSound (line.Version One ∷ line.Limit what.Log 0 ∷ of_a ∷ of_b ∷ of_c ∷ file_x ∷ []) (codes "file /y 5 free - - 64*00") (file_y)
  unfolding judging telling
  makes_y = record { means = rw five.meant refl; sound = rw (five.meant, five.low) refl }

  phase : IsSound (line.Version One ∷ line.Limit what.Log 0 ∷ of_a ∷ of_b ∷ of_c ∷ file_x ∷ file_y ∷ []) (codes "phase") (line.Phase)
  unfolding judging telling
  phase = record { means = refl; sound = refl }

  lane : IsSound (line.Version One ∷ line.Limit what.Log 0 ∷ of_a ∷ of_b ∷ of_c ∷ file_x ∷ file_y ∷ line.Phase ∷ []) (codes "lane g") (line.Lane (codes "g"))
  unfolding judging telling
  lane = record { means = refl; sound = refl }

  header_ready : Ready header 0
  unfolding telling
  header_ready = record { some = refl; lane = refl; procs = refl; number = refl }

  -- nothing in the beginning has a fault, where nothing after it has one
  pub begins : (texts : List (List ℕ)) → ((before : List Line) → Ready before 3 → fault_from before texts ≡ None)
      → fault_from [] (codes "ix 1" ∷ codes "limit log 0" ∷ codes "proc a - 0-7 - -" ∷ codes "proc b 3 * - -" ∷ codes "proc c - - - -"
      ∷ codes "file /x - free - - 64*00" ∷ codes "file /y 5 free - - 64*00" ∷ codes "phase" ∷ codes "lane g" ∷ codes "open a /x rw" ∷ codes "open b /y r"
      ∷ codes "open c /y r" ∷ texts) ≡ None
  begins texts more =
      sound_line ([]) (codes "ix 1") (codes "limit log 0" ∷ codes "proc a - 0-7 - -" ∷ codes "proc b 3 * - -" ∷ codes "proc c - - - -"
      ∷ codes "file /x - free - - 64*00" ∷ codes "file /y 5 free - - 64*00" ∷ codes "phase" ∷ codes "lane g" ∷ codes "open a /x rw" ∷ codes "open b /y r"
      ∷ codes "open c /y r" ∷ texts) (line.Version One) version.means version.sound (
      sound_line (line.Version One ∷ []) (codes "limit log 0") (codes "proc a - 0-7 - -" ∷ codes "proc b 3 * - -" ∷ codes "proc c - - - -"
      ∷ codes "file /x - free - - 64*00" ∷ codes "file /y 5 free - - 64*00" ∷ codes "phase" ∷ codes "lane g" ∷ codes "open a /x rw" ∷ codes "open b /y r"
      ∷ codes "open c /y r" ∷ texts) (line.Limit what.Log 0) no_log.means no_log.sound (
      sound_line (line.Version One ∷ line.Limit what.Log 0 ∷ []) (codes "proc a - 0-7 - -") (codes "proc b 3 * - -" ∷ codes "proc c - - - -"
      ∷ codes "file /x - free - - 64*00" ∷ codes "file /y 5 free - - 64*00" ∷ codes "phase" ∷ codes "lane g" ∷ codes "open a /x rw" ∷ codes "open b /y r"
      ∷ codes "open c /y r" ∷ texts) (of_a) tells_a.means tells_a.sound (
      sound_line (line.Version One ∷ line.Limit what.Log 0 ∷ of_a ∷ []) (codes "proc b 3 * - -") (codes "proc c - - - -" ∷ codes "file /x - free - - 64*00"
      ∷ codes "file /y 5 free - - 64*00" ∷ codes "phase" ∷ codes "lane g" ∷ codes "open a /x rw" ∷ codes "open b /y r" ∷ codes "open c /y r" ∷ texts) (of_b)
      tells_b.means tells_b.sound (
      sound_line (line.Version One ∷ line.Limit what.Log 0 ∷ of_a ∷ of_b ∷ []) (codes "proc c - - - -") (codes "file /x - free - - 64*00"
      ∷ codes "file /y 5 free - - 64*00" ∷ codes "phase" ∷ codes "lane g" ∷ codes "open a /x rw" ∷ codes "open b /y r" ∷ codes "open c /y r" ∷ texts) (of_c)
      tells_c.means tells_c.sound (
      sound_line (line.Version One ∷ line.Limit what.Log 0 ∷ of_a ∷ of_b ∷ of_c ∷ []) (codes "file /x - free - - 64*00") (codes "file /y 5 free - - 64*00"
      ∷ codes "phase" ∷ codes "lane g" ∷ codes "open a /x rw" ∷ codes "open b /y r" ∷ codes "open c /y r" ∷ texts) (file_x) makes_x.means makes_x.sound (
      sound_line (line.Version One ∷ line.Limit what.Log 0 ∷ of_a ∷ of_b ∷ of_c ∷ file_x ∷ []) (codes "file /y 5 free - - 64*00") (codes "phase"
      ∷ codes "lane g" ∷ codes "open a /x rw" ∷ codes "open b /y r" ∷ codes "open c /y r" ∷ texts) (file_y) makes_y.means makes_y.sound (
      sound_line (line.Version One ∷ line.Limit what.Log 0 ∷ of_a ∷ of_b ∷ of_c ∷ file_x ∷ file_y ∷ []) (codes "phase") (codes "lane g" ∷ codes "open a /x rw"
      ∷ codes "open b /y r" ∷ codes "open c /y r" ∷ texts) (line.Phase) phase.means phase.sound (
      sound_line (line.Version One ∷ line.Limit what.Log 0 ∷ of_a ∷ of_b ∷ of_c ∷ file_x ∷ file_y ∷ line.Phase ∷ []) (codes "lane g") (codes "open a /x rw"
      ∷ codes "open b /y r" ∷ codes "open c /y r" ∷ texts) (line.Lane (codes "g")) lane.means lane.sound (
      let a = ready_next header 0 _ _ header_ready opens_a in
      let b = ready_next _ 1 _ _ a opens_b in
      let c = ready_next _ 2 _ _ b opens_c in
      command_line header 0 _ (codes "open b /y r" ∷ codes "open c /y r" ∷ texts) _ header_ready opens_a (omega arith) (
      command_line _ 1 _ (codes "open c /y r" ∷ texts) _ a opens_b (omega arith) (
      command_line _ 2 _ texts _ b opens_c (omega arith) (more _ c))))))))))))
