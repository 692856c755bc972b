-- A closing line, looked at.
use Rattle.std.proofs.Common.{◌≡◌, ℕ, suc, ◌+◌, ◌-◌, true, false, List, [], ◌∷◌, ◌++◌, length, drop, refl, sym, ap, ◌∙◌, arith, inl, inr, ◌⊎◌, add-one, if◌then◌else◌}
use Rattle.std.{proofs.lemmas.{Bool.and_parts, List.append_cancel_left}, specs.{List.{flat_map, list_all}, Prelude.codes}}
use Rattle.ix_label.specs.declared.form.Form.{Form}
use Rattle.ix_model.specs.{history.History.{History, world_of}, world.Naming.same_bytes}
use Rattle.ix_script.specs.{declared.line.Line.Line, lines.Before.form_told}
use Rattle.ix_report.specs.{Feeds.EndsOnce, LineText.{audit_line, tail_line}}
use Rattle.ix_replay.specs.{declared.reporting.closing.Next.Next, report.{Report.{object_text, process_text, texts_from}, Telling.{HasTold, TellsLine, left_of, objects_left, pieces_of}}}
use Rattle.ix_replay.specs.report.Telling.{processes_left, text_left, pieces_left}
use Rattle.ix_judging.{specs.{Bytes.{is_line, joined, split}, Walk.{Closing, Fails, closes}}, proofs.Split.split-line}
use Rattle.ix_check.{specs.{Judging.{AreLeft, IsClosing}, Plans.judged_plan}, proofs.Printed.once_line}
use Rattle.ix_replay.specs.declared.reporting.closing.Closing as telling
use Rattle.ix_replay.specs.declared.reporting.closing.Next.TheVariants as next

-- ---- what is left goes by the form, the history and what comes next
-- the lines of the log from an index on, and the last line
pub log_at : Form → History → ℕ → List ℕ
log_at form h n = flat_map (audit_line form) (drop n (world_of h).frame.log) ++ tail_line (length h.events) (length (world_of h).frame.log)

pub processes_at : Form → History → ℕ → List ℕ
processes_at form h pid =
    texts_from (process_text form (world_of h).frame.processes) pid (length (world_of h).frame.processes - pid) ++ (codes "log\n" ++ log_at form h 0)

pub objects_at : Form → History → ℕ → List ℕ
objects_at form h n =
    texts_from (object_text form (world_of h).frame.objects) n (length (world_of h).frame.objects - n) ++ codes "processes\n" ++ processes_at form h 0

pub text_at : Form → History → Next → List ℕ
text_at form h next.Head = codes "objects\n" ++ objects_at form h 0
text_at form h (next.Object n) = objects_at form h n
text_at form h (next.Process pid) = processes_at form h pid
text_at form h (next.Log n) = log_at form h n
text_at form h next.End = []

text_is : (c : telling.Closing) (n : Next) → text_left n c ≡ text_at c.form c.history.now n
unfolding text_at objects_at processes_at log_at objects_left processes_left
text_is c next.Head = refl
text_is c (next.Object n) = refl
text_is c (next.Process pid) = refl
text_is c (next.Log n) = refl
text_is c next.End = refl

unfoldable pub pieces_at : History → Next → ℕ
pieces_at h next.Head = 4 + length (world_of h).frame.objects + length (world_of h).frame.processes + length (world_of h).frame.log
pieces_at h (next.Object n) = 3 + (length (world_of h).frame.objects - n) + length (world_of h).frame.processes + length (world_of h).frame.log
pieces_at h (next.Process pid) = 2 + (length (world_of h).frame.processes - pid) + length (world_of h).frame.log
pieces_at h (next.Log n) = 1 + (length (world_of h).frame.log - n)
pieces_at h next.End = 0

pieces_is : (c : telling.Closing) (n : Next) → pieces_left n c ≡ pieces_at c.history.now n
unfolding pieces_at
pieces_is c next.Head = refl
pieces_is c (next.Object n) = refl
pieces_is c (next.Process pid) = refl
pieces_is c (next.Log n) = refl
pieces_is c next.End = refl

module _ (s : List Line) (h : History) where
  pub left_is : (after : Next) (c : telling.Closing) → IsClosing s h after c → left_of c ≡ text_at (form_told s) h after
  unfolding left_of
  left_is after c is = text_is c _ ∙ (λ i. text_at (is.form i) (is.history i) (is.stage i))

  pub count_is : (after : Next) (c : telling.Closing) → IsClosing s h after c → pieces_of c ≡ pieces_at h after
  unfolding pieces_of
  count_is after c is = pieces_is c _ ∙ (λ i. pieces_at (is.history i) (is.stage i))

-- ---- lines
-- a line isn't empty
line_there : (l : List ℕ) → is_line l ≡ true → l ≡ [] → ⊥
line_there [] is none = cc
line_there (b ∷ l) is none = cc

-- texts that are the same begin with the same line
first_same : (x y u v : List ℕ) → is_line x ≡ true → is_line y ≡ true → x ++ u ≡ y ++ v → (x ≡ y) × (u ≡ v)
first_same x y u v one two same =
    let lines =
    ap (λ t. t.lines) (sym (split-line x u one) ∙ ap split same ∙ split-line y v two) in
    let line : x ≡ y = cc in
    (line, append_cancel_left x u v (same ∙ ap (λ t. t ++ v) (sym line)))

-- nothing in front and behind
front_none : (x y : List ℕ) → x ++ y ≡ [] → x ≡ []
front_none [] y is = refl
front_none (b ∷ x) y is = cc

pub none_joined : (left : List (List ℕ)) → list_all is_line left ≡ true → joined left ≡ [] → left ≡ []
none_joined [] lines none = refl
none_joined (c ∷ left) lines none =
    absurd (line_there c (and_parts _ _ lines).0 (front_none c _ none))

-- ---- one line looked at
module _ (s : List Line) (h : History) (after : Next) (n : ℕ) (left : List (List ℕ)) (are : AreLeft s h after n left) (old new : telling.Closing)
    (is : IsClosing s h after old) (printed line : List ℕ) (tells : TellsLine old new [] printed) where
  abbrev told : List ℕ
  told = tells.0

  abbrev begun : HasTold old new [] printed told
  begun = tells.1

  printed_told : printed ≡ told
  printed_told = begun.told

  left_text : told ++ left_of new ≡ joined left
  left_text = begun.rest ∙ are.text old is

  -- nothing is left
  pub none_left : (count : ℕ) → printed ≡ [] → closes (judged_plan s) n count left line ≡ Fails n
  none_left count none =
      ap (λ ls. closes (judged_plan s) n count ls line) (none_joined left are.lines (sym (are.text old is) ∙ tells.2 (sym printed_told ∙ none)))

  -- something is left: what was printed is the next line
  abbrev IsNext : List (List ℕ) → Type 0
  IsNext closing = (left ≡ printed ∷ closing) × (list_all is_line closing ≡ true) × (left_of new ≡ joined closing)

  its_end : (printed ≡ [] → ⊥) → EndsOnce told
  its_end some = elim begun.piece [
    | inl none ↦ absurd (some (printed_told ∙ none))
    | inr ends ↦ ends
  ]

  next_is : (ls : List (List ℕ)) → left ≡ ls → (printed ≡ [] → ⊥) → (closing : List (List ℕ)) × IsNext closing
  next_is [] empty some =
      absurd (some (printed_told ∙ (front_none told (left_of _) (left_text ∙ ap joined empty))))
  next_is (c ∷ closing) those some =
      let parts = and_parts _ _ (ap (list_all is_line) (sym those) ∙ are.lines) in
      let first = first_same _ c _ _ (once_line _ (its_end some)) parts.0 (left_text ∙ ap joined those) in
      (closing, (those ∙ ap (λ x. x ∷ closing) (sym first.0 ∙ sym printed_told), parts.1, first.1))

  pub wrong_line : (count : ℕ) → (printed ≡ [] → ⊥) → same_bytes printed line ≡ false → closes (judged_plan s) n count left line ≡ Fails n
  wrong_line count some other =
      let next = next_is _ refl some in
      ap (λ ls. closes (judged_plan s) n count ls line) next.1.0
      ∙ ap (λ b. if b then Closing (suc n) count next.0 else Fails n) other

  -- a line that isn't what was printed, or nothing was
  pub wrong_or_none : (count : ℕ) → (printed ≡ []) ⊎ (same_bytes printed line ≡ false) → closes (judged_plan s) n count left line ≡ Fails n
  wrong_or_none count (inl none) = none_left _ none
  wrong_or_none count (inr other) = go _ refl
    where
      go : (t : List ℕ) → printed ≡ t → closes (judged_plan s) n count left line ≡ Fails n
      go [] is = none_left _ is
      go (b ∷ t) is = wrong_line _ (λ none. cc) other

  pub right_line : (count : ℕ) → (printed ≡ [] → ⊥) → same_bytes printed line ≡ true → (closing : List (List ℕ))
      × (closes (judged_plan s) n count left line ≡ Closing (n + 1) count closing) × AreLeft s h new.next (n + 1) closing
  right_line count some same =
      let next = next_is _ refl some in
      let new_is : IsClosing s h new.next new =
      record { form = begun.same.form ∙ is.form; history = begun.same.history ∙ is.history; stage = refl } in (
        next.0,
        ap (λ ls. closes (judged_plan s) n count ls line) next.1.0
            ∙ ap (λ b. if b then Closing (suc n) count next.0 else Fails n) same
            ∙ ap (λ m. Closing m count next.0) (sym (add-one n)),
        record {
          lines = next.1.1;
          text = λ c c_is. left_is s h new.next c c_is ∙ sym (left_is s h new.next new new_is) ∙ next.1.2;
          few = λ c c_is.
              let few = are.few old is in
              let pieces = count_is s h new.next c c_is in
              let pieces' = count_is s h new.next new new_is in omega (arith, begun.some (its_end some), few, pieces, pieces');
        },
      )
