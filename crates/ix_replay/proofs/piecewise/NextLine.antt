-- The next line of what closes a report.
use Rattle.std.proofs.Common.{◌≡◌, ◌≢◌, ℕ, List, [], ◌∷◌, ◌++◌, length, inl, refl, sym, ap, ◌∙◌, arith, append-nil, append_assoc, length-append}
use Rattle.std.{proofs.lemmas.List.append_cancel_left, specs.Prelude.codes}
use Rattle.ix_report.{specs.{Feeds.EndsOnce, LineText.tail_line}, proofs.feeds.Lines.lines_end}
use Rattle.ix_replay.specs.declared.reporting.closing.Next.TheVariants as stage
use Rattle.ix_replay.specs.report.Telling.{HasTold, Tells, TellsLine, last_world, left_of, log_left, objects_left, processes_left}
use Rattle.ix_replay.specs.declared.reporting.closing.Closing.{Closing}

-- a line isn't empty
pub line_some : (line : List ℕ) → EndsOnce line → line ≡ [] → ⊥
line_some line ends none =
    let one : length (ends.0 ++ 10 ∷ []) ≡ 0 = ap length (sym ends.2 ∙ none) in
    let more = length-append ends.0 (10 ∷ []) in
    absurd (omega (arith, one, more))

-- what is no longer has nothing behind it
pub nothing_more : (before line : List ℕ) → length (before ++ line) ≡ length before → line ≡ []
nothing_more before [] same = refl
nothing_more before (b ∷ line) same = absurd (omega (arith, same, length-append before (b ∷ line)))

-- ---- something is left
behind_some : (front rest : List ℕ) → rest ≢ [] → front ++ rest ≢ []
behind_some [] rest some none = some none
behind_some (b ∷ front) rest some none = let odd : b ∷ (front ++ rest) ≡ [] = none in cc

module _ (r : Closing) where
  pub log_some : (n : ℕ) → r.next ≡ stage.Log n → left_of r ≢ []
  unfolding left_of
  log_some n is none =
      let entries = length r.history.now.events in
      let lines = length (last_world r).frame.log in
      behind_some _ (tail_line entries lines) (line_some (tail_line entries lines) (lines_end.tail entries lines)) (rw is at none)

  processes_stay : (pid : ℕ) → processes_left r pid ≢ []
  unfolding processes_left
  processes_stay pid none = behind_some _ (codes "log\n" ++ log_left r 0) (λ empty. cc) none

  pub process_some : (pid : ℕ) → r.next ≡ stage.Process pid → left_of r ≢ []
  unfolding left_of processes_left
  process_some pid is none = processes_stay pid (rw is at none)

  pub object_some : (n : ℕ) → r.next ≡ stage.Object n → left_of r ≢ []
  unfolding left_of objects_left processes_left
  object_some n is none = behind_some _ (processes_left r 0) (processes_stay 0) (rw is at none)

module _ (old new : Closing) (before : List ℕ) where
  -- at first
  pub none_told : HasTold old old before before []
  none_told = record {
    told = sym (append-nil before);
    rest = refl;
    piece = inl refl;
    fewer = omega arith;
    some = λ ends. absurd (line_some [] ends refl);
    same = record { form = refl; history = refl };
  }

  -- one piece more, where nothing was told yet
  pub piece_told : (now after line : List ℕ) (later : Closing) → HasTold old new before now line → length now ≡ length before → Tells new later now after
      → (more : List ℕ) × HasTold old later before after more
  piece_told now after line later h same t =
      let none : line ≡ [] = nothing_more before line (ap length (sym h.told) ∙ same) in
      let here : now ≡ before = h.told ∙ ap (λ (l : List ℕ). before ++ l) none ∙ append-nil before in
      let parts = t.piece in
      let left : parts.0 ++ left_of later ≡ left_of new =
      append_cancel_left now (parts.0 ++ left_of later) (left_of new)
      (sym (append_assoc now parts.0 (left_of later)) ∙ ap (λ (l : List ℕ). l ++ left_of later) (sym parts.1) ∙ t.text) in
      let fewer = t.fewer in
      let few = h.fewer in (
        parts.0,
        record {
          told = parts.1 ∙ ap (λ (l : List ℕ). l ++ parts.0) here;
          rest = left ∙ sym (ap (λ (l : List ℕ). l ++ left_of new) none) ∙ h.rest;
          piece = parts.2;
          fewer = omega (arith, fewer, few);
          some = λ ends. omega (arith, fewer, few);
          same = record { form = t.same.form ∙ h.same.form; history = t.same.history ∙ h.same.history };
        },
      )

  -- nothing is left
  pub all_told : (now line : List ℕ) → HasTold old new before now line → length now ≡ length before → left_of new ≡ [] → TellsLine old new before now
  all_told now line h same ended =
      let none : line ≡ [] = nothing_more before line (ap length (sym h.told) ∙ same) in
      (line, h, λ is. sym h.rest ∙ ap (λ (l : List ℕ). l ++ left_of new) none ∙ ended)

  -- a line was told
  pub line_told : (now line : List ℕ) → HasTold old new before now line → length now ≢ length before → TellsLine old new before now
  line_told now line h differs = (
    line,
    h,
    λ is. absurd (differs (ap length (h.told ∙ ap (λ (l : List ℕ). before ++ l) is ∙ append-nil before))),
  )
