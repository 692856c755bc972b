-- One piece more of what closes a report.
use Rattle.std.proofs.Common.{◌≡◌, ℕ, suc, ◌+◌, ◌-◌, ◌<◌, ◌≤◌, true, List, [], ◌∷◌, ◌++◌, length, drop, Option, Some, None, inl, inr, refl, sym, ap, ◌∙◌, arith}
use Rattle.std.proofs.Common.{slice_get, append_assoc}
use Rattle.std.{specs.{Prelude.codes, List.flat_map, Option.option_map_or}, proofs.lemmas.{List.append-nil, Option.slice_get_within}}
use Rattle.ix_model.specs.{world.World.at, history.Views.{shown_of, view_of}, declared.audit.AuditLine.AuditLine}
use Rattle.ix_report.{specs.{Feeds.{EndsOnce, has_no_feed}, LineText.{audit_line, tail_line}}, proofs.feeds.Lines.lines_end}
use Rattle.ix_replay.specs.report.Report.{object_text, process_text, texts_from, objects_text, processes_text, closing_text}
use Rattle.ix_replay.specs.report.Telling.{IsPiece, Tells, left_of, objects_left, processes_left, log_left, last_world, pieces_of}
use Rattle.ix_replay.specs.declared.reporting.closing.Next.TheVariants as stage
use Rattle.ix_replay.specs.declared.reporting.closing.Closing.{Closing}
use Rattle.ix_lanes.proofs.found.Indexed.{rest_is, none_left}

-- one text more was written of those that are left
went_on : (out text rest left : List ℕ) → left ≡ text ++ rest → (out ++ text) ++ rest ≡ out ++ left
went_on out text rest left e = append_assoc out text rest ∙ ap (λ t. out ++ t) (sym e)

-- the texts from a number on
texts_next : (text : ℕ → List ℕ) (n total : ℕ) → n < total → texts_from text n (total - n) ≡ text n ++ texts_from text (n + 1) (total - (n + 1))
texts_next text n total h = let more : total - n ≡ suc (total - (n + 1)) = omega arith in rw more refl

texts_past : (text : ℕ → List ℕ) (n total : ℕ) → total ≤ n → texts_from text n (total - n) ≡ []
texts_past text n total h = let none : total - n ≡ 0 = omega arith in rw none refl

texts_all : (text : ℕ → List ℕ) (total : ℕ) → texts_from text 0 (total - 0) ≡ texts_from text 0 total
texts_all text total = let all : total - 0 ≡ total = omega arith in rw all refl

-- texts one after the other
texts_join : (a b c d : List ℕ) → a ++ ((b ++ c) ++ d) ≡ ((a ++ b) ++ c) ++ d
texts_join a b c d = sym (append_assoc a (b ++ c) d) ∙ ap (λ t. t ++ d) (sym (append_assoc a b c))

all_join : (a b c d e f g : List ℕ) → a ++ ((b ++ c) ++ (d ++ ((e ++ f) ++ g))) ≡ (((((a ++ b) ++ c) ++ d) ++ e) ++ f) ++ g
all_join a b c d e f g = texts_join a b c (d ++ ((e ++ f) ++ g)) ∙ sym (append_assoc ((a ++ b) ++ c) d ((e ++ f) ++ g)) ∙ texts_join (((a ++ b) ++ c) ++ d) e f g

-- what closes a report, after its entries
pub closing_is : (r : Closing) → codes "objects\n" ++ objects_left r 0 ≡ closing_text r.form (last_world r) (length r.history.now.events)
unfolding objects_left processes_left closing_text objects_text processes_text
closing_is r =
    let objects = texts_all (object_text r.form (last_world r).frame.objects) (length (last_world r).frame.objects) in
    let processes = texts_all (process_text r.form (last_world r).frame.processes) (length (last_world r).frame.processes) in
    (λ i. codes "objects\n" ++ ((objects i ++ codes "processes\n") ++ (processes i ++ (codes "log\n" ++ log_left r 0))))
    ∙ ap (λ t. codes "objects\n" ++ ((texts_from (object_text r.form (last_world r).frame.objects) 0 (length (last_world r).frame.objects)
    ++ codes "processes\n") ++ (texts_from (process_text r.form (last_world r).frame.processes) 0 (length (last_world r).frame.processes) ++ t)))
    (sym (append_assoc (codes "log\n") (flat_map (audit_line r.form) (last_world r).frame.log) (tail_line (length r.history.now.events) (length (last_world r).frame.log))))
    ∙ all_join (codes "objects\n") (texts_from (object_text r.form (last_world r).frame.objects) 0 (length (last_world r).frame.objects)) (codes "processes\n")
    (texts_from (process_text r.form (last_world r).frame.processes) 0 (length (last_world r).frame.processes)) (codes "log\n") (flat_map (audit_line r.form) (last_world r).frame.log)
    (tail_line (length r.history.now.events) (length (last_world r).frame.log))

-- a report can't go on after its end
pub ended : (r : Closing) → r.next ≡ stage.End → 0 < pieces_of r → ⊥
unfolding pieces_of
ended r is h = let none : 0 < 0 = rw is at h in absurd (omega (arith, none))

-- ---- pieces
heading_ends : (front : List ℕ) → has_no_feed front ≡ true → EndsOnce (front ++ 10 ∷ [])
heading_ends front h = (front, h, refl)

line_or_none : {A : Type 0} (line : A → List ℕ) → ((x : A) → EndsOnce (line x)) → (o : Option A) → IsPiece (option_map_or line o [])
line_or_none line ends None = inl refl
line_or_none line ends (Some x) = inr (ends x)

module _ (r : Closing) (before after : List ℕ) where
  -- the heading of the objects
  pub head_told : r.next ≡ stage.Head → after ≡ before ++ codes "objects\n" → Tells r (record r { next = stage.Object 0 }) before after
  unfolding left_of objects_left processes_left pieces_of
  head_told is e = record {
    text = rw (e, is) (append_assoc before (codes "objects\n") (objects_left (record r { next = stage.Object 0 }) 0));
    piece = (codes "objects\n", e, inr (heading_ends (codes "objects") refl));
    fewer = rw is (omega arith);
    same = record { form = refl; history = refl };
  }

  -- an object
  pub object_told : (n : ℕ) → r.next ≡ stage.Object n → n < length (last_world r).frame.objects → after ≡ before ++ object_text r.form (last_world r).frame.objects n
      → Tells r (record r { next = stage.Object (n + 1) }) before after
  unfolding left_of objects_left processes_left pieces_of
  object_told n is within e = record {
    text = rw (e, is, texts_next (object_text r.form (last_world r).frame.objects) n (length (last_world r).frame.objects) within)
        (append_assoc before (object_text r.form (last_world r).frame.objects n)
        ((texts_from (object_text r.form (last_world r).frame.objects) (n + 1) (length (last_world r).frame.objects - (n + 1)) ++ codes "processes\n") ++ processes_left r 0)
        ∙ ap (λ t. before ++ t) (texts_join (object_text r.form (last_world r).frame.objects n) (texts_from (object_text r.form (last_world r).frame.objects)
        (n + 1) (length (last_world r).frame.objects - (n + 1)))
        (codes "processes\n") (processes_left r 0)));
    piece = (object_text r.form (last_world r).frame.objects n, e, line_or_none _ (λ x. lines_end.object r.form n (view_of x)) (at (last_world r).frame.objects n));
    fewer = rw is (omega (arith, within));
    same = record { form = refl; history = refl };
  }

  -- the heading of the processes, after the last object
  pub objects_told : (n : ℕ) → r.next ≡ stage.Object n → length (last_world r).frame.objects ≤ n → after ≡ before ++ codes "processes\n"
      → Tells r (record r { next = stage.Process 0 }) before after
  unfolding left_of objects_left processes_left pieces_of
  objects_told n is past e = record {
    text = rw (e, is, texts_past (object_text r.form (last_world r).frame.objects) n (length (last_world r).frame.objects) past) (append_assoc before (codes "processes\n") _);
    piece = (codes "processes\n", e, inr (heading_ends (codes "processes") refl));
    fewer = rw is (omega (arith, past));
    same = record { form = refl; history = refl };
  }

  -- a process
  pub process_told : (pid : ℕ) → r.next ≡ stage.Process pid → pid < length (last_world r).frame.processes → after ≡ before ++ process_text r.form (last_world r).frame.processes pid
      → Tells r (record r { next = stage.Process (pid + 1) }) before after
  unfolding left_of processes_left pieces_of
  process_told pid is within e = record {
    text = rw (e, is, texts_next (process_text r.form (last_world r).frame.processes) pid (length (last_world r).frame.processes) within)
        (append_assoc before (process_text r.form (last_world r).frame.processes pid) _ ∙ ap (λ t. before ++ t) (sym (append_assoc (process_text r.form (last_world r).frame.processes pid) _ _)));
    piece = (process_text r.form (last_world r).frame.processes pid, e, line_or_none _ (λ p. lines_end.process r.form pid (shown_of p)) (at (last_world r).frame.processes pid));
    fewer = rw is (omega (arith, within));
    same = record { form = refl; history = refl };
  }

  -- the heading of the log, after the last process
  pub processes_told : (pid : ℕ) → r.next ≡ stage.Process pid → length (last_world r).frame.processes ≤ pid → after ≡ before ++ codes "log\n"
      → Tells r (record r { next = stage.Log 0 }) before after
  unfolding left_of processes_left pieces_of
  processes_told pid is past e = record {
    text = rw (e, is, texts_past (process_text r.form (last_world r).frame.processes) pid (length (last_world r).frame.processes) past) (append_assoc before (codes "log\n") _);
    piece = (codes "log\n", e, inr (heading_ends (codes "log") refl));
    fewer = rw is (omega arith);
    same = record { form = refl; history = refl };
  }

  -- a line of the log
  pub line_told : (n : ℕ) (line : AuditLine) → r.next ≡ stage.Log n → slice_get (last_world r).frame.log n ≡ Some line → after ≡ before ++ audit_line r.form line
      → Tells r (record r { next = stage.Log (n + 1) }) before after
  unfolding left_of pieces_of
  line_told n line is at e = record {
    text = rw (e, is, rest_is (last_world r).frame.log n line at)
        (append_assoc before (audit_line r.form line) _ ∙ ap (λ t. before ++ t) (sym (append_assoc (audit_line r.form line) (flat_map (audit_line r.form) (drop (n + 1) (last_world r).frame.log)) _)));
    piece = (audit_line r.form line, e, inr (lines_end.audit r.form line));
    fewer = let within : n < length (last_world r).frame.log = slice_get_within (last_world r).frame.log n line at in rw is (omega (arith, within));
    same = record { form = refl; history = refl };
  }

  -- the last line of all
  pub log_told : (n : ℕ) → r.next ≡ stage.Log n → slice_get (last_world r).frame.log n ≡ None → after ≡ before ++ tail_line (length r.history.now.events) (length (last_world r).frame.log)
      → Tells r (record r { next = stage.End }) before after
  unfolding left_of pieces_of
  log_told n is at e = record {
    text = rw (e, is, none_left (last_world r).frame.log n at) (append-nil _);
    piece = (tail_line (length r.history.now.events) (length (last_world r).frame.log), e, inr (lines_end.tail (length r.history.now.events) (length (last_world r).frame.log)));
    fewer = rw is (omega arith);
    same = record { form = refl; history = refl };
  }
