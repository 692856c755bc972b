-- A record that nothing needs is put in the place of a process, or none.
use Rattle.std.proofs.Common.{◌≡◌, ◌≢◌, ◌≤◌, ℕ, Bool, true, false, true≢false, not, ◌&&◌, List, length, cond, Option, Some, None, is_some, refl, sym, ap, ◌∙◌, arith, inl, inr}
use Rattle.std.{specs.Option.option_map_or, proofs.lemmas.{Bool.{Decides.eqb_tells, and_parts}, List.{get_or-set_other, Sums.sum-map, Quantifiers.position-Some}}}
use Rattle.ix_label.specs.Category.{leq}
use Rattle.ix_model.specs.{world.{World.{Frame, Process, at, put, living, lives, is_ended}, Owners.owns}, rows.{Rows.observe, OnProcesses.{is_child, wait_child}}}
use Rattle.ix_model.proofs.tables.{Tables.seen_same, Finds.{at_put, any_into, in_table, passes_some, sum_put}, Labels.labels_put_process}
use Rattle.ix_model.proofs.{words.{Living.{is_living, not_ended, lives_as}, Endings.{ends_put_process, ends_record_of}}, frames.Floated.has_on}
use Rattle.ix_model.proofs.words.Ends.{Ends, ends_kept, ends_bind, ends_then, ends_pass, ends_frame, ends_need, ends_some}
use Rattle.ix_model.proofs.{frames.Floats.{Floats, process_but, floats_itself, floats_observe}, sound.Logging.{Refused, Passed, holds_both}}
use Rattle.ix_model.proofs.frames.Frames.{FrameSound, Follows, follows_itself, follows_observe}

-- the record that a process leaves is an ended one, and nothing rests on the process
pub record Retires (f : Frame) (n : ℕ) (y : Option Process) : Type 0 where
  pub process : Process
  pub is : at f.processes n ≡ Some process
  pub gone : (q : Process) → y ≡ Some q → q.ended ≡ true
  pub label : (q : Process) → y ≡ Some q → leq q.label q.ceiling ≡ true
  pub long : (q : Process) → y ≡ Some q → length q.fds ≡ 32
  pub parent : (q : Process) (r : ℕ) → y ≡ Some q → q.parent ≡ Some r → (r ≢ n) × (lives f r ≡ true)
  pub unowned : (e : ℕ) → owns e (at f.processes n) ≡ true → ⊥
  pub unclaimed : (m k : ℕ) → has_on f.opens m k (at f.processes n) ≡ true → ⊥
  pub childless : (m : ℕ) (q : Process) → at f.processes m ≡ Some q → q.parent ≡ Some n → ⊥

at_most_one : (b : Bool) → cond {A = ℕ} b 1 0 ≤ 1
at_most_one true = omega arith
at_most_one false = omega arith

module _ (f : Frame) (n : ℕ) (y : Option Process) (r : Retires f n y) (s : FrameSound f) where
  abbrev left : List (Option Process)
  left = put f.processes n y

  -- what passes at a number but this one passes still
  apart : (test : Option Process → Bool) → (test (at f.processes n) ≡ true → ⊥) → (m : ℕ) → test (at f.processes m) ≡ true → test (at left m) ≡ true
  apart test none m h = elim (eqb_tells m n) [
    | inl same ↦ absurd (none (ap (λ k. test (at f.processes k)) (sym same.1) ∙ h))
    | inr other ↦ ap test (get_or-set_other f.processes n m y None other.1) ∙ h
  ]

  lived : (m : ℕ) (q : Process) → living (at left m) ≡ Some q → living (at f.processes m) ≡ Some q
  lived m q lives = elim (at_put _ n m y q (is_living _ q lives)) [
    | inl here ↦ absurd (true≢false (sym (r.gone q here.1) ∙ not_ended _ q lives))
    | inr other ↦ lives_as _ q other.1 (not_ended _ q lives)
  ]

  still_lives : (m : ℕ) → m ≢ n → lives f m ≡ true → lives (record f { processes = left }) m ≡ true
  still_lives m other h = ap (λ z. option_map_or (λ q. not q.ended) z false) (get_or-set_other f.processes n m y None other) ∙ h

  no_first : n ≢ 0
  no_first same = true≢false (sym (ap is_some r.is) ∙ ap (λ k. is_some (at f.processes k)) same ∙ ap is_some s.processes.none)

  pub retired : FrameSound (record f { processes = left })
  retired = record {
    labels = labels_put_process f s.labels n y r.label;
    names = record { root = s.names.root; in_directories = s.names.in_directories; living = s.names.living; differ = s.names.differ; once = s.names.once };
    lives = record { file = s.lives.file; pipe = s.lives.pipe };
    opens = record {
      descriptor = λ m q fd e lives is. s.opens.descriptor m q fd e (lived m q lives) is;
      owned = λ e stands. any_into (owns e) (owns e) refl refl f.processes left (apart (owns e) (r.unowned e)) (s.opens.owned e stands);
      target = s.opens.target;
      end = s.opens.end;
    };
    processes = record {
      none = get_or-set_other f.processes n 0 y None (λ e. no_first (sym e)) ∙ s.processes.none;
      home = λ m q lives. s.processes.home m q (lived m q lives);
      parent = λ m k q is parent. elim (at_put f.processes n m y q is) [
        | inl here ↦ let p = r.parent q k here.1 parent in still_lives k p.0 p.1
        | inr other ↦ still_lives k (λ same. r.childless m q other.1 (parent ∙ ap Some same)) (s.processes.parent m k q other.1 parent)
      ];
      descriptors = λ m q is. elim (at_put f.processes n m y q is) [
        | inl here ↦ r.long q here.1
        | inr other ↦ s.processes.descriptors m q other.1
      ];
    };
    claims = record { claimant = λ m k p x is claim. apart (has_on f.opens m k) (r.unclaimed m k) p (s.claims.claimant m k p x is claim) };
    limits = record {
      objects = s.limits.objects;
      pipes = s.limits.pipes;
      past = s.limits.past;
      numbers = s.limits.numbers;
      opens = s.limits.opens;
      processes =
          let one : cond {A = ℕ} (is_some (at f.processes n)) 1 0 ≡ 1 = ap (λ z. cond {A = ℕ} (is_some z) 1 0) r.is in
          let few = at_most_one (is_some y) in
          let total = sum_put (λ (q : Option Process). cond {A = ℕ} (is_some q) 1 0) f.processes n y (in_table f.processes n r.process r.is) in
          let before = sum-map (λ (q : Option Process). cond {A = ℕ} (is_some q) 1 0) f.processes in
          let after = sum-map (λ (q : Option Process). cond {A = ℕ} (is_some q) 1 0) left in
          omega (arith, one, few, total, before, after, s.limits.processes);
      names = s.limits.names;
      log = s.limits.log;
    };
  }

-- ---- an ended child is collected
ended_apart : (f : Frame) (c : ℕ) → is_ended (at f.processes c) ≡ true → (p : List (Option ℕ) → Bool) → option_map_or (λ q. not q.ended && p q.fds) (at f.processes c) false ≡ true → ⊥
ended_apart f c ended p h = go _ ended h
  where
    go : (o : Option Process) → is_ended o ≡ true → option_map_or (λ q. not q.ended && p q.fds) o false ≡ true → ⊥
    go None ended h = true≢false (sym ended)
    go (Some q) ended h = true≢false (sym h ∙ ap (λ b. not b && p q.fds) ended)

collects : (f : Frame) (c : ℕ) → FrameSound f → is_ended (at f.processes c) ≡ true → Retires f c None
collects f c s ended =
    let q = passes_some is_ended refl _ ended in
    record {
      process = q.0;
      is = q.1;
      gone = λ p none. cc;
      label = λ p none. cc;
      long = λ p none. cc;
      parent = λ p k none. cc;
      unowned = λ e h. ended_apart f c ended _ h;
      unclaimed = λ m k h. ended_apart f c ended _ h;
      childless = λ m p is parent. true≢false (sym (s.processes.parent m c p is parent) ∙ ap (λ z. option_map_or (λ y. not y.ended) z false) q.1 ∙ ap not (sym (ap is_ended q.1) ∙ ended));
    }

module _ (f : Frame) (s : FrameSound f) where
  pub wait_child_ends : (pid : ℕ) → Ends (wait_child pid f) (Refused f) (Passed f)
  unfolding wait_child
  wait_child_ends pid =
      let k = follows_itself f s in
      ends_bind _ _ f (Refused f) (Passed f) (ends_frame f (Refused f) _ (
      ends_then _ _ f (Refused f) (Passed f) (ends_need _ _ f (Refused f) _ (λ some.
      ends_bind _ _ f (Refused f) (Passed f) (ends_some _ _ f (Refused f) _ (λ c first.
      ends_bind _ _ f (Refused f) (Passed f) (ends_record_of c f (Refused f) _ (λ q is.
      ends_then _ _ f (Refused f) (Passed f) (ends_kept (λ h. Follows f h × Floats f h) (observe pid q.label f) (Refused f) _
      (holds_both _ _ _ ((follows_observe f pid q.label).led f k) ((floats_observe f pid q.label).led f (floats_itself f))) (λ r h j. j.0) (λ u h j.
      let passes = (position-Some (λ z. is_child pid z && is_ended z) f.processes c None first).1 in
      let ended : is_ended (at h.processes c) ≡ true = seen_same process_but is_ended (λ z. refl) f.processes h.processes j.1.processes c
      ∙ (and_parts (is_child pid (at f.processes c)) (is_ended (at f.processes c)) passes).1 in
      ends_then _ _ h (Refused f) (Passed f) (ends_put_process c None h (Refused f) _ (
      ends_pass _ _ (Refused f) (Passed f) (record { sound = retired h c None (collects h c j.0.sound ended) j.0.sound; kinds = j.0.kinds })))))) k)) k)) k)))
