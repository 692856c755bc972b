-- CloseFd and Exit leave a sound frame.
use Rattle.std.proofs.Common.{◌≡◌, ◌<◌, ◌==◌, ◌&&◌, ℕ, Bool, true, false, true≢false, not, List, [], ◌∷◌, length, Option, Some, None, is_some, option_map, refl}
use Rattle.std.proofs.Common.{if◌then◌else◌, sym, ap, ◌∙◌, subst, arith, inl, inr}
use Rattle.std.{specs.{Option.{option_map_or, option_and_then}, List.{list_any, range_with_len}}, proofs.lemmas.List.Folds.list_any_at}
use Rattle.std.proofs.lemmas.{Bool.{or_cases, and_parts, not-true, eqb-true, eq-eqb}, List.FromFn.{get_or-range_with_len, length-range_with_len}}
use Rattle.ix_label.specs.Category.{leq}
use Rattle.ix_model.specs.{world.World.{Frame, Process, at, put, change, living, lives}, rows.{Rows.pass, OnDescriptors.close_fd}}
use Rattle.ix_model.specs.rows.{Walks.{OpenFile, behind, behind_of, entry_at}, Lifetimes.{let_go, let_go_if_held, let_go_each, let_go_all}}
use Rattle.ix_model.specs.{rows.OnProcesses.{is_child, remains, end_process, exit}, declared.refusal.Refusal.Refusal}
use Rattle.ix_model.proofs.{tables.{Tables.at_changed, Finds.{at_put, at_change, any_at, in_table, no_any, passes_some}}, words.Endings.ends_put_process}
use Rattle.ix_model.proofs.{words.Living.{is_living, not_ended, lives_as}, sound.Logging.{Refused, Passed}}
use Rattle.ix_model.proofs.words.Ends.{Ends, ends_bind, ends_then, ends_pass, ends_frame, ends_need, ends_opened}
use Rattle.ix_model.proofs.frames.{Frames.{FrameSound, Follows, follows_itself}, Releasing.descriptor_released, Retired.{Retires, retired}}

module _ (f : Frame) (s : FrameSound f) where
  pub close_fd_ends : (pid fd : ℕ) → Ends (close_fd pid fd f) (Refused f) (Passed f)
  unfolding close_fd
  close_fd_ends pid fd =
      let k = follows_itself f s in
      ends_bind _ _ f _ _ (ends_opened _ fd f _ _ (λ e is.
      ends_then _ _ f _ _ (descriptor_released f _ _ f _ fd e is k (λ h b same.
      ends_pass _ h _ _ b))) k)

-- ---- giving up all descriptors
-- a process on its way out, which has no child, and no descriptor but under these numbers
pub record Leaving (base : Frame) (pid : ℕ) (rest : List ℕ) (g : Frame) : Type 0 where
  pub follows : Follows base g
  pub process : Process
  pub lives : living (at g.processes pid) ≡ Some process
  pub childless : (m : ℕ) (q : Process) → at g.processes m ≡ Some q → q.parent ≡ Some pid → ⊥
  pub descriptors : (fd e : ℕ) → at process.fds fd ≡ Some e → list_any (λ n. n == fd) rest ≡ true

-- the rest, where the first number is no descriptor any more
left_of : (n fd : ℕ) (rest : List ℕ) → (n ≡ fd → ⊥) → list_any (λ m. m == fd) (n ∷ rest) ≡ true → list_any (λ m. m == fd) rest ≡ true
left_of n fd rest other h = elim (or_cases _ _ h) [
  | inl here ↦ absurd (other (eqb-true n fd here))
  | inr later ↦ later
]

-- under a descriptor of a sound frame's living process stands an open entry
descriptor_stands : (g : Frame) (s : FrameSound g) (pid fd e : ℕ) (q : Process) → living (at g.processes pid) ≡ Some q → at q.fds fd ≡ Some e → is_some (behind g pid fd) ≡ true
unfolding behind
descriptor_stands g s pid fd e q lives is =
    let x = passes_some is_some refl (at g.opens e) (s.opens.descriptor pid q fd e lives is) in
    ap (λ p. is_some (behind_of p g fd)) lives ∙ ap (λ d. is_some (entry_at g d)) is ∙ ap (λ o. is_some (option_map (λ y. let b : OpenFile = record { id = e; entry = y } in b) o)) x.1

module _ (base : Frame) (pid : ℕ) where
  abbrev take : ℕ → Process → Process
  take fd q = record q { fds = put q.fds fd None }

  gave_up : (fd : ℕ) (rest : List ℕ) (g h : Frame) → Leaving base pid (fd ∷ rest) g → Follows base h → h.processes ≡ change g.processes pid (take fd) → Leaving base pid rest h
  gave_up fd rest g h l k same = record {
    follows = k;
    process = take fd l.process;
    lives = lives_as _ _ (ap (λ t. at t pid) same ∙ at_changed g.processes pid (take fd) ∙ ap (option_map (take fd)) (is_living _ _ l.lives)) (not_ended _ _ l.lives);
    childless = λ m q is parent. elim (at_change _ _ _ m q (ap (λ t. at t m) (sym same) ∙ is)) [
      | inl c ↦ l.childless pid c.was c.is_was (ap (λ y. y.parent) (sym c.same) ∙ parent)
      | inr other ↦ l.childless m q other.1 parent
    ];
    descriptors = λ n e is. elim (at_put _ fd n _ e is) [
      | inl none ↦ let h = none.1 in cc
      | inr other ↦ left_of fd n _ (λ one. other.0 (sym one)) (l.descriptors n e other.1)
    ];
  }

  had_none : (fd : ℕ) (rest : List ℕ) (g : Frame) → Leaving base pid (fd ∷ rest) g → behind g pid fd ≡ None → Leaving base pid rest g
  had_none fd rest g l none = record {
    follows = l.follows;
    process = l.process;
    lives = l.lives;
    childless = l.childless;
    descriptors = λ n e is. left_of fd n _ (λ one.
        true≢false (sym (descriptor_stands g l.follows.sound _ n e _ l.lives is) ∙ ap (λ m. is_some (behind g pid m)) (sym one) ∙ ap is_some none)) (l.descriptors n e is);
  }

  module _ (P : Refusal → Frame → Type 0) where
    ends_if_held : (fd : ℕ) (rest : List ℕ) (g : Frame) (Q : Unit {0} → Frame → Type 0) → Leaving base pid (fd ∷ rest) g
        → ((h : Frame) → Leaving base pid rest h → Q tt h) → Ends (let_go_if_held pid fd g) P Q
    unfolding let_go_if_held
    ends_if_held fd rest g Q l next = go (behind g pid fd) refl
      where
        go : (b : Option OpenFile) → behind g pid fd ≡ b → Ends (option_map_or (let_go pid fd) b (pass tt) g) P Q
        go None is = ends_pass tt g P Q (next g (had_none fd rest g l is))
        go (Some e) is = descriptor_released base P Q g pid fd e is l.follows (λ h k same. next h (gave_up fd rest g h l k same))

    ends_each : (rest : List ℕ) (g : Frame) (Q : Unit {0} → Frame → Type 0) → Leaving base pid rest g → ((h : Frame) → Leaving base pid [] h → Q tt h) → Ends (let_go_each pid rest g) P Q
    unfolding let_go_each
    ends_each [] g Q l next = ends_pass tt g P Q (next g l)
    ends_each (fd ∷ rest) g Q l next = ends_then _ _ g P Q (ends_if_held fd _ g _ l (λ h k. ends_each _ h Q k next))

-- ---- the end
-- without descriptors nothing is owned or claimed
no_test : (g : Frame) (pid : ℕ) (q : Process) → living (at g.processes pid) ≡ Some q → ((fd e : ℕ) → at q.fds fd ≡ Some e → ⊥) → (p : Option ℕ → Bool)
    → p None ≡ false → option_map_or (λ y. not y.ended && list_any p y.fds) (at g.processes pid) false ≡ true → ⊥
no_test g pid q lives none p blank h =
    let h2 = ap (λ o. option_map_or (λ y. not y.ended && list_any p y.fds) o false) (sym (is_living _ q lives)) ∙ h in
    let at_fd = any_at p blank _ (and_parts _ _ h2).1 in
    let d = passes_some p blank _ at_fd.1 in
    none at_fd.0 d.0 d.1

-- what remains is the same process, ended
remains_is : (p y : Process) → remains p ≡ Some y → record p { ended = true } ≡ y
remains_is p y h = go _ h
  where
    go : (b : Bool) → (if b then Some (record p { ended = true }) else None) ≡ Some y → record p { ended = true } ≡ y
    go true h = cc
    go false h = cc

leaves : (base : Frame) (pid : ℕ) (g : Frame) (l : Leaving base pid [] g) → Retires g pid (option_and_then remains (at g.processes pid))
leaves base pid g l =
    let is = is_living _ _ l.lives in
    let none : (fd e : ℕ) → at l.process.fds fd ≡ Some e → ⊥ = λ fd e on. true≢false (sym (l.descriptors fd e on)) in
    let was : (y : Process) → option_and_then remains (at g.processes pid) ≡ Some y → record l.process { ended = true } ≡ y =
    λ y h. remains_is l.process y (ap (option_and_then remains) (sym is) ∙ h) in
    let s = l.follows.sound in
    record {
      process = l.process;
      is = is;
      gone = λ y h. ap (λ z. z.ended) (sym (was y h));
      label = λ y h. subst (λ z. leq z.label z.ceiling ≡ true) (was y h) (s.labels.processes pid l.process is);
      long = λ y h. ap (λ z. length z.fds) (sym (was y h)) ∙ s.processes.descriptors pid l.process is;
      parent = λ y r h parent.
          let up = ap (λ z. z.parent) (was y h) ∙ parent in
          ((λ same. l.childless pid l.process is (up ∙ ap Some same)), s.processes.parent pid r l.process is up);
      unowned = λ e h. no_test g _ _ l.lives none _ refl h;
      unclaimed = λ m k h. no_test g _ _ l.lives none _ refl h;
      childless = l.childless;
    }

module _ (f : Frame) (s : FrameSound f) where
  starts : (pid : ℕ) (p : Process) → living (at f.processes pid) ≡ Some p → not (list_any (is_child pid) f.processes) ≡ true → Leaving f pid (range_with_len 0 32) f
  starts pid p lives none = record {
    follows = follows_itself f s;
    process = p;
    lives = lives;
    childless = λ m q is parent. no_any (is_child pid) refl f.processes (not-true _ none) m (ap (is_child pid) is ∙ ap (λ r. option_map_or (λ n. n == pid) r false) parent ∙ eq-eqb pid pid refl);
    descriptors = λ fd e is.
        let low = in_table _ fd e is in
        let long = s.processes.descriptors pid p (is_living _ p lives) in
        let small : fd < 32 = omega arith in
        let count = length-range_with_len 0 32 in
        let inside : fd < length (range_with_len 0 32) = omega arith in
        let here = eq-eqb _ fd (get_or-range_with_len 0 32 fd 0 small ∙ omega arith) in
        list_any_at (λ n. n == fd) (range_with_len 0 32) fd 0 inside here;
  }

  pub exit_ends : (pid : ℕ) → lives f pid ≡ true → Ends (exit pid f) (Refused f) (Passed f)
  unfolding exit let_go_all end_process
  exit_ends pid alive =
      let q = passes_some (λ z. option_map_or (λ y. not y.ended) z false) refl (at f.processes pid) alive in
      let living_q : living (at f.processes pid) ≡ Some q.0 = lives_as _ q.0 q.1 (not-true _ (sym (ap (λ z. option_map_or (λ y. not y.ended) z false) q.1) ∙ alive)) in
      ends_bind _ _ f (Refused f) (Passed f) (ends_frame f (Refused f) _ (
      ends_then _ _ f (Refused f) (Passed f) (ends_need _ _ f (Refused f) _ (λ none.
      ends_then _ _ f (Refused f) (Passed f) (ends_each f pid (Refused f) (range_with_len 0 32) f _ (starts pid q.0 living_q none) (λ h l.
      ends_then _ _ h (Refused f) (Passed f) (ends_put_process pid _ h (Refused f) _ (
      ends_pass _ _ (Refused f) (Passed f) (record { sound = retired h pid _ (leaves f pid h l) l.follows.sound; kinds = l.follows.kinds })))))) (follows_itself f s))))
