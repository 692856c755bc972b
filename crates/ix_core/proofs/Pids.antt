-- A call makes one process at most, so pids stay few as long as entries do.
use Rattle.std.{proofs.Common.{◌≡◌, ◌≤◌, ◌+◌, ℕ, suc, Bool, true, false, List, [], ◌∷◌, ◌++◌, length, nat_lt, count_by, is_some, Option, Some, None, refl, sym, ap}, specs.List.list_all}
use Rattle.std.proofs.Common.{subst, arith, length-set, length-append}
use Rattle.ix_model.specs.{world.World.{World, Frame, Process, at, living}, rows.{OnProcesses.{end_process, fork, has_kept}, Rows.{put_process, add_process}}}
use Rattle.ix_model.specs.{rows.{OnDescriptors.LengthChecks, Table.{row, verdict}, Telling.told}, declared.call.Keep.Keep, history.{Step.{step, step_of, run}, Events.{Op, Event}}}
use Rattle.ix_model.specs.rows.Rows.{◌>>=◌, ◌>>◌, on_pass, process, some, need, frame, pass, refuse, change_process}
use Rattle.ix_model.proofs.words.{Keeps.{Holds, Keeps}, Rowwise.{Change, Forking, Words, changes_of, kept_row}, Lasts.decided, Answered.step_frame}
use Rattle.ix_core.proofs.Beside.{words_beside}
use Rattle.ix_model.specs.history.Events as op

-- so many pids more than there were
pub record Grown (n : ℕ) (f g : Frame) : Type 0 where
  pub few : length g.processes ≤ length f.processes + n

abbrev makes_no_process : Change → Bool
makes_no_process Forking = false
makes_no_process _ = true

abbrev is_fork : Op → Bool
is_fork (op.Fork keep) = true
is_fork _ = false

bears : (c : Op) → is_fork c ≡ false → list_all makes_no_process (changes_of c) ≡ true
bears (op.Fork keep) h = cc
bears _ h = refl

-- ---- the words
with_processes : (n : ℕ) (f g : Frame) (t : List (Option Process)) → length t ≡ length g.processes → Grown n f g → Grown n f (record g { processes = t })
with_processes n f g t same r = record { few = omega (arith, same, r.few) }

module _ (n : ℕ) (f : Frame) where
  grown_process : (p : ℕ) (h : Process → Process) → Keeps (Grown n f) (change_process p h)
  unfolding change_process Holds
  grown_process p h = record { led = λ g r. with_processes n f g _ (length-set g.processes p _) r }

  grown_put : (p : ℕ) (x : Option Process) → Keeps (Grown n f) (put_process p x)
  unfolding put_process Holds
  grown_put p x = record { led = λ g r. with_processes n f g _ (length-set g.processes p x) r }

  grown_end : (p : ℕ) → Keeps (Grown n f) (end_process p)
  unfolding end_process
  grown_end p = record { led = λ g r. (grown_put p _).led g r }

  grown_words : (pid : ℕ) → Words makes_no_process pid (Grown n f)
  grown_words pid = words_beside makes_no_process (Grown n f) (λ g h same r. record { few = omega (arith, ap length same, r.few) }) pid
      (λ p h ended. grown_process p h) (λ can q. cc) (λ can. grown_end _) (λ can p. grown_put p _)

-- ---- a fork
no_more : (f : Frame) → Grown 1 f f
no_more f = record { few = omega arith }

one_more : (f : Frame) (p : Process) → Grown 1 f (record f { processes = f.processes ++ Some p ∷ [] })
one_more f p = record { few = omega (arith, length-append f.processes (Some p ∷ [])) }

forked_by : (f : Frame) (pid : ℕ) (keep : Keep) (p : Process) (a b : Bool) → living (at f.processes pid) ≡ Some p → has_kept keep p ≡ a
    → nat_lt (count_by is_some f.processes) f.limits.procs ≡ b → Holds (fork pid keep f) (Grown 1 f)
unfolding fork ◌>>=◌ ◌>>◌ on_pass process some need frame add_process pass refuse Holds
forked_by f pid keep p true true is h k = rw (is, h, k) (one_more f _)
forked_by f pid keep p true false is h k = rw (is, h, k) (no_more f)
forked_by f pid keep p false b is h k = rw (is, h) (no_more f)

forked_by_none : (f : Frame) (pid : ℕ) (keep : Keep) → living (at f.processes pid) ≡ None → Holds (fork pid keep f) (Grown 1 f)
unfolding fork ◌>>=◌ on_pass process some refuse Holds
forked_by_none f pid keep is = rw is (no_more f)

grown_fork : (f : Frame) (pid : ℕ) (keep : Keep) → Holds (fork pid keep f) (Grown 1 f)
grown_fork f pid keep = go _ refl
  where
    go : (o : Option Process) → living (at f.processes pid) ≡ o → Holds (fork pid keep f) (Grown 1 f)
    go None is = forked_by_none f _ _ is
    go (Some p) is = forked_by f _ _ p _ _ is refl refl

-- ---- all calls
grown_row : (f : Frame) (t : LengthChecks) (place pid : ℕ) (c : Op) → Holds (row t place pid c f) (Grown 1 f)
unfolding row
grown_row f t place pid (op.Fork keep) = grown_fork f _ _
grown_row f t place pid c = (kept_row _ _ _ (grown_words 1 f pid) t place c (bears c refl)).led f (record { few = omega arith })

pub one_pid_more : (w : World) (place pid : ℕ) (c : Op) → length (step w place pid c).world.frame.processes ≤ length w.frame.processes + 1
one_pid_more w place pid c =
    let first : Grown 1 w.frame w.frame = record { few = omega arith } in
    let r : Grown 1 w.frame (verdict (told w pid c) place pid c w.frame).frame = decided (Grown 1 w.frame) (told w pid c) place pid c w.frame first (grown_row _ _ _ _ c) in
    subst (λ (g : Frame). length g.processes ≤ length w.frame.processes + 1) (sym (step_frame w place pid c)) r.few

pub pids_run : (w : World) (place : ℕ) (h : List Event) → length (run w place h).frame.processes ≤ length w.frame.processes + length h
pids_run w place [] = omega arith
pids_run w place (e ∷ h) = omega (arith, pids_run (step_of w place e).world (suc place) h, one_pid_more w place e.pid e.op)
