-- A pid is used once.
use Rattle.std.proofs.Common.{◌≡◌, ℕ, suc, Bool, true, false, not, List, [], ◌∷◌, length, Option, Some, None, is_none, refl, ap, ◌∙◌, arith, length-set, length-append, if◌then◌else◌}
use Rattle.std.{specs.Option.{option_map_or, option_and_then}, proofs.Math.ListN.get_or-append}
use Rattle.ix_model.specs.{world.World.{World, Frame, Process, at}, rows.{Auditing.logged, OnProcesses.{remains, end_process}, Table.verdict}}
use Rattle.ix_model.specs.rows.{Rows.{change_object, change_process, put_object, put_open, put_process, add_process, change_open}, Telling.told}
use Rattle.ix_model.specs.{rows.OnDescriptors.LengthChecks, history.{Step.{step, step_of, run}, Events.{Op, Event}}, laws.Laws.PidsSpent}
use Rattle.ix_model.proofs.tables.Tables.{none_is, seen_changed, seen_put}
use Rattle.ix_model.proofs.words.{Keeps.{Holds, Keeps}, Rowwise.{Words, all, bears_all, changes_of, kept_row}, Lasts.decided, Answered.step_frame}

-- ---- the words
-- whether a record is of a living process
abbrev lives_as : Option Process → Bool
lives_as p = option_map_or (λ q. not q.ended) p false

same_processes : (f g h : Frame) → h.processes ≡ g.processes → PidsSpent f g → PidsSpent f h
same_processes f g h e r = record {
  grown = rw e r.grown;
  gone = λ p low none. rw e (r.gone p low none);
  ended = λ p dead low. ap (λ t. lives_as (at t p)) e ∙ r.ended p dead low;
}

-- a table of the same length, in which nothing comes to live
spent_table : (f g : Frame) (t : List (Option Process)) → length t ≡ length g.processes
    → ((p : ℕ) → is_none (at g.processes p) ≡ true → is_none (at t p) ≡ true) → ((p : ℕ) → lives_as (at g.processes p) ≡ false → lives_as (at t p) ≡ false)
    → PidsSpent f g → PidsSpent f (record g { processes = t })
spent_table f g t long none dead r = record {
  grown = omega (arith, long, r.grown);
  gone = λ p low is. none_is _ (none p (ap is_none (r.gone p low is)));
  ended = λ p is low. dead p (r.ended p is low);
}

module _ (f : Frame) where
  spent_processes : (p : ℕ) (h : Process → Process) → ((q : Process) → (h q).ended ≡ q.ended) → Keeps (PidsSpent f) (change_process p h)
  unfolding change_process Holds
  spent_processes p h same = record {
    led = λ g r. spent_table f g _ (length-set g.processes p _) (λ m is. seen_changed is_none h (λ q. refl) g.processes p m
        ∙ is) (λ m is. seen_changed lives_as h (λ q. ap not (same q)) g.processes p m ∙ is) r;
  }

  spent_collect : (p : ℕ) → Keeps (PidsSpent f) (put_process p None)
  unfolding put_process Holds
  spent_collect p = record {
    led = λ g r. spent_table f g _ (length-set g.processes p None) (λ m is. seen_put is_none _ g.processes p None m (λ k. refl) is)
        (λ m is. seen_put lives_as _ g.processes p None m (λ k. refl) is) r;
  }

  remains_none : (o : Option Process) → is_none o ≡ true → is_none (option_and_then remains o) ≡ true
  remains_none None is = refl
  remains_none (Some p) is = cc

  remains_dead : (o : Option Process) → lives_as (option_and_then remains o) ≡ false
  remains_dead None = refl
  remains_dead (Some p) = go _
    where
      go : (b : Bool) → lives_as (if b then Some (record p { ended = true }) else None) ≡ false
      go true = refl
      go false = refl

  spent_end : (pid : ℕ) → Keeps (PidsSpent f) (end_process pid)
  unfolding end_process put_process Holds
  spent_end pid = record {
    led =
        λ g r. spent_table f g _ (length-set g.processes pid _) (λ m is. seen_put is_none _ g.processes pid _ m (remains_none (at g.processes pid)) is)
        (λ m is. seen_put lives_as _ g.processes pid _ m (λ k. remains_dead (at g.processes pid)) is) r;
  }

  spent_add : (p : Process) → Keeps (PidsSpent f) (add_process p)
  unfolding add_process Holds
  spent_add p = record {
    led = λ g r. record {
      grown = omega (arith, r.grown, length-append g.processes (Some p ∷ []));
      gone = λ m low is. get_or-append g.processes _ None m (omega (arith, low, r.grown)) ∙ r.gone m low is;
      ended = λ m is low. ap lives_as (get_or-append g.processes _ None m (omega (arith, low, r.grown))) ∙ r.ended m is low;
    };
  }

  spent_words : (pid : ℕ) → Words all pid (PidsSpent f)
  unfolding change_object change_open put_object put_open logged Holds
  spent_words pid = record {
    object = λ o h same. record { led = λ g r. same_processes f g _ refl r };
    process = λ p h same. spent_processes p h (λ q. ap (λ x. x.ended) (same q));
    float = λ h same. spent_processes _ h (λ q. ap (λ x. x.ended) (same q));
    entry = λ e x low. record { led = λ g r. same_processes f g _ refl r };
    through = λ can e l. record { led = λ g r. same_processes f g _ refl r };
    unclaim = λ o end. record { led = λ g r. same_processes f g _ refl r };
    relabel = λ can o h same. record { led = λ g r. same_processes f g _ refl r };
    claim = λ can o h same. record { led = λ g r. same_processes f g _ refl r };
    log = λ can l. record { led = λ g r. same_processes f g _ refl r };
    inode = λ can m o k kind is free. record { led = λ g r. same_processes f g _ refl r };
    pipe = λ can m o is free. record { led = λ g r. same_processes f g _ refl r };
    gone_object = λ can o. record { led = λ g r. same_processes f g _ refl r };
    gone_open = λ can e. record { led = λ g r. same_processes f g _ refl r };
    fork = λ can. spent_add;
    end = λ can. spent_end _;
    collect = λ can. spent_collect;
  }

-- ---- decisions, steps and runs
spent_itself : (f : Frame) → PidsSpent f f
spent_itself f = record { grown = omega arith; gone = λ p low is. is; ended = λ p is low. is }

pub spent_decided : (t : LengthChecks) (place pid : ℕ) (c : Op) (f : Frame) → PidsSpent f (verdict t place pid c f).frame
spent_decided t place pid c f =
    decided (PidsSpent f) t place pid c f (spent_itself f) ((kept_row all pid (PidsSpent f) (spent_words f pid) t place c (bears_all (changes_of c))).led f
    (spent_itself f))

spent_step : (w : World) (place pid : ℕ) (c : Op) → PidsSpent w.frame (step w place pid c).world.frame
spent_step w place pid c = rw (step_frame w place pid c) (spent_decided (told w pid c) place pid c w.frame)

spent_more : (f g h : Frame) → PidsSpent f g → PidsSpent g h → PidsSpent f h
spent_more f g h r s = record {
  grown = omega (arith, r.grown, s.grown);
  gone = λ p low is. s.gone p (omega (arith, low, r.grown)) (r.gone p low is);
  ended = λ p is low. s.ended p (r.ended p is low) (omega (arith, low, r.grown));
}

pub spent_run : (w : World) (place : ℕ) (h : List Event) → PidsSpent w.frame (run w place h).frame
spent_run w place [] = spent_itself w.frame
spent_run w place (e ∷ h) = spent_more _ _ _ (spent_step w place e.pid e.op) (spent_run (step_of w place e).world (suc place) h)
