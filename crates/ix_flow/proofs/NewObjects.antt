-- Which objects are new after an entry: those that a making call tells.
use Rattle.std.proofs.Common.{◌≡◌, ◌≢◌, ◌<◌, ℕ, Bool, true, false, true≢false, List, length, Option, Some, None, is_some, option_map, refl, sym, ap, ◌∙◌, subst, ◌⊎◌, inl, inr}
use Rattle.std.{proofs.lemmas.List.{get_or-set_same, get_or-set_other}, specs.List.list_all}
use Rattle.ix_label.specs.Category.{Categories, bottom}
use Rattle.ix_model.specs.{declared.{audit.AuditLine.AuditLine, ids.Fd.Fd, refusal.Refusal.Refusal, reply.{Kind.Kind, Reply.Reply}}, history.{AuditLog.is_answer, Events.Op, Step.step}}
use Rattle.ix_model.specs.{history.Step.{answer, plainly}, laws.Laws.Refused, rows.{Auditing.logged, OnDescriptors.{LengthChecks, make_pipe, pipe_end}, OnPaths.{make, create_at}}}
use Rattle.ix_model.specs.rows.{OnPaths.{make_dir, new_object}, OnProcesses.end_process, Refusals.keeps_label, Rows.{change_object, change_process, change_open, put_object, put_open}}
use Rattle.ix_model.specs.rows.{Rows.{put_process, add_process, affect, observe}, Table.{row, verdict}, Telling.told, Walks.{OpenFile, behind, behind_of, entry_at, missing, walked_to}}
use Rattle.ix_model.specs.world.{Naming.PathOf, Numbers.free_pipe, World.{Frame, World, Object, Process, Open, at, put, change, living, lowest_free}}
use Rattle.ix_model.proofs.{refused.RefusedSteps.refused_step, tables.{Finds.{at_put, at_change}, FreeNumbers.{free_inode_is, free_pipe_is, lowest_free_is}, Tables.at_changed}}
use Rattle.ix_model.proofs.words.{Answered.{step_frame, passed}, Endings.ends_put_object, Ends.{Ends, Anything, ends_kept, ends_bind, ends_then, ends_pass, ends_frame, ends_need}}
use Rattle.ix_model.proofs.words.{Ends.{ends_some, ends_caller, ends_object, ends_change_object, ends_change_caller, ends_put_open}, Keeps.{Holds, Keeps, keeping}, Lasts.decided}
use Rattle.ix_model.proofs.words.{Living.{is_living, not_ended, lives_as}, Rowwise.{Change, Making, Words, changes_of, kept_row}}
use Rattle.ix_model.specs.history.Events as op
use Rattle.ix_model.specs.declared.call.Mode.TheVariants as mode
use Rattle.ix_model.specs.declared.reply.Kind.TheVariants as kind
use Rattle.ix_model.specs.declared.reply.Reply.TheVariants as reply

-- what stands in the second frame stood in the first
pub record Stood (f g : Frame) : Type 0 where
  pub objects : (o : ℕ) (x : Object) → at g.objects o ≡ Some x → is_some (at f.objects o) ≡ true

stood_itself : (f : Frame) → Stood f f
stood_itself f = record { objects = λ o x is. ap is_some is }

module _ (f : Frame) where
  stood_changed : (o : ℕ) (h : Object → Object) → Keeps (Stood f) (change_object o h)
  unfolding change_object Holds
  stood_changed o h = record {
    led = λ g r. record {
      objects = λ n x is. elim (at_change _ o h n x is) [
        | inl c ↦ r.objects n c.was (ap (at _) c.here ∙ c.is_was)
        | inr other ↦ r.objects n x other.1
      ];
    };
  }

  stood_gone : (o : ℕ) → Keeps (Stood f) (put_object o None)
  unfolding put_object Holds
  stood_gone o = record {
    led = λ g r. record {
      objects = λ n x is. elim (at_put _ o n _ x is) [
        | inl c ↦ cc
        | inr other ↦ r.objects n x other.1
      ];
    };
  }

  stood_process : (p : ℕ) (h : Process → Process) → Keeps (Stood f) (change_process p h)
  unfolding change_process Holds
  stood_process p h = record { led = λ g r. record { objects = r.objects } }

  stood_put_process : (p : ℕ) (x : Option Process) → Keeps (Stood f) (put_process p x)
  unfolding put_process Holds
  stood_put_process p x = record { led = λ g r. record { objects = r.objects } }

  stood_end : (p : ℕ) → Keeps (Stood f) (end_process p)
  unfolding end_process
  stood_end p = record { led = λ g r. (stood_put_process p _).led g r }

  stood_added : (q : Process) → Keeps (Stood f) (add_process q)
  unfolding add_process Holds
  stood_added q = record { led = λ g r. record { objects = r.objects } }

  stood_open : (e : ℕ) (x : Option Open) → Keeps (Stood f) (put_open e x)
  unfolding put_open Holds
  stood_open e x = record { led = λ g r. record { objects = r.objects } }

  stood_through : (e : ℕ) (h : Open → Open) → Keeps (Stood f) (change_open e h)
  unfolding change_open Holds
  stood_through e h = record { led = λ g r. record { objects = r.objects } }

  stood_logged : (l : AuditLine) → Keeps (Stood f) (logged l)
  unfolding logged Holds
  stood_logged l = record { led = λ g r. record { objects = r.objects } }

-- what makes no object
abbrev pub makes_none : Change → Bool
makes_none Making = false
makes_none _ = true

stood_words : (pid : ℕ) (f : Frame) → Words makes_none pid (Stood f)
stood_words pid f = record {
  object = λ o h same. stood_changed f o h;
  process = λ p h same. stood_process f p h;
  float = λ h same. stood_process f _ h;
  entry = λ e x low. stood_open f e (Some x);
  through = λ can e l. stood_through f e _;
  unclaim = λ o end. stood_changed f o _;
  relabel = λ can o h same. stood_changed f o h;
  claim = λ can o h same. stood_changed f o h;
  log = λ can. stood_logged f;
  inode = λ can. cc;
  pipe = λ can. cc;
  gone_object = λ can o. stood_gone f o;
  gone_open = λ can e. stood_open f e None;
  fork = λ can q. stood_added f q;
  end = λ can. stood_end f pid;
  collect = λ can p. stood_put_process f p None;
}

stood_decided : (t : LengthChecks) (place pid : ℕ) (c : Op) (f : Frame) → list_all makes_none (changes_of c) ≡ true → Stood f (verdict t place pid c f).frame
stood_decided t place pid c f makes = decided (Stood f) t place pid c f (stood_itself f) ((kept_row _ _ _ (stood_words _ f) t _ c makes).led f (stood_itself f))

-- a call that makes nothing
pub stood_step : (w : World) (place pid : ℕ) (c : Op) → list_all makes_none (changes_of c) ≡ true → Stood w.frame (step w place pid c).world.frame
stood_step w place pid c makes = subst (λ g. Stood w.frame g) (sym (step_frame w _ _ c)) (stood_decided _ _ _ c _ makes)

-- ---- what makes
-- what stands in the second frame, but at one number, stood in the first
pub record OneNew (f g : Frame) (o : ℕ) : Type 0 where
  pub objects : (n : ℕ) (x : Object) → at g.objects n ≡ Some x → (n ≡ o) ⊎ (is_some (at f.objects n) ≡ true)

one_put : (f h : Frame) (o : ℕ) (y : Object) → Stood f h → (n : ℕ) (x : Object) → at (put h.objects o (Some y)) n ≡ Some x → (n ≡ o) ⊎ (is_some (at f.objects n) ≡ true)
one_put f h o y r n x is = elim (at_put _ o n _ x is) [
  | inl here ↦ inl here.0
  | inr old ↦ inr (r.objects n x old.1)
]

one_named : (f h : Frame) (o d : ℕ) (y : Object) (k : Object → Object) → Stood f h → OneNew f (record h { objects = change (put h.objects o (Some y)) d k }) o
one_named f h o d y k r = record {
  objects = λ n x is. elim (at_change _ d k n x is) [
    | inl c ↦ one_put f h o y r n _ (ap (at _) c.here ∙ c.is_was)
    | inr other ↦ one_put f h o y r n x other.1
  ];
}

-- a file or a directory, of which the reply tells the number, at which nothing stood
pub record MadeOne (f : Frame) (r : Reply) (g : Frame) : Type 0 where
  pub object : ℕ
  pub told : r ≡ reply.Number object
  pub free : at f.objects object ≡ None
  pub new : OneNew f g object

-- what looks leaves the objects as they are
abbrev SameObjects : Frame → Frame → Type 0
SameObjects f g = g.objects ≡ f.objects

looked_process : (f : Frame) (p : ℕ) (h : Process → Process) → Keeps (SameObjects f) (change_process p h)
unfolding change_process Holds
looked_process f p h = record { led = λ g r. r }

looked_observed : (f : Frame) (pid : ℕ) (seen : Categories) → Keeps (SameObjects f) (observe pid seen)
unfolding observe
looked_observed f pid seen = search (keeping, looked_process) depth 30

looked_walked : (f : Frame) (pid : ℕ) (path : PathOf) → Keeps (SameObjects f) (walked_to pid path)
unfolding walked_to
looked_walked f pid path = search (keeping, looked_observed) depth 30

looked_missing : (f : Frame) (pid : ℕ) (path : PathOf) → Keeps (SameObjects f) (missing pid path)
unfolding missing
looked_missing f pid path = search (keeping, looked_walked) depth 30

stood_same : (f g : Frame) → SameObjects f g → Stood f g
stood_same f g same = record { objects = λ o x is. ap (λ t. is_some (at t o)) (sym same) ∙ ap is_some is }

stood_affected : (f : Frame) (pid o : ℕ) (l : Categories) → Keeps (Stood f) (affect pid o l)
unfolding affect
stood_affected f pid o l = search (keeping, stood_changed) depth 30

makes : (pid : ℕ) (path : PathOf) (kind : Kind) (f : Frame) → Ends (make pid path kind f) Anything (MadeOne f)
unfolding make
makes pid path kind f =
    let Q = MadeOne f in
    ends_bind _ _ f _ Q (ends_kept _ (missing _ path f) _ _ ((looked_missing f _ _).led f refl) (λ r g kept. tt) (λ d g kept.
    ends_bind _ _ g _ Q (ends_object d g _ _ (λ x here.
    ends_bind _ _ g _ Q (ends_frame g _ _ (
    ends_bind _ _ g _ Q (ends_some _ _ g _ _ (λ o free.
    ends_then _ _ g _ Q (ends_need _ _ g _ _ (λ room.
    ends_then _ _ g _ Q (ends_kept _ (affect pid d bottom g) _ _ ((stood_affected f _ d _).led g (stood_same f g kept)) (λ r h still. tt) (λ u h still.
    ends_then _ _ h _ Q (ends_put_object o _ h _ _ (
    ends_then _ _ _ _ Q (ends_change_object d _ _ _ _ (
    ends_pass _ _ _ Q (record { object = o; told = refl; free = ap (λ t. at t o) (sym kept) ∙ (free_inode_is g _ o free).free; new = one_named f h o d _ _ still }))))))))
    tt)) tt)))) tt)))

-- a pipe, which stands behind the first of the two descriptors that the reply tells
pub record MadePipe (pid : ℕ) (f : Frame) (r : Reply) (g : Frame) : Type 0 where
  pub first : Fd
  pub second : Fd
  pub told : r ≡ reply.Two first second
  pub entry : OpenFile
  pub is_behind : behind g pid first.0 ≡ Some entry
  pub free : at f.objects entry.entry.object ≡ None
  pub new : OneNew f g entry.entry.object

-- the second of two free numbers isn't the first
free_apart : {A : Type 0} (t : List (Option A)) (d e : ℕ) (x : A) → lowest_free t ≡ Some d → lowest_free (put t d (Some x)) ≡ Some e → d ≢ e
free_apart t d e x first second = λ same.
    let none = (lowest_free_is _ e second).1 in
    let z = sym (get_or-set_same t d _ None ((lowest_free_is t d first).0)) ∙ ap (at _) same ∙ none in
    absurd (true≢false (ap is_some z))

first_of_two : {A : Type 0} (t : List (Option A)) (d e : ℕ) (x y : A) → d < length t → d ≢ e → at (put (put t d (Some x)) e (Some y)) d ≡ Some x
first_of_two t d e x y inside apart = get_or-set_other _ e d _ None apart ∙ get_or-set_same t d _ None inside

seen_behind : (g : Frame) (pid fd d : ℕ) (p : Process) (y : Open) → living (at g.processes pid) ≡ Some p → at p.fds fd ≡ Some d → at g.opens d ≡ Some y
    → behind g pid fd ≡ Some (record { id = d; entry = y })
unfolding behind
seen_behind g pid fd d p y lives descriptor is = ap (λ q. behind_of q g fd) lives ∙ ap (entry_at g) descriptor ∙ ap (option_map (λ x. record { id = d; entry = x })) is

pipes : (pid : ℕ) (f : Frame) → Ends (make_pipe pid f) Anything (MadePipe pid f)
unfolding make_pipe
pipes pid f =
    let Q = MadePipe pid f in
    ends_bind _ _ f _ Q (ends_frame f _ _ (
    ends_bind _ _ f _ Q (ends_some _ _ f _ _ (λ o free.
    ends_bind _ _ f _ Q (ends_caller _ f _ _ (λ p lives.
    ends_bind _ _ f _ Q (ends_some _ _ f _ _ (λ a one.
    ends_bind _ _ f _ Q (ends_some _ _ f _ _ (λ b two.
    ends_bind _ _ f _ Q (ends_some _ _ f _ _ (λ d three.
    ends_bind _ _ f _ Q (ends_some _ _ f _ _ (λ e four.
    ends_then _ _ f _ Q (ends_put_object o _ f _ _ (
    ends_then _ _ _ _ Q (ends_put_open d _ _ _ _ (
    ends_then _ _ _ _ Q (ends_put_open e _ _ _ _ (
    ends_then _ _ _ _ Q (ends_change_caller _ _ _ _ _ (
    ends_pass _ _ _ Q (piped o p a b d e free lives one two three four))))))))))
    tt)) tt)) tt)) tt)) tt)) tt)))
  where
    open_end : ℕ → ℕ → Open
    open_end o end = record { object = o; end = end; mode = mode.Both; label = bottom }

    piped : (o : ℕ) (p : Process) (a b d e : ℕ) → free_pipe f ≡ Some o → living (at f.processes pid) ≡ Some p → lowest_free p.fds ≡ Some a → lowest_free (put p.fds a (Some 0)) ≡ Some b
        → lowest_free f.opens ≡ Some d → lowest_free (put f.opens d (pipe_end o 0)) ≡ Some e
        → MadePipe pid f (reply.Two (record { 0 = a }) (record { 0 = b })) (record f {
          objects = put f.objects o (Some (new_object kind.Pipe None));
          opens = put (put f.opens d (pipe_end o 0)) e (pipe_end o 1);
          processes = change f.processes pid (λ q. record q { fds = put (put q.fds a (Some d)) b (Some e) });
        })
    piped o p a b d e free lives one two three four =
        let more : Process → Process = λ q. record q { fds = put (put q.fds a (Some d)) b (Some e) } in
        record {
          first = record { 0 = a };
          second = record { 0 = b };
          told = refl;
          entry = record { id = d; entry = open_end o 0 };
          is_behind = seen_behind _ _ a d _ _
              (lives_as _ _ (at_changed f.processes _ _ ∙ ap (option_map more) (is_living _ p lives)) (not_ended _ p lives))
              (first_of_two _ a b d e (lowest_free_is _ a one).0 (free_apart _ a b 0 one two))
              (first_of_two _ d e _ _ (lowest_free_is _ d three).0 (free_apart _ d e _ three four));
          free = (free_pipe_is f o free).free;
          new = record { objects = λ n x is. one_put f f o _ (stood_itself f) n x is };
        }

-- ---- the step
-- a refusal makes nothing
refused_stands : (w v : World) (pid : ℕ) (c : Op) (r : Refusal) → Refused w pid c r v → Stood w.frame v.frame
refused_stands w v pid c r left = go _ refl
  where
    go : (b : Bool) → keeps_label r ≡ b → Stood w.frame v.frame
    go true is = subst (λ g. Stood w.frame g) (sym (left.label is)) (record { objects = λ o x here. ap is_some here })
    go false is = subst (λ g. Stood w.frame g) (sym (left.kept is)) (stood_itself _)

refusal_of : (r : Reply) → is_answer r ≡ false → (why : Refusal) × (r ≡ reply.No why)
refusal_of (reply.No why) none = (why, refl)
refusal_of _ none = absurd (true≢false none)

module _ (w : World) (place pid : ℕ) where
  -- a call that tells what it makes where it passes, and else makes nothing
  by_answer : (c : Op) (K : Reply → Frame → Type 0) → (step w place pid c).reply ≡ (verdict (told w pid c) place pid c w.frame).reply → Ends (row (told w pid c) place pid c w.frame) Anything K
      → ((is_answer (step w place pid c).reply ≡ false) × Stood w.frame (step w place pid c).world.frame) ⊎ K (step w place pid c).reply (step w place pid c).world.frame
  by_answer c K same ends = go _ refl
    where
      go : (b : Bool) → is_answer (step w place pid c).reply ≡ b
          → ((is_answer (step w place pid c).reply ≡ false) × Stood w.frame (step w place pid c).world.frame) ⊎ K (step w place pid c).reply (step w place pid c).world.frame
      go true is = inr (subst (λ r. K r (step w place pid c).world.frame) (sym same)
          (subst (λ g. K (verdict (told w pid c) place pid c w.frame).reply g) (sym (step_frame w _ _ c))
          (passed _ _ _ c _ K ends (ap is_answer (sym same) ∙ is))))
      go false is = inl (is, refused_stands w _ _ c _ (refused_step w _ _ c _ (refusal_of _ is).1))

  pub created : (path : PathOf) → ((is_answer (step w place pid (op.CreateAt path)).reply ≡ false) × Stood w.frame (step w place pid (op.CreateAt path)).world.frame)
      ⊎ MadeOne w.frame (step w place pid (op.CreateAt path)).reply (step w place pid (op.CreateAt path)).world.frame
  unfolding step answer plainly row create_at
  created path = by_answer (op.CreateAt path) (MadeOne w.frame) refl (makes pid path kind.File w.frame)

  pub made_dir : (path : PathOf) → ((is_answer (step w place pid (op.MakeDir path)).reply ≡ false) × Stood w.frame (step w place pid (op.MakeDir path)).world.frame)
      ⊎ MadeOne w.frame (step w place pid (op.MakeDir path)).reply (step w place pid (op.MakeDir path)).world.frame
  unfolding step answer plainly row make_dir
  made_dir path = by_answer (op.MakeDir path) (MadeOne w.frame) refl (makes pid path kind.Dir w.frame)

  pub piped : ((is_answer (step w place pid op.MakePipe).reply ≡ false) × Stood w.frame (step w place pid op.MakePipe).world.frame) ⊎ MadePipe pid w.frame (step w place pid op.MakePipe).reply
      (step w place pid op.MakePipe).world.frame
  unfolding step answer plainly row
  piped = by_answer op.MakePipe (MadePipe pid w.frame) refl (pipes pid w.frame)
