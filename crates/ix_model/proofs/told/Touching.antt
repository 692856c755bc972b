-- A call changes few labels.
use Rattle.std.proofs.Common.{◌≡◌, ◌≢◌, ◌≤◌, ◌<◌, ◌==◌, ℕ, zero, suc, Bool, true, false, List, [], ◌∷◌, ◌++◌, length, Option, Some, None, is_some, option_map}
use Rattle.std.proofs.Common.{refl, sym, ap, ◌∙◌, arith, length-set, length-append, inl, inr, true≢false}
use Rattle.std.{specs.List.list_all, proofs.{lemmas.{Bool.{eqb-false, Decides.eqb_tells}, List.get_or-set_other}, Math.ListN.get_or-append}}
use Rattle.ix_label.specs.Category.{Categories}
use Rattle.ix_model.{specs.{world.{Numbers.free_inode, World.{World, Frame, Object, Process, at, put, change, Open}}, rows.Rows.{affect, change_open}}, proofs.words.OpenRows.open_row}
use Rattle.ix_model.{specs.rows.{Walks.OpenFile, Lifetimes.let_go_object, Auditing.logged, OnPaths.new_object, OnProcesses.end_process}, proofs.words.Turns.{Turns, holds_more, turning}}
use Rattle.ix_model.specs.rows.{OnDescriptors.{LengthChecks, float_entry}, Telling.told, Rows.{change_object, change_process, put_object, put_open, put_process, add_process}}
use Rattle.ix_model.specs.{rows.Table.{row, verdict}, history.{Step.step, Events.Op}, laws.Laws.LabelsStay, declared.{audit.AuditLine.AuditLine, reply.Kind.Kind}}
use Rattle.ix_model.proofs.{tables.{Tables.seen_changed, FreeNumbers.{free_inode_is, free_pipe_is}}, words.{Answered.step_frame, Keeps.{Holds, Keeps, keeping, keeping_tests, keeps_only_if}}}
use Rattle.ix_model.proofs.words.{Lasts.{Lasting, lasting_itself, lasting_change, lasting_put, decided}, Rowwise.{kept_found_in, kept_missing, kept_opened, kept_row}}
use Rattle.ix_model.proofs.words.Rowwise.{Change, Relabelling, Making, LettingGo, Words, changes_of, object_core, kept_observe, kept_walked_to, kept_found}
use Rattle.ix_model.specs.history.Events as op

-- ---- tables
-- what stands in both has the same in both, but at the numbers of the exception
record Alike {A B : Type 0} (get : A → B) (but : ℕ → Bool) (t u : List (Option A)) : Type 0 where
  same : (n : ℕ) (x : A) (z : B) → but n ≡ false → at t n ≡ Some x → option_map get (at u n) ≡ Some z → z ≡ get x

module _ {A B : Type 0} (get : A → B) (but : ℕ → Bool) where
  alike_itself : (t : List (Option A)) → Alike get but t t
  alike_itself t = record { same = λ n x z other is seen. let h = sym seen ∙ ap (option_map get) is in cc }

  alike_change : (t u : List (Option A)) (n : ℕ) (h : A → A) → ((x : A) → get (h x) ≡ get x) → Alike get but t u → Alike get but t (change u n h)
  alike_change t u n h keeps r = record { same = λ m x z other is seen. r.same m x z other is (sym (seen_changed (option_map get) h (λ y. ap Some (keeps y)) u n m) ∙ seen) }

  -- what is put where the exception is
  alike_but : (t u : List (Option A)) (n : ℕ) (y : Option A) → ((m : ℕ) → but m ≡ false → m ≢ n) → Alike get but t u → Alike get but t (put u n y)
  alike_but t u n y apart r = record { same = λ m x z other is seen. r.same m x z other is (ap (option_map get) (sym (get_or-set_other u n m y None (apart m other))) ∙ seen) }

  none_seen : (u : List (Option A)) (n m : ℕ) (z : B) → option_map get (at (put u n None) m) ≡ Some z → option_map get (at u m) ≡ Some z
  none_seen [] n m z h = h
  none_seen (y ∷ u) zero zero z h = cc
  none_seen (y ∷ u) zero (suc m) z h = h
  none_seen (y ∷ u) (suc n) zero z h = h
  none_seen (y ∷ u) (suc n) (suc m) z h = none_seen u n m z h

  alike_gone : (t u : List (Option A)) (n : ℕ) → Alike get but t u → Alike get but t (put u n None)
  alike_gone t u n r = record { same = λ m x z other is seen. r.same m x z other is (none_seen u n m z seen) }

  -- what is put where nothing stood
  alike_new : (t u : List (Option A)) (n : ℕ) (y : Option A) → at t n ≡ None → Alike get but t u → Alike get but t (put u n y)
  alike_new t u n y free r = record {
    same = λ m x z other is seen. elim (eqb_tells m n) [
      | inl here ↦ let h = sym free ∙ ap (at t) (sym here.1) ∙ is in cc
      | inr apart ↦ r.same m x z other is (ap (option_map get) (sym (get_or-set_other u n m y None apart.1)) ∙ seen)
    ];
  }

  some_low : (t : List (Option A)) (n : ℕ) (x : A) → at t n ≡ Some x → n < length t
  some_low [] n x h = cc
  some_low (y ∷ t) zero x h = omega arith
  some_low (y ∷ t) (suc n) x h = let low = some_low t n x h in omega (arith, low)

  alike_more : (t u v : List (Option A)) → length t ≤ length u → Alike get but t u → Alike get but t (u ++ v)
  alike_more t u v long r =
      record {
        same = λ m x z other is seen. r.same m x z other is (ap (option_map get) (sym (get_or-append u v None m (let low = some_low t m x is in
            omega (arith, low, long)))) ∙ seen);
      }

-- ---- frames in which no label has changed but the caller's
record Steady (pid : ℕ) (f g : Frame) : Type 0 where
  objects : Alike (λ (x : Object). x.label) (λ n. false) f.objects g.objects
  processes : Alike (λ (p : Process). p.label) (λ n. n == pid) f.processes g.processes
  grown : length f.processes ≤ length g.processes

module _ (pid : ℕ) (f : Frame) where
  steady_itself : Steady pid f f
  steady_itself = record { objects = alike_itself _ _ f.objects; processes = alike_itself _ _ f.processes; grown = omega arith }

  with_objects : (g : Frame) (t : List (Option Object)) → Alike (λ (x : Object). x.label) (λ n. false) f.objects t → Steady pid f g → Steady pid f (record g { objects = t })
  with_objects g t a r = search

  with_processes : (g : Frame) (t : List (Option Process)) → length g.processes ≤ length t → Alike (λ (p : Process). p.label) (λ n. n == pid) f.processes t
      → Steady pid f g → Steady pid f (record g { processes = t })
  with_processes g t long a r = record { objects = r.objects; processes = a; grown = omega (arith, long, r.grown) }

  apart : (m : ℕ) → (m == pid) ≡ false → m ≢ pid
  apart m other = eqb-false m pid other

  steady_object : (g : Frame) (o : ℕ) (h : Object → Object) → ((x : Object) → (h x).label ≡ x.label) → Steady pid f g → Steady pid f (record g { objects = change g.objects o h })
  steady_object g o h same r = with_objects g _ (alike_change _ _ _ _ o h same r.objects) r

  steady_process : (g : Frame) (p : ℕ) (h : Process → Process) → ((q : Process) → (h q).label ≡ q.label) → Steady pid f g → Steady pid f (record g { processes = change g.processes p h })
  steady_process g p h same r = with_processes g _ (omega (arith, length-set g.processes p (option_map h (at g.processes p)))) (alike_change _ _ _ _ p h same r.processes) r

  -- whatever becomes of the caller
  steady_caller : (g : Frame) (x : Option Process) → Steady pid f g → Steady pid f (record g { processes = put g.processes pid x })
  steady_caller g x r = with_processes g _ (omega (arith, length-set g.processes pid x)) (alike_but _ _ _ _ pid x apart r.processes) r

  steady_gone : (g : Frame) (p : ℕ) → Steady pid f g → Steady pid f (record g { processes = put g.processes p None })
  steady_gone g p r = with_processes g _ (omega (arith, length-set g.processes p None)) (alike_gone _ _ _ g.processes p r.processes) r

  steady_fork : (g : Frame) (p : Process) → Steady pid f g → Steady pid f (record g { processes = g.processes ++ Some p ∷ [] })
  steady_fork g p r = with_processes g _ (omega (arith, length-append g.processes (Some p ∷ []))) (alike_more _ _ _ g.processes (Some p ∷ []) r.grown r.processes) r

  steady_new : (g : Frame) (o : ℕ) (x : Option Object) → at f.objects o ≡ None → Steady pid f g → Steady pid f (record g { objects = put g.objects o x })
  steady_new g o x free r = with_objects g _ (alike_new _ _ _ _ o x free r.objects) r

  steady_lost : (g : Frame) (o : ℕ) → Steady pid f g → Steady pid f (record g { objects = put g.objects o None })
  steady_lost g o r = with_objects g _ (alike_gone _ _ _ g.objects o r.objects) r

  -- ---- where nothing is made
  makes_none : Change → Bool
  makes_none Relabelling = false
  makes_none Making = false
  makes_none _ = true

  steady_words : Words makes_none pid (Steady pid f)
  unfolding makes_none change_object change_process change_open put_object put_open put_process add_process end_process logged Holds
  steady_words = record {
    object = λ o h same. record { led = λ g. steady_object g o h (λ x. ap (λ y. y.label) (same x)) };
    process = λ p h same. record { led = λ g. steady_process g p h (λ q. ap (λ r. r.label) (same q)) };
    float = λ h same. record { led = λ g. steady_caller g _ };
    entry = λ e x low. record { led = λ g r. record { objects = r.objects; processes = r.processes; grown = r.grown } };
    through = λ can e l. record { led = λ g r. record { objects = r.objects; processes = r.processes; grown = r.grown } };
    unclaim = λ o end. record { led = λ g. steady_object g o _ (λ x. refl) };
    relabel = λ can. cc;
    claim = λ can o h same. record { led = λ g. steady_object g o h (λ x. ap (λ y. y.label) (same x)) };
    log = λ can l. record { led = λ g r. record { objects = r.objects; processes = r.processes; grown = r.grown } };
    inode = λ can. cc;
    pipe = λ can. cc;
    gone_object = λ can o. record { led = λ g. steady_lost g o };
    gone_open = λ can e. record { led = λ g r. record { objects = r.objects; processes = r.processes; grown = r.grown } };
    fork = λ can p. record { led = λ g. steady_fork g p };
    end = λ can. record { led = λ g. steady_caller g _ };
    collect = λ can p. record { led = λ g. steady_gone g p };
  }

  -- ---- where no object goes
  record Staying (g : Frame) : Type 0 where
    steady : Steady pid f g
    lasting : Lasting f.objects g.objects

  staying_itself : Staying f
  staying_itself = record { steady = steady_itself; lasting = lasting_itself _ }

  -- where nothing stands now, nothing stood
  fresh : (g : Frame) (o : ℕ) → Lasting f.objects g.objects → at g.objects o ≡ None → at f.objects o ≡ None
  fresh g o lasting free = go _ refl
    where
      go : (x : Option Object) → at f.objects o ≡ x → x ≡ None
      go None is = refl
      go (Some x) is = absurd (true≢false (sym (lasting.stays o (ap is_some is)) ∙ ap is_some free))

  fresh_inode : (g : Frame) (k o : ℕ) → Staying g → free_inode g k ≡ Some o → at f.objects o ≡ None
  fresh_inode g k o r free = fresh g o r.lasting (free_inode_is g k o free).free

  loses_none : Change → Bool
  loses_none Relabelling = false
  loses_none LettingGo = false
  loses_none _ = true

  staying_object : (g : Frame) (o : ℕ) (h : Object → Object) → ((x : Object) → (h x).label ≡ x.label) → Staying g → Staying (record g { objects = change g.objects o h })
  staying_object g o h same r = record { steady = steady_object g o h same r.steady; lasting = lasting_change _ _ o h r.lasting }

  staying_new : (g : Frame) (o : ℕ) (x : Object) → at f.objects o ≡ None → Staying g → Staying (record g { objects = put g.objects o (Some x) })
  staying_new g o x free r = record { steady = steady_new g o _ free r.steady; lasting = lasting_put _ _ o x r.lasting }

  staying_words : Words loses_none pid Staying
  unfolding loses_none change_object change_process change_open put_object put_open put_process add_process end_process logged Holds
  staying_words = record {
    object = λ o h same. record { led = λ g. staying_object g o h (λ x. ap (λ y. y.label) (same x)) };
    process = λ p h same. record { led = λ g r. record { steady = steady_process g p h (λ q. ap (λ s. s.label) (same q)) r.steady; lasting = r.lasting } };
    float = λ h same. record { led = λ g r. record { steady = steady_caller g _ r.steady; lasting = r.lasting } };
    entry = λ e x low. record { led = λ g r. record { steady = record { objects = r.steady.objects; processes = r.steady.processes; grown = r.steady.grown }; lasting = r.lasting } };
    through = λ can e l. record { led = λ g r. record { steady = record { objects = r.steady.objects; processes = r.steady.processes; grown = r.steady.grown }; lasting = r.lasting } };
    unclaim = λ o end. record { led = λ g. staying_object g o _ (λ x. refl) };
    relabel = λ can. cc;
    claim = λ can o h same. record { led = λ g. staying_object g o h (λ x. ap (λ y. y.label) (same x)) };
    log = λ can l. record { led = λ g r. record { steady = record { objects = r.steady.objects; processes = r.steady.processes; grown = r.steady.grown }; lasting = r.lasting } };
    inode = λ can m o k kind is free. record { led = λ g. staying_new g o _ (fresh_inode m k o is free) };
    pipe = λ can m o is free. record { led = λ g. staying_new g o _ (fresh m o is.lasting (free_pipe_is m o free).free) };
    gone_object = λ can. cc;
    gone_open = λ can. cc;
    fork = λ can p. record { led = λ g r. record { steady = steady_fork g p r.steady; lasting = r.lasting } };
    end = λ can. record { led = λ g r. record { steady = steady_caller g _ r.steady; lasting = r.lasting } };
    collect = λ can p. record { led = λ g r. record { steady = steady_gone g p r.steady; lasting = r.lasting } };
  }

  -- ---- where one object's label changes
  record Touched (g : Frame) : Type 0 where
    number : ℕ
    objects : Alike (λ (x : Object). x.label) (λ n. n == number) f.objects g.objects
    processes : Alike (λ (p : Process). p.label) (λ n. n == pid) f.processes g.processes

  steady_touched : (g : Frame) → Steady pid f g → Touched g
  steady_touched g r = record { number = 0; objects = record { same = λ n x z other is seen. r.objects.same n x z refl is seen }; processes = r.processes }

  staying_touched : (g : Frame) → Staying g → Touched g
  staying_touched g r = steady_touched g r.steady

  turn_change : (o : ℕ) (h : Object → Object) → Turns Staying Touched (change_object o h)
  unfolding change_object Holds
  turn_change o h = record {
    led = λ g r. record {
      number = o;
      objects = alike_but _ _ _ _ o _ (λ m other. eqb-false m o other) (record { same = λ n x z other is seen. r.steady.objects.same n x z refl is seen });
      processes = r.steady.processes;
    };
  }

  -- and then no other's
  then_object : (o : ℕ) (h : Object → Object) → ((x : Object) → object_core (h x) ≡ object_core x) → Keeps Touched (change_object o h)
  unfolding change_object Holds
  then_object o h same = record { led = λ g r. record { number = r.number; objects = alike_change _ _ _ _ o h (λ x. ap (λ y. y.label) (same x)) r.objects; processes = r.processes } }

  then_inode : (m : Frame) (o k : ℕ) (kind : Kind) → Staying m → free_inode m k ≡ Some o → Keeps Touched (put_object o (Some (new_object kind (Some k))))
  unfolding put_object Holds
  then_inode m o k kind is free = record { led = λ g r. record { number = r.number; objects = alike_new _ _ f.objects g.objects o _ (fresh_inode m k o is free) r.objects; processes = r.processes } }

  then_entry : (e : ℕ) (h : Open → Open) → Keeps Touched (change_open e h)
  unfolding change_open Holds
  then_entry e h = record { led = λ g r. record { number = r.number; objects = r.objects; processes = r.processes } }

  then_gone : (o : ℕ) → Keeps Touched (put_object o None)
  unfolding put_object Holds
  then_gone o = record { led = λ g r. record { number = r.number; objects = alike_gone _ _ f.objects g.objects o r.objects; processes = r.processes } }

  then_let_go : (o : ℕ) → Keeps Touched (let_go_object o)
  unfolding let_go_object
  then_let_go o = record { led = λ g. (keeps_only_if _ _ (put_object o None) (then_gone o)).led g }

  then_float_entry : (p : Process) (x : Object) (e : OpenFile) → Keeps Touched (float_entry p x e)
  unfolding float_entry
  then_float_entry p x e = search (keeping, then_entry) depth 30

  then_logged : (l : AuditLine) → Keeps Touched (logged l)
  unfolding logged Holds
  then_logged l = record { led = λ g r. record { number = r.number; objects = r.objects; processes = r.processes } }

  -- ---- the rows that touch a label
  ruleset touching = (
    turning,
    staying_touched,
    turn_change,
    keeping,
    keeping_tests,
    kept_found,
    kept_found_in,
    kept_missing,
    kept_walked_to,
    kept_opened,
    kept_observe,
    staying_words,
    then_object,
    then_inode,
    then_gone,
    then_let_go,
    then_float_entry,
    then_logged,
  )

  t_affect : (o : ℕ) (through : Categories) → Turns Staying Touched (affect pid o through)
  unfolding affect
  t_affect o through = search touching depth 40

  ruleset turns = (touching, t_affect)

  begun : (t : LengthChecks) (place : ℕ) (c : Op) → Turns Staying Touched (row t place pid c) → Holds (row t place pid c f) Touched
  begun t place c h = h.led f staying_itself

  steady_row : (t : LengthChecks) (place : ℕ) (c : Op) → list_all makes_none (changes_of c) ≡ true → Holds (row t place pid c f) Touched
  steady_row t place c fits = holds_more _ _ (row t place pid c f) steady_touched ((kept_row _ _ _ steady_words t _ c fits).led f steady_itself)

  touched_row : (t : LengthChecks) (place : ℕ) (c : Op) → Holds (row t place pid c f) Touched
  unfolding open_row makes_none loses_none
  touched_row t place (op.CreateAt path) = begun t place (op.CreateAt path) (search turns depth 60 fits 8000)
  touched_row t place (op.MakeDir path) = begun t place (op.MakeDir path) (search turns depth 60 fits 8000)
  touched_row t place (op.LinkAt target path) = begun t place (op.LinkAt target path) (search turns depth 60 fits 8000)
  touched_row t place (op.UnlinkAt path) = begun t place (op.UnlinkAt path) (search turns depth 60 fits 8000)
  touched_row t place (op.RemoveDir path) = begun t place (op.RemoveDir path) (search turns depth 60 fits 8000)
  touched_row t place (op.WriteFd fd bytes) = begun t place (op.WriteFd fd bytes) (search turns depth 60 fits 8000)
  touched_row t place (op.CutFd fd len) = begun t place (op.CutFd fd len) (search turns depth 60 fits 8000)
  touched_row t place (op.SetLabel path now) = begun t place (op.SetLabel path now) (search turns depth 60 fits 8000)
  touched_row t place (op.Freeze path) = begun t place (op.Freeze path) (search turns depth 60 fits 8000)
  touched_row t place (op.SetPriv path cap lic) = begun t place (op.SetPriv path cap lic) (search turns depth 60 fits 8000)
  touched_row t place (op.CloseFd fd) = steady_row t place (op.CloseFd fd) refl
  touched_row t place (op.Exit status) = steady_row t place (op.Exit status) refl
  touched_row t place c = holds_more Staying Touched (row t place pid c f) staying_touched ((kept_row loses_none pid Staying staying_words t place c refl).led f staying_itself)

  labels_stay : (g : Frame) → Touched g → LabelsStay pid f g
  labels_stay g r = record {
    touched = r.number;
    objects = λ o x y other was is. r.objects.same o x y.label other was (ap (option_map (λ z. z.label)) is);
    processes = λ p x y other was is. r.processes.same p x y.label other was (ap (option_map (λ q. q.label)) is);
  }

touched_decided : (t : LengthChecks) (place pid : ℕ) (c : Op) (f : Frame) → Touched pid f (verdict t place pid c f).frame
touched_decided t place pid c f = decided (Touched pid f) t place pid c f (staying_touched pid f f (staying_itself pid f)) (touched_row pid f t place c)

pub few_labels : (w : World) (place pid : ℕ) (c : Op) → LabelsStay pid w.frame (step w place pid c).world.frame
few_labels w place pid c = rw (step_frame w place pid c) (labels_stay pid w.frame _ (touched_decided (told w pid c) place pid c w.frame))
