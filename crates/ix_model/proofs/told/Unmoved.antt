-- The privileges of processes and objects: what rows leave of them that change none.
use Rattle.std.{specs.Option.option_and_then, proofs.Common.{◌≡◌, ◌≤◌, ℕ, Bool, true, false, true≢false, List, [], ◌∷◌, ◌++◌, length, Option, Some, None, is_some, option_map, refl, sym, ap}}
use Rattle.std.proofs.Common.{◌∙◌, subst, arith, inl, inr, if◌then◌else◌}
use Rattle.ix_label.specs.Category.{Categories}
use Rattle.ix_model.specs.{world.{Naming.PathOf, Numbers.{free_inode, free_pipe}, World.{Frame, Object, Process, Open, at, put, change}}, rows.{Auditing.logged, OnPaths.new_object}}
use Rattle.ix_model.specs.{rows.{Rows.{change_object, change_process, put_object, put_process, put_open, change_open, observe, affect}, Table.row}, history.Events.Op}
use Rattle.ix_model.specs.rows.{Walks.{OpenFile, walked_to, object_at, spot_at, missing, opened}, Lifetimes.{let_go_object, let_go, let_go_all}, OnDescriptors.{LengthChecks, float_entry}}
use Rattle.ix_model.{specs.{rows.OnProcesses.{remains, end_process}, declared.{audit.AuditLine.AuditLine, reply.Kind.Kind}}, proofs.words.OpenRows.open_row}
use Rattle.ix_model.specs.laws.Privileged.{Privileges, Carried, privileges, carried_by, carries_none}
use Rattle.ix_model.proofs.tables.{Finds.{at_put, at_push, at_change, in_table}, FreeNumbers.{free_inode_is, free_pipe_is}}
use Rattle.ix_model.proofs.words.{Lasts.{Lasting, lasting_itself, lasting_change, lasting_put}, Keeps.{Holds, Keeps, keeping, keeping_tests}}
use Rattle.ix_model.proofs.words.{LetGo.{LetsGo, keeps_let_go_object, keeps_let_go, keeps_let_go_all}, Rowwise.{keeps_bind_frame, keeps_bind_some}}
use Rattle.ix_model.specs.history.Events as op
use Rattle.ix_model.specs.declared.reply.Kind.TheVariants as kind

-- ---- tables
-- what stands in both has the same, and what is new has what a new one may have
pub record Kept {A B : Type 0} (get : A → B) (new : B → Type 0) (t u : List (Option A)) : Type 0 where
  pub same : (n : ℕ) (x y : A) → at t n ≡ Some x → at u n ≡ Some y → get y ≡ get x
  pub fresh : (n : ℕ) (y : A) → at t n ≡ None → at u n ≡ Some y → new (get y)

module _ {A B : Type 0} (get : A → B) (new : B → Type 0) (t : List (Option A)) where
  pub kept_itself : Kept get new t t
  kept_itself = record {
    same = λ n x y is seen. let e = sym is ∙ seen in let one : x ≡ y = cc in ap get (sym one);
    fresh = λ n y is seen. let e = sym is ∙ seen in cc;
  }

  pub kept_change : (u : List (Option A)) (n : ℕ) (h : A → A) → ((x : A) → get (h x) ≡ get x) → Kept get new t u → Kept get new t (change u n h)
  kept_change u n h keeps r = record {
    same = λ m x y is seen. elim (at_change u n h m y seen) [
      | inl c ↦ ap get c.same ∙ keeps c.was ∙ r.same m x c.was is (ap (at u) c.here ∙ c.is_was)
      | inr other ↦ r.same m x y is other.1
    ];
    fresh = λ m y is seen. elim (at_change u n h m y seen) [
      | inl c ↦ subst new (sym (ap get c.same ∙ keeps c.was)) (r.fresh m c.was is (ap (at u) c.here ∙ c.is_was))
      | inr other ↦ r.fresh m y is other.1
    ];
  }

  pub kept_none : (u : List (Option A)) (n : ℕ) → Kept get new t u → Kept get new t (put u n None)
  kept_none u n r = record {
    same = λ m x y is seen. elim (at_put u n m _ y seen) [
      | inl here ↦ let e = here.1 in cc
      | inr other ↦ r.same m x y is other.1
    ];
    fresh = λ m y is seen. elim (at_put u n m _ y seen) [
      | inl here ↦ let e = here.1 in cc
      | inr other ↦ r.fresh m y is other.1
    ];
  }

  pub kept_put : (u : List (Option A)) (n : ℕ) (z : A) → at t n ≡ None → new (get z) → Kept get new t u → Kept get new t (put u n (Some z))
  kept_put u n z free fits r = record {
    same = λ m x y is seen. elim (at_put u n m _ y seen) [
      | inl here ↦ let e = sym free ∙ ap (at t) (sym here.0) ∙ is in cc
      | inr other ↦ r.same m x y is other.1
    ];
    fresh = λ m y is seen. elim (at_put u n m _ y seen) [
      | inl here ↦ let one : z ≡ y = cc in subst (λ v. new (get v)) one fits
      | inr other ↦ r.fresh m y is other.1
    ];
  }

  pub kept_push : (u : List (Option A)) (z : A) → length t ≤ length u → new (get z) → Kept get new t u → Kept get new t (u ++ Some z ∷ [])
  kept_push u z long fits r = record {
    same = λ m x y is seen. elim (at_push u z m y seen) [
      | inl here ↦ let low = in_table t m x is in let at_end = here.0 in absurd (omega (arith, low, at_end, long))
      | inr other ↦ r.same m x y is other
    ];
    fresh = λ m y is seen. elim (at_push u z m y seen) [
      | inl here ↦ subst (λ v. new (get v)) here.1 fits
      | inr other ↦ r.fresh m y is other
    ];
  }

  -- another with the same
  pub kept_again : (u : List (Option A)) (n : ℕ) (z was : A) → at u n ≡ Some was → get z ≡ get was → Kept get new t u → Kept get new t (put u n (Some z))
  kept_again u n z was is_was keeps r = record {
    same = λ m x y is seen. elim (at_put u n m _ y seen) [
      | inl here ↦ let one : z ≡ y = cc in ap get (sym one) ∙ keeps ∙ r.same m x was is (ap (at u) here.0 ∙ is_was)
      | inr other ↦ r.same m x y is other.1
    ];
    fresh = λ m y is seen. elim (at_put u n m _ y seen) [
      | inl here ↦ let one : z ≡ y = cc in subst new (sym (ap get (sym one) ∙ keeps)) (r.fresh m was is (ap (at u) here.0 ∙ is_was))
      | inr other ↦ r.fresh m y is other.1
    ];
  }

-- ---- frames
abbrev pub CallersOwn : Frame → ℕ → Privileges → Type 0
CallersOwn f pid v = option_map privileges (at f.processes pid) ≡ Some v

abbrev pub NoneAtAll : Carried → Type 0
NoneAtAll v = v ≡ carries_none

pub record Unmoved (f : Frame) (pid : ℕ) (loses : Bool) (g : Frame) : Type 0 where
  pub processes : Kept privileges (CallersOwn f pid) f.processes g.processes
  pub objects : Kept carried_by NoneAtAll f.objects g.objects
  pub lasting : loses ≡ false → Lasting f.objects g.objects

pub unmoved_itself : (f : Frame) (pid : ℕ) (loses : Bool) → Unmoved f pid loses f
unmoved_itself f pid loses = record { processes = kept_itself _ _ f.processes; objects = kept_itself _ _ f.objects; lasting = λ e. lasting_itself _ }

-- whether objects go in a call's row, of the calls that leave privileges
abbrev pub loss : Op → Option Bool
loss (op.Fork keep) = None
loss (op.Exec path) = None
loss (op.SetPriv path cap lic) = None
loss (op.DropLic set) = None
loss (op.GrantLic target set) = None
loss (op.CloseFd fd) = Some true
loss (op.UnlinkAt path) = Some true
loss (op.RemoveDir path) = Some true
loss (op.Exit status) = Some true
loss _ = Some false

module _ (f : Frame) (pid : ℕ) (loses : Bool) where
  abbrev R : Frame → Type 0
  R = Unmoved f pid loses

  u_change_object : (o : ℕ) (h : Object → Object) → ((x : Object) → carried_by (h x) ≡ carried_by x) → Keeps R (change_object o h)
  unfolding change_object Holds
  u_change_object o h same = record {
    led = λ g r. record {
      processes = r.processes;
      objects = kept_change _ _ _ g.objects o h same r.objects;
      lasting =
          λ e. lasting_change _ _ o h (r.lasting e);
    };
  }

  u_change_process : (p : ℕ) (h : Process → Process) → ((q : Process) → privileges (h q) ≡ privileges q) → Keeps R (change_process p h)
  unfolding change_process Holds
  u_change_process p h same = record { led = λ g r. let processes = kept_change _ _ f.processes g.processes p h same r.processes in search }

  u_put_open : (e : ℕ) (x : Option Open) → Keeps R (put_open e x)
  unfolding put_open Holds
  u_put_open e x = record { led = λ g r. record { processes = r.processes; objects = r.objects; lasting = r.lasting } }

  u_change_open : (e : ℕ) (h : Open → Open) → Keeps R (change_open e h)
  unfolding change_open Holds
  u_change_open e h = record { led = λ g r. record { processes = r.processes; objects = r.objects; lasting = r.lasting } }

  u_logged : (l : AuditLine) → Keeps R (logged l)
  unfolding logged Holds
  u_logged l = record { led = λ g r. record { processes = r.processes; objects = r.objects; lasting = r.lasting } }

  u_no_object : loses ≡ true → (o : ℕ) → Keeps R (put_object o None)
  unfolding put_object Holds
  u_no_object can o = record { led = λ g r. record { processes = r.processes; objects = kept_none _ _ f.objects g.objects o r.objects; lasting = λ e. absurd (true≢false (sym can ∙ e)) } }

  u_no_process : (p : ℕ) → Keeps R (put_process p None)
  unfolding put_process Holds
  u_no_process p = record { led = λ g r. let processes = kept_none _ _ f.processes g.processes p r.processes in search }

  u_end : (p : ℕ) → Keeps R (end_process p)
  unfolding end_process put_process Holds
  u_end p = record { led = λ g r. let processes = go g r (at g.processes p) refl in search }
    where
      left : (g : Frame) → R g → (q : Process) → at g.processes p ≡ Some q → (b : Bool)
          → Kept privileges (CallersOwn f pid) f.processes (put g.processes p (if b then Some (record q { ended = true }) else None))
      left g r q is true = kept_again _ _ _ _ p (record q { ended = true }) q is refl r.processes
      left g r q is false = kept_none _ _ f.processes g.processes p r.processes

      go : (g : Frame) → R g → (o : Option Process) → at g.processes p ≡ o → Kept privileges (CallersOwn f pid) f.processes (put g.processes p (option_and_then remains o))
      go g r None is = kept_none _ _ f.processes g.processes p r.processes
      go g r (Some q) is = left g r q is _

  -- what is new is put where nothing stood
  was_free : (g : Frame) (o : ℕ) → loses ≡ false → R g → at g.objects o ≡ None → at f.objects o ≡ None
  was_free g o all r free = go _ refl
    where
      go : (x : Option Object) → at f.objects o ≡ x → x ≡ None
      go None is = refl
      go (Some x) is = absurd (true≢false (sym ((r.lasting all).stays o (ap is_some is)) ∙ ap is_some free))

  u_inode : loses ≡ false → (m : Frame) (o k : ℕ) (kind : Kind) → R m → free_inode m k ≡ Some o → Keeps R (put_object o (Some (new_object kind (Some k))))
  unfolding put_object Holds
  u_inode all m o k kind r free =
      record {
        led = λ g s. record {
          processes = s.processes;
          objects =
              kept_put _ _ _ g.objects o _ (was_free m o all r (free_inode_is m k o free).free) refl s.objects;
          lasting =
              λ e. lasting_put _ _ o _ (s.lasting e);
        };
      }

  u_pipe : loses ≡ false → (m : Frame) (o : ℕ) → R m → free_pipe m ≡ Some o → Keeps R (put_object o (Some (new_object kind.Pipe None)))
  unfolding put_object Holds
  u_pipe all m o r free = record {
    led = λ g s. record {
      processes = s.processes;
      objects =
          kept_put _ _ _ g.objects o _ (was_free m o all r (free_pipe_is m o free).free) refl s.objects;
      lasting =
          λ e. lasting_put _ _ o _ (s.lasting e);
    };
  }

  ruleset words = (keeps_bind_frame, keeps_bind_some, keeping, keeping_tests, u_change_object, u_change_process, u_put_open, u_change_open, u_logged, u_no_object, u_no_process, u_end, u_inode, u_pipe)

  -- ---- parts of rows
  pub u_observe : (seen : Categories) → Keeps R (observe pid seen)
  unfolding observe
  u_observe seen = search words depth 30

  pub u_affect : (o : ℕ) (l : Categories) → Keeps R (affect pid o l)
  unfolding affect
  u_affect o l = search words depth 30

  u_float_entry : (p : Process) (x : Object) (e : OpenFile) → Keeps R (float_entry p x e)
  unfolding float_entry
  u_float_entry p x e = search words depth 30

  pub u_walked_to : (path : PathOf) → Keeps R (walked_to pid path)
  unfolding walked_to
  u_walked_to path = search (words, u_observe) depth 30

  pub u_object_at : (path : PathOf) → Keeps R (object_at pid path)
  unfolding object_at
  u_object_at path = search (words, u_walked_to) depth 30

  u_spot_at : (path : PathOf) → Keeps R (spot_at pid path)
  unfolding spot_at
  u_spot_at path = search (words, u_walked_to) depth 30

  u_missing : (path : PathOf) → Keeps R (missing pid path)
  unfolding missing
  u_missing path = search (words, u_walked_to) depth 30

  u_opened : (fd : ℕ) → Keeps R (opened pid fd)
  unfolding opened
  u_opened fd = search words depth 30

  -- ---- what goes
  u_going : loses ≡ true → LetsGo R pid
  u_going can = record { free = λ fd. search words depth 20; unclaim = λ o end. u_change_object o _ (λ x. refl); close = λ e. u_put_open e _; gone = u_no_object can }

  u_let_go_object : loses ≡ true → (o : ℕ) → Keeps R (let_go_object o)
  u_let_go_object can = keeps_let_go_object R _ (u_going can)

  u_let_go : loses ≡ true → (fd : ℕ) (e : OpenFile) → Keeps R (let_go pid fd e)
  u_let_go can = keeps_let_go R _ (u_going can)

  u_let_go_all : loses ≡ true → Keeps R (let_go_all pid)
  u_let_go_all can = keeps_let_go_all R _ (u_going can)

  -- ---- the rows
  ruleset rows = (words, u_observe, u_affect, u_float_entry, u_walked_to, u_object_at, u_spot_at, u_missing, u_opened, u_let_go_object, u_let_go, u_let_go_all)

  losing : (b : Bool) → Some b ≡ Some loses → loses ≡ b
  losing b h = cc

  ruleset table = (rows, losing)

  pub u_row : (t : LengthChecks) (place : ℕ) (c : Op) → loss c ≡ Some loses → Keeps R (row t place pid c)
  unfolding open_row
  u_row t place (op.Fork keep) h = cc
  u_row t place (op.Exec path) h = cc
  u_row t place (op.SetPriv path cap lic) h = cc
  u_row t place (op.DropLic set) h = cc
  u_row t place (op.GrantLic target set) h = cc
  u_row t place c h = search table depth 60 fits 8000
