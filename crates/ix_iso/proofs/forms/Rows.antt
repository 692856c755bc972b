-- What a row leaves fits a form, and so does what it answers.
use Rattle.std.proofs.Common.{◌≡◌, ℕ, Bool, true, false, List, [], ◌∷◌, Option, Some, None, option_map, refl, subst, if◌then◌else◌}
use Rattle.std.specs.{Prelude.{slice_get, unwrap_or}, Option.option_map_or}
use Rattle.ix_label.specs.{declared.form.Form.Form, Category.Categories, Forms.Fits}
use Rattle.ix_model.specs.{world.{Naming.PathOf, World.{Frame, Object, Process, Open, at, living, is_dir}}, rows.Outcomes.{Outcome, Row, Refuse, Pass}, declared.refusal.Refusal.Refusal}
use Rattle.ix_model.specs.{rows.{Lifetimes.{let_go_object, let_go, let_go_all}, Table.row, Rows.{observe, affect}}, declared.{audit.AuditLine.AuditLine, reply.Reply.Reply}}
use Rattle.ix_model.specs.{rows.{OnProcesses.{fork, exec, exit, wait_child}, OnLabels.{set_ceiling, read_log}}, history.{Events.Op, Spelled.{AuditFits, CallFits, ReplyFits}}}
use Rattle.ix_model.specs.rows.{Rows.{◌>>=◌, ◌>>◌, on_pass, pass, refuse, some, frame, process, object, record_of}, Walks.{walked_to, object_at, spot_at, missing, opened}}
use Rattle.ix_model.specs.rows.Walks.{OpenFile, NotDir, nothing, node, child, behind, behind_of, entry_at, join_all, looking_into, lacking, walk, walk_from}
use Rattle.ix_model.specs.rows.OnPaths.{make, create_at, make_dir, open_at, link_at, unlink_at, remove_dir, change_dir, stat_at, list_at}
use Rattle.ix_model.specs.rows.OnDescriptors.{LengthChecks, float_entry, read_fd, write_fd, cut_fd, seek_fd, dup_fd, close_fd, make_pipe, claimed, pex, unpex}
use Rattle.ix_model.specs.rows.OnLabels.{label_of, self_label, set_label, set_self, freeze, freeze_self, thaw, thaw_self, set_priv, drop_lic, grant_lic}
use Rattle.ix_model.proofs.words.{LetGo.{LetsGo, keeps_let_go_object, keeps_let_go, keeps_let_go_all}, Living.is_living, Rowwise.keeps_bind_frame}
use Rattle.ix_model.proofs.words.Keeps.{Holds, Keeps, keeping, keeping_tests, keeps_only_if}
use Rattle.ix_iso.{specs.Forms.FrameFits, proofs.forms.Frames.{fits-bottom, fits-join, all_get, fits_object, fits_process, fits_open, fits_new_object, fits_no_object, fits_new_open}}
use Rattle.ix_iso.proofs.forms.Frames.{fits_no_open, fits_child, fits_collected, fits_end, fits_logged}
use Rattle.ix_model.specs.history.Events as op
use Rattle.ix_model.specs.declared.refusal.Refusal.TheVariants as refusal

module _ (form : Form) where
  abbrev R : Frame → Type 0
  R = FrameFits form

  -- an outcome whose frame fits, and whose answer fits where it passed
  unfoldable pub Fit : Outcome Reply → Type 0
  Fit (Refuse r g) = R g
  Fit (Pass a g) = R g × ReplyFits form a

  -- a row that from each frame that fits comes to such an outcome
  pub record Fitting (m : Row Reply) : Type 0 where
    pub led : (g : Frame) → R g → Fit (m g)

  -- ---- what was looked at fits
  fit_on_pass : {A : Type 0} (o : Outcome A) (k : A → Row Reply) → Holds o R → ((a : A) → Fitting (k a)) → Fit (on_pass o k)
  unfolding Holds on_pass Fit
  fit_on_pass (Refuse r g) k h hk = h
  fit_on_pass (Pass a g) k h hk = (hk a).led g h

  fit_bind : {A : Type 0} (m : Row A) (k : A → Row Reply) → Keeps R m → ((a : A) → Fitting (k a)) → Fitting (◌>>=◌ m k)
  unfolding ◌>>=◌
  fit_bind m k hm hk = record { led = λ g r. fit_on_pass (m g) k (hm.led g r) hk }

  fit_then : (m : Row (Unit {0})) (k : Row Reply) → Keeps R m → Fitting k → Fitting (◌>>◌ m k)
  unfolding ◌>>◌
  fit_then m k hm hk = record { led = λ g r. fit_on_pass (m g) _ (hm.led g r) (λ u. hk) }

  fit_pass : (a : Reply) → ReplyFits form a → Fitting (pass a)
  unfolding pass Fit
  fit_pass a h = record { led = λ g r. (r, h) }

  fit_some : {A : Type 0} (o : Option A) (r : Refusal) (k : A → Row Reply) → ((a : A) → o ≡ Some a → Fitting (k a)) → Fitting (◌>>=◌ (some o r) k)
  unfolding ◌>>=◌ some pass refuse on_pass Fit
  fit_some None r k h = search
  fit_some (Some x) r k h = record { led = λ g f. (h x refl).led g f }

  fit_process : (pid : ℕ) (k : Process → Row Reply) → ((p : Process) → Fits form p.label → Fits form p.ceiling → Fitting (k p)) → Fitting (◌>>=◌ (process pid) k)
  unfolding ◌>>=◌ process
  fit_process pid k h = record {
    led = λ g r. (fit_some _ _ k (λ p is. let here = is_living _ p is in
        h p (r.labels pid p here) (r.ceilings pid p here))).led g r;
  }

  fit_object : (o : ℕ) (k : Object → Row Reply) → ((x : Object) → Fits form x.label → Fitting (k x)) → Fitting (◌>>=◌ (object o) k)
  unfolding ◌>>=◌ object
  fit_object o k h = record { led = λ g r. (fit_some _ _ k (λ x is. h x (r.objects o x is))).led g r }

  fit_record : (p : ℕ) (k : Process → Row Reply) → ((q : Process) → Fits form q.label → Fitting (k q)) → Fitting (◌>>=◌ (record_of p) k)
  unfolding ◌>>=◌ record_of
  fit_record p k h = record { led = λ g r. (fit_some _ _ k (λ q is. h q (r.labels p q is))).led g r }

  fit_frame : (k : Frame → Row Reply) → ((f : Frame) → R f → Fitting (k f)) → Fitting (◌>>=◌ frame k)
  unfolding ◌>>=◌ frame on_pass
  fit_frame k h = record { led = λ g r. (h g r).led g r }

  behind_fits : (g : Frame) (q : Option Process) (fd : ℕ) (e : OpenFile) → R g → behind_of q g fd ≡ Some e → Fits form e.entry.label
  behind_fits g None fd e r is = cc
  behind_fits g (Some p) fd e r is = go _ is
    where
      there : (n : ℕ) (o : Option Open) → at g.opens n ≡ o → option_map (λ x. record { id = n; entry = x }) o ≡ Some e → Fits form e.entry.label
      there n None at_n is = cc
      there n (Some x) at_n is = let same : record { id = n; entry = x } ≡ e = cc in subst (λ b. Fits form b.entry.label) same (r.opens n x at_n)

      go : (n : Option ℕ) → entry_at g n ≡ Some e → Fits form e.entry.label
      go None is = cc
      go (Some n) is = there n _ refl is

  fit_opened : (pid fd : ℕ) (k : OpenFile → Row Reply) → ((e : OpenFile) → Fits form e.entry.label → Fitting (k e)) → Fitting (◌>>=◌ (opened pid fd) k)
  unfolding ◌>>=◌ opened frame on_pass behind
  fit_opened pid fd k h = record { led = λ g r. (fit_some _ _ k (λ e is. h e (behind_fits g _ fd e r is))).led g r }

  fit_line : (f : Frame) (n : ℕ) (r : Refusal) (k : AuditLine → Row Reply) → R f → ((l : AuditLine) → AuditFits form l → Fitting (k l)) → Fitting (◌>>=◌ (some (slice_get f.log n) r) k)
  fit_line f n r k fits h = fit_some _ r k (λ l is. h l (all_get (λ l. AuditFits form l) _ n l fits.log is))

  fit_reply : (m : Row Reply) (k : Reply → Row Reply) → Fitting m → ((a : Reply) → ReplyFits form a → Fitting (k a)) → Fitting (◌>>=◌ m k)
  unfolding ◌>>=◌ Fit on_pass
  fit_reply m k hm hk = record { led = λ g r. go _ (hm.led g r) }
    where
      go : (o : Outcome Reply) → Fit o → Fit (on_pass o k)
      go (Refuse r g) h = h
      go (Pass a g) h = (hk a h.1).led g h.0

  keeps_bind_process : {A : Type 0} (pid : ℕ) (k : Process → Row A) → ((p : Process) → Fits form p.label → Keeps R (k p)) → Keeps R (◌>>=◌ (process pid) k)
  unfolding ◌>>=◌ process some pass refuse on_pass Holds
  keeps_bind_process pid k h = record { led = λ g r. go g r _ refl }
    where
      go : (g : Frame) → R g → (o : Option Process) → living (at g.processes pid) ≡ o → Holds (on_pass (some o refusal.NoProcess g) k) R
      go g r None is = r
      go g r (Some p) is = (h p (r.labels pid p (is_living _ p is))).led g r

  -- the tests, what is looked at, and the words that a row changes the frame by
  ruleset wording = (
    keeps_bind_process,
    keeps_bind_frame,
    keeping,
    keeping_tests,
    fits-bottom,
    fits-join,
    fits_object,
    fits_process,
    fits_open,
    fits_new_object,
    fits_no_object,
    fits_new_open,
    fits_no_open,
    fits_child,
    fits_collected,
    fits_end,
    fits_logged,
  )

  -- ---- parts of rows
  k_observe : (pid : ℕ) (seen : Categories) → Fits form seen → Keeps R (observe pid seen)
  unfolding observe
  k_observe pid seen fits = search wording depth 30

  k_affect : (pid o : ℕ) (through : Categories) → Fits form through → Keeps R (affect pid o through)
  unfolding affect
  k_affect pid o through fits = search wording depth 30

  -- the directories along a walk
  node_fits : (f : Frame) (n : ℕ) → R f → Fits form (node f.objects n).label
  node_fits f n r = go _ refl
    where
      go : (o : Option Object) → at f.objects n ≡ o → Fits form (unwrap_or o nothing).label
      go None is = fits-bottom _
      go (Some x) is = r.objects n x is

  looked_fits : (f : Frame) (n : ℕ) (dir : Option ℕ) (names : List (List ℕ)) → R f → Fits form (join_all (walk_from f.objects n dir names).looked)
  looked_fits f n dir [] r = fits-bottom _
  looked_fits f n dir (name ∷ names) r = into (λ o. looked_fits f o _ names r) (is_dir (node f.objects n))
    where
      lacked : (names : List (List ℕ)) → Fits form (join_all (lacking n names).looked)
      lacked [] = fits-bottom form
      lacked (m ∷ ms) = fits-bottom form

      next : ((o : ℕ) → Fits form (join_all (walk_from f.objects o (Some n) names).looked)) → (o : Option ℕ)
          → Fits form (join_all (option_map_or (λ o. walk_from f.objects o (Some n) names) o (lacking n names)).looked)
      next further None = lacked names
      next further (Some o) = further o

      into : ((o : ℕ) → Fits form (join_all (walk_from f.objects o (Some n) names).looked)) → (b : Bool)
          → Fits form (join_all (if b then
          looking_into (node f.objects n) (option_map_or (λ o. walk_from f.objects o (Some n) names) (child (node f.objects n) name) (lacking n names)) else
          record { outcome = NotDir; looked = [] }).looked)
      into further true = fits-join form _ _ (node_fits f n r) (next further (child (node f.objects n) name))
      into further false = fits-bottom form

  walk_fits : (f : Frame) (p : Process) (path : PathOf) → R f → Fits form (join_all (walk f.objects p path).looked)
  walk_fits f p path r = looked_fits f _ _ _ r

  k_walked_to : (pid : ℕ) (path : PathOf) → Keeps R (walked_to pid path)
  unfolding walked_to
  k_walked_to pid path = search (wording, k_observe, walk_fits) depth 30

  k_found : (pid : ℕ) (path : PathOf) → Keeps R (object_at pid path)
  unfolding object_at
  k_found pid path = search (wording, k_walked_to) depth 30

  k_found_in : (pid : ℕ) (path : PathOf) → Keeps R (spot_at pid path)
  unfolding spot_at
  k_found_in pid path = search (wording, k_walked_to) depth 30

  k_missing : (pid : ℕ) (path : PathOf) → Keeps R (missing pid path)
  unfolding missing
  k_missing pid path = search (wording, k_walked_to) depth 30

  k_float_entry : (p : Process) (x : Object) (e : OpenFile) → Fits form p.label → Keeps R (float_entry p x e)
  unfolding float_entry
  k_float_entry p x e fits = keeps_only_if R _ _ (fits_open _ _ _ (λ y h. fits-join _ _ _ h fits))

  -- ---- what goes
  k_going : (pid : ℕ) → LetsGo R pid
  k_going pid = record { free = λ fd. search wording depth 20; unclaim = λ o end. fits_object _ o _ (λ x h. h); close = fits_no_open _; gone = fits_no_object _ }

  k_let_go_object : (o : ℕ) → Keeps R (let_go_object o)
  k_let_go_object o = keeps_let_go_object R 0 (k_going 0) o

  k_let_go : (pid fd : ℕ) (e : OpenFile) → Keeps R (let_go pid fd e)
  k_let_go pid = keeps_let_go R _ (k_going _)

  k_let_go_all : (pid : ℕ) → Keeps R (let_go_all pid)
  k_let_go_all pid = keeps_let_go_all R _ (k_going _)

  -- ---- the rows
  ruleset rows = (
    fit_process,
    fit_object,
    fit_record,
    fit_frame,
    fit_opened,
    fit_line,
    fit_bind,
    fit_then,
    fit_pass,
    wording,
    k_observe,
    k_affect,
    k_found,
    k_found_in,
    k_missing,
    k_walked_to,
    k_float_entry,
  )

  fit_claimed : (other : Option ℕ) → Fitting (claimed other)
  unfolding claimed
  fit_claimed None = search rows depth 20
  fit_claimed (Some q) = search rows depth 20

  -- ---- the table
  ruleset table = (rows, k_let_go_object, k_let_go, k_let_go_all)

  -- a call's row fits, where the label that it gives does
  pub fit_row : (t : LengthChecks) (place pid : ℕ) (c : Op) → CallFits form c → Fitting (row t place pid c)
  unfolding row create_at make_dir make link_at unlink_at remove_dir open_at change_dir stat_at list_at read_fd write_fd cut_fd seek_fd dup_fd close_fd make_pipe pex unpex fork exec exit
      wait_child label_of self_label set_label set_self freeze freeze_self thaw thaw_self set_priv drop_lic grant_lic set_ceiling read_log
  fit_row t place pid op.MakePipe h = search rows depth 60 fits 8000
  fit_row t place pid (op.Pex fd) h = search (fit_reply, fit_claimed, rows) depth 40
  fit_row t place pid (op.SetLabel path label) h = let fits = h in search rows depth 40
  fit_row t place pid (op.SetSelf label) h = let fits = h in search rows depth 40
  fit_row t place pid (op.SetCeiling target label) h = let fits = h in search rows depth 40
  fit_row t place pid c h = search table depth 40
