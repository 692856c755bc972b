-- The rows leave descriptors, and what stands behind them.
use Rattle.std.proofs.Common.{◌≡◌, ◌==◌, ℕ, Bool, true, false, true≢false, List, [], ◌∷◌, Option, Some, None, option_map, unwrap_or, refl, sym, ap, ◌∙◌}
use Rattle.std.{specs.Option.option_map_or, proofs.lemmas.Bool.eq-eqb}
use Rattle.ix_label.specs.Category.{Categories}
use Rattle.ix_model.specs.{world.{Naming.PathOf, World.{Frame, Object, Process, at, is_dir}}, rows.{Outcomes.{Outcome, Refuse, Pass, Row}, Table.row, OnLabels.{set_ceiling, read_log}}}
use Rattle.ix_model.specs.{rows.{Rows.{◌>>=◌, on_pass, pass, put_object, put_open}, OnProcesses.{fork, exec, exit, wait_child}}, history.{AuditLog.object_of_path, Events.Op}}
use Rattle.ix_model.specs.declared.{call.Mode.Mode, privs.PrivSet.PrivSet, refusal.Refusal.Refusal, reply.{Kind.Kind, Reply.Reply}}
use Rattle.ix_model.specs.rows.Walks.{OpenFile, Spot, Sought, behind, node, walk, walked_to, found_spot, vacant, object_at, spot_at, missing}
use Rattle.ix_model.specs.rows.Lifetimes.{let_go_object, let_go_open, let_go_claim, let_go, let_go_if_held, let_go_each, let_go_all}
use Rattle.ix_model.specs.rows.OnPaths.{make, create_at, make_dir, open_at, link_at, unlink_at, remove_dir, change_dir, stat_at, list_at}
use Rattle.ix_model.specs.rows.OnDescriptors.{LengthChecks, read_fd, write_fd, cut_fd, seek_fd, dup_fd, close_fd, make_pipe, pex, unpex}
use Rattle.ix_model.specs.rows.OnLabels.{label_of, self_label, set_label, set_self, freeze, freeze_self, thaw, thaw_self, set_priv, drop_lic, grant_lic}
use Rattle.ix_model.proofs.words.{Keeps.{Holds, Keeps, keeps_bind, keeps_then, keeps_pass, keeps_need, keeps_object, keeps_only_if}, Turns.holds_more}
use Rattle.ix_model.proofs.{words.Rowwise.{keeps_bind_frame, keeps_bind_some}, refused.Seeing.{seen_nothing, ends_seen_walk}}
use Rattle.ix_model.proofs.words.Ends.{Ends, Anything, ends_kept, ends_bind, ends_then, ends_pass, ends_frame, ends_caller, ends_there, ends_opened}
use Rattle.ix_fresh.{specs.Touched.{object_behind, entry_behind, target, entry_target}, proofs.Staying.{k_no_object, k_no_open}}
use Rattle.ix_fresh.proofs.Staying.{Kept, k_bind_process, k_open, k_second_open, k_pipe, k_first_fd, k_two_fds, R, r_itself, May, Gives, words, bind_given}
use Rattle.ix_fresh.proofs.Staying.{gives_bind, walk_lacks, walk_finds, k_observe, k_affect, k_float_entry, k_walked_to, k_object_at, k_opened, k_object}
use Rattle.ix_model.specs.rows.Walks as sought
use Rattle.ix_model.specs.history.Events as op
use Rattle.ix_model.specs.declared.reply.Kind.TheVariants as kind

-- the calls whose rows label no file, put in no descriptor and give none up
abbrev is_plain : Op → Bool
is_plain (op.CreateAt path) = false
is_plain (op.OpenAt path mode) = false
is_plain (op.ReadFd fd count) = false
is_plain (op.WriteFd fd bytes) = false
is_plain (op.CutFd fd len) = false
is_plain (op.SeekFd fd offset) = false
is_plain (op.DupFd fd) = false
is_plain (op.CloseFd fd) = false
is_plain op.MakePipe = false
is_plain (op.MakeDir path) = false
is_plain (op.LinkAt link path) = false
is_plain (op.UnlinkAt path) = false
is_plain (op.RemoveDir path) = false
is_plain (op.Exit status) = false
is_plain (op.SetLabel path label) = false
is_plain (op.Freeze path) = false
is_plain (op.SetPriv path cap lic) = false
is_plain _ = true

module _ (f : Frame) (pid : ℕ) (to through : Option ℕ) (gone : ℕ → Bool) (loses : Bool) where
  abbrev S : Frame → Type 0
  S = R f pid to through gone loses

  abbrev Labels : ℕ → Type 0
  Labels = May f pid to through gone loses

  abbrev Tells : {A : Type 0} → (A → Type 0) → Row A → Type 0
  Tells Fact m = Gives f pid to through gone loses Fact m

  -- ---- walks
  -- the directories that a walk looked into last may be labelled
  record Leads (w : Sought) : Type 0 where
    lacking : (d : ℕ) → w ≡ sought.Missing d → Labels d
    found : (o d : ℕ) → w ≡ sought.Found o (Some d) → Labels d

  dir_now : (g : Frame) → S g → (d : ℕ) → is_dir (node g.objects d) ≡ true → Labels d
  dir_now g r d dir x is file = go _ refl dir
    where
      go : (y : Option Object) → at g.objects d ≡ y → is_dir (unwrap_or y sought.nothing) ≡ true → to ≡ Some d
      go None none h = cc
      go (Some y) there h = absurd (true≢false (sym h ∙ ap is_dir (r.kept.objects.same d x y is there).plain ∙ file))

  leads : (g : Frame) → S g → (p : Process) (path : PathOf) → Leads (walk g.objects p path).outcome
  leads g r p path = record {
    lacking = λ d is. dir_now g r d (walk_lacks _ _ _ _ d is);
    found = λ o d is. dir_now g r d (walk_finds _ _ _ None o d (λ m none. let h : ◌≡◌ {A = Option ℕ} None (Some m) = none in cc) is);
  }

  t_walked_to : (path : PathOf) → Tells Leads (walked_to pid path)
  unfolding walked_to
  t_walked_to path = record {
    led = λ g r.
        let P : Refusal → Frame → Type 0 = λ why h. S h in
        let Q : Sought → Frame → Type 0 = λ w h. S h × Leads w in
        ends_bind _ _ g P Q (ends_caller _ g P _ (λ p lives.
        ends_bind _ _ g P Q (ends_frame g P _ (
        ends_then _ _ g P Q (ends_kept S _ P _ ((k_observe f _ to _ _ _ _).led g r) (λ why h s. s) (λ u h s.
        ends_pass _ h P Q (s, leads g r p _)))))) r);
  }

  t_vacant : (w : Sought) → Leads w → Tells Labels (vacant w)
  unfolding vacant Ends pass Rattle.ix_model.specs.rows.Rows.refuse
  t_vacant (sought.Missing d) l = record { led = λ g r. (r, l.lacking d refl) }
  t_vacant _ l = search

  -- the directory of a spot
  abbrev InDir : Spot → Type 0
  InDir s = (d : ℕ) → s.dir ≡ Some d → Labels d

  t_found_spot : (w : Sought) → Leads w → Tells InDir (found_spot w)
  unfolding found_spot Ends pass Rattle.ix_model.specs.rows.Rows.refuse
  t_found_spot (sought.Found o dir) l = record { led = λ g r. (r, λ d is. l.found o d (ap (sought.Found o) is)) }
  t_found_spot _ l = search

  t_missing : (path : PathOf) → Tells Labels (missing pid path)
  unfolding missing
  t_missing path = gives_bind f _ to _ _ _ _ _ _ _ (t_walked_to _) t_vacant

  t_spot_at : (path : PathOf) → Tells InDir (spot_at pid path)
  unfolding spot_at
  t_spot_at path = gives_bind f _ to _ _ _ _ _ _ _ (t_walked_to _) t_found_spot

  b_walked_to : {B : Type 0} (path : PathOf) (k : Sought → Row B) → ((w : Sought) → Leads w → Keeps S (k w)) → Keeps S (◌>>=◌ (walked_to pid path) k)
  b_walked_to path k h = bind_given f _ to _ _ _ _ _ k (t_walked_to _) h

  b_vacant : {B : Type 0} (w : Sought) (k : ℕ → Row B) → Leads w → ((d : ℕ) → Labels d → Keeps S (k d)) → Keeps S (◌>>=◌ (vacant w) k)
  b_vacant w k l h = bind_given f _ to _ _ _ _ _ k (t_vacant w l) h

  b_missing : {B : Type 0} (path : PathOf) (k : ℕ → Row B) → ((d : ℕ) → Labels d → Keeps S (k d)) → Keeps S (◌>>=◌ (missing pid path) k)
  b_missing path k h = bind_given f _ to _ _ _ _ _ k (t_missing _) h

  b_spot_at : {B : Type 0} (path : PathOf) (k : Spot → Row B) → ((s : Spot) → InDir s → Keeps S (k s)) → Keeps S (◌>>=◌ (spot_at pid path) k)
  b_spot_at path k h = bind_given f _ to _ _ _ _ _ k (t_spot_at _) h

  -- ---- what goes
  k_let_go_object : loses ≡ true → (o : ℕ) → Keeps S (let_go_object o)
  unfolding let_go_object
  k_let_go_object goes o = record { led = λ g. (keeps_only_if S _ (put_object o None) (k_no_object f _ to _ _ _ goes o)).led g }

  k_let_go_open : loses ≡ true → (e : ℕ) → Keeps S (let_go_open e)
  unfolding let_go_open
  k_let_go_open goes e = record { led = λ g. (keeps_only_if S _ (put_open e None) (k_no_open f _ to _ _ _ goes e)).led g }

  k_let_go_claim : (o end : ℕ) → Keeps S (let_go_claim pid o end)
  unfolding let_go_claim
  k_let_go_claim o end = record { led = λ g. (keeps_only_if S _ _ (k_object f _ to _ _ _ o _ (λ x. refl))).led g }

  k_let_go : loses ≡ true → (fd : ℕ) (e : OpenFile) → gone fd ≡ true → Keeps S (let_go pid fd e)
  unfolding let_go
  k_let_go goes fd e away = search (words, k_let_go_object, k_let_go_open, k_let_go_claim) depth 30

  k_let_go_if_held : loses ≡ true → (fd : ℕ) → gone fd ≡ true → Keeps S (let_go_if_held pid fd)
  unfolding let_go_if_held
  k_let_go_if_held goes fd away = record { led = λ g r. (go _).led g r }
    where
      go : (b : Option OpenFile) → Keeps S (option_map_or (let_go pid fd) b (pass tt))
      go None = keeps_pass S tt
      go (Some e) = k_let_go goes fd e away

  k_let_go_each : loses ≡ true → ((fd : ℕ) → gone fd ≡ true) → (fds : List ℕ) → Keeps S (let_go_each pid fds)
  unfolding let_go_each
  k_let_go_each goes all [] = keeps_pass S tt
  k_let_go_each goes all (fd ∷ fds) = keeps_then S _ _ (k_let_go_if_held goes fd (all fd)) (k_let_go_each goes all fds)

  k_let_go_all : loses ≡ true → ((fd : ℕ) → gone fd ≡ true) → Keeps S (let_go_all pid)
  unfolding let_go_all
  k_let_go_all goes all = k_let_go_each goes all _

  -- ---- rows that change labels of directories
  ruleset rows = (b_missing, b_spot_at, words, k_observe, k_affect, k_walked_to, k_object_at, k_opened)

  k_make : loses ≡ false → (path : PathOf) (k : Kind) → Keeps S (make pid path k)
  unfolding make
  k_make lasts path k = search rows depth 60

  k_link_at : (target path : PathOf) → Keeps S (link_at pid target path)
  unfolding link_at
  k_link_at target path = search (b_walked_to, b_vacant, rows) depth 60

  k_unlink_at : loses ≡ true → (path : PathOf) → Keeps S (unlink_at pid path)
  unfolding unlink_at
  k_unlink_at goes path = search (rows, k_let_go_object) depth 60

  k_remove_dir : loses ≡ true → (path : PathOf) → Keeps S (remove_dir pid path)
  unfolding remove_dir
  k_remove_dir goes path = search rows depth 60

  -- ---- rows that change no such label
  k_open_at : loses ≡ false → (path : PathOf) (mode : Mode) → Keeps S (open_at pid path mode)
  unfolding open_at
  k_open_at lasts path mode =
      keeps_bind S _ _ (k_object_at f _ to _ _ _ _) (λ o.
      keeps_bind S _ _ (keeps_object S o) (λ x.
      keeps_then S _ _ (keeps_need S _ _) (
      k_bind_process f _ to _ _ _ _ (λ p owns.
      keeps_bind_some S _ _ _ (λ fd free.
      keeps_bind_frame S _ (λ m r.
      keeps_bind_some S _ _ _ (λ e none.
      keeps_then S _ _ (k_open f _ to _ _ _ lasts m e _ r none) (
      keeps_then S _ _ (k_first_fd f _ to _ _ _ p fd e owns free) (keeps_pass S _)))))))))

  k_dup_fd : (fd : ℕ) → Keeps S (dup_fd pid fd)
  unfolding dup_fd
  k_dup_fd fd =
      keeps_bind S _ _ (k_opened f _ to _ _ _ fd) (λ e.
      k_bind_process f _ to _ _ _ _ (λ p owns.
      keeps_bind_some S _ _ _ (λ n free.
      keeps_then S _ _ (k_first_fd f _ to _ _ _ p n _ owns free) (keeps_pass S _))))

  k_make_pipe : loses ≡ false → Keeps S (make_pipe pid)
  unfolding make_pipe
  k_make_pipe lasts =
      keeps_bind_frame S _ (λ m r.
      keeps_bind_some S _ _ _ (λ o none.
      k_bind_process f _ to _ _ _ _ (λ p owns.
      keeps_bind_some S _ _ _ (λ a first.
      keeps_bind_some S _ _ _ (λ b second.
      keeps_bind_some S _ _ _ (λ d free.
      keeps_bind_some S _ _ _ (λ e next.
      keeps_then S _ _ (k_pipe f _ to _ _ _ lasts m o r none) (
      keeps_then S _ _ (k_open f _ to _ _ _ lasts m d _ r free) (
      keeps_then S _ _ (k_second_open f _ to _ _ _ lasts m d e _ _ r free next) (
      keeps_then S _ _ (k_two_fds f _ to _ _ _ p a b 0 d e owns first second) (keeps_pass S _)))))))))))

  no_other : (m : Row Reply) → false ≡ true → Keeps S m
  no_other m h = absurd (true≢false (sym h))

  ruleset table = (rows, no_other)

  k_plain : (t : LengthChecks) (place : ℕ) (c : Op) → is_plain c ≡ true → Keeps S (row t place pid c)
  unfolding row change_dir stat_at list_at fork exec wait_child label_of self_label set_self freeze_self thaw thaw_self drop_lic grant_lic set_ceiling pex unpex read_log
  k_plain t place op.SelfLabel h = search table depth 60
  k_plain t place c h = search table depth 60

  -- ---- rows that give descriptors up
  k_close_fd : loses ≡ true → (fd : ℕ) → gone fd ≡ true → Keeps S (close_fd pid fd)
  unfolding close_fd
  k_close_fd goes fd away = search (rows, k_let_go) depth 60

  k_exit : loses ≡ true → ((fd : ℕ) → gone fd ≡ true) → Keeps S (exit pid)
  unfolding exit
  k_exit goes all = search (rows, k_let_go_all) depth 60

  -- ---- rows that know their target by their first look
  passed_here : {A B : Type 0} (Fact : A → Type 0) (o : Outcome A) (k : A → Row B) → Ends o Anything (λ a g. Fact a) → Holds o S → ((a : A) → Fact a → Keeps S (k a)) → Holds (on_pass o k) S
  unfolding Ends Holds on_pass
  passed_here Fact (Refuse why g) k here r next = r
  passed_here Fact (Pass a g) k here r next = (next a here).led g r

  from_here : {A B : Type 0} (Fact : A → Type 0) (m : Row A) (k : A → Row B) → Ends (m f) Anything (λ a g. Fact a) → Keeps S m → ((a : A) → Fact a → Keeps S (k a)) → Holds (◌>>=◌ m k f) S
  unfolding ◌>>=◌
  from_here Fact m k fact keeps next = passed_here _ (m f) k fact (keeps.led f (r_itself f _ to _ _ _)) next

  -- the open entry behind the caller's descriptor
  k_read_fd : (t : LengthChecks) (fd count : ℕ) → ((e : OpenFile) → behind f pid fd ≡ Some e → through ≡ Some e.id) → Holds (read_fd t pid fd count f) S
  unfolding read_fd
  k_read_fd t fd count on = from_here _ _ _ (ends_opened _ fd f _ _ (λ e is. is) tt)
      (k_opened f _ to _ _ _ fd) (λ e is. let floats = on e is in search (rows, k_float_entry, floats) depth 60)

  k_seek_fd : (fd offset : ℕ) → ((e : OpenFile) → behind f pid fd ≡ Some e → through ≡ Some e.id) → Holds (seek_fd pid fd offset f) S
  unfolding seek_fd
  k_seek_fd fd offset on = from_here _ _ _ (ends_opened _ fd f _ _ (λ e is. is) tt)
      (k_opened f _ to _ _ _ fd) (λ e is. let floats = on e is in search (rows, k_float_entry, floats) depth 60)

  k_write_fd : (t : LengthChecks) (fd : ℕ) → ((e : OpenFile) → behind f pid fd ≡ Some e → (to ≡ Some e.entry.object) × (through ≡ Some e.id)) → Holds (write_fd t pid fd f) S
  unfolding write_fd
  k_write_fd t fd on = from_here _ _ _ (ends_opened _ fd f _ _ (λ e is. is) tt) (k_opened f _ to _ _ _ fd) (λ e is.
      let labels : Labels e.entry.object = λ x there file. (on e is).0 in
      let floats = (on e is).1 in
      search (rows, k_float_entry, labels, floats) depth 60)

  k_cut_fd : (t : LengthChecks) (fd len : ℕ) → ((e : OpenFile) → behind f pid fd ≡ Some e → to ≡ Some e.entry.object) → Holds (cut_fd t pid fd len f) S
  unfolding cut_fd
  k_cut_fd t fd len on = from_here _ _ _ (ends_opened _ fd f _ _ (λ e is. is) tt) (k_opened f _ to _ _ _ fd) (λ e is.
      let labels : Labels e.entry.object = λ x there file. on e is in
      search (rows, labels) depth 60)

  -- the object of a path
  ends_object_at : (path : PathOf) → Ends (object_at pid path f) Anything (λ o g. object_of_path f pid path ≡ Some o)
  unfolding object_at
  ends_object_at path =
      let Q : ℕ → Frame → Type 0 = λ o g. object_of_path f pid path ≡ Some o in
      ends_bind _ _ f _ Q (ends_seen_walk _ f _ _ f _ _ (seen_nothing _ f) (λ r h k. tt) (λ w g seen here. ends_there w g _ Q (λ o dir is. here o _ is) tt tt))

  k_set_label : (place : ℕ) (path : PathOf) (now : Categories) → to ≡ object_of_path f pid path → Holds (set_label place pid path now f) S
  unfolding set_label
  k_set_label place path now on = from_here _ _ _ (ends_object_at _) (k_object_at f _ to _ _ _ _) (λ o is.
      let labels : Labels o = λ x there file. on ∙ is in
      search (rows, labels) depth 60)

  k_freeze : (path : PathOf) → to ≡ object_of_path f pid path → Holds (freeze pid path f) S
  unfolding freeze
  k_freeze path on = from_here _ _ _ (ends_object_at _) (k_object_at f _ to _ _ _ _) (λ o is.
      let labels : Labels o = λ x there file. on ∙ is in
      search (rows, labels) depth 60)

  k_set_priv : (place : ℕ) (path : PathOf) (cap lic : PrivSet) → to ≡ object_of_path f pid path → Holds (set_priv place pid path cap lic f) S
  unfolding set_priv
  k_set_priv place path cap lic on = from_here _ _ _ (ends_object_at _) (k_object_at f _ to _ _ _ _) (λ o is.
      let labels : Labels o = λ x there file. on ∙ is in
      search (rows, labels) depth 60)

-- ---- the table
-- the descriptors that a call gives up where it is answered
abbrev pub given_up : Op → ℕ → Bool
given_up (op.CloseFd d) fd = d == fd
given_up (op.Exit status) fd = true
given_up _ fd = false

-- what the row of a call keeps
abbrev pub KeptBy : Frame → ℕ → Op → Frame → Type 0
KeptBy f pid c g = Kept f pid (target f pid c) (entry_target f pid c) (given_up c) g

module _ (f : Frame) (pid : ℕ) where
  kept_of : (c : Op) (loses : Bool) (o : Outcome Reply) → Holds o (R f pid (target f pid c) (entry_target f pid c) (given_up c) loses) → Holds o (KeptBy f pid c)
  kept_of c loses o h = holds_more _ _ o (λ g r. r.kept) h

  from_itself : (c : Op) (loses : Bool) (m : Row Reply) → Keeps (R f pid (target f pid c) (entry_target f pid c) (given_up c) loses) m → Holds (m f) (KeptBy f pid c)
  from_itself c loses m keeps = kept_of c _ (m f) (keeps.led f (r_itself f _ _ _ _ _))

  entry_is : (fd : ℕ) (e : OpenFile) → behind f pid fd ≡ Some e → entry_behind f pid fd ≡ Some e.id
  entry_is fd e is = ap (option_map (λ b. b.id)) is

  object_is : (fd : ℕ) (e : OpenFile) → behind f pid fd ≡ Some e → object_behind f pid fd ≡ Some e.entry.object
  object_is fd e is = ap (option_map (λ b. b.entry.object)) is

  pub row_keeps : (t : LengthChecks) (place : ℕ) (c : Op) → Holds (row t place pid c f) (KeptBy f pid c)
  unfolding row create_at make_dir
  row_keeps t place (op.CreateAt path) = from_itself (op.CreateAt path) false _ (k_make f pid _ _ _ false refl path kind.File)
  row_keeps t place (op.OpenAt path mode) = from_itself (op.OpenAt path mode) false _ (k_open_at f pid _ _ _ false refl path mode)
  row_keeps t place (op.ReadFd fd count) = kept_of (op.ReadFd fd count) false _ (k_read_fd f pid _ _ _ false t fd count (entry_is fd))
  row_keeps t place (op.WriteFd fd bytes) = kept_of (op.WriteFd fd bytes) false _ (k_write_fd f pid _ _ _ false t fd (λ e is. (object_is fd e is, entry_is fd e is)))
  row_keeps t place (op.CutFd fd len) = kept_of (op.CutFd fd len) false _ (k_cut_fd f pid _ _ _ false t fd len (object_is fd))
  row_keeps t place (op.SeekFd fd offset) = kept_of (op.SeekFd fd offset) false _ (k_seek_fd f pid _ _ _ false fd offset (entry_is fd))
  row_keeps t place (op.DupFd fd) = from_itself (op.DupFd fd) false _ (k_dup_fd f pid _ _ _ false fd)
  row_keeps t place (op.CloseFd fd) = from_itself (op.CloseFd fd) true _ (k_close_fd f pid _ _ _ true refl fd (eq-eqb fd fd refl))
  row_keeps t place op.MakePipe = from_itself op.MakePipe false _ (k_make_pipe f pid _ _ _ false refl)
  row_keeps t place (op.MakeDir path) = from_itself (op.MakeDir path) false _ (k_make f pid _ _ _ false refl path kind.Dir)
  row_keeps t place (op.LinkAt link path) = from_itself (op.LinkAt link path) false _ (k_link_at f pid _ _ _ false link path)
  row_keeps t place (op.UnlinkAt path) = from_itself (op.UnlinkAt path) true _ (k_unlink_at f pid _ _ _ true refl path)
  row_keeps t place (op.RemoveDir path) = from_itself (op.RemoveDir path) true _ (k_remove_dir f pid _ _ _ true refl path)
  row_keeps t place (op.Exit status) = from_itself (op.Exit status) true _ (k_exit f pid _ _ _ true refl (λ fd. refl))
  row_keeps t place (op.SetLabel path label) = kept_of (op.SetLabel path label) false _ (k_set_label f pid _ _ _ false place path label refl)
  row_keeps t place (op.Freeze path) = kept_of (op.Freeze path) false _ (k_freeze f pid _ _ _ false path refl)
  row_keeps t place (op.SetPriv path cap lic) = kept_of (op.SetPriv path cap lic) false _ (k_set_priv f pid _ _ _ false place path cap lic refl)
  row_keeps t place c = from_itself c false _ (k_plain f pid _ _ _ false t place c refl)
