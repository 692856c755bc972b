-- What every word that changes something keeps, every row keeps.
use Rattle.std.proofs.Common.{ℕ, ◌≡◌, ◌&&◌, Bool, true, false, List, [], ◌∷◌, Option, Some, None, is_some, refl, sym, ap, ◌∙◌, true≢false, inl, inr}
use Rattle.std.{specs.List.list_all, proofs.lemmas.{Bool.{and_parts, Decides.eqb_tells}, List.{get_or-set_same, get_or-set_other}}}
use Rattle.ix_label.specs.{Category.{Categories, bottom, join, leq}, Lattice.leq-join_left}
use Rattle.ix_model.specs.{world.{Naming.PathOf, Privs.no_privileges, Numbers.{free_inode, free_pipe}}, rows.{Outcomes.Row, Auditing.logged, Rows.{observe, affect}, OnPaths.new_object}}
use Rattle.ix_model.specs.{world.World.{Frame, Object, Process, Open, at, put, lowest_free, no_claims}, rows.{Table.row, OnDescriptors.{LengthChecks, float_entry}}, history.Events.Op}
use Rattle.ix_model.{specs.rows.{Walks.{OpenFile, walked_to, object_at, spot_at, missing, opened}, Lifetimes.{let_go_object, let_go, let_go_all}}, proofs.words.OpenRows.open_row}
use Rattle.ix_model.specs.{rows.OnProcesses.{end_process, fork}, declared.{audit.AuditLine.AuditLine, refusal.Refusal.Refusal, reply.Kind.Kind}}
use Rattle.ix_model.specs.rows.Rows.{◌>>=◌, some, frame, pass, put_open, change_open, put_object, put_process, add_process, change_object, change_process}
use Rattle.ix_model.proofs.{tables.FreeNumbers.lowest_free_is, words.LetGo.{LetsGo, keeps_let_go_object, keeps_let_go, keeps_let_go_all}}
use Rattle.ix_model.proofs.words.Keeps.{Holds, Keeps, keeping, keeping_tests, keeps_only_if}
use Rattle.ix_model.specs.history.Events as op
use Rattle.ix_model.specs.declared.reply.Kind.TheVariants as kind

-- ---- what calls do
-- what a call may do, beside looking, changing descriptors and marks, and giving up a claim
pub data Change : Type 0 where
  Relabelling : Change
  Lowering : Change
  Moving : Change
  Claiming : Change
  Logging : Change
  Making : Change
  Opening : Change
  LettingGo : Change
  Forking : Change
  Ending : Change

abbrev pub changes_of : Op → List Change
changes_of (op.CreateAt path) = Relabelling ∷ Making ∷ []
changes_of (op.OpenAt path mode) = Opening ∷ []
changes_of (op.ReadFd fd count) = Moving ∷ []
changes_of (op.WriteFd fd bytes) = Relabelling ∷ Moving ∷ []
changes_of (op.CutFd fd len) = Relabelling ∷ []
changes_of (op.SeekFd fd offset) = Moving ∷ []
changes_of (op.CloseFd fd) = LettingGo ∷ []
changes_of op.MakePipe = Making ∷ Opening ∷ []
changes_of (op.MakeDir path) = Relabelling ∷ Making ∷ []
changes_of (op.LinkAt target path) = Relabelling ∷ []
changes_of (op.UnlinkAt path) = Relabelling ∷ LettingGo ∷ []
changes_of (op.RemoveDir path) = Relabelling ∷ LettingGo ∷ []
changes_of (op.Fork keep) = Forking ∷ []
changes_of (op.Exit status) = LettingGo ∷ Ending ∷ []
changes_of op.WaitChild = Ending ∷ []
changes_of (op.SetLabel path label) = Relabelling ∷ Logging ∷ Lowering ∷ []
changes_of (op.SetSelf label) = Logging ∷ Lowering ∷ []
changes_of (op.Freeze path) = Relabelling ∷ []
changes_of (op.Thaw path) = Logging ∷ []
changes_of op.ThawSelf = Logging ∷ []
changes_of (op.SetPriv path cap lic) = Relabelling ∷ Logging ∷ []
changes_of (op.GrantLic target set) = Logging ∷ []
changes_of (op.SetCeiling target label) = Logging ∷ []
changes_of (op.Pex fd) = Claiming ∷ []
changes_of (op.ReadLog index) = Logging ∷ []
changes_of _ = []

-- ---- the words
-- an object and a process without what changes often
abbrev pub object_core : Object → Object
object_core x = record x { frozen = false; cap = no_privileges; lic = no_privileges; names = [] }

abbrev pub process_core : Process → Process
process_core p = record p { ceiling = bottom; frozen = false; cap = no_privileges; lic = no_privileges; own = no_privileges; cwd = 0; fds = [] }

-- what each word keeps
abbrev pub ObjectWord : (Frame → Type 0) → Type 0
ObjectWord R = (o : ℕ) (h : Object → Object) → ((x : Object) → object_core (h x) ≡ object_core x) → Keeps R (change_object o h)

abbrev pub ProcessWord : (Frame → Type 0) → Type 0
ProcessWord R = (p : ℕ) (h : Process → Process) → ((q : Process) → process_core (h q) ≡ process_core q) → Keeps R (change_process p h)

abbrev pub FloatWord : ℕ → (Frame → Type 0) → Type 0
FloatWord pid R = (h : Process → Process) → ((q : Process) → record (h q) { label = bottom } ≡ record q { label = bottom }) → Keeps R (change_process pid h)

abbrev pub ThroughWord : (Frame → Type 0) → Type 0
ThroughWord R = (e : ℕ) (l : Categories) → Keeps R (change_open e (λ y. record y { label = join y.label l }))

abbrev pub UnclaimWord : (Frame → Type 0) → Type 0
UnclaimWord R = (o end : ℕ) → Keeps R (change_object o (λ x. record x { claims = put x.claims end None }))

abbrev pub RelabelWord : (Frame → Type 0) → Type 0
RelabelWord R = (o : ℕ) (h : Object → Object) → ((x : Object) → record (h x) { label = bottom } ≡ record x { label = bottom }) → Keeps R (change_object o h)

abbrev pub ClaimWord : (Frame → Type 0) → Type 0
ClaimWord R = (o : ℕ) (h : Object → Object) → ((x : Object) → record (h x) { claims = no_claims } ≡ record x { claims = no_claims }) → Keeps R (change_object o h)

abbrev pub InodeWord : (Frame → Type 0) → Type 0
InodeWord R = (f : Frame) (o k : ℕ) (kind : Kind) → R f → free_inode f k ≡ Some o → Keeps R (put_object o (Some (new_object kind (Some k))))

abbrev pub PipeWord : (Frame → Type 0) → Type 0
PipeWord R = (f : Frame) (o : ℕ) → R f → free_pipe f ≡ Some o → Keeps R (put_object o (Some (new_object kind.Pipe None)))

-- the words of a caller's row keep R, as far as the changes go that it can bear
pub record Words (can : Change → Bool) (pid : ℕ) (R : Frame → Type 0) : Type 0 where
  pub object : ObjectWord R
  pub process : ProcessWord R
  pub float : FloatWord pid R
  pub entry : (e : ℕ) (x : Open) → x.label ≡ bottom → Keeps R (put_open e (Some x))
  pub through : can Moving ≡ true → ThroughWord R
  pub unclaim : UnclaimWord R
  pub relabel : can Relabelling ≡ true → RelabelWord R
  pub claim : can Claiming ≡ true → ClaimWord R
  pub log : can Logging ≡ true → (l : AuditLine) → Keeps R (logged l)
  pub inode : can Making ≡ true → InodeWord R
  pub pipe : can Making ≡ true → PipeWord R
  pub gone_object : can LettingGo ≡ true → (o : ℕ) → Keeps R (put_object o None)
  pub gone_open : can LettingGo ≡ true → (e : ℕ) → Keeps R (put_open e None)
  pub fork : can Forking ≡ true → (p : Process) → Keeps R (add_process p)
  pub end : can Ending ≡ true → Keeps R (end_process pid)
  pub collect : can Ending ≡ true → (p : ℕ) → Keeps R (put_process p None)

-- the same, where it is known that looking and affecting raise labels, which calls set one, and that what is opened was free
pub record Moves (can : Change → Bool) (pid : ℕ) (R : Frame → Type 0) : Type 0 where
  pub object : ObjectWord R
  pub process : ProcessWord R
  pub observed : (h : Process → Process) → ((q : Process) → record (h q) { label = bottom } ≡ record q { label = bottom })
      → ((q : Process) → leq q.label (h q).label ≡ true) → Keeps R (change_process pid h)
  pub labelled_self : can Lowering ≡ true → FloatWord pid R
  pub entry : can Opening ≡ true → (f : Frame) (e : ℕ) (x : Open) → x.label ≡ bottom → R f → at f.opens e ≡ None → Keeps R (put_open e (Some x))
  pub through : can Moving ≡ true → ThroughWord R
  pub unclaim : UnclaimWord R
  pub affected : can Relabelling ≡ true → (o : ℕ) (h : Object → Object) → ((x : Object) → record (h x) { label = bottom } ≡ record x { label = bottom })
      → ((x : Object) → leq x.label (h x).label ≡ true) → Keeps R (change_object o h)
  pub labelled : can Relabelling ≡ true → can Lowering ≡ true → RelabelWord R
  pub claim : can Claiming ≡ true → ClaimWord R
  pub log : can Logging ≡ true → (l : AuditLine) → Keeps R (logged l)
  pub inode : can Making ≡ true → InodeWord R
  pub pipe : can Making ≡ true → PipeWord R
  pub gone_object : can LettingGo ≡ true → (o : ℕ) → Keeps R (put_object o None)
  pub gone_open : can LettingGo ≡ true → (e : ℕ) → Keeps R (put_open e None)
  pub fork : can Forking ≡ true → (p : Process) → Keeps R (add_process p)
  pub end : can Ending ≡ true → Keeps R (end_process pid)
  pub collect : can Ending ≡ true → (p : ℕ) → Keeps R (put_process p None)

moves_of : (can : Change → Bool) (pid : ℕ) (R : Frame → Type 0) → Words can pid R → Moves can pid R
moves_of can pid R w = record {
  object = w.object;
  process = w.process;
  observed = λ h same rises. w.float h same;
  labelled_self = λ lowers. w.float;
  entry = λ opens f e x low is free. w.entry e x low;
  through = w.through;
  unclaim = w.unclaim;
  affected = λ moves o h same rises. w.relabel moves o h same;
  labelled = λ moves lowers. w.relabel moves;
  claim = w.claim;
  log = w.log;
  inode = w.inode;
  pipe = w.pipe;
  gone_object = w.gone_object;
  gone_open = w.gone_open;
  fork = w.fork;
  end = w.end;
  collect = w.collect;
}

-- the second of two free numbers is free at first too
free_second : {A : Type 0} (t : List (Option A)) (d e : ℕ) (x : A) → lowest_free t ≡ Some d → lowest_free (put t d (Some x)) ≡ Some e → at t e ≡ None
free_second t d e x first second =
    let inside = (lowest_free_is t d first).0 in
    let none = (lowest_free_is _ e second).1 in
    elim (eqb_tells e d) [
      | inl same ↦ let e = sym (get_or-set_same t d _ None inside) ∙ ap (at (put t d (Some x))) (sym same.1) ∙ none in absurd (true≢false (ap is_some e))
      | inr other ↦ sym (get_or-set_other t d e _ None other.1) ∙ none
    ]

-- ---- what was looked at is known
pub keeps_bind_frame : {B : Type 0} (R : Frame → Type 0) (k : Frame → Row B) → ((f : Frame) → R f → Keeps R (k f)) → Keeps R (◌>>=◌ frame k)
unfolding ◌>>=◌ frame Rattle.ix_model.specs.rows.Rows.on_pass
keeps_bind_frame R k h = record { led = λ g r. (h g r).led g r }

pub keeps_bind_some : {A B : Type 0} (R : Frame → Type 0) (o : Option A) (r : Refusal) (k : A → Row B) → ((a : A) → o ≡ Some a → Keeps R (k a)) → Keeps R (◌>>=◌ (some o r) k)
unfolding ◌>>=◌ some pass Holds Rattle.ix_model.specs.rows.Rows.on_pass Rattle.ix_model.specs.rows.Rows.refuse
keeps_bind_some R None r k h = search
keeps_bind_some R (Some x) r k h = record { led = λ g a. (h x refl).led g a }

module _ (can : Change → Bool) (pid : ℕ) (R : Frame → Type 0) (w : Moves can pid R) where
  w_first : can Opening ≡ true → (f : Frame) (e : ℕ) (x : Open) → x.label ≡ bottom → R f → lowest_free f.opens ≡ Some e → Keeps R (put_open e (Some x))
  w_first opens f e x low is free = w.entry opens f e x low is (lowest_free_is _ e free).1

  w_second : can Opening ≡ true → (f : Frame) (d e : ℕ) (x y : Open) → x.label ≡ bottom → R f → lowest_free f.opens ≡ Some d
      → lowest_free (put f.opens d (Some y)) ≡ Some e → Keeps R (put_open e (Some x))
  w_second opens f d e x y low is first second = w.entry opens f e x low is (free_second _ d e y first second)

  w_object : ObjectWord R
  w_object = w.object

  w_process : ProcessWord R
  w_process = w.process

  w_labelled_self : can Lowering ≡ true → FloatWord pid R
  w_labelled_self = w.labelled_self

  w_through : can Moving ≡ true → ThroughWord R
  w_through = w.through

  w_unclaim : UnclaimWord R
  w_unclaim = w.unclaim

  w_labelled : can Relabelling ≡ true → can Lowering ≡ true → RelabelWord R
  w_labelled = w.labelled

  w_claim : can Claiming ≡ true → ClaimWord R
  w_claim = w.claim

  w_log : can Logging ≡ true → (l : AuditLine) → Keeps R (logged l)
  w_log = w.log

  w_inode : can Making ≡ true → InodeWord R
  w_inode = w.inode

  w_pipe : can Making ≡ true → PipeWord R
  w_pipe = w.pipe

  w_gone_object : can LettingGo ≡ true → (o : ℕ) → Keeps R (put_object o None)
  w_gone_object = w.gone_object

  w_gone_open : can LettingGo ≡ true → (e : ℕ) → Keeps R (put_open e None)
  w_gone_open = w.gone_open

  w_fork : can Forking ≡ true → (p : Process) → Keeps R (add_process p)
  w_fork = w.fork

  w_end : can Ending ≡ true → Keeps R (end_process pid)
  w_end = w.end

  w_collect : can Ending ≡ true → (p : ℕ) → Keeps R (put_process p None)
  w_collect = w.collect

  -- the tests, and the words that a row changes the frame by
  ruleset wording = (
    keeps_bind_frame,
    keeps_bind_some,
    keeping,
    keeping_tests,
    leq-join_left,
    w_first,
    w_second,
    w_object,
    w_process,
    w_labelled_self,
    w_through,
    w_unclaim,
    w_labelled,
    w_claim,
    w_log,
    w_inode,
    w_pipe,
    w_gone_object,
    w_gone_open,
    w_fork,
    w_end,
    w_collect,
  )

  -- ---- parts of rows
  pub moved_observe : (seen : Categories) → Keeps R (observe pid seen)
  unfolding observe
  moved_observe seen = search (wording, w.observed) depth 30

  moved_affect : can Relabelling ≡ true → (o : ℕ) (l : Categories) → Keeps R (affect pid o l)
  unfolding affect
  moved_affect moves o l = search (wording, w.affected) depth 30

  pub moved_walked_to : (path : PathOf) → Keeps R (walked_to pid path)
  unfolding walked_to
  moved_walked_to path = search (wording, moved_observe) depth 30

  pub moved_found : (path : PathOf) → Keeps R (object_at pid path)
  unfolding object_at
  moved_found path = search (wording, moved_walked_to) depth 30

  pub moved_found_in : (path : PathOf) → Keeps R (spot_at pid path)
  unfolding spot_at
  moved_found_in path = search (wording, moved_walked_to) depth 30

  pub moved_missing : (path : PathOf) → Keeps R (missing pid path)
  unfolding missing
  moved_missing path = search (wording, moved_walked_to) depth 30

  pub moved_opened : (fd : ℕ) → Keeps R (opened pid fd)
  unfolding opened
  moved_opened fd = search wording depth 30

  moved_float_entry : can Moving ≡ true → (p : Process) (x : Object) (e : OpenFile) → Keeps R (float_entry p x e)
  unfolding float_entry
  moved_float_entry moves p x e = keeps_only_if R _ _ (w.through moves e.id p.label)

  -- ---- what goes
  going : can LettingGo ≡ true → LetsGo R pid
  going goes = record { free = λ fd. search wording depth 20; unclaim = w.unclaim; close = w.gone_open goes; gone = w.gone_object goes }

  moved_let_go_object : can LettingGo ≡ true → (o : ℕ) → Keeps R (let_go_object o)
  moved_let_go_object goes = keeps_let_go_object R _ (going goes)

  moved_let_go : can LettingGo ≡ true → (fd : ℕ) (e : OpenFile) → Keeps R (let_go pid fd e)
  moved_let_go goes = keeps_let_go R _ (going goes)

  moved_let_go_all : can LettingGo ≡ true → Keeps R (let_go_all pid)
  moved_let_go_all goes = keeps_let_go_all R _ (going goes)

  -- ---- the rows
  ruleset rows = (
    wording,
    moved_observe,
    moved_affect,
    moved_walked_to,
    moved_found,
    moved_found_in,
    moved_missing,
    moved_opened,
    moved_float_entry,
    moved_let_go_object,
    moved_let_go,
    moved_let_go_all,
  )

  -- ---- the table
  first : (a b : Bool) → (a && b) ≡ true → a ≡ true
  first a b h = (and_parts a b h).0

  second : (a b c : Bool) → (a && (b && c)) ≡ true → b ≡ true
  second a b c h = first b c (and_parts a _ h).1

  third : (a b c d : Bool) → (a && (b && (c && d))) ≡ true → c ≡ true
  third a b c d h = second b c d (and_parts a _ h).1

  ruleset table = (rows, first, second, third)

  -- where R can bear what a call may do, its row keeps it
  pub moved_row : (t : LengthChecks) (place : ℕ) (c : Op) → list_all can (changes_of c) ≡ true → Keeps R (row t place pid c)
  unfolding open_row
  moved_row t place op.MakePipe h = search table depth 60 fits 8000
  moved_row t place c h = search table depth 60 fits 8000

-- ---- the same by its words
module _ (can : Change → Bool) (pid : ℕ) (R : Frame → Type 0) (w : Words can pid R) where
  pub kept_observe : (seen : Categories) → Keeps R (observe pid seen)
  kept_observe seen = moved_observe _ pid R (moves_of _ _ R w) seen

  pub kept_walked_to : (path : PathOf) → Keeps R (walked_to pid path)
  kept_walked_to path = moved_walked_to _ pid R (moves_of _ _ R w) path

  pub kept_found : (path : PathOf) → Keeps R (object_at pid path)
  kept_found path = moved_found _ pid R (moves_of _ _ R w) path

  pub kept_found_in : (path : PathOf) → Keeps R (spot_at pid path)
  kept_found_in path = moved_found_in _ pid R (moves_of _ _ R w) path

  pub kept_missing : (path : PathOf) → Keeps R (missing pid path)
  kept_missing path = moved_missing _ pid R (moves_of _ _ R w) path

  pub kept_opened : (fd : ℕ) → Keeps R (opened pid fd)
  kept_opened fd = moved_opened _ pid R (moves_of _ _ R w) fd

  pub kept_row : (t : LengthChecks) (place : ℕ) (c : Op) → list_all can (changes_of c) ≡ true → Keeps R (row t place pid c)
  kept_row t place c h = moved_row _ _ R (moves_of _ _ R w) t place c h

-- R can bear all
abbrev pub all : Change → Bool
all c = true

pub bears_all : (cs : List Change) → list_all all cs ≡ true
bears_all [] = refl
bears_all (c ∷ cs) = bears_all cs
