-- Who is low and who is high.
use Rattle.std.proofs.{Common.{◌≡◌, ℕ, true, false, true≢false, not, Option, Some, None, refl, sym, ap, ◌∙◌, ◌==◌, Bool, ◌&&◌, ◌||◌, ⊎_elim, subst, rules}, Math.Bool.{beq, or-true}}
use Rattle.std.{proofs.lemmas.Bool.{not-true, and_from, and_parts, eqb-true, or_cases, Decides.Decides-eqb}, specs.{Bool.Decides, Option.option_map_or}}
use Rattle.ix_label.specs.{Category.{Categories, leq, same}, Lattice.same-decides}
use Rattle.ix_model.specs.{declared.{call.{Keep.Keep, Mode.Mode}, privs.PrivSet.PrivSet}, history.Events.{Op, Event}, two_runs.TwoRuns.{IsHigh, IsLow, AgreeAt, Same, Other, Replaced}}
use Rattle.ix_model.specs.{two_runs.TwoRuns.{Written, Exited}, world.{Naming.PathOf, World.{Frame, Process, at, living}}}
use Rattle.ix_twin.specs.Sameness.{same_but_given, same_entry_but_given, same_given, same_keep, same_mode, same_on_descriptors, same_on_labels, same_on_paths, same_on_processes, same_path}
use Rattle.ix_twin.specs.{Sameness.same_privs, Tests.{is_high, is_low, agrees}}
use Rattle.ix_model.proofs.tables.Alike.{bytes_are, bytes_itself, names_are, names_itself}
use Rattle.ix_model.specs.history.Events as op
use Rattle.ix_model.specs.declared.call.Keep.TheVariants as keep
use Rattle.ix_model.specs.declared.call.Mode.TheVariants as mode

module _ (l : Categories) (f : Frame) (pid : ℕ) where
  low_there : (o : Option Process) → living (at f.processes pid) ≡ o → option_map_or (λ (p : Process). leq p.label l) o false ≡ true → IsLow l f pid
  low_there (Some p) is h = record { process = p; lives = is; low = h }
  low_there None is h = absurd (true≢false (sym h))

  pub low_decides : Decides (is_low l f pid) (IsLow l f pid)
  low_decides = (low_there _ refl, λ h. ap (λ o. option_map_or (λ p. leq p.label l) o false) h.lives ∙ h.low)

  high_there : (o : Option Process) → living (at f.processes pid) ≡ o → option_map_or (λ (p : Process). not (leq p.label l)) o false ≡ true → IsHigh l f pid
  high_there (Some p) is h = record { process = p; lives = is; high = not-true _ h }
  high_there None is h = absurd (true≢false (sym h))

  pub high_decides : Decides (is_high l f pid) (IsHigh l f pid)
  high_decides = (
    high_there _ refl,
    λ h. ap (λ o. option_map_or (λ p. not (leq p.label l)) o false) h.lives ∙ ap not h.high,
  )

-- Calls that are found to be the same are one, but for what they write and the statuses that they give.

-- ---- values
pub bools_are : (a b : Bool) → beq a b ≡ true → a ≡ b
bools_are true true h = refl
bools_are false false h = refl
bools_are true false h = sym h
bools_are false true h = h

pub paths_are : (p q : PathOf) → same_path p q ≡ true → p ≡ q
paths_are p q h =
    let both = and_parts (beq p.absolute q.absolute) _ h in
    λ i. record { absolute = bools_are p.absolute q.absolute both.0 i; names = names_are p.names q.names both.1 i }

pub privs_are : (x y : PrivSet) → same_privs x y ≡ true → x ≡ y
privs_are x y h = λ i. record { 0 = eqb-true x.0 y.0 h i }

modes_are : (m n : Mode) → same_mode m n ≡ true → m ≡ n
modes_are mode.Read mode.Read h = refl
modes_are mode.Write mode.Write h = refl
modes_are mode.Both mode.Both h = refl
modes_are _ _ h = absurd (true≢false (sym h))

keeps_are : (k m : Keep) → same_keep k m ≡ true → k ≡ m
keeps_are keep.All keep.All h = refl
keeps_are keep.Nothing keep.Nothing h = refl
keeps_are (keep.One fd) (keep.One other) h = λ i. keep.One (record { 0 = eqb-true fd.0 other.0 h i })
keeps_are _ _ h = absurd (true≢false (sym h))

label_is : (a b : Categories) → same a b ≡ true → a ≡ b
label_is a b = (same-decides a b).0

-- ---- calls
-- two calls are one where they write the same and give the same status, and else one is replaced by the other
pub record AreSame (a b : Op) : Type 0 where
  pub equal : same_given a b ≡ true → a ≡ b
  pub other : same_given a b ≡ false → Replaced a b

-- calls that write nothing and give no status
plain : (a b : Op) → same_given a b ≡ true → a ≡ b → AreSame a b
plain a b given is = record { equal = λ h. is; other = λ h. absurd (true≢false (sym given ∙ h)) }

pub descriptors_are : (a b : Op) → same_on_descriptors a b ≡ true → AreSame a b
unfolding same_given
descriptors_are (op.ReadFd fd count) (op.ReadFd other more) h =
    let both = and_parts (fd == other) _ h in plain _ _ refl (λ i. op.ReadFd (eqb-true fd other both.0 i) (eqb-true count more both.1 i))
descriptors_are (op.WriteFd fd bytes) (op.WriteFd other more) h = record {
  equal = λ given i. op.WriteFd (eqb-true fd other h i) (bytes_are bytes more given i);
  other = λ given. subst (λ n. Replaced (op.WriteFd fd bytes) (op.WriteFd n more)) (eqb-true fd other h) Written;
}
descriptors_are (op.CutFd fd len) (op.CutFd other more) h =
    let both = and_parts (fd == other) _ h in plain _ _ refl (λ i. op.CutFd (eqb-true fd other both.0 i) (eqb-true len more both.1 i))
descriptors_are (op.SeekFd fd offset) (op.SeekFd other more) h =
    let both = and_parts (fd == other) _ h in plain _ _ refl (λ i. op.SeekFd (eqb-true fd other both.0 i) (eqb-true offset more both.1 i))
descriptors_are (op.DupFd fd) (op.DupFd other) h = plain _ _ refl (ap op.DupFd (eqb-true fd other h))
descriptors_are (op.CloseFd fd) (op.CloseFd other) h = plain _ _ refl (ap op.CloseFd (eqb-true fd other h))
descriptors_are op.MakePipe op.MakePipe h = plain _ _ refl refl
descriptors_are (op.Pex fd) (op.Pex other) h = plain _ _ refl (ap op.Pex (eqb-true fd other h))
descriptors_are (op.Unpex fd) (op.Unpex other) h = plain _ _ refl (ap op.Unpex (eqb-true fd other h))
descriptors_are a b h = absurd (true≢false (sym h))

on_path : (make : PathOf → Op) (p q : PathOf) → same_given (make p) (make q) ≡ true → same_path p q ≡ true → AreSame (make p) (make q)
on_path make p q given h = plain _ _ given (ap make (paths_are p q h))

on_path_and : {A : Type 0} (make : PathOf → A → Op) (p q : PathOf) (x y : A) (test : Bool) → same_given (make p x) (make q y) ≡ true → (test ≡ true → x ≡ y)
    → (same_path p q && test) ≡ true → AreSame (make p x) (make q y)
on_path_and make p q x y test given means h =
    let both = and_parts _ test h in
    plain _ _ given (λ i. make (paths_are p q both.0 i) (means both.1 i))

paths_same : (a b : Op) → same_on_paths a b ≡ true → AreSame a b
unfolding same_given
paths_same (op.CreateAt p) (op.CreateAt q) h = on_path op.CreateAt p q refl h
paths_same (op.OpenAt p m) (op.OpenAt q n) h = on_path_and op.OpenAt p q m n _ refl (modes_are m n) h
paths_same (op.MakeDir p) (op.MakeDir q) h = on_path op.MakeDir p q refl h
paths_same (op.LinkAt t p) (op.LinkAt u q) h = on_path_and op.LinkAt t u p q _ refl (paths_are p q) h
paths_same (op.UnlinkAt p) (op.UnlinkAt q) h = on_path op.UnlinkAt p q refl h
paths_same (op.RemoveDir p) (op.RemoveDir q) h = on_path op.RemoveDir p q refl h
paths_same (op.ChangeDir p) (op.ChangeDir q) h = on_path op.ChangeDir p q refl h
paths_same (op.StatAt p) (op.StatAt q) h = on_path op.StatAt p q refl h
paths_same (op.ListAt p n) (op.ListAt q k) h = on_path_and op.ListAt p q n k _ refl (eqb-true n k) h
paths_same (op.Exec p) (op.Exec q) h = on_path op.Exec p q refl h
paths_same _ _ h = absurd (true≢false (sym h))

labels_same : (a b : Op) → same_on_labels a b ≡ true → AreSame a b
unfolding same_given
labels_same (op.LabelOf p) (op.LabelOf q) h = on_path op.LabelOf p q refl h
labels_same (op.SetLabel p l) (op.SetLabel q m) h = on_path_and op.SetLabel p q l m _ refl (label_is l m) h
labels_same (op.Freeze p) (op.Freeze q) h = on_path op.Freeze p q refl h
labels_same (op.Thaw p) (op.Thaw q) h = on_path op.Thaw p q refl h
labels_same (op.SetPriv p caps lics) (op.SetPriv q x y) h =
    let one = and_parts _ (same_privs lics y) h in
    let two = and_parts (same_path p q) (same_privs caps x) one.0 in
    plain _ _ refl (λ i. op.SetPriv (paths_are p q two.0 i) (privs_are _ x two.1 i) (privs_are _ y one.1 i))
labels_same _ _ h = absurd (true≢false (sym h))

processes_same : (a b : Op) → same_on_processes a b ≡ true → AreSame a b
unfolding same_given
processes_same (op.Fork k) (op.Fork m) h = plain _ _ refl (ap op.Fork (keeps_are k m h))
processes_same (op.Exit status) (op.Exit other) h = record { equal = λ given. ap op.Exit (eqb-true status other given); other = λ given. Exited }
processes_same op.WaitChild op.WaitChild h = plain _ _ refl refl
processes_same op.SelfLabel op.SelfLabel h = plain _ _ refl refl
processes_same (op.SetSelf l) (op.SetSelf m) h = plain _ _ refl (ap op.SetSelf (label_is l m h))
processes_same op.FreezeSelf op.FreezeSelf h = plain _ _ refl refl
processes_same op.ThawSelf op.ThawSelf h = plain _ _ refl refl
processes_same (op.DropLic x) (op.DropLic y) h = plain _ _ refl (ap op.DropLic (privs_are x y h))
processes_same (op.GrantLic p x) (op.GrantLic q y) h =
    let both = and_parts (p == q) _ h in plain _ _ refl (λ i. op.GrantLic (eqb-true p q both.0 i) (privs_are x y both.1 i))
processes_same (op.SetCeiling p l) (op.SetCeiling q m) h =
    let both = and_parts (p == q) _ h in plain _ _ refl (λ i. op.SetCeiling (eqb-true p q both.0 i) (label_is l m both.1 i))
processes_same (op.ReadLog n) (op.ReadLog k) h = plain _ _ refl (ap op.ReadLog (eqb-true n k h))
processes_same _ _ h = absurd (true≢false (sym h))

pub ops_are : (a b : Op) → same_but_given a b ≡ true → AreSame a b
unfolding same_but_given
ops_are a b h =
    ⊎_elim (λ k. ⊎_elim (λ m. ⊎_elim (descriptors_are a b) (paths_same a b) (or_cases _ _ m)) (labels_same a b)
    (or_cases _ _ k))
    (processes_same a b)
    (or_cases _ _ h)

-- ---- and the other way
pub bool_itself : (b : Bool) → beq b b ≡ true
bool_itself true = refl
bool_itself false = refl

pub path_itself : (p : PathOf) → same_path p p ≡ true
path_itself p = and_from (beq p.absolute p.absolute) _ (bool_itself _) (names_itself p.names)

pub number_itself : (n : ℕ) → (n == n) ≡ true
number_itself n = (Decides-eqb n n).1 refl

label_itself : (l : Categories) → same l l ≡ true
label_itself l = (same-decides l l).1 refl

mode_itself : (m : Mode) → same_mode m m ≡ true
mode_itself mode.Read = refl
mode_itself mode.Write = refl
mode_itself mode.Both = refl

keep_itself : (k : Keep) → same_keep k k ≡ true
keep_itself keep.All = refl
keep_itself keep.Nothing = refl
keep_itself (keep.One fd) = number_itself _

-- a call is one of the four
abbrev IsFound : Op → Type 0
IsFound a = same_but_given a a ≡ true

on_first : (a : Op) → same_on_descriptors a a ≡ true → IsFound a
unfolding same_but_given
on_first a h = rw h refl

on_second : (a : Op) → same_on_paths a a ≡ true → IsFound a
unfolding same_but_given
on_second a h = rw h (search (rules, or-true))

on_third : (a : Op) → same_on_labels a a ≡ true → IsFound a
unfolding same_but_given
on_third a h = rw h (search (rules, or-true))

on_fourth : (a : Op) → same_on_processes a a ≡ true → IsFound a
unfolding same_but_given
on_fourth a h = rw h (search (rules, or-true))

pub op_itself : (a : Op) → IsFound a
op_itself (op.ReadFd fd count) = on_first _ (and_from (fd == fd) _ (number_itself fd) (number_itself _))
op_itself (op.WriteFd fd bytes) = on_first _ (number_itself fd)
op_itself (op.CutFd fd len) = on_first _ (and_from (fd == fd) _ (number_itself fd) (number_itself _))
op_itself (op.SeekFd fd offset) = on_first _ (and_from (fd == fd) _ (number_itself fd) (number_itself _))
op_itself (op.DupFd fd) = on_first _ (number_itself fd)
op_itself (op.CloseFd fd) = on_first _ (number_itself fd)
op_itself op.MakePipe = on_first _ refl
op_itself (op.Pex fd) = on_first _ (number_itself fd)
op_itself (op.Unpex fd) = on_first _ (number_itself fd)
op_itself (op.CreateAt p) = on_second _ (path_itself p)
op_itself (op.OpenAt p m) = on_second _ (and_from (same_path p p) _ (path_itself p) (mode_itself m))
op_itself (op.MakeDir p) = on_second _ (path_itself p)
op_itself (op.LinkAt t p) = on_second _ (and_from (same_path t t) _ (path_itself t) (path_itself p))
op_itself (op.UnlinkAt p) = on_second _ (path_itself p)
op_itself (op.RemoveDir p) = on_second _ (path_itself p)
op_itself (op.ChangeDir p) = on_second _ (path_itself p)
op_itself (op.StatAt p) = on_second _ (path_itself p)
op_itself (op.ListAt p n) = on_second _ (and_from (same_path p p) _ (path_itself p) (number_itself n))
op_itself (op.Exec p) = on_second _ (path_itself p)
op_itself (op.LabelOf p) = on_third _ (path_itself p)
op_itself (op.SetLabel p l) = on_third _ (and_from (same_path p p) _ (path_itself p) (label_itself l))
op_itself (op.Freeze p) = on_third _ (path_itself p)
op_itself (op.Thaw p) = on_third _ (path_itself p)
op_itself (op.SetPriv p x y) =
    on_third _ (and_from (same_path p p && same_privs x x) _ (and_from (same_path p p) _ (path_itself p) (number_itself _)) (number_itself _))
op_itself (op.Fork k) = on_fourth _ (keep_itself k)
op_itself (op.Exit status) = on_fourth _ refl
op_itself op.WaitChild = on_fourth _ refl
op_itself op.SelfLabel = on_fourth _ refl
op_itself (op.SetSelf l) = on_fourth _ (label_itself l)
op_itself op.FreezeSelf = on_fourth _ refl
op_itself op.ThawSelf = on_fourth _ refl
op_itself (op.DropLic x) = on_fourth _ (number_itself _)
op_itself (op.GrantLic p x) = on_fourth _ (and_from (p == p) _ (number_itself p) (number_itself _))
op_itself (op.SetCeiling p l) = on_fourth _ (and_from (p == p) _ (number_itself p) (label_itself l))
op_itself (op.ReadLog n) = on_fourth _ (number_itself n)

pub given_itself : (a : Op) → same_given a a ≡ true
unfolding same_given
given_itself (op.WriteFd fd bytes) = bytes_itself bytes
given_itself (op.Exit status) = number_itself _
given_itself _ = refl

pub replaced_same : (a b : Op) → Replaced a b → same_but_given a b ≡ true
unfolding same_but_given
replaced_same _ _ (Written {fd = fd}) = rw (number_itself) refl
replaced_same _ _ Exited = refl

-- ---- entries
entries_are : (e d : Event) → same_entry_but_given e d ≡ true → (e.seat ≡ d.seat) × (e.line ≡ d.line) × (e.pid ≡ d.pid) × AreSame e.op d.op
entries_are e d h =
    let one = and_parts _ _ h in
    let two = and_parts _ _ one.0 in
    let three = and_parts _ _ two.0 in
    (eqb-true e.seat d.seat three.0, eqb-true e.line d.line three.1, eqb-true e.pid d.pid two.1, ops_are _ _ one.1)

-- entries that are told to be one
from_parts : (e d : Event) → e.seat ≡ d.seat → e.line ≡ d.line → e.pid ≡ d.pid → same_but_given e.op d.op ≡ true → same_entry_but_given e d ≡ true
from_parts e d seat line pid ops =
    and_from _ _ (and_from _ _ (and_from _ _ ((Decides-eqb e.seat d.seat).1 seat) ((Decides-eqb e.line d.line).1 line)) ((Decides-eqb e.pid d.pid).1 pid)) ops

module _ (l : Categories) (f : Frame) where
  agreeing : (e d : Event) → agrees l f e d ≡ true → AgreeAt l f e d
  unfolding agrees
  agreeing e d h =
      let both = and_parts _ _ h in
      go _ refl (entries_are e d both.0) both.1
    where
      go : (given : Bool) → same_given e.op d.op ≡ given → (e.seat ≡ d.seat) × (e.line ≡ d.line) × (e.pid ≡ d.pid) × AreSame e.op d.op → (given || is_high l f e.pid) ≡ true → AgreeAt l f e d
      go true given is h =
          let one : e ≡ d = (λ i. record { seat = is.0 i; line = is.1 i; pid = is.2 i; op = is.3.equal given i }) in
          subst (AgreeAt l f e) one Same
      go false given is h =
          let high = (high_decides l f _).0 h in
          subst (AgreeAt l f e) (λ i. record { seat = is.0 i; line = is.1 i; pid = is.2 i; op = d.op }) (Other high (is.3.other given))

  agreed : (e d : Event) → AgreeAt l f e d → agrees l f e d ≡ true
  unfolding agrees
  agreed e _ Same =
      let given : (same_given e.op e.op || is_high l f e.pid) ≡ true = rw (given_itself) refl in
      and_from _ _ (from_parts e e refl refl refl (op_itself _)) given
  agreed _ _ (Other {seat = seat} {line = line} {pid = pid} {a = a} {b = b} high replaced) =
      let e : Event = record { seat = seat; line = line; pid = pid; op = a } in
      let d : Event = record { seat = seat; line = line; pid = pid; op = b } in
      let given : (same_given a b || is_high l f pid) ≡ true = rw ((high_decides l f _).1 high) (or-true _) in
      and_from _ _ (from_parts e d refl refl refl (replaced_same a b replaced)) given

  pub agree_decides : (e d : Event) → Decides (agrees l f e d) (AgreeAt l f e d)
  agree_decides e d = (agreeing e d, agreed e d)
