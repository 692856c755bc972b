-- A command that gives no name and is no server's tells nothing but that it is one.
use Rattle.std.proofs.Common.{◌≡◌, ◌⊎◌, inl, inr, true≢false, ℕ, ◌+◌, ◌≤◌, nat_le, nat_lt, Bool, true, false, ◌||◌, cond, List, [], ◌∷◌, ◌++◌, length, Option, Some, None, option_map, Result}
use Rattle.std.{proofs.{Common.{Ok, Err, refl, sym, ap, ◌∙◌, subst, arith}, lemmas.{Bool.{le-leb, lt-leb, ltb-true}, List.append-nil, Option.same_Some}}}
use Rattle.std.{specs.{List.{fold, list_all, list_any}, Option.{IsSome, is_none}, Result.OnOk}}
use mir.Val.{bool_byte}
use Rattle.ix_text.{specs.{Bytes.is_empty, Names.is_script_name}, proofs.Tests.bool_cases}
use Rattle.ix_script.specs.{lines.{Kinds.places_fault, Forms.places, Roles.role_of, Rules.is_outside}, declared.{line.{FdWord.FdWord, KeepWord.KeepWord}, header.Header.Header, body.Body.Body}}
use Rattle.ix_script.specs.{lines.{Said.{both, said, plain_line, path_line, counted_line}, Faults.said_fault}, scripts.{Need.cost_of_line, Scripts.config_of}}
use Rattle.ix_script.specs.{reader.{Placing.command_cost, Indexed.{AreIndexed, AreNames, AreSites}}, declared.form.{Form.Form, Plain.Plain, OnPath.OnPath}}
use Rattle.ix_script.specs.{reader.Told.{HeaderTold, BodyTold, MakesMore, NamesMore, phase_lanes_in}, declared.form.{Counted.Counted}}
use Rattle.ix_script.specs.declared.{index.{Given.Given, Names.Names, Tree.Tree}, line.Line.Line}
use Rattle.ix_model.specs.{declared.{call.Mode.Mode, config.{Limits.Limits, ObjSpec.ObjSpec}}, world.Naming.PathOf, opening.Valid.is_valid, history.Cost.cost_of_path}
use Rattle.ix_script.proofs.{lines.{Readings.stand, Follows.follows}, reader.{PhaseLanes.OneMore, Keeping.header_next, Validity.fits_of}}
use Rattle.ix_script.specs.lines.Before.{fs_told, limits_after, what_told, proc_name_told, object_told, is_policy, group, is_phase, in_body, lane_after, lane_now}
use Rattle.ix_script.specs.lines.Before.{phase_lanes_after, lanes_after, new_fds, new_procs, fds_given, procs_given, in_lane, is_command, commands}
use Rattle.ix_script.proofs.reader.Pushed.{body_push, lane_push, phase_lanes_push, lanes_push, fds_push, procs_given_push, commands_push}
use Rattle.ix_label.specs.declared.form.Form as spelled
use Rattle.ix_script.specs.declared.form.Form.TheVariants as form
use Rattle.ix_script.specs.declared.form.Plain.TheVariants as plain
use Rattle.ix_script.specs.declared.form.OnPath.TheVariants as on_path
use Rattle.ix_script.specs.declared.form.OnFd.TheVariants as on_fd
use Rattle.ix_script.specs.declared.form.Counted.TheVariants as counted
use Rattle.ix_script.specs.declared.line.Line.TheVariants as line
use Rattle.ix_script.specs.declared.role.Role.TheVariants as role

-- a line that tells nothing of the machine
pub record Behind (l : Line) : Type 0 where
  pub fs : fs_told l ≡ []
  pub limits : (ls : Limits) → limits_after ls l ≡ ls
  pub whats : what_told l ≡ []
  pub names : proc_name_told l ≡ []
  pub objects : object_told l ≡ []
  pub policy : is_policy l ≡ false
  pub group_is : group l ≡ 5

pub lane_behind : (name : List ℕ) → Behind (line.Lane name)
lane_behind name = record { fs = refl; limits = λ ls. refl; whats = refl; names = refl; objects = refl; policy = refl; group_is = refl }

-- a line that begins no phase and no lane, and gives no name
pub record Still (l : Line) : Type 0 where
  pub phase : is_phase l ≡ false
  pub lane : (at : Option (List ℕ)) → lane_after at l ≡ at
  pub phase_lanes : (names : List (List ℕ)) → phase_lanes_after names l ≡ names
  pub lanes : (names : List (List ℕ)) → lanes_after names l ≡ names
  pub fds : new_fds l ≡ []
  pub procs : new_procs l ≡ []

pub record Quiet (l : Line) : Type 0 where
  pub behind : Behind l
  pub still : Still l
  pub command : is_command l ≡ true
  pub fault : (before : List Line) → said_fault before l ≡ cond (nat_le 200000 (commands before)) (Some 26) None

pub quiet : (l : Line) → role_of l ≡ role.Command → Quiet l
unfolding role_of said_fault
quiet line.Skipped h = cc
quiet (line.Version form) h = cc
quiet (line.Limit w n) h = cc
quiet (line.Fs name ceiling blocks inodes) h = cc
quiet (line.Proc name label ceiling cap lic) h = cc
quiet (line.Dir path label frozen) h = cc
quiet (line.File path label frozen cap lic bytes) h = cc
quiet (line.Policy text) h = cc
quiet line.Phase h = cc
quiet (line.Lane name) h = cc
quiet (line.Open proc path mode named) h = cc
quiet (line.Dup proc fd named) h = cc
quiet (line.Pipe proc named) h = cc
quiet (line.Fork proc keep named) h = cc
quiet (line.Priv proc fd) h = cc
quiet (line.Login proc fd hand named) h = cc
quiet _ h =
    record {
      behind = record { fs = refl; limits = λ ls. refl; whats = refl; names = refl; objects = refl; policy = refl; group_is = refl };
      still = record { phase = refl; lane = λ at. refl; phase_lanes = λ names. refl; lanes = λ names. refl; fds = refl; procs = refl };
      command = refl;
      fault = λ before. refl;
    }

pub too_many : (before : List Line) (l : Line) → role_of l ≡ role.Command → 200000 ≤ commands before → said_fault before l ≡ Some 26
too_many before l role many = (quiet l role).fault before ∙ rw (le-leb) refl

pub few_enough : (before : List Line) (l : Line) → role_of l ≡ role.Command → commands before + 1 ≤ 200000 → said_fault before l ≡ None
few_enough before l role few = (quiet l role).fault before ∙ rw (lt-leb 200000 (commands before) (omega arith)) refl

same_names : (names : Names) (more : List (List ℕ)) → more ≡ [] → NamesMore more names names
same_names names more none =
    rw none record { names = λ known h. subst (λ ks. AreNames names ks) (sym (append-nil known)) h; count = omega arith }

same_sites : (made : Tree) (more : List ObjSpec) → more ≡ [] → MakesMore more made made
same_sites made more none =
    rw none record { sites = λ known h. subst (λ os. AreSites made.index os) (sym (append-nil known)) h; count = omega arith }

pub or_true : (b : Bool) → (b || true) ≡ true
or_true true = refl
or_true false = refl

pub or_false : (b : Bool) → (b || false) ≡ b
or_false true = refl
or_false false = refl

-- ---- a lane line and a phase are of the last group of lines
late : Line → Bool
late l = nat_lt 4 (group l)

lane_or_before : (at : Option (List ℕ)) (l : Line) → is_none (lane_after at l) ≡ false → (late l ≡ true) ⊎ (is_none at ≡ false)
unfolding late
lane_or_before at line.Phase h = inl refl
lane_or_before at (line.Lane name) h = inl refl
lane_or_before at _ h = inr h

lane_from : (at : Option (List ℕ)) (lines : List Line) → is_none (fold lane_after at lines) ≡ false → (list_any late lines ≡ true) ⊎ (is_none at ≡ false)
lane_from at [] h = inr h
lane_from at (l ∷ lines) h = elim (lane_from (lane_after at l) lines h) [
  | inl p ↦ inl (rw p (or_true (late l)))
  | inr p ↦ elim (lane_or_before at l p) [ inl q ↦ inl (rw q refl) | inr q ↦ inr q ]
]

phase_late : (l : Line) (b : Bool) → is_phase l ≡ true → (late l || b) ≡ true
unfolding late
phase_late line.Phase b h = refl
phase_late _ b h = cc

phase_from : (lines : List Line) → list_any is_phase lines ≡ true → list_any late lines ≡ true
phase_from [] h = cc
phase_from (l ∷ lines) h = elim (bool_cases (is_phase l)) [
  | inl p ↦ phase_late l _ p
  | inr p ↦ rw (phase_from lines (rw p at h)) (or_true (late l))
]

-- the body has begun, so that a line more of it changes nothing of the header
pub record Begun (before : List Line) : Type 0 where
  pub some : is_empty before ≡ false
  pub later : list_any (λ b. nat_lt 4 (group b)) before ≡ true

pub begun_lane : (before : List Line) → is_empty before ≡ false → is_none (lane_now before) ≡ false → Begun before
unfolding lane_now late
begun_lane before some h = record {
  some = some;
  later = elim (lane_from None before h) [ inl p ↦ p | inr p ↦ absurd (true≢false p) ];
}

pub begun_body : (before : List Line) → is_empty before ≡ false → in_body before ≡ true → Begun before
unfolding in_body late
begun_body before some h = record { some = some; later = phase_from before h }

pub header_quiet : (h : Header) (before : List Line) (l : Line) → Behind l → Begun before → HeaderTold h before
    → is_valid (config_of before) ≡ true → said_fault before l ≡ None → HeaderTold h (before ++ l ∷ [])
header_quiet h before l q begun was valid fault =
    header_next h _ _ _ l (sym begun.some) was (fits_of _ valid) (follows _ l fault) (rw q.fs (omega arith)) (rw q.fs refl)
    (sym (q.limits h.limits)) (rw q.whats (sym (append-nil h.whats)))
    (same_names _ _ q.names) (same_sites _ _ q.objects) (rw q.objects refl)
    (rw q.group_is (omega (arith, ltb-true 4 h.latest (sym (was.latest 4) ∙ begun.later)))) (rw q.policy (sym (or_false _)))

-- without names nothing is added
pub none_in : (given : Given) {names : List (List ℕ)} (at : Option (List ℕ)) → names ≡ [] → (items : List (List ℕ × List ℕ)) → AreIndexed given items
    → AreIndexed given (items ++ in_lane at names)
none_in given None none items h = rw (append-nil items) h
none_in given (Some lane) none items h = subst (λ ns. AreIndexed given (items ++ in_lane (Some lane) ns)) (sym none) (rw (append-nil items) h)

pub on_ok : {X E P Q : Type 0} (r : Result X E) → (P → Q) → OnOk r P → OnOk r Q
on_ok (Ok x) f h = f h
on_ok (Err e) f h = h

pub one_counted : (n k : ℕ) (b c : Bool) → k ≡ bool_byte b → b ≡ c → n + k ≡ cond c (n + 1) n
one_counted n k true c h e = rw (sym e) (omega (arith, h))
one_counted n k false c h e = rw (sym e) (omega (arith, h))

pub still : (l : Line) → (l ≡ line.Phase → ⊥) → ((name : List ℕ) → l ≡ line.Lane name → ⊥) →
    ((proc : List ℕ) (path : PathOf) (mode : Mode) (named : Option (List ℕ)) → l ≡ line.Open proc path mode named → ⊥) →
    ((proc : List ℕ) (fd : FdWord) (named : Option (List ℕ)) → l ≡ line.Dup proc fd named → ⊥)
    → ((proc : List ℕ) (named : Option (List ℕ × List ℕ)) → l ≡ line.Pipe proc named → ⊥) →
    ((proc : List ℕ) (kept : KeepWord) (named : Option (List ℕ)) → l ≡ line.Fork proc kept named → ⊥) →
    ((proc : List ℕ) (fd hand : FdWord) (named : Option (List ℕ)) → l ≡ line.Login proc fd hand named → ⊥) → Still l
still line.Phase a b c d e f g = absurd (a refl)
still (line.Lane name) a b c d e f g = absurd (b name refl)
still (line.Open proc path mode named) a b c d e f g = absurd (c _ _ _ named refl)
still (line.Dup proc fd named) a b c d e f g = absurd (d proc fd named refl)
still (line.Pipe proc named) a b c d e f g = absurd (e proc named refl)
still (line.Fork proc kept named) a b c d e f g = absurd (f proc kept named refl)
still (line.Login proc fd hand named) a b c d e f g = absurd (g proc fd hand named refl)
still _ a b c d e f g = record { phase = refl; lane = λ at. refl; phase_lanes = λ names. refl; lanes = λ names. refl; fds = refl; procs = refl }

-- what is kept of the body, with one line more
pub body_next : (b n : Body) (before : List Line) (x : Line) → BodyTold b before → n.started ≡ (b.started || is_phase x) → option_map
    (λ s. s.now) n.lane ≡ lane_after (option_map (λ s. s.now) b.lane) x → n.in_order ≤ length n.lanes → list_all is_script_name n.lanes ≡ true
    → phase_lanes_in n ≡ phase_lanes_after (phase_lanes_in b) x → n.lanes ≡ lanes_after b.lanes x → ((items : List (List ℕ × List ℕ)) → AreIndexed b.fds items
    → AreIndexed n.fds (items ++ in_lane (option_map (λ s. s.now) b.lane) (new_fds x)))
    → ((items : List (List ℕ × List ℕ)) → AreIndexed b.procs items → AreIndexed n.procs
    (items ++ in_lane (option_map (λ s. s.now) b.lane) (new_procs x))) → n.commands ≡ cond (is_command x) (b.commands + 1) b.commands
    → BodyTold n (before ++ x ∷ [])
body_next b n before x told started lane within named phase_lanes_are lanes_are fds procs count =
    record {
      started = started ∙ ap (λ s. s || is_phase x) told.started ∙ sym (body_push _ x);
      lane = lane ∙ ap (λ at. lane_after at x) told.lane ∙ sym (lane_push _ x);
      within = within;
      named = named;
      phase_lanes = phase_lanes_are ∙ ap (λ names. phase_lanes_after names x) told.phase_lanes ∙ sym (phase_lanes_push _ x);
      lanes = lanes_are ∙ ap (λ names. lanes_after names x) told.lanes ∙ sym (lanes_push _ x);
      fds = subst (λ items. AreIndexed n.fds items)
          (ap (λ at. fds_given before ++ in_lane at (new_fds x)) told.lane ∙ sym (fds_push _ x)) (fds (fds_given before) told.fds);
      procs = subst (λ items. AreIndexed n.procs items) (ap (λ at. procs_given before ++ in_lane at (new_procs x)) told.lane ∙ sym (procs_given_push _ x))
          (procs (procs_given before) told.procs);
      commands = count ∙ ap (λ n. cond (is_command x) (n + 1) n) told.commands ∙ sym (commands_push _ x);
    }

-- what is kept of the body, with one lane more
pub lane_added : (b n : Body) (name : List ℕ) (lines : List Line) → BodyTold b lines → n.started ≡ b.started → option_map (λ s. s.now) n.lane ≡ Some name
    → n.lanes ≡ lanes_after b.lanes (line.Lane name) → list_all is_script_name n.lanes ≡ true → OneMore n.in_order n.lanes n.others (phase_lanes_in b) name
    → n.fds ≡ b.fds → n.procs ≡ b.procs → n.commands ≡ b.commands
    → BodyTold n (lines ++ line.Lane name ∷ [])
lane_added b n name lines told started lane lanes named more fds procs commands =
    let at = option_map (λ s. s.now) b.lane in
    body_next b n _ _ told (started ∙ sym (or_false _)) lane more.within named more.lanes lanes
    (λ items h. none_in n.fds at refl items (subst (λ g. AreIndexed g items) (sym fds) h))
    (λ items h. none_in n.procs at refl items (subst (λ g. AreIndexed g items) (sym procs) h)) commands

pub body_quiet : (b n : Body) (before : List Line) (l : Line) → role_of l ≡ role.Command → BodyTold b before → n ≡ record b { commands = b.commands + 1 } → BodyTold n (before ++ l ∷ [])
body_quiet b n before l role was is =
    let q = quiet l role in
    let at = option_map (λ s. s.now) b.lane in
    let told : BodyTold (record b { commands = b.commands + 1 }) (before ++ l ∷ []) =
    body_next b (record b { commands = b.commands + 1 }) before l was (rw q.still.phase (sym (or_false b.started))) (sym (q.still.lane at)) was.within was.named
    (sym (q.still.phase_lanes (phase_lanes_in b))) (sym (q.still.lanes b.lanes))
    (none_in b.fds at q.still.fds) (none_in b.procs at q.still.procs) (rw q.command refl) in
    subst (λ (m : Body). BodyTold m (before ++ l ∷ [])) (sym is) told

-- ---- commands, and what they cost
pub record CommandSaid (labels : spelled.Form) (f : Form) (words : List (List ℕ)) (cost : ℕ) : Type 0 where
  pub line : Line
  pub says : said labels f words ≡ Some line
  pub is_command : role_of line ≡ role.Command
  pub costs : cost_of_line line ≡ cost

-- a command stands in a lane
pub stands_in_lane : (before : List Line) (f : Form) (words : List (List ℕ)) (cost : ℕ) → command_cost f words ≡ Some cost → is_outside before f ≡ false → is_none (lane_now before) ≡ false
stands_in_lane before form.Limit words cost h inside = cc
stands_in_lane before form.Fs words cost h inside = cc
stands_in_lane before form.Proc words cost h inside = cc
stands_in_lane before form.Dir words cost h inside = cc
stands_in_lane before form.File words cost h inside = cc
stands_in_lane before form.Phase words cost h inside = cc
stands_in_lane before form.Lane words cost h inside = cc
stands_in_lane before _ words cost h inside = inside

plain_kind : (c : Plain) (proc : List ℕ) → (role_of (plain_line c proc) ≡ role.Command) × (cost_of_line (plain_line c proc) ≡ 128)
unfolding role_of cost_of_line
plain_kind plain.Wait proc = (refl, refl)
plain_kind plain.Self_ proc = (refl, refl)
plain_kind plain.Freezeself proc = (refl, refl)
plain_kind plain.Thawself proc = (refl, refl)

counted_kind : (c : Counted) (proc : List ℕ) (fd : FdWord) (n : ℕ) → (role_of (counted_line c proc fd n) ≡ role.Command) × (cost_of_line (counted_line c proc fd n) ≡ 128)
unfolding role_of cost_of_line
counted_kind counted.Read proc fd n = (refl, refl)
counted_kind counted.Cut proc fd n = (refl, refl)
counted_kind counted.Seek proc fd n = (refl, refl)

path_kind : (c : OnPath) (proc : List ℕ) (path : PathOf) → (role_of (path_line c proc path) ≡ role.Command) × (cost_of_line (path_line c proc path) ≡ 128 + cost_of_path path)
unfolding role_of cost_of_line
path_kind on_path.Create proc path = (refl, refl)
path_kind on_path.Mkdir proc path = (refl, refl)
path_kind on_path.Unlink proc path = (refl, refl)
path_kind on_path.Rmdir proc path = (refl, refl)
path_kind on_path.Chdir proc path = (refl, refl)
path_kind on_path.Stat proc path = (refl, refl)
path_kind on_path.Exec proc path = (refl, refl)
path_kind on_path.Labelof proc path = (refl, refl)
path_kind on_path.Freeze proc path = (refl, refl)
path_kind on_path.Thaw proc path = (refl, refl)

there : {A : Type 0} (o : Option A) → IsSome o → (x : A) × (o ≡ Some x)
there None h = cc
there (Some x) h = (x, refl)

module _ {labels : spelled.Form} {f : Form} {words : List (List ℕ)} {cost : ℕ} where
  -- a command of so many values that stand there
  of_one : {A : Type 0} {a : Option A} (make : A → Line) → IsSome a → said labels f words ≡ option_map make a
      → ((x : A) → a ≡ Some x → (role_of (make x) ≡ role.Command) × (cost_of_line (make x) ≡ cost)) → CommandSaid labels f words cost
  of_one make some is tells = let x = there _ some in let k = tells x.0 x.1 in record { line = make x.0; says = is ∙ ap (option_map make) x.1; is_command = k.0; costs = k.1 }

  of_two : {A B : Type 0} {a : Option A} {b : Option B} (make : A → B → Line) → IsSome a → IsSome b → said labels f words ≡ option_map (λ x. make x.0 x.1) (both a b)
      → ((x : A) (y : B) → a ≡ Some x → b ≡ Some y → (role_of (make x y) ≡ role.Command) × (cost_of_line (make x y) ≡ cost)) → CommandSaid labels f words cost
  of_two make some more is tells =
      let x = there _ some in
      let y = there _ more in
      let k = tells x.0 y.0 x.1 y.1 in
      record { line = make x.0 y.0; says = is ∙ (λ i. option_map (λ x. make x.0 x.1) (both (x.1 i) (y.1 i))); is_command = k.0; costs = k.1 }

  of_three : {A B C : Type 0} {a : Option A} {b : Option B} {c : Option C} (make : A → B → C → Line) → IsSome a → IsSome b → IsSome c
      → said labels f words ≡ option_map (λ x. make x.0 x.1.0 x.1.1) (both a (both b c))
      → ((x : A) (y : B) (z : C) → a ≡ Some x → b ≡ Some y → c ≡ Some z → (role_of (make x y z) ≡ role.Command) × (cost_of_line (make x y z) ≡ cost)) → CommandSaid labels f words cost
  of_three make some more last is tells =
      let x = there _ some in
      let y = there _ more in
      let z = there _ last in
      let k = tells x.0 y.0 z.0 x.1 y.1 z.1 in
      record { line = make x.0 y.0 z.0; says = is ∙ (λ i. option_map (λ x. make x.0 x.1.0 x.1.1) (both (x.1 i) (both (y.1 i) (z.1 i)))); is_command = k.0; costs = k.1 }

-- what values that are there cost
costing : {A : Type 0} (f : A → ℕ) {o : Option A} {x : A} {cost : ℕ} → option_map f o ≡ Some cost → o ≡ Some x → f x ≡ cost
costing f h e = same_Some _ _ (sym (ap (option_map f) e) ∙ h)

abbrev path_cost : PathOf → ℕ
path_cost path = 128 + cost_of_path path

pub command_said : (labels : spelled.Form) (f : Form) (words : List (List ℕ)) (cost : ℕ) → command_cost f words ≡ Some cost → places_fault (places labels f words) ≡ None
    → CommandSaid labels f words cost
unfolding role_of cost_of_line
command_said labels (form.Plain c) words cost h broken =
    of_one (plain_line c) (stand _ broken).0 refl (λ x _. let k = plain_kind c x in (k.0, k.1 ∙ same_Some _ _ h))
command_said labels (form.Counted c) words cost h broken =
    let s = stand _ broken in of_three (counted_line c) s.0 s.1.0 s.1.1.0 refl (λ x y z _ _ _. let k = counted_kind c x y z in (k.0, k.1 ∙ same_Some _ _ h))
command_said labels (form.OnFd on_fd.Close) words cost h broken = let s = stand _ broken in of_two line.Close s.0 s.1.0 refl (λ _ _ _ _. (refl, same_Some _ _ h))
command_said labels (form.OnFd on_fd.Pex) words cost h broken = let s = stand _ broken in of_two line.Pex s.0 s.1.0 refl (λ _ _ _ _. (refl, same_Some _ _ h))
command_said labels (form.OnFd on_fd.Unpex) words cost h broken = let s = stand _ broken in of_two line.Unpex s.0 s.1.0 refl (λ _ _ _ _. (refl, same_Some _ _ h))
command_said labels form.Exit words cost h broken = let s = stand _ broken in of_two line.Exit s.0 s.1.0 refl (λ _ _ _ _. (refl, same_Some _ _ h))
command_said labels form.Setself words cost h broken = let s = stand _ broken in of_two line.Setself s.0 s.1.0 refl (λ _ _ _ _. (refl, same_Some _ _ h))
command_said labels form.Droplic words cost h broken = let s = stand _ broken in of_two line.Droplic s.0 s.1.0 refl (λ _ _ _ _. (refl, same_Some _ _ h))
command_said labels form.Readlog words cost h broken = let s = stand _ broken in of_two line.Readlog s.0 s.1.0 refl (λ _ _ _ _. (refl, same_Some _ _ h))
command_said labels form.Grant words cost h broken = let s = stand _ broken in of_three line.Grant s.0 s.1.0 s.1.1.0 refl (λ _ _ _ _ _ _. (refl, same_Some _ _ h))
command_said labels form.Ceiling words cost h broken = let s = stand _ broken in of_three line.Ceiling s.0 s.1.0 s.1.1.0 refl (λ _ _ _ _ _ _. (refl, same_Some _ _ h))
command_said labels (form.OnPath c) words cost h broken =
    let s = stand _ broken in of_two (path_line c) s.0 s.1.0 refl (λ x y _ is. let k = path_kind c x y in (k.0, k.1 ∙ costing path_cost h is))
command_said labels form.List words cost h broken = let s = stand _ broken in of_three line.List s.0 s.1.0 s.1.1.0 refl (λ _ _ _ _ is _. (refl, costing path_cost h is))
command_said labels form.Setlabel words cost h broken = let s = stand _ broken in of_three line.Setlabel s.0 s.1.0 s.1.1.0 refl (λ _ _ _ _ is _. (refl, costing path_cost h is))
command_said labels form.Write words cost h broken =
    let s = stand _ broken in of_three line.Write s.0 s.1.0 s.1.1.0 refl (λ _ _ _ _ _ is. (refl, costing (λ (bytes : List ℕ). 128 + length bytes) h is))
command_said labels _ words cost h broken = cc
