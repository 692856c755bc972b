-- What a call makes of the marks.
use Rattle.std.proofs.Common.{◌≡◌, ◌==◌, ◌&&◌, ◌||◌, ◌≤◌, ◌<◌, ℕ, Bool, true, false, not, true≢false, List, length, count_by, Option, Some, None, is_some, refl}
use Rattle.std.{proofs.{Common.{option_map, if◌then◌else◌, sym, ap, ◌∙◌, subst, arith, inl, inr}, lemmas.Bool.{and_parts, or_cases, not-true, eqb-true}}, specs.Option.option_map_or}
use Rattle.ix_label.specs.{Category.{Categories, bottom, same}, Lattice.same-decides}
use Rattle.ix_float.specs.declared.mark.Way.{Way}
use Rattle.ix_model.specs.{world.World.{World, Frame, Process, at, living, lives}, rows.Walks.{OpenFile, behind}, laws.Sound.Sound, declared.{ids.Fd.Fd, reply.Reply.Reply}}
use Rattle.ix_model.specs.history.{AuditLog.{label_at, of_process}, Events.Op, Freshness.{refreshes, closes}, Step.step}
use Rattle.ix_model.proofs.{frames.Claimants.is_behind, tables.Finds.in_table, words.{Fixed.fixed_step, Living.{is_living, not_ended}}}
use Rattle.ix_fresh.specs.{Laws.{Spot, KnownChangesNothing, spot_behind}, Touched.{target, entry_target, label_of_entry, is_one, touches}}
use Rattle.ix_fresh.proofs.{Freshly.{read_facts, write_facts}, Remaining.turned}
use Rattle.ix_fcalls.specs.Tested.{IsKnown}
use Rattle.ix_marks.specs.Known.{Known, spot_of, has_row, unless}
use Rattle.ix_core.specs.Marking.{way_of, spot_in, sizes_of, AreReady, AreKnown, AreTold, CanRefresh, call_by, mark_through, spot_through, other_process}
use Rattle.ix_core.specs.Marking.{other_object, other_entry, unless_object, unless_entry, unless_closed, has_exited, refreshed, or_refreshed}
use Rattle.ix_core.proofs.{Living.lives_on, Unmoved.{known_still, self_still}}
use Rattle.ix_float.specs.declared.mark.Way.TheVariants as way
use Rattle.ix_model.specs.history.Events as op
use Rattle.ix_model.specs.declared.reply.Reply.TheVariants as reply
use Rattle.ix_fresh.specs.Laws as laws
use Rattle.ix_marks.specs.declared.row.Spot as marked

abbrev Mark : Type 0
Mark = Option marked.Spot

abbrev seen : Mark → Option Spot
seen s = option_map spot_in s

-- ---- what goes, in the words of freshness
stays_if : {A : Type 0} (b : Bool) (x y : A) → y ≡ (if b && false then x else y)
stays_if true x y = refl
stays_if false x y = refl

and_no : (a b : Bool) → b ≡ false → (a && b) ≡ false
and_no true b off = off
and_no false b off = refl

seen_if : (b : Bool) (s : Mark) → seen (if b then None else s) ≡ (if b then None else seen s)
seen_if true s = refl
seen_if false s = refl

with_true : (b : Bool) → b ≡ (b && true)
with_true true = refl
with_true false = refl

unless_never : (test : Spot → Bool) → ((s : Spot) → test s ≡ false) → (s : Option Spot) → s ≡ laws.unless test s
unless_never test never None = refl
unless_never test never (Some s) = ap (λ b. if b then None else Some s) (sym (never s))

unless_told : (on : marked.Spot → Bool) (there : Spot → Bool) → ((x : marked.Spot) → on x ≡ there (spot_in x)) → (s : Mark) → seen (unless on s) ≡ laws.unless there (seen s)
unless_told on there same None = refl
unless_told on there same (Some x) = seen_if (on x) (Some x) ∙ ap (λ b. if b then None else Some (spot_in x)) (same x)

object_told : (o : Option ℕ) (moved : Bool) (s : Mark) → seen (unless_object o moved s) ≡ laws.unless (λ x. is_one o (Some x.object) && moved) (seen s)
object_told (Some o) true s = unless_told _ _ (λ x. turned _ o ∙ with_true _) s
object_told (Some o) false s = unless_never _ (λ x. and_no _ _ refl) _
object_told None moved s = unless_never _ (λ x. refl) _

entry_told : (e : Option ℕ) (moved : Bool) (s : Mark) → seen (unless_entry e moved s) ≡ laws.unless (λ x. is_one e (Some x.entry) && moved) (seen s)
entry_told (Some e) true s = unless_told _ _ (λ x. turned _ e ∙ with_true _) s
entry_told (Some e) false s = unless_never _ (λ x. and_no _ _ refl) _
entry_told None moved s = unless_never _ (λ x. refl) _

one_of_two : (test : Spot → Bool) (b : Bool) (x : Spot) → laws.unless test (if b then None else Some x) ≡ (if b || test x then None else Some x)
one_of_two test true x = refl
one_of_two test false x = refl

-- three reasons to go are one
three : (a : Bool) (p q : Spot → Bool) (s : Mark) → laws.unless q (laws.unless p (seen (if a then None else s))) ≡ laws.unless (λ x. a || p x || q x) (seen s)
three true p q None = refl
three true p q (Some x) = refl
three false p q None = refl
three false p q (Some x) = one_of_two q _ _

-- ---- what is closed
closed_told : (pid : ℕ) (o : Op) (r : Reply) (q d : ℕ) (s : Mark) → seen (unless_closed pid o r q d s) ≡ (if pid == q && closes d o r then None else seen s)
closed_told pid (op.CloseFd fd) reply.Done q d s = seen_if (q == pid && d == fd) s ∙ (λ i. if turned q pid i && turned d fd i then None else seen s)
closed_told pid (op.Exit status) reply.Done q d s = seen_if (q == pid) s ∙ ap (λ b. if b then None else seen s) (turned q pid ∙ with_true (pid == q))
closed_told pid _ r q d s = stays_if _ _ _

-- ---- what is refreshed
-- the mark of that descriptor gets the spot, and any other stays
set_told : (f : Frame) (pid fd q d : ℕ) (spot s : Mark) → seen spot ≡ spot_behind f pid fd → seen (if q == pid && (d == fd && true) then spot else
    s) ≡ (if pid == q && fd == d then spot_behind f q d else seen s)
set_told f pid fd q d spot s is = go _ _ (turned q _) (eqb-true pid q) _ _ (turned d fd) (eqb-true fd d)
  where
    go : (a b : Bool) → a ≡ b → (b ≡ true → pid ≡ q) → (x y : Bool) → x ≡ y → (y ≡ true → fd ≡ d) → seen (if a && (x && true) then spot else s) ≡ (if b && y then spot_behind f q d else seen s)
    go true true same one true true there other = is ∙ (λ i. spot_behind f (one refl i) (other refl i))
    go true true same one false false there other = refl
    go false false same one x y there other = refl
    go true false same one x y there other = cc
    go false true same one x y there other = cc
    go true true same one true false there other = cc
    go true true same one false true there other = cc

not_set : (a x b : Bool) (spot s : Mark) (here : Option Spot) → seen (if a && (x && false) then spot else s) ≡ (if b && false then here else seen s)
not_set a x b spot s here = ap (λ c. seen (if c then spot else s)) (and_no a _ (and_no x _ refl)) ∙ stays_if b here (seen s)

refreshed_told : (f : Frame) (pid : ℕ) (o : Op) (r : Reply) (spot : Mark) (q d : ℕ) (v : Way) (s : Mark) → seen spot ≡ spot_through f pid o
    → seen (or_refreshed pid (refreshed o r) spot q d v s) ≡ (if pid == q && refreshes (way_of v) d o r then spot_behind f q d else seen s)
refreshed_told f pid (op.ReadFd fd count) (reply.Bytes k) spot q d way.Reading s is = set_told f _ fd q d _ s is
refreshed_told f pid (op.ReadFd fd count) (reply.Bytes k) spot q d way.Writing s is = not_set _ _ _ _ s _
refreshed_told f pid (op.WriteFd fd bytes) (reply.Number k) spot q d way.Writing s is = set_told f _ fd q d _ s is
refreshed_told f pid (op.WriteFd fd bytes) (reply.Number k) spot q d way.Reading s is = not_set _ _ _ _ s _
refreshed_told f pid _ r spot q d way.Reading s is = stays_if _ _ _
refreshed_told f pid _ r spot q d way.Writing s is = stays_if _ _ _

-- ---- all together
-- what a call leaves of a spot, by its reply and the frame after it
abbrev pub left : Frame → Frame → ℕ → Op → Reply → ℕ → ℕ → Way → Option Spot → Option Spot
left f g pid o r q d v was = if pid == q && refreshes (way_of v) d o r then spot_behind f q d else if pid == q && closes d o r then None
    else laws.unless (λ s. touches f (call_by pid o) g q (Some s.object) (Some s.entry)) was

-- the marks after each step of telling
pub record Steps (f g : Frame) (pid : ℕ) (o : Op) (r : Reply) (process object entry : Categories) (spot : Mark) (q d : ℕ) (v : Way) (was is : Mark) : Type 0 where
  pub first : Mark
  pub second : Mark
  pub third : Mark
  pub fourth : Mark
  pub by_process : first ≡ (if q == pid && other_process process g pid then None else was)
  pub by_object : second ≡ unless_object (target f pid o) (other_object object g (target f pid o)) first
  pub by_entry : third ≡ unless_entry (entry_target f pid o) (other_entry entry g (entry_target f pid o)) second
  pub by_close : fourth ≡ unless_closed pid o r q d third
  pub by_refresh : is ≡ or_refreshed pid (refreshed o r) spot q d v fourth

pub told_spot : (f g : Frame) (pid : ℕ) (o : Op) (r : Reply) (spot : Mark) (q d : ℕ) (v : Way) (was is : Mark) → seen spot ≡ spot_through f pid o
    → Steps f g pid o r (of_process (λ p. p.label) bottom f pid) (label_at f (target f pid o)) (label_of_entry f (entry_target f pid o)) spot q d v was is
    → seen is ≡ left f g pid o r q d v (seen was)
told_spot f g pid o r spot q d v was is through t =
    let moved = other_process (of_process (λ p. p.label) bottom f pid) g pid in
    let on_one : Spot → Bool = λ x. is_one (target f _ o) (Some x.object) && other_object (label_at f (target f pid o)) g (target f pid o) in
    let on_other : Spot → Bool = λ x. is_one (entry_target f pid o) (Some x.entry) && other_entry (label_of_entry f (entry_target f pid o)) g (entry_target f pid o) in
    let kept =
    ap seen t.by_entry ∙ entry_told _ _ t.second ∙ ap (laws.unless on_other) (ap seen t.by_object ∙ object_told _ _ t.first)
    ∙ ap (λ m. laws.unless on_other (laws.unless on_one (seen m))) (t.by_process ∙ ap (λ b. if b && moved then None else was) (turned q _))
    ∙ three (pid == q && moved) on_one on_other was in
    ap seen t.by_refresh ∙ refreshed_told f _ o r _ q d v _ through ∙ ap (λ m. if pid == q && refreshes (way_of v) d o r then spot_behind f q d else m)
    (ap seen t.by_close ∙ closed_told _ o r q d _ ∙ ap (λ m. if pid == q && closes d o r then None else m) kept)

-- ---- the descriptor that is refreshed
abbrev Stood : World → ℕ → ℕ → Type 0
Stood w pid fd = (b : OpenFile) × (behind w.frame pid fd ≡ Some b)

one_some : {A : Type 0} (a b : A) → Some a ≡ Some b → a ≡ b
one_some a b is = cc

refreshed_stood : (w : World) (place pid : ℕ) (o : Op) (r : Reply) (x : Fd × Way) → (step w place pid o).reply ≡ r → refreshed o r ≡ Some x
    → Stood w pid x.0.0 × (spot_through w.frame pid o ≡ spot_behind w.frame pid x.0.0)
refreshed_stood w place pid (op.ReadFd fd count) (reply.Bytes k) x said is =
    let facts = read_facts w _ _ fd _ k said in
    let one = ap (λ z. z.0.0) (one_some _ x is) in
    subst (λ n. Stood w pid n × (spot_behind w.frame pid fd ≡ spot_behind w.frame pid n)) one ((facts.through, facts.is_behind), refl)
refreshed_stood w place pid (op.WriteFd fd bytes) (reply.Number k) x said is =
    let facts = write_facts w _ _ fd _ k said in
    let one = ap (λ z. z.0.0) (one_some _ x is) in
    subst (λ n. Stood w pid n × (spot_behind w.frame pid fd ≡ spot_behind w.frame pid n)) one ((facts.through, facts.is_behind), refl)
refreshed_stood w place pid (op.ReadFd fd count) _ x said is = cc
refreshed_stood w place pid (op.WriteFd fd bytes) _ x said is = cc
refreshed_stood w place pid _ r x said is = cc

lived : (f : Frame) (pid : ℕ) (p : Process) → living (at f.processes pid) ≡ Some p → lives f pid ≡ true
lived f pid p is = ap (λ o. option_map_or (λ q. not q.ended) o false) (is_living _ p is) ∙ ap not (not_ended _ p is)

record_there : (o : Option Process) → option_map_or (λ q. not q.ended) o false ≡ true → is_some o ≡ true
record_there None h = cc
record_there (Some p) h = refl

seen_some : (s : Mark) (x : Spot) → seen s ≡ Some x → is_some s ≡ true
seen_some None x is = cc
seen_some (Some y) x is = refl

-- there is a row for it, where a table as large as the limit has one for each process that has one
abbrev HasRoom : Known → ℕ → Type 0
HasRoom m pid =
    (processes : List (Option Process)) → count_by is_some processes ≤ m.sizes.rows → ((q : ℕ) → has_row m q ≡ true → is_some (at processes q) ≡ true)
    → is_some (at processes pid) ≡ true → has_row m pid ≡ false → 0 < m.owners.free

pub can_refresh : (w : World) (place pid : ℕ) (o : Op) (m : Known) (spot : Mark) → Sound w → AreReady m w.frame → HasRoom m pid
    → seen spot ≡ spot_through w.frame pid o → (x : Fd × Way) → refreshed o (step w place pid o).reply ≡ Some x → CanRefresh m pid x spot
can_refresh w place pid o m spot s ready room through x is =
    let t = refreshed_stood w _ _ o _ x refl is in
    let b = is_behind _ _ _ _ t.0.1 in
    let alive = lived w.frame pid _ b.lives in
    let rows = ap (λ z. z.rows) ready.sizes in
    record {
      stands = seen_some _ _ (through ∙ t.1 ∙ ap (option_map (λ z. let y : Spot = record { entry = z.id; object = z.entry.object } in y)) t.0.1);
      descriptor = omega (arith, in_table b.process.fds x.0.0 t.0.0.id b.descriptor, s.processes.descriptors pid b.process (is_living _ b.process b.lives));
      room = λ none. room w.frame.processes (omega (arith, rows, s.limits.processes)) (λ q h. record_there _ (ready.rows q h)) (record_there _ alive) none;
    }

-- ---- rows
not_exited : (o : Op) (r : Reply) (x : Fd × Way) → refreshed o r ≡ Some x → has_exited o r ≡ false
not_exited (op.ReadFd fd count) r x is = refl
not_exited (op.WriteFd fd bytes) r x is = refl
not_exited _ r x is = cc

some_is : {A : Type 0} (x : Option A) → is_some x ≡ true → (y : A) × (x ≡ Some y)
some_is None h = cc
some_is (Some y) h = (y, refl)

pub rows_live : (w : World) (place pid : ℕ) (o : Op) (m n k : Known) → Sound w → length w.frame.processes ≤ 4294967295 → AreReady m w.frame
    → ((q : ℕ) → has_row n q ≡ (not (q == pid && has_exited o (step w place pid o).reply) && has_row m q))
    → ((q : ℕ) → has_row k q ≡ (q == pid && is_some (refreshed o (step w place pid o).reply) || has_row n q))
    → (q : ℕ) → has_row k q ≡ true → lives (step w place pid o).world.frame q ≡ true
rows_live w place pid o m n k s few ready closed set q has =
    let r = (step w place pid o).reply in
    elim (or_cases _ _ (sym (set q) ∙ has)) [
      | inl new ↦
          let both = and_parts _ _ new in
          let x = some_is _ both.1 in
          let t = refreshed_stood w _ _ o r x.0 refl x.1 in
          let b = is_behind _ _ _ _ t.0.1 in
          let alive = ap (lives w.frame) (eqb-true q pid both.0) ∙ lived w.frame pid _ b.lives in
          lives_on q w _ _ o s few (and_no _ _ (not_exited o r x.0 x.1)) alive
      | inr old ↦
          let both = and_parts _ _ (sym (closed q) ∙ old) in
          lives_on q w _ _ o s few (not-true _ both.0) (ready.rows q both.1)
    ]

pub still_sized : (w : World) (place pid : ℕ) (o : Op) (m n : Known) → AreReady m w.frame → n.sizes ≡ m.sizes → n.sizes ≡ sizes_of (step w place pid o).world.frame
still_sized w place pid o m n ready same =
    let f = fixed_step w _ _ o in
    same ∙ ready.sizes ∙ (λ i. record { rows = (ap (λ l. l.procs) (sym f.limits)) i; objects = sym f.objects i; opens = sym f.opens i })

-- ---- what has another label is there
no_label : (a b : Categories) → a ≡ b → not (same a b) ≡ true → ⊥
no_label a b is h = true≢false (sym h ∙ ap not ((same-decides a b).1 is))

row_inside : {A : Type 0} (label : A → Categories) (t u : List (Option A)) (n : ℕ) (was : Categories) → length u ≡ length t → was ≡ option_map_or label (at t n) bottom
    → not (same was (option_map_or label (at u n) bottom)) ≡ true → n < length t
row_inside {A} label t u n was long is moved = go (at t n) refl (at u n) refl
  where
    go : (x : Option A) → at t n ≡ x → (y : Option A) → at u n ≡ y → n < length t
    go (Some x) here y there = in_table t n x here
    go None here (Some y) there = omega (arith, long, in_table u n y there)
    go None here None there = absurd (no_label _ _ (is ∙ ap (λ z. option_map_or label z bottom) (here ∙ sym there)) moved)

pub object_inside : (f g : Frame) (o : ℕ) (was : Categories) → length g.objects ≡ length f.objects → was ≡ label_at f (Some o) → other_object was g (Some o) ≡ true → o < length f.objects
unfolding label_at
object_inside f g = row_inside (λ x. x.label) f.objects g.objects

pub entry_inside : (f g : Frame) (e : ℕ) (was : Categories) → length g.opens ≡ length f.opens → was ≡ label_of_entry f (Some e) → other_entry was g (Some e) ≡ true → e < length f.opens
entry_inside f g = row_inside (λ x. x.label) f.opens g.opens

-- ---- a call that looks at no label
pub known_call : (m : Known) (f : Frame) (pid : ℕ) (o : Op) → AreKnown m f → is_some (mark_through m pid o) ≡ true → IsKnown f pid o
known_call m f pid (op.ReadFd fd count) k h = k.known pid fd way.Reading h
known_call m f pid (op.WriteFd fd bytes) k h = k.known pid fd way.Writing h
known_call m f pid _ k h = cc

itself : (a : Categories) → not (same a a) ≡ false
itself a = ap not ((same-decides a a).1 refl)

touches_nothing : (f : Frame) (pid : ℕ) (o : Op) (q : ℕ) (object entry : Option ℕ) → touches f (call_by pid o) f q object entry ≡ false
touches_nothing f pid o q object entry = go _ _ _ _ _ _ (itself _) (itself _) (itself _)
  where
    go : (a b c x y z : Bool) → x ≡ false → y ≡ false → z ≡ false → (a && x || b && y || c && z) ≡ false
    go a b c x y z one two three = (λ i. and_no a x one i || and_no b y two i || and_no c z three i)

-- it closes nothing, and what it refreshes was marked
closes_not : (m : Known) (pid d : ℕ) (o : Op) (r : Reply) → is_some (mark_through m pid o) ≡ true → closes d o r ≡ false
closes_not m pid d (op.ReadFd fd count) r h = refl
closes_not m pid d (op.WriteFd fd bytes) r h = refl
closes_not m pid d _ r h = cc

refreshes_marked : (m : Known) (pid : ℕ) (o : Op) (r : Reply) (q d : ℕ) (v : Way) → is_some (mark_through m pid o) ≡ true
    → (pid == q && refreshes (way_of v) d o r) ≡ true → is_some (spot_of m q d v) ≡ true
refreshes_marked m pid (op.ReadFd fd count) (reply.Bytes k) q d way.Reading h on =
    let both = and_parts _ _ on in
    ap (λ n. is_some (spot_of m n d way.Reading)) (sym (eqb-true pid q both.0)) ∙ ap (λ n. is_some (spot_of m pid n way.Reading)) (sym (eqb-true fd d both.1)) ∙ h
refreshes_marked m pid (op.WriteFd fd bytes) (reply.Number k) q d way.Writing h on =
    let both = and_parts _ _ on in
    ap (λ n. is_some (spot_of m n d way.Writing)) (sym (eqb-true pid q both.0)) ∙ ap (λ n. is_some (spot_of m pid n way.Writing)) (sym (eqb-true fd d both.1)) ∙ h
refreshes_marked m pid (op.ReadFd fd count) _ q d way.Reading h on = absurd (true≢false (sym (and_parts _ false on).1))
refreshes_marked m pid (op.ReadFd fd count) _ q d way.Writing h on = absurd (true≢false (sym (and_parts _ false on).1))
refreshes_marked m pid (op.WriteFd fd bytes) _ q d way.Reading h on = absurd (true≢false (sym (and_parts _ false on).1))
refreshes_marked m pid (op.WriteFd fd bytes) _ q d way.Writing h on = absurd (true≢false (sym (and_parts _ false on).1))
refreshes_marked m pid _ r q d v h on = cc

known_spot : (m : Known) (f : Frame) (pid : ℕ) (o : Op) (r : Reply) (q d : ℕ) (v : Way) → AreKnown m f → is_some (mark_through m pid o) ≡ true
    → seen (spot_of m q d v) ≡ left f f pid o r q d v (seen (spot_of m q d v))
known_spot m f pid o r q d v k h = go (pid == q && refreshes (way_of v) d o r) refl
  where
    stays : seen (spot_of m q d v) ≡ (if pid == q && closes d o r then None else laws.unless (λ x. touches f (call_by pid o) f q (Some x.object) (Some x.entry)) (seen (spot_of m q d v)))
    stays =
        unless_never (λ x. touches f (call_by pid o) f q (Some x.object) (Some x.entry)) (λ x. touches_nothing f pid o q (Some x.object) (Some x.entry)) (seen (spot_of m q d v))
        ∙ ap (λ b. if b then None else laws.unless (λ x. touches f (call_by pid o) f q (Some x.object) (Some x.entry)) (seen (spot_of m q d v))) (sym (and_no (pid == q) _ (closes_not m pid d o r h)))

    go : (b : Bool) → (pid == q && refreshes (way_of v) d o r) ≡ b → seen (spot_of m q d v) ≡ (if b then spot_behind f q d else if pid == q && closes d o r then
        None else laws.unless (λ x. touches f (call_by pid o) f q (Some x.object) (Some x.entry)) (seen (spot_of m q d v)))
    go true on =
        let x = some_is _ (refreshes_marked m _ o r q d v h on) in
        ap seen x.1 ∙ sym (k.here q d v _ (ap seen x.1))
    go false on = stays

pub told_known : KnownChangesNothing → (m : Known) (w : World) (place pid : ℕ) (o : Op) → AreReady m w.frame → AreKnown m w.frame → is_some (mark_through m pid o) ≡ true → AreTold m m w place pid o
told_known law m w place pid o ready k h =
    let still = sym (known_still law w _ _ o (known_call m _ _ o k h)) in
    let r = (step w place pid o).reply in
    record {
      spots = λ q d v. known_spot m _ _ o r q d v k h ∙ ap (λ g. left w.frame g pid o r q d v (seen (spot_of m q d v))) still;
      ready = subst (λ g. AreReady m g) still ready;
      raised = omega arith;
    }

-- a look at the own label refreshes none, and touches none
own_refreshes : (v : Way) (d : ℕ) (r : Reply) → refreshes (way_of v) d op.SelfLabel r ≡ false
own_refreshes way.Reading d r = refl
own_refreshes way.Writing d r = refl

own_spot : (m : Known) (f : Frame) (pid : ℕ) (r : Reply) (q d : ℕ) (v : Way) → seen (spot_of m q d v) ≡ left f f pid op.SelfLabel r q d v (seen (spot_of m q d v))
own_spot m f pid r q d v =
    let here = seen (spot_of m q d v) in
    let stays = laws.unless (λ x. touches f (call_by pid op.SelfLabel) f q (Some x.object) (Some x.entry)) here in
    unless_never _ (λ x. touches_nothing f pid op.SelfLabel q (Some x.object) (Some x.entry)) _ ∙ ap (λ b. if b then None else stays) (sym (and_no _ _ refl))
    ∙ ap (λ b. if b then spot_behind f q d else if pid == q && closes d op.SelfLabel r then None else stays) (sym (and_no (pid == q) _ (own_refreshes v d r)))

pub told_own : (m : Known) (w : World) (place pid : ℕ) (o : Op) → AreReady m w.frame → o ≡ op.SelfLabel → AreTold m m w place pid o
told_own m w place pid o ready own = subst (λ c. AreTold m m w place pid c) (sym own) told
  where
    still : w.frame ≡ (step w place pid op.SelfLabel).world.frame
    still = sym (self_still w _ _)

    told : AreTold m m w place pid op.SelfLabel
    told = record {
      spots = λ q d v. own_spot m _ _ _ q d v
          ∙ ap (λ g. left w.frame g pid op.SelfLabel (step w place pid op.SelfLabel).reply q d v (seen (spot_of m q d v))) still;
      ready = subst (λ g. AreReady m g) still ready;
      raised = omega arith;
    }
