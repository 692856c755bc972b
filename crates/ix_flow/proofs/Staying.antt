-- What came into an object stays accounted for: it is at or below the object's label, or the object was let down since.
use Rattle.std.proofs.Common.{◌≡◌, ◌≤◌, ◌<◌, ◌+◌, not, ℕ, zero, suc, Bool, true, false, List, [], ◌∷◌, ◌++◌, length, Some, None, if◌then◌else◌, refl, sym, ap, ◌∙◌, arith, subst}
use Rattle.std.proofs.{Common.length-append, lemmas.{Bool.and_parts, List.Elements.{All-cons, All-drop, All-map, All-nil, All-take, All-weaker}}}
use Rattle.std.specs.{Option.option_map_or, Prelude.{All, slice_get}}
use Rattle.ix_label.specs.{Category.{Categories, bottom, leq}, Lattice.{leq-refl, leq-trans}}
use Rattle.ix_model.specs.{declared.{config.Config.Config, reply.Reply.Reply}, history.{AuditLog.{audit_log, label_at, of_process}, Events.{Op, Event}, History.{History, world_of, next}}}
use Rattle.ix_model.specs.{history.{History.with_entry, Step.step}, opening.Opening.opening_world, rows.Walks.{OpenFile, behind}, world.Contents.{held_at, offset_of, on_pipe, side}}
use Rattle.ix_model.specs.world.World.{World, Frame, Object, Process, HoldingOf, Holding, at}
use Rattle.ix_model.proofs.{sound.Carried.there_is, told.Logs.logged_run, words.{Living.is_living, Runs.{world_of-push, world_of-none}}}
use Rattle.ix_iso.proofs.{Facts.WriteFacts, Lowerings.lowerings_logged}
use Rattle.ix_flow.specs.{Laws.{IsInTheLog, IsAccountedFor, Below, LetDown, OfGap, OriginsStayBelow, ReadersAreAbove}, Lowerings.{falls, first_fall, label_of, place_of, via}}
use Rattle.ix_flow.specs.{Marks.{marked_in, marked_all, opening_marks, marks_after, marks_from, marks_of, read_through, read_by, marks_read}, Moves.bytes_written, Origins.Origin}
use Rattle.ix_flow.{specs.Origins.{Written, InConfig, Gap, Marked, gap_mark, marked_from, origins_of}, proofs.{Pushing.none_later, ReadWorlds.{read_step, write_step}}}
use Rattle.ix_flow.proofs.{Everywhere.{Everywhere, moved_all, on_one_side}, Pushing.{by_pushes, stays_there, stands_last, marks_push, caller_before, caller_at, fall_before, fall_at}}
use Rattle.ix_model.specs.history.Lowering as low
use Rattle.ix_model.specs.history.Events as op
use Rattle.ix_model.specs.declared.reply.Reply.TheVariants as reply

-- a write's place is one of the first so many
abbrev pub IsPast : ℕ → Origin → Type 0
IsPast n (Written place b) = (1 ≤ place) × (place ≤ n)
IsPast n _ = Unit

-- what came into an object, up to a place
pub record Known (h : History) (o : ℕ) (l : Categories) (m : Marked) : Type 0 where
  past : IsPast (length h.events) m.origin
  accounted : IsAccountedFor h o l m.origin

-- what stands in an object, wherever one stands
abbrev pub AllKnown : History → Type 0
AllKnown h = (o : ℕ) (x : Object) → at (world_of h).frame.objects o ≡ Some x → Everywhere (Known h o x.label) (held_at (marks_of h) o)

all_more : {P Q : Marked → Type 0} → ((m : Marked) → P m → Q m) → (ms : List Marked) → All P ms → All Q ms
all_more {P} {Q} leads ms all = All-weaker P Q leads ms all

everywhere_more : {P Q : Marked → Type 0} {s : HoldingOf Marked} → ((m : Marked) → P m → Q m) → Everywhere P s → Everywhere Q s
everywhere_more leads r = record { first = all_more leads _ r.first; second = all_more leads _ r.second }

all_marked : (P : Marked → Type 0) (origin : ℕ → Origin) → ((j byte : ℕ) → P (record { byte = byte; origin = origin j })) → (k : ℕ) (bytes : List ℕ) → All P (marked_from origin k bytes)
unfolding marked_from
all_marked P origin has k [] = All-nil P
all_marked P origin has k (b ∷ bytes) = All-cons P _ _ (has k b) (all_marked P _ has (suc k) bytes)

label_there : (f : Frame) (pid : ℕ) (p : Process) → at f.processes pid ≡ Some p → of_process (λ q. q.label) bottom f pid ≡ p.label
unfolding of_process
label_there f pid p is = ap (λ o. option_map_or (λ q. q.label) o bottom) is

-- ---- one entry more
module _ (h : History) (e : Event) where
  abbrev more : History
  more = with_entry h e

  abbrev last : ℕ
  last = length h.events + 1

  abbrev f : Frame
  f = (world_of h).frame

  abbrev g : Frame
  g = (next h e).world.frame

  pub label_stays : (origin : Origin) → IsPast (length h.events) origin → label_of more origin ≡ label_of h origin
  unfolding label_of
  label_stays (Written place b) past = caller_before _ 1 _ e _ (omega (arith, past.1))
  label_stays (InConfig o b) past = refl
  label_stays Gap past = refl

  via_stays : (o : ℕ) (origin : Origin) (p : ℕ) → via h o origin ≡ Some p → via more o origin ≡ Some p
  unfolding via
  via_stays o origin p is = fall_before _ 1 _ e o _ p is

  is_before : (origin : Origin) → IsPast (length h.events) origin → place_of origin < last
  is_before (Written place b) past = omega (arith, past.1)
  is_before (InConfig o b) past = omega arith
  is_before Gap past = omega arith

  via_next : (o : ℕ) (origin : Origin) → IsPast (length h.events) origin → via h o origin ≡ None → via more o origin ≡ (if falls f g o then Some last else None)
  unfolding via world_of
  via_next o origin past none = fall_at _ 1 _ e o _ _ refl (is_before _ past) none

  log_next : (world_of more).frame.log ≡ f.log ++ audit_log (world_of h) last (e ∷ [])
  log_next = ap (λ w. w.frame.log) (world_of-push h e) ∙ logged_run _ _ _

  log_stays : (place o : ℕ) → IsInTheLog h place o → IsInTheLog more place o
  log_stays place o r = record {
    index = r.index;
    pid = r.pid;
    was = r.was;
    now = r.now;
    line = ap (λ log. slice_get log r.index) log_next ∙ stays_there f.log _ r.index _ r.line;
    falls = r.falls;
  }

  log_has : (o : ℕ) (x y : Object) → at f.objects o ≡ Some x → at g.objects o ≡ Some y → leq x.label y.label ≡ false → IsInTheLog more last o
  log_has o x y is here down =
      record {
        index = length f.log;
        pid = e.pid;
        was = x.label;
        now = y.label;
        line = ap (λ log. slice_get log (length f.log)) (ap (λ w. w.frame.log) (world_of-push h e) ∙ (lowerings_logged _ _ e (low.OfObject o x y is here down)).log) ∙ stands_last f.log _;
        falls = down;
      }

  falls_is : (o : ℕ) (x y : Object) → at f.objects o ≡ Some x → at g.objects o ≡ Some y → falls f g o ≡ not (leq x.label y.label)
  unfolding falls
  falls_is o x y is here = ap (λ a. option_map_or (λ u. option_map_or (λ v. not (leq u.label v.label)) (at g.objects o) false) a false) is
      ∙ ap (λ b. option_map_or (λ v. not (leq x.label v.label)) b false) here

  accounted_next : (o : ℕ) (x y : Object) (origin : Origin) → at f.objects o ≡ Some x → at g.objects o ≡ Some y → IsPast (length h.events) origin → IsAccountedFor h o x.label origin
      → IsAccountedFor more o y.label origin
  accounted_next o x y origin is here past (LetDown p down log) = LetDown p (via_stays o _ p down) (log_stays p o log)
  accounted_next o x y origin is here past (OfGap gap) = OfGap gap
  accounted_next o x y origin is here past (Below none below) = go _ refl
    where
      found : via more o origin ≡ (if not (leq x.label y.label) then Some last else None)
      found = via_next o _ past none ∙ ap (λ b. if b then Some last else None) (falls_is o x y is here)

      go : (b : Bool) → leq x.label y.label ≡ b → IsAccountedFor more o y.label origin
      go true rises = Below (found ∙ ap (λ b. if not b then Some last else None) rises) (ap (λ l. leq l y.label) (label_stays _ past) ∙ leq-trans _ _ _ below rises)
      go false down = LetDown _ (found ∙ ap (λ b. if not b then Some last else None) down) (log_has o x y is here down)

  past_next : (origin : Origin) → IsPast (length h.events) origin → IsPast (length more.events) origin
  past_next (Written place b) past = (past.0, omega (arith, past.1, length-append h.events (e ∷ [])))
  past_next (InConfig o b) past = tt
  past_next Gap past = tt

  known_next : (o : ℕ) (x y : Object) → at f.objects o ≡ Some x → at g.objects o ≡ Some y → (m : Marked) → Known h o x.label m → Known more o y.label m
  known_next o x y is here m known = record { past = past_next _ known.past; accounted = accounted_next o x y _ is here known.past known.accounted }

  -- ---- what is written
  written_known : (c : Op) (fd : ℕ) (bytes : List ℕ) (b : OpenFile) (k : ℕ) → c ≡ op.WriteFd fd bytes → behind f e.pid fd ≡ Some b → (step (world_of h) last e.pid c).reply ≡ reply.Number k
      → WriteFacts e.pid f b (step (world_of h) last e.pid c).world.frame
  written_known c fd bytes b k is there answers = subst (λ o. (step (world_of h) last e.pid o).reply ≡ reply.Number k → WriteFacts e.pid f b (step (world_of h) last e.pid o).world.frame)
      (sym is) (λ r. write_step _ _ _ fd _ k b r there) answers

  pub label_new : (b : ℕ) → label_of more (Written last b) ≡ of_process (λ p. p.label) bottom g e.pid
  unfolding label_of world_of
  label_new b = caller_at _ 1 _ e _ refl

  via_new : (o b : ℕ) → via more o (Written last b) ≡ None
  unfolding via
  via_new o b = none_later _ 1 _ o _ (omega (arith, length-append h.events (e ∷ [])))

  known_new : (fd : ℕ) (bytes : List ℕ) (b : OpenFile) (k o : ℕ) (y : Object) → e.op ≡ op.WriteFd fd bytes → behind f e.pid fd ≡ Some b → (next h e).reply ≡ reply.Number k → b.entry.object ≡ o
      → at g.objects o ≡ Some y
      → All (Known more o y.label) (marked_from (Written last) 0 (bytes_written e.op))
  known_new fd bytes b k o y is there answers same here =
      let facts = written_known _ fd bytes b k is there answers in
      let label = label_new 0
      ∙ label_there g _ facts.caller (ap (λ t. at t e.pid) facts.processes ∙ is_living _ facts.caller facts.is_caller) in
      let below : leq facts.caller.label y.label ≡ true = (facts.takes y (ap (at g.objects) same ∙ here)).0 in
      all_marked (Known more o y.label) (Written last)
      (λ j byte. record {
        past = (omega arith, omega (arith, length-append h.events (e ∷ [])));
        accounted =
            Below (via_new o j) (ap (λ l. leq l y.label) (label_new j ∙ sym (label_new 0) ∙ label) ∙ below);
      }) 0
      (bytes_written e.op)

  -- ---- the whole entry
  pub marks_next : marks_of more ≡ marks_after (world_of h) last e (marks_of h)
  unfolding marks_of world_of
  marks_next = marks_push _ 1 _ e _

  all_known_next : AllKnown h → AllKnown more
  all_known_next known o y there =
      let here : at g.objects o ≡ Some y = ap (λ (w : World). at w.frame.objects o) (sym (world_of-push h e)) ∙ there in
      subst (λ (ms : List (HoldingOf Marked)). Everywhere (Known more o y.label) (held_at ms o)) (sym marks_next)
      (moved_all (Known more o y.label) o gap_mark (marked_from (Written last) 0 (bytes_written e.op)) (world_of h) e.pid e.op (next h e) (marks_of h)
      (record { past = tt; accounted = OfGap refl })
      (λ fd bytes b k is behind_is answers same. known_new fd bytes b k o y is behind_is answers same here)
      (λ stays.
      let x = there_is (at f.objects o) (and_parts _ _ stays).0 in
      everywhere_more (known_next o x.0 y x.1 here) (known o x.0 x.1)))

-- ---- no entry
opening_at : (k : ℕ) (hs : List Holding) (o : ℕ) → held_at (marked_all k hs) o ≡ marked_in (k + o) (held_at hs o)
unfolding marked_all marked_from
opening_at k [] o = refl
opening_at k (h ∷ hs) zero = ap (λ n. marked_in n h) (omega arith)
opening_at k (h ∷ hs) (suc o) = opening_at _ hs o ∙ ap (λ n. marked_in n (held_at hs o)) (omega arith)

module _ (c : Config) where
  abbrev none : History
  none = record { config = c; events = [] }

  known_first : (o : ℕ) (x : Object) → at (opening_world c).frame.objects o ≡ Some x → (j byte : ℕ) → Known none o x.label (record { byte = byte; origin = InConfig o j })
  unfolding via first_fall label_of label_at
  known_first o x here j byte = record { past = tt; accounted = Below refl (ap (λ a. leq (option_map_or (λ y. y.label) a bottom) x.label) here ∙ leq-refl _) }

  pub marks_first : (o : ℕ) → held_at (marks_of none) o ≡ marked_in o (held_at (opening_world c).content.holdings o)
  unfolding marks_of marks_from opening_marks
  marks_first o = opening_at 0 _ o ∙ ap (λ n. marked_in n (held_at (opening_world c).content.holdings o)) (omega arith)

  all_known_first : AllKnown none
  all_known_first o x there =
      let here = ap (λ w. at w.frame.objects o) (sym (world_of-none c)) ∙ there in
      subst (λ s. Everywhere (Known none o x.label) s) (sym (marks_first o)) (record {
        first = all_marked (Known none o x.label) _ (known_first o x here) 0 _;
        second = all_marked (Known none o x.label) _ (known_first o x here) 0 _;
      })

-- ---- all entries
pub all_known : (h : History) → AllKnown h
all_known h = by_pushes _ (all_known_first h.config)
    (λ events e known. all_known_next (record { config = h.config; events = events }) e known) _

-- so all that stands in an object came in by then
pub origins_past : (h : History) (o end : ℕ) (x : Object) → at (world_of h).frame.objects o ≡ Some x → All (IsPast (length h.events)) (origins_of (side end (held_at (marks_of h) o)))
origins_past h o end x is = All-map (IsPast (length h.events)) (λ m. m.origin) _
    (all_more (λ (m : Marked) (known : Known h o x.label m). known.past) _ (on_one_side (Known h o x.label) end (held_at (marks_of h) o) (all_known h o x is)))

accounted_for : (h : History) (o : ℕ) (l : Categories) (m : Marked) → Known h o l m → IsAccountedFor h o l m.origin
accounted_for h o l m known = known.accounted

pub origins_below : (h : History) → OriginsStayBelow h
origins_below h = record {
  first = λ o x here. all_more (accounted_for h o _) _ (all_known h o x here).first;
  second = λ o x here. all_more (accounted_for h o _) _ (all_known h o x here).second;
}

-- ---- reads
seen_below : (h : History) (o : ℕ) (a b : Categories) → leq a b ≡ true → (m : Marked) → Known h o a m → IsAccountedFor h o b m.origin
seen_below h o a b rises m known = go _ known.accounted
  where
    go : (origin : Origin) → IsAccountedFor h o a origin → IsAccountedFor h o b origin
    go origin (Below none below) = Below none (leq-trans _ a b below rises)
    go origin (LetDown p down log) = LetDown p down log
    go origin (OfGap gap) = OfGap gap

read_below : (h : History) (pid fd count : ℕ) (b : OpenFile) (r : Reply) → (step (world_of h) (length h.events + 1) pid (op.ReadFd fd count)).reply ≡ r → behind (world_of h).frame pid fd ≡ Some b
    → All (λ (m : Marked). IsAccountedFor h b.entry.object (of_process (λ p. p.label) bottom (step (world_of h) (length h.events + 1) pid (op.ReadFd fd count)).world.frame pid) m.origin)
    (read_through (world_of h) (marks_of h) (Some b) r)
read_below h pid fd count b (reply.Bytes k) answers is =
    let facts = read_step _ _ _ fd _ k b answers is in
    let g = (step _ _ _ _).world.frame in
    let rises = ap (leq facts.object.label) (label_there g _ facts.process (is_living _ _ facts.lives)) ∙ facts.sees_object in
    let P : Marked → Type 0 = λ m. IsAccountedFor h b.entry.object (of_process (λ p. p.label) bottom g pid) m.origin in
    All-take P k _ (All-drop P (if on_pipe (world_of h).frame b then 0 else offset_of (world_of h).content b.id) _
    (all_more (seen_below h _ _ _ rises) _ (on_one_side _ b.entry.end _ (all_known h b.entry.object facts.object facts.is_object))))
read_below h pid fd count b r answers is = All-nil _

pub marks_read_is : (h : History) (e : Event) (fd count : ℕ) (b : OpenFile) → e.op ≡ op.ReadFd fd count → behind (world_of h).frame e.pid fd ≡ Some b
    → marks_read h e ≡ read_through (world_of h) (marks_of h) (Some b) (next h e).reply
unfolding read_by
marks_read_is h e fd count b is there = ap (λ o. read_by (world_of h) (marks_of h) e.pid o (next h e)) is ∙ ap (λ s. read_through (world_of h) (marks_of h) s (next h e).reply) there

pub readers_above : ReadersAreAbove
readers_above h e fd count b is there =
    subst (λ ms. All (λ m. IsAccountedFor h b.entry.object (of_process (λ p. p.label) bottom (next h e).world.frame e.pid) m.origin) ms)
    (sym (marks_read_is h e fd _ b is there))
    (subst (λ (o : Op). All (λ (m : Marked). IsAccountedFor h b.entry.object (of_process (λ p. p.label) bottom (step (world_of h) (length h.events + 1) e.pid o).world.frame e.pid) m.origin)
    (read_through (world_of h) (marks_of h) (Some b) (step (world_of h) (length h.events + 1) e.pid o).reply)) (sym is)
    (read_below h _ fd _ b _ refl there))
