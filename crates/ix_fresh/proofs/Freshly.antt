-- What is known of fresh descriptors, and what keeps them so.
use Rattle.std.proofs.Common.{◌≡◌, ◌==◌, ◌+◌, ◌++◌, length, arith, ◌&&◌, ◌||◌, not, ℕ, suc, Bool, true, false, true≢false, List, [], ◌∷◌, Option, Some, None}
use Rattle.std.proofs.{Common.{is_some, option_map, refl, sym, ap, ◌∙◌, subst, inl, inr}, lemmas.Bool.{and_parts, and_right, or_cases, eqb-true, not-true, not-false}}
use Rattle.ix_label.specs.{Category.{Categories, bottom, leq, same}, Lattice.{same-decides, join-least}}
use Rattle.ix_model.specs.{world.World.{World, Frame, at, is_pipe}, rows.{Walks.{OpenFile, behind}, Telling.told, Table.row}, history.Events.{Op, Event}}
use Rattle.ix_model.specs.history.{AuditLog.{label_at, of_process, is_answer}, Step.{step, step_of, run, answer, plainly, read_answer, write_answer}}
use Rattle.ix_model.specs.{laws.Sound.Sound, declared.reply.Reply.Reply, history.Freshness.{Way, Reading, Writing, refreshes, relabels, label_through, fresh_after, fresh_from, is_fresh}}
use Rattle.ix_model.proofs.{words.{Answered.{passed, step_frame}, Transfers.one_there}, sound.{Soundly.sound_step, Reaching.sound_run}}
use Rattle.ix_fresh.{specs.{Known.{Known, is_level}, Laws.{is_closed, fresh_by_touch}}, proofs.Through.{ReadFacts, WriteFacts, read_known, write_known}}
use Rattle.ix_fresh.specs.Touched.{target, entry_target, is_one, label_of_entry, touches, moved_process, moved_object, moved_entry}
use Rattle.ix_fresh.proofs.Remaining.{Remains, remains, process_label, object_label, entry_label, labels_stay_but}
use Rattle.ix_model.specs.history.Events as op
use Rattle.ix_model.specs.declared.reply.Reply.TheVariants as reply

-- ---- what a refreshing call leaves known
read_answered : (w : World) (count : ℕ) (b : Option OpenFile) (r : Reply) (g : Frame) (k : ℕ) → (read_answer w count b r g).reply ≡ reply.Bytes k → is_answer r ≡ true
unfolding read_answer plainly
read_answered w count (Some e) (reply.No why) g k h = cc
read_answered w count None (reply.No why) g k h = cc
read_answered w count b r g k h = refl

write_answered : (w : World) (new : List ℕ) (b : Option OpenFile) (r : Reply) (g : Frame) (k : ℕ) → (write_answer w new b r g).reply ≡ reply.Number k → is_answer r ≡ true
unfolding write_answer plainly
write_answered w new (Some e) (reply.No why) g k h = cc
write_answered w new None (reply.No why) g k h = cc
write_answered w new b r g k h = refl

module _ (w : World) (place pid : ℕ) where
  pub read_facts : (fd count k : ℕ) → (step w place pid (op.ReadFd fd count)).reply ≡ reply.Bytes k → ReadFacts pid fd w.frame (step w place pid (op.ReadFd fd count)).world.frame
  unfolding step answer row
  read_facts fd count k h =
      let t = told w _ _ in
      subst (λ g. ReadFacts pid fd w.frame g) (sym (step_frame w place pid (op.ReadFd fd count)))
      (passed t _ _ _ _ (λ r g. ReadFacts pid fd w.frame g) (read_known t _ fd _ _) (read_answered w _ _ _ _ k h))

  pub write_facts : (fd : ℕ) (bytes : List ℕ) (k : ℕ) → (step w place pid (op.WriteFd fd bytes)).reply ≡ reply.Number k → WriteFacts pid fd w.frame (step w place pid (op.WriteFd fd bytes)).world.frame
  unfolding step answer row
  write_facts fd bytes k h =
      let t = told w _ _ in
      subst (λ g. WriteFacts pid fd w.frame g) (sym (step_frame w place pid (op.WriteFd fd bytes)))
      (passed t _ _ _ _ (λ r g. WriteFacts pid fd w.frame g) (write_known t _ fd _) (write_answered w _ _ _ _ k h))

place_of : {to through : Option ℕ} {b : OpenFile} {f g : Frame} {pid fd : ℕ} (r : Remains to through b f g pid fd) → r.entry.object ≡ b.entry.object
place_of r = ap (λ z. z.object) r.same_entry.plain

module _ (w : World) (s : Sound w) (place : ℕ) (seat line pid : ℕ) where
  entry_of : Op → Event
  entry_of c = search

  read_leaves : (fd count k : ℕ) → (step w place pid (op.ReadFd fd count)).reply ≡ reply.Bytes k → Known Reading (step w place pid (op.ReadFd fd count)).world.frame pid fd
  unfolding entry_of
  read_leaves fd count k h =
      let g : Frame = (step w place pid (op.ReadFd fd count)).world.frame in
      let facts = read_facts w place pid fd count k h in
      let r = remains w s place (entry_of (op.ReadFd fd count)) pid fd facts.through facts.is_behind (and_right _ _ refl) in
      let object : at g.objects r.entry.object ≡ Some facts.object = ap (at g.objects) (place_of r) ∙ facts.is_object in
      record {
        process = facts.process;
        lives = facts.lives;
        entry = record { id = facts.through.id; entry = r.entry };
        is_behind = r.is_behind;
        object = facts.object;
        is_object = object;
        level = join-least facts.object.label r.entry.label facts.process.label facts.sees (facts.entry r.entry r.stands);
        taken_in = λ file. facts.taken_in file r.entry r.stands;
      }

  write_leaves : (fd : ℕ) (bytes : List ℕ) (k : ℕ) → (step w place pid (op.WriteFd fd bytes)).reply ≡ reply.Number k → Known Writing (step w place pid (op.WriteFd fd bytes)).world.frame pid fd
  unfolding entry_of
  write_leaves fd bytes k h =
      let g : Frame = (step w place pid (op.WriteFd fd bytes)).world.frame in
      let facts = write_facts w place pid fd bytes k h in
      let r = remains w s place (entry_of (op.WriteFd fd bytes)) pid fd facts.through facts.is_behind (and_right _ _ refl) in
      let one : facts.object ≡ r.was = one_there (at w.frame.objects facts.through.entry.object) facts.object r.was facts.is_object r.is_was in
      let pipes : is_pipe r.object ≡ is_pipe facts.object = ap is_pipe r.same_object.plain ∙ ap is_pipe (sym one) in
      record {
        process = facts.process;
        lives = facts.lives;
        entry = record { id = facts.through.id; entry = r.entry };
        is_behind = r.is_behind;
        object = r.object;
        is_object = ap (at g.objects) (place_of r) ∙ r.is_object;
        level = join-least facts.process.label r.entry.label r.object.label (facts.takes r.object r.is_object) (facts.entry r.object r.entry r.is_object r.stands);
        taken_in = λ file. facts.taken_in (sym pipes ∙ file) r.entry r.stands;
      }

  read_refreshes : (fd d count : ℕ) (r : Reply) → (step w place pid (op.ReadFd d count)).reply ≡ r → refreshes Reading fd (op.ReadFd d count) r ≡ true
      → Known Reading (step w place pid (op.ReadFd d count)).world.frame pid fd
  read_refreshes fd d count (reply.Bytes k) is h = subst (λ (n : ℕ). Known Reading (step w place pid (op.ReadFd d count)).world.frame pid n) (eqb-true d fd h) (read_leaves d count k is)
  read_refreshes fd d count _ is h = cc

  write_refreshes : (fd d : ℕ) (bytes : List ℕ) (r : Reply) → (step w place pid (op.WriteFd d bytes)).reply ≡ r
      → refreshes Writing fd (op.WriteFd d bytes) r ≡ true → Known Writing (step w place pid (op.WriteFd d bytes)).world.frame pid fd
  write_refreshes fd d bytes (reply.Number k) is h = subst (λ (n : ℕ). Known Writing (step w place pid (op.WriteFd d bytes)).world.frame pid n) (eqb-true d fd h) (write_leaves d bytes k is)
  write_refreshes fd d bytes _ is h = cc

  refreshed : (way : Way) (fd : ℕ) (c : Op) → refreshes way fd c (step w place pid c).reply ≡ true → Known way (step w place pid c).world.frame pid fd
  refreshed Reading fd (op.ReadFd d count) h = read_refreshes fd d count _ refl h
  refreshed Writing fd (op.WriteFd d bytes) h = write_refreshes fd d bytes _ refl h
  refreshed Reading fd c h = cc
  refreshed Writing fd c h = cc

-- ---- what stays known
same_label : (a b c d : Categories) → same a b ≡ true → a ≡ c → b ≡ d → d ≡ c
same_label a b c d h left right = sym right ∙ sym ((same-decides a b).0 h) ∙ left

module _ (w : World) (s : Sound w) (place : ℕ) (e : Event) where
  abbrev after : Frame
  after = (step_of w place e).world.frame

  -- whether the labels of a descriptor that stands were changed, by its numbers
  relabels_there : (pid fd : ℕ) (b : OpenFile) → behind w.frame pid fd ≡ Some b
      → relabels w.frame after pid fd ≡ not (same (of_process (λ p. p.label) bottom w.frame pid) (of_process (λ p. p.label) bottom after pid)
      && same (label_at w.frame (Some b.entry.object)) (label_at after (Some b.entry.object))
      && same (label_of_entry w.frame (Some b.id)) (label_of_entry after (Some b.id)))
  relabels_there pid fd b is =
      ap (λ x. not (same (of_process (λ p. p.label) bottom w.frame pid) (of_process (λ p. p.label) bottom after pid)
      && same (label_at w.frame (option_map (λ y. y.entry.object) x)) (label_at after (option_map (λ y. y.entry.object) x))
      && same (label_through w.frame x) (label_through after x))) is

  stays_known : (way : Way) (pid fd : ℕ) → is_closed w place e pid fd ≡ false → relabels w.frame after pid fd ≡ false → Known way w.frame pid fd → Known way after pid fd
  stays_known way pid fd kept still k =
      let b = k.entry in
      let r = remains w s place e pid fd b k.is_behind kept in
      let all = not-false _ (sym (relabels_there pid fd b k.is_behind) ∙ still) in
      let both = and_parts _ _ all in
      let first = and_parts _ _ both.0 in
      let process : r.process.label ≡ k.process.label = same_label _ _ _ _ first.0 (process_label w.frame pid k.process k.lives) (process_label after pid r.process r.lives) in
      let object : r.object.label ≡ k.object.label = same_label _ _ _ _ first.1 (object_label w.frame b.entry.object k.object k.is_object) (object_label after b.entry.object r.object r.is_object) in
      let entry : r.entry.label ≡ b.entry.label = same_label _ _ _ _ both.1 (entry_label w.frame b.id b.entry r.stood) (entry_label after b.id r.entry r.stands) in
      let one : k.object ≡ r.was = one_there (at w.frame.objects b.entry.object) k.object r.was k.is_object r.is_was in
      let pipes : is_pipe r.object ≡ is_pipe k.object = ap is_pipe r.same_object.plain ∙ ap is_pipe (sym one) in
      record {
        process = r.process;
        lives = r.lives;
        entry = record { id = b.id; entry = r.entry };
        is_behind = r.is_behind;
        object = r.object;
        is_object = ap (at after.objects) (place_of r) ∙ r.is_object;
        level = (λ i. is_level way (process i) (object i) (entry i)) ∙ k.level;
        taken_in = λ file. (λ i. leq (process i) (entry i)) ∙ k.taken_in (sym pipes ∙ file);
      }

  known_after : (pid fd : ℕ) (way : Way) (was : Bool) → (was ≡ true → Known way w.frame pid fd) → fresh_after w e (step_of w place e) pid fd way was ≡ true → Known way after pid fd
  known_after pid fd way was known h = elim (or_cases _ _ h) [
    | inl new ↦
        let both = and_parts (e.pid == pid) (refreshes way fd e.op (step_of w place e).reply) new in
        subst (λ (n : ℕ). Known way after n fd) (eqb-true e.pid pid both.0) (refreshed w s place e.seat e.line e.pid way fd e.op both.1)
    | inr old ↦
        let both = and_parts _ _ old in
        let first = and_parts _ _ both.0 in
        stays_known way pid fd (not-true _ first.1) (not-true _ both.1) (known first.0)
  ]

fresh_known : (w : World) (place : ℕ) (events : List Event) (pid fd : ℕ) (way : Way) (was : Bool) → Sound w → (was ≡ true → Known way w.frame pid fd)
    → fresh_from was w place events pid fd way ≡ true → Known way (run w place events).frame pid fd
unfolding fresh_from
fresh_known w place [] pid fd way was s known h = known h
fresh_known w place (e ∷ events) pid fd way was s known h =
    fresh_known (step_of w place e).world (suc place) events pid fd way _ (sound_step w place e.pid e.op s)
    (λ fresh. known_after w s place e pid fd way was known fresh) h

pub fresh_is_known : (w : World) (events : List Event) (pid fd : ℕ) (way : Way) → Sound w → is_fresh w events pid fd way ≡ true → Known way (run w 1 events).frame pid fd
unfolding is_fresh
fresh_is_known w events pid fd way s h = fresh_known w 1 events pid fd way false s (λ no. absurd (true≢false (sym no))) h

-- ---- what makes a descriptor stay fresh or not
same_itself : (a b : Categories) → b ≡ a → not (same a b) ≡ false
same_itself a b is = ap not ((same-decides a b).1 (sym is))

-- none of three was left where one was
not_all : (a b c : Bool) → not (a && b && c) ≡ (not a || not b || not c)
not_all true true c = refl
not_all true false c = refl
not_all false b c = refl

is_number : (o : Option ℕ) (n : ℕ) → is_one o (Some n) ≡ true → o ≡ Some n
is_number None n h = cc
is_number (Some m) n h = ap Some (eqb-true m n h)

-- a change only where a test passes, told by the test
told_by : (test : Bool) (here there : Bool) → (test ≡ true → here ≡ there) → (test ≡ false → here ≡ false) → here ≡ (test && there)
told_by true here there on off = on refl
told_by false here there on off = off refl

module _ (w : World) (s : Sound w) (place : ℕ) (e : Event) where
  abbrev next : Frame
  next = (step_of w place e).world.frame

  pub relabels_as_touched : (pid fd : ℕ) (b : OpenFile) → behind w.frame pid fd ≡ Some b → is_closed w place e pid fd ≡ false
      → relabels w.frame next pid fd ≡ touches w.frame e next pid (Some b.entry.object) (Some b.id)
  relabels_as_touched pid fd b is kept =
      let l = labels_stay_but w s place e pid fd b is kept in
      let t = target w.frame e.pid e.op in
      let n = entry_target w.frame e.pid e.op in
      let process : moved_process w.frame next pid ≡ (e.pid == pid && moved_process w.frame next e.pid) =
      told_by _ _ _ (λ one. ap (moved_process w.frame next) (sym (eqb-true e.pid pid one))) (λ other. same_itself _ _ (l.process other)) in
      let object : moved_object w.frame next (Some b.entry.object) ≡ (is_one t (Some b.entry.object) && moved_object w.frame next t) =
      told_by _ _ _ (λ one. ap (moved_object w.frame next) (sym (is_number t b.entry.object one))) (λ other. same_itself _ _ (l.object other)) in
      let entry : moved_entry w.frame next (Some b.id) ≡ (is_one n (Some b.id) && moved_entry w.frame next n) =
      told_by _ _ _ (λ one. ap (moved_entry w.frame next) (sym (is_number n b.id one))) (λ other. same_itself _ _ (l.entry other)) in
      relabels_there w s place e pid fd b is
      ∙ not_all _ _ _
      ∙ (λ i. process i || object i || entry i)

  stays_fresh : (pid fd : ℕ) (b : Option OpenFile) → behind w.frame pid fd ≡ b → (was : Bool) → (was ≡ true → is_some b ≡ true) → (closed : Bool)
      → is_closed w place e pid fd ≡ closed → (was && not closed && not (relabels w.frame next pid fd))
      ≡ (was && not closed && not (touches w.frame e next pid (option_map (λ y. y.entry.object) b) (option_map (λ y. y.id) b)))
  stays_fresh pid fd b is false there closed shut = refl
  stays_fresh pid fd b is true there true shut = refl
  stays_fresh pid fd None is true there false shut = absurd (true≢false (sym (there refl)))
  stays_fresh pid fd (Some b) is true there false shut = ap not (relabels_as_touched pid fd b is shut)

pub freshness_by_touch : (w : World) (place : ℕ) (e : Event) (pid fd : ℕ) (way : Way) (was : Bool) → Sound w
    → (was ≡ true → is_some (behind w.frame pid fd) ≡ true) → fresh_after w e (step_of w place e) pid fd way was ≡ fresh_by_touch w place e pid fd way was
freshness_by_touch w place e pid fd way was s there =
    ap (λ x. e.pid == pid && refreshes way fd e.op (step_of w place e).reply || x) (stays_fresh w s place e pid fd (behind w.frame pid fd) refl was there
    (is_closed w place e pid fd) refl)

-- ---- along a history
-- with one entry more
fresh_push : (was : Bool) (w : World) (place : ℕ) (events : List Event) (e : Event) (pid fd : ℕ) (way : Way)
    → fresh_from was w place (events ++ e ∷ []) pid fd way ≡ fresh_after (run w place events) e (step_of (run w place events) (length events + place) e) pid fd
    way (fresh_from was w place events pid fd way)
unfolding fresh_from
fresh_push was w place [] e pid fd way = ap (λ n. fresh_after w e (step_of w n e) pid fd way was) (let z : place ≡ 0 + place = omega arith in z)
fresh_push was w place (x ∷ events) e pid fd way =
    let first = fresh_after w x (step_of w place x) pid fd way was in
    let v = (step_of w place x).world in
    fresh_push first v _ events e pid fd way
    ∙ ap (λ n. fresh_after (run v (suc place) events) e (step_of (run v (suc place) events) n e) pid fd way (fresh_from first v (suc place) events pid fd way))
    (let z : length events + suc place ≡ suc (length events) + place = omega arith in z)

pub fresh_more : (w : World) (events : List Event) (e : Event) (pid fd : ℕ) (way : Way)
    → is_fresh w (events ++ e ∷ []) pid fd way ≡ fresh_after (run w 1 events) e (step_of (run w 1 events) (length events + 1) e) pid fd way
    (is_fresh w events pid fd way)
unfolding is_fresh
fresh_more w events e pid fd way = fresh_push _ w 1 _ e _ fd _

pub fresh_along : (w : World) (events : List Event) (e : Event) (pid fd : ℕ) (way : Way) → Sound w
    → is_fresh w (events ++ e ∷ []) pid fd way ≡ fresh_by_touch (run w 1 events) (length events + 1) e pid fd way (is_fresh w events pid fd way)
fresh_along w events e pid fd way s =
    fresh_more w events e pid fd way
    ∙ freshness_by_touch (run w 1 events) (length events + 1) e pid fd way (is_fresh w events pid fd way) (sound_run w 1 events s)
    (λ fresh. ap is_some (fresh_is_known w events pid fd way s fresh).is_behind)
