-- The spots of fresh descriptors, along histories.
use Rattle.std.proofs.Common.{◌≡◌, ◌==◌, ◌+◌, ◌++◌, length, arith, ◌&&◌, ◌||◌, not, ℕ, suc, Bool, true, false, true≢false, List, [], ◌∷◌, Option, Some, None}
use Rattle.std.proofs.{Common.{is_some, option_map, if◌then◌else◌, refl, sym, ap, ◌∙◌}, lemmas.Bool.{and_parts, and_right, eqb-true}}
use Rattle.ix_model.specs.{world.World.{World, Frame, Open}, rows.Walks.{OpenFile, behind}, history.{Step.{step, step_of, run}, Events.{Op, Event}}, declared.reply.Reply.Reply}
use Rattle.ix_model.{specs.{history.Freshness.{Way, Reading, Writing, refreshes, closes, relabels, fresh_after, is_fresh}, laws.Sound.Sound}, proofs.sound.Reaching.sound_run}
use Rattle.ix_fresh.specs.{Touched.touches, Laws.{Spot, is_closed, spot_behind, fresh_spot, unless, spot_after}}
use Rattle.ix_fresh.proofs.{Remaining.remains, Freshly.{read_facts, write_facts, relabels_as_touched, fresh_is_known, fresh_more}}
use Rattle.ix_model.specs.history.Events as op
use Rattle.ix_model.specs.declared.reply.Reply.TheVariants as reply

abbrev spot_of : OpenFile → Spot
spot_of b = record { entry = b.id; object = b.entry.object }

-- ---- a refreshed descriptor stood, and isn't closed
record Stood (w : World) (pid fd : ℕ) (c : Op) (r : Reply) : Type 0 where
  through : OpenFile
  is_behind : behind w.frame pid fd ≡ Some through
  open_still : closes fd c r ≡ false

module _ (w : World) (place pid : ℕ) where
  stood_read : (fd d count : ℕ) (r : Reply) → (step w place pid (op.ReadFd d count)).reply ≡ r → refreshes Reading fd (op.ReadFd d count) r ≡ true → Stood w pid fd (op.ReadFd d count) r
  stood_read fd d count (reply.Bytes k) is h =
      let facts = read_facts w _ _ d _ k is in
      let is_behind = ap (behind w.frame pid) (sym (eqb-true d fd h)) ∙ facts.is_behind in search
  stood_read fd d count _ is h = cc

  stood_write : (fd d : ℕ) (bytes : List ℕ) (r : Reply) → (step w place pid (op.WriteFd d bytes)).reply ≡ r → refreshes Writing fd (op.WriteFd d bytes) r ≡ true → Stood w pid fd (op.WriteFd d bytes) r
  stood_write fd d bytes (reply.Number k) is h =
      let facts = write_facts w _ _ d _ k is in
      let is_behind = ap (behind w.frame pid) (sym (eqb-true d fd h)) ∙ facts.is_behind in search
  stood_write fd d bytes _ is h = cc

  stood : (way : Way) (fd : ℕ) (c : Op) → refreshes way fd c (step w place pid c).reply ≡ true → Stood w pid fd c (step w place pid c).reply
  stood Reading fd (op.ReadFd d count) h = stood_read fd d _ _ refl h
  stood Writing fd (op.WriteFd d bytes) h = stood_write fd d _ _ refl h
  stood Reading fd c h = cc
  stood Writing fd c h = cc

-- ---- an entry
module _ (w : World) (s : Sound w) (place : ℕ) (e : Event) where
  abbrev next : Frame
  next = (step_of w place e).world.frame

  spot_stays : (pid fd : ℕ) (b : OpenFile) → behind w.frame pid fd ≡ Some b → is_closed w place e pid fd ≡ false → spot_behind next pid fd ≡ Some (spot_of b)
  spot_stays pid fd b is kept =
      let r = remains w s place e pid fd b is kept in
      ap (option_map spot_of) r.is_behind ∙ (λ i. Some (record { entry = b.id; object = (ap (λ (z : Open). z.object) r.same_entry.plain) i }))

  refreshed_spot : (pid fd : ℕ) (way : Way) → (e.pid == pid && refreshes way fd e.op (step_of w place e).reply) ≡ true → spot_behind next pid fd ≡ spot_behind w.frame pid fd
  refreshed_spot pid fd way h =
      let both = and_parts (e.pid == pid) (refreshes way fd e.op (step_of w place e).reply) h in
      let one : e.pid ≡ pid = eqb-true e.pid pid both.0 in
      let t = stood w place e.pid way fd e.op both.1 in
      let is : behind w.frame pid fd ≡ Some t.through = ap (λ n. behind w.frame n fd) (sym one) ∙ t.is_behind in
      spot_stays pid fd t.through is (and_right (e.pid == pid) _ t.open_still) ∙ sym (ap (option_map spot_of) is)

  -- what is changed goes, and all else stays
  left_out : (changed touched : Bool) (after : Option Spot) (was : Spot) → changed ≡ touched → after ≡ Some was → (if not changed then after else None) ≡ (if touched then None else Some was)
  left_out true true after was same stays = refl
  left_out false false after was same stays = stays
  left_out true false after was same stays = cc
  left_out false true after was same stays = cc

  spot_cases : (pid fd : ℕ) (way : Way) (new : Bool) → (e.pid == pid && refreshes way fd e.op (step_of w place e).reply) ≡ new → (closed : Bool)
      → is_closed w place e pid fd ≡ closed → (b : Option OpenFile) → behind w.frame pid fd ≡ b → (was : Bool) → (was ≡ true → is_some b ≡ true)
      → (if new || was && not closed && not (relabels w.frame next pid fd) then spot_behind next pid fd else None) ≡ (if new then spot_behind w.frame pid fd
      else if closed then None else unless (λ t. touches w.frame e next pid (Some t.object) (Some t.entry)) (if was then option_map spot_of b else None))
  spot_cases pid fd way true new closed shut b is was there = refreshed_spot pid fd way new
  spot_cases pid fd way false new true shut b is false there = refl
  spot_cases pid fd way false new false shut b is false there = refl
  spot_cases pid fd way false new true shut b is true there = refl
  spot_cases pid fd way false new false shut None is true there = absurd (true≢false (sym (there refl)))
  spot_cases pid fd way false new false shut (Some b) is true there = left_out _ _ _ (spot_of b) (relabels_as_touched w s place e pid fd b is shut) (spot_stays pid fd b is shut)

  spot_step : (pid fd : ℕ) (way : Way) (was : Bool) → (was ≡ true → is_some (behind w.frame pid fd) ≡ true)
      → (if fresh_after w e (step_of w place e) pid fd way was then spot_behind next pid fd else None) ≡ spot_after w place e pid fd way (if was then
      spot_behind w.frame pid fd else None)
  spot_step pid fd way was there = spot_cases pid fd way _ refl _ refl (behind w.frame pid fd) refl was there

-- ---- a history
run_more : (w : World) (place : ℕ) (events : List Event) (e : Event) → run w place (events ++ e ∷ []) ≡ (step_of (run w place events) (length events + place) e).world
run_more w place [] e = ap (λ n. (step_of w n e).world) (let z : place ≡ 0 + place = omega arith in z)
run_more w place (x ∷ events) e =
    run_more (step_of w place x).world _ events e
    ∙ ap (λ n. (step_of (run (step_of w place x).world (suc place) events) n e).world) (let z : length events + suc place ≡ suc (length events) + place = omega arith in z)

pub spots_along : (w : World) (events : List Event) (e : Event) (pid fd : ℕ) (way : Way) → Sound w
    → fresh_spot w (events ++ e ∷ []) pid fd way ≡ spot_after (run w 1 events) (length events + 1) e pid fd way (fresh_spot w events pid fd way)
spots_along w events e pid fd way s =
    (λ i. if fresh_more w events e pid fd way i then spot_behind (run_more w 1 events e i).frame pid fd else None)
    ∙ spot_step (run w 1 events) (sound_run w 1 events s) (length events + 1) e pid fd way (is_fresh w events pid fd way) (λ fresh. ap is_some (fresh_is_known w events pid fd way s fresh).is_behind)
