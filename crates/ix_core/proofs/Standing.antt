-- What a core's machine and journal stand for, at first and one entry later.
use Rattle.std.{proofs.Common.{◌≡◌, ◌+◌, ◌*◌, ◌<◌, ◌≤◌, ◌-◌, ◌^◌, ℕ, true, List, [], ◌∷◌, ◌++◌, length, Some, take, drop, refl, sym, ap, ◌∙◌, subst, arith}, specs.List.sum_by}
use Rattle.std.proofs.{lemmas.{Bool.{and_parts, leb-true}, List.{length-map, Sums.{sum-map, sum_by-cons}}}, Math.Seq.{take-append_seam, drop-append_seam}}
use Rattle.ix_model.{specs.{world.World.World, opening.{Opening.{opening_world, process_of}, Valid.is_valid}}, proofs.words.Runs.{world_of-none, world_of-push}}
use Rattle.ix_model.specs.history.{AuditLog.audit_log, Cost.{cost_of, cost_of_words, cost_of_history}, Step.{step, run, put_front}}
use Rattle.ix_model.specs.{history.{Shown.AreShown, Systems.{FitsCall, LeavesRest}, Events.Event}, laws.Sound.Sound}
use Rattle.ix_model.specs.{history.History.{History, world_of, next, with_entry}, declared.{config.Config.Config, reply.Reply.Reply}}
use Rattle.ix_model.proofs.{opening.Validity.valid_parts, sound.Reaching.{opening_is_built, sound_reached}, told.{Logs.logged_run, Replies.replies_fit}}
use Rattle.ix_iso.proofs.Noninterference.{last_is_told_alike}
use Rattle.ix_journal.{proofs.Growing.{no_cost, cost_more}, specs.Entries.{Entries, Fits, with_event}}
use Rattle.ix_core.{specs.Stepping.{StandsFor, Shows, AnswersAlike}, proofs.Pids.pids_run}
use Rattle.ix_model.specs.declared.reply.Reply.TheVariants as reply
use Rattle.ix_model.specs.declared.reply.Answer.TheVariants as answer

-- ---- how many pids there can be
dear : (es : List Event) → 128 * length es ≤ sum_by (λ e. cost_of e.op) es
unfolding cost_of
dear [] = omega arith
dear (e ∷ es) =
    let cost : Event → ℕ = λ x. 128 + cost_of_words x.op in
    omega (arith, sum_by-cons cost e es, dear es)

pub entries_are_few : (es : List Event) (most : ℕ) → cost_of_history es ≤ most → most ≤ 870400000 → length es ≤ 6800000
unfolding cost_of_history
entries_are_few es most fits small = omega (arith, dear es, sum-map (λ (e : Event). cost_of e.op) es, fits, small)

pub opening_pids : (c : Config) → is_valid c ≡ true → length (opening_world c).frame.processes ≤ 1025
opening_pids c valid =
    let v = valid_parts c valid in
    let r = opening_is_built c v in
    subst (λ w. length w.frame.processes ≤ 1025) (sym r.is) (omega (arith, length-map c.procs (λ p. Some (process_of p)), v.procs.few, v.limits.procs))

opening_log : (c : Config) → is_valid c ≡ true → (opening_world c).frame.log ≡ []
opening_log c valid = let r = opening_is_built c (valid_parts c valid) in subst (λ w. w.frame.log ≡ []) (sym r.is) refl

pub small_journal : (c : Config) → is_valid c ≡ true → c.journal ≤ 870400000
unfolding is_valid
small_journal c valid = leb-true c.journal 870400000 (and_parts _ _ valid).1

pub pids_are_few : (c : Config) (es : List Event) → is_valid c ≡ true → cost_of_history es ≤ c.journal → length (run (opening_world c) 1 es).frame.processes < 2 ^ 32 - 1
pids_are_few c es valid fits = omega (arith, pids_run (opening_world c) 1 es, opening_pids c valid, entries_are_few es c.journal fits (small_journal c valid))

-- ---- what a core stands for
pub stands_first : (c : Config) (w : World) → is_valid c ≡ true → w ≡ opening_world c → StandsFor w (record { cap = c.journal; events = [] }) (record { config = c; events = [] })
stands_first c w valid e = record {
  run = e ∙ sym (world_of-none c);
  valid = valid;
  cap = refl;
  fits = omega (arith, no_cost);
}

pub stands_next : (w v : World) (j : Entries) (h : History) (e : Event) → StandsFor w j h → j.events ≡ h.events → Fits j e
    → v ≡ (step w (length h.events + 1) e.pid e.op).world → StandsFor v (with_event e j) (with_entry h e)
stands_next w v j h e s same fits is = record {
  run = is ∙ ap (λ u. (step u (length h.events + 1) e.pid e.op).world) s.run ∙ sym (world_of-push h e);
  valid = s.valid;
  cap = s.cap;
  fits = omega (arith, cost_more h.events e, ap cost_of_history same, fits, s.cap);
}

pub sound_core : (w : World) (j : Entries) (h : History) → StandsFor w j h → Sound (world_of h)
unfolding world_of
sound_core w j h s = sound_reached _ h.events s.valid

pub pids_core : (w : World) (j : Entries) (h : History) → StandsFor w j h → length w.frame.processes < 2 ^ 32 - 1
unfolding world_of
pids_core w j h s = subst (λ u. length u.frame.processes < 2 ^ 32 - 1) (sym s.run) (pids_are_few _ _ s.valid s.fits)

-- the bytes that a reply tells of are the first ones of the buffer
pub shows : (r : Reply) (bytes before after : List ℕ) → AreShown r bytes → after ≡ put_front bytes before → Shows (answer.Given r) after bytes
shows (reply.Bytes k) bytes before after h e = (h.1, h.0, ap (take k) e ∙ ap (λ n. take n (put_front bytes before)) (sym h.0) ∙ take-append_seam bytes (drop _ before))
shows _ bytes before after h e = tt

-- and what stands behind them stays
pub rest_stays : (r : Reply) (bytes before after : List ℕ) → AreShown r bytes → after ≡ put_front bytes before → LeavesRest (answer.Given r) before after
rest_stays (reply.Bytes k) bytes before after h e = ap (drop k) e ∙ ap (λ n. drop n (put_front bytes before)) (sym h.0)
    ∙ drop-append_seam bytes _ ∙ ap (λ n. drop n before) h.0
rest_stays _ bytes before after h e = e ∙ ap (λ b. put_front b before) h

-- what is answered as the next entry says fits its call
pub fits_next : (w : World) (j : Entries) (k h : History) (e : Event) (r : Reply) → StandsFor w j k → k ≡ h → r ≡ (next h e).reply → FitsCall e.op r
fits_next w j k h e r s same said =
    let few = subst (λ u. length u.frame.processes < 2 ^ 32 - 1) s.run (pids_core w j k s) in
    let fits = replies_fit _ _ _ _ (sound_core w j k s) (omega (arith, few)) in
    subst (λ x. FitsCall e.op x) (sym said) (subst (λ g. FitsCall e.op (next g e).reply) same fits)

-- what is answered as the next entry says is answered alike
pub answers_alike : (h : History) (e : Event) (r : Reply) (before after : List ℕ) → r ≡ (next h e).reply → after ≡ put_front (next h e).bytes before → AnswersAlike (answer.Given r) h e before after
unfolding world_of
answers_alike h e r before after said put = λ l v others f agree none low.
    let told = last_is_told_alike l _ v _ _ e f agree none low in
    (said ∙ told.0, put ∙ ap (λ bytes. put_front bytes before) told.1)

-- the log of a reached world has the lines of the licensed entries alone
pub licensed_lines : (h : History) → is_valid h.config ≡ true → (world_of h).frame.log ≡ audit_log (opening_world h.config) 1 h.events
unfolding world_of
licensed_lines h valid = logged_run _ 1 _ ∙ ap (λ log. log ++ audit_log (opening_world h.config) 1 h.events) (opening_log _ valid)

-- the step of a machine that stands for a history gives what the history's next entry gives
pub gives_next : (w : World) (j : Entries) (k h : History) (place : ℕ) (e : Event) → StandsFor w j k → k ≡ h → place ≡ length k.events → step w (place + 1) e.pid e.op ≡ next h e
gives_next w j k h place e s same count = ap (λ u. step u (place + 1) e.pid e.op) (s.run ∙ ap world_of same)
    ∙ ap (λ n. step (world_of h) (n + 1) e.pid e.op) (count ∙ ap (λ x. length x.events) same)
