-- A process that lives goes on living, unless it exits.
use Rattle.std.proofs.Common.{◌≡◌, ◌≢◌, ◌==◌, ◌&&◌, ◌≤◌, ◌<◌, ℕ, Bool, true, false, not, true≢false, List, length, position, Option, Some, None, refl, sym, ap, ◌∙◌, subst, inl, inr}
use Rattle.std.specs.{Option.option_map_or, List.list_all}
use Rattle.std.proofs.lemmas.{Bool.{and_parts, eq-eqb, Decides.eqb_tells}, List.{get_or-set_other, get_or_append_left, Quantifiers.position-Some}}
use Rattle.ix_model.specs.{world.World.{World, Frame, Process, at, lives, is_ended}, rows.{OnDescriptors.LengthChecks}}
use Rattle.ix_model.specs.rows.{Rows.{put_process, add_process, change_process}, Refusals.keeps_label}
use Rattle.ix_model.{specs.{rows.{OnProcesses.{is_child, end_process, exit, wait_child}, Table.row, Telling.told}, laws.Sound.Sound}, proofs.refused.RefusedSteps.refused_step}
use Rattle.ix_model.specs.{history.{Step.step, Systems.FitsCall, Events.Op}, declared.{refusal.Refusal.Refusal, reply.Reply.Reply}}
use Rattle.ix_model.proofs.{tables.{Tables.seen_changed, Finds.in_table}, words.{LetGo.{LetsGo, keeps_let_go_all}, Lasts.decided}, told.Replies.replies_fit}
use Rattle.ix_model.proofs.words.{Keeps.{Holds, Keeps, keeps_bind, keeps_then, keeps_pass, keeps_need, keeps_record_of}, Answered.step_frame}
use Rattle.ix_model.proofs.words.Rowwise.{Change, Ending, Words, changes_of, keeps_bind_frame, keeps_bind_some, kept_observe, kept_row}
use Rattle.ix_core.{specs.Marking.has_exited, proofs.Beside.words_beside}
use Rattle.ix_model.specs.history.Events as op
use Rattle.ix_model.specs.declared.reply.Reply.TheVariants as reply

abbrev alive : Option Process → Bool
alive o = option_map_or (λ q. not q.ended) o false

inside : (t : List (Option Process)) (n : ℕ) → alive (at t n) ≡ true → n < length t
inside t n h = go _ refl h
  where
    go : (o : Option Process) → at t n ≡ o → alive o ≡ true → n < length t
    go None is h = cc
    go (Some x) is h = in_table t n x is

abbrev ends_nothing : Change → Bool
ends_nothing Ending = false
ends_nothing _ = true

abbrev is_ending : Op → Bool
is_ending (op.Exit status) = true
is_ending op.WaitChild = true
is_ending _ = false

bears : (c : Op) → is_ending c ≡ false → list_all ends_nothing (changes_of c) ≡ true
bears (op.Exit status) h = cc
bears op.WaitChild h = cc
bears _ h = refl

module _ (n : ℕ) where
  abbrev Alive : Frame → Type 0
  Alive g = lives g n ≡ true

  -- ---- the words
  a_process : (p : ℕ) (h : Process → Process) → ((q : Process) → (h q).ended ≡ q.ended) → Keeps Alive (change_process p h)
  unfolding change_process Holds
  a_process p h same = record { led = λ g r. seen_changed alive h (λ q. ap not (same q)) g.processes p n ∙ r }

  a_add : (p : Process) → Keeps Alive (add_process p)
  unfolding add_process Holds
  a_add p = record { led = λ g r. ap alive (get_or_append_left g.processes _ None n (inside _ n r)) ∙ r }

  a_end : (pid : ℕ) → n ≢ pid → Keeps Alive (end_process pid)
  unfolding end_process put_process Holds
  a_end pid apart = record { led = λ g r. ap alive (get_or-set_other g.processes pid n _ None apart) ∙ r }

  -- what is collected has ended
  not_both : (o : Option Process) → alive o ≡ true → is_ended o ≡ true → ⊥
  not_both None h k = cc
  not_both (Some q) h k = true≢false (sym h ∙ ap not k)

  a_collect : (pid c : ℕ) (m : Frame) → Alive m → position (λ q. is_child pid q && is_ended q) m.processes ≡ Some c → Keeps Alive (put_process c None)
  unfolding put_process Holds
  a_collect pid c m was first =
      let ended = (and_parts (is_child pid (at _ c)) (is_ended (at _ c)) (position-Some (λ z. is_child pid z && is_ended z) m.processes c None
      first).1).1 in
      let apart : n ≢ c = λ same. not_both _ was (ap (λ i. is_ended (at m.processes i)) same ∙ ended) in
      record { led = λ g r. ap alive (get_or-set_other g.processes c n None None apart) ∙ r }

  words : (pid : ℕ) → Words ends_nothing pid Alive
  words pid = words_beside ends_nothing Alive (λ f g same r. sym (ap (λ t. alive (at t n)) same) ∙ r) pid a_process (λ can q. a_add q) (λ can. cc) (λ can. cc)

  -- ---- a wait
  a_wait_child : (pid : ℕ) → Keeps Alive (wait_child pid)
  unfolding wait_child
  a_wait_child pid = keeps_bind_frame _ _ (λ f r.
      keeps_then _ _ _ (keeps_need _ _ _) (keeps_bind_some _ _ _ _ (λ c is.
      keeps_bind _ _ _ (keeps_record_of _ c) (λ q.
      keeps_then _ _ _ (kept_observe _ _ _ (words _) _) (keeps_then _ _ _ (a_collect _ c f r is) (keeps_pass _ _))))))

  -- ---- an exit
  a_going : (pid : ℕ) → LetsGo Alive pid
  a_going pid = let w = words pid in record { free = λ fd. a_process _ _ (λ q. refl); unclaim = w.unclaim; close = w.gone_open refl; gone = w.gone_object refl }

  a_exit : (pid : ℕ) → n ≢ pid → Keeps Alive (exit pid)
  unfolding exit
  a_exit pid apart = keeps_bind_frame _ _ (λ f r.
      keeps_then _ _ _ (keeps_need _ _ _) (keeps_then _ _ _ (keeps_let_go_all _ _ (a_going _)) (keeps_then _ _ _ (a_end _ apart) (keeps_pass _ _))))

  -- ---- all calls
  refused_lives : (w : World) (place pid : ℕ) (c : Op) (r : Refusal) → (step w place pid c).reply ≡ reply.No r → Alive w.frame → Alive (step w place pid c).world.frame
  refused_lives w place pid c r is was = go _ refl
    where
      go : (b : Bool) → keeps_label r ≡ b → Alive (step w place pid c).world.frame
      go true keeps = ap (λ f. lives f n) ((refused_step w _ _ c r is).label keeps) ∙ seen_changed alive _ (λ q. refl) _ _ n ∙ was
      go false keeps = ap (λ f. lives f n) ((refused_step w _ _ c r is).kept keeps) ∙ was

  kept_on : (w : World) (place pid : ℕ) (c : Op) → Keeps Alive (row (told w pid c) place pid c) → Alive w.frame → Alive (step w place pid c).world.frame
  kept_on w place pid c keeps was = subst (λ g. lives g n ≡ true) (sym (step_frame w _ _ c))
      (decided Alive (told w pid c) place pid c w.frame was (keeps.led w.frame was))

  -- a caller who hasn't exited was refused
  still_there : (w : World) (place pid status : ℕ) (r : Reply) → (step w place pid (op.Exit status)).reply ≡ r → FitsCall (op.Exit status) r
      → has_exited (op.Exit status) r ≡ false → Alive w.frame → Alive (step w place pid (op.Exit status)).world.frame
  still_there w place pid status (reply.No why) is fits stays was = refused_lives w _ _ _ _ is was
  still_there w place pid status reply.Done is fits stays was = cc
  still_there w place pid status _ is fits stays was = absurd fits

  exit_row : (t : LengthChecks) (place pid status : ℕ) → n ≢ pid → Keeps Alive (row t place pid (op.Exit status))
  unfolding row
  exit_row t place pid status apart = a_exit _ apart

  wait_row : (t : LengthChecks) (place pid : ℕ) → Keeps Alive (row t place pid op.WaitChild)
  unfolding row
  wait_row t place pid = a_wait_child _

  pub lives_on : (w : World) (place pid : ℕ) (c : Op) → Sound w → length w.frame.processes ≤ 4294967295 → (n == pid && has_exited c (step w place pid c).reply)
      ≡ false → lives w.frame n ≡ true → lives (step w place pid c).world.frame n ≡ true
  lives_on w place pid (op.Exit status) s few stays was = elim (eqb_tells n pid) [
    | inl same ↦ still_there w _ _ _ _ refl (replies_fit w _ _ _ s few)
        (sym (ap (λ b. b && has_exited (op.Exit status) (step w place pid (op.Exit status)).reply) (eq-eqb n pid same.1)) ∙ stays) was
    | inr apart ↦ kept_on w _ _ _ (exit_row _ _ _ _ apart.1) was
  ]
  lives_on w place pid op.WaitChild s few stays was = kept_on w _ _ _ (wait_row _ _ _) was
  lives_on w place pid c s few stays was = kept_on w _ _ c (kept_row _ _ _ (words _) _ _ c (bears c refl)) was
