-- In a sound world a row is refused for want of something only where the call names what isn't there.
use Rattle.std.{specs.Option.option_map_or, proofs.lemmas.List.Quantifiers.position-Some}
use Rattle.std.proofs.Common.{◌≡◌, ◌&&◌, ℕ, Bool, true, false, not, true≢false, Option, Some, None, is_some, position, refl, sym, ap, ◌∙◌, subst, if◌then◌else◌}
use Rattle.ix_model.specs.{world.World.{Frame, World, Process, at, living, lives, is_ended}, rows.Outcomes.{Outcome, Refuse, Pass}, history.{Step.step, AuditLog.is_answer, Events.Op}}
use Rattle.ix_model.specs.rows.{Rows.{need, record_of}, Walks.{object_at, spot_at, missing}, Table.{Decision, row, settled, verdict}, OnDescriptors.LengthChecks}
use Rattle.ix_model.{specs.{rows.{OnProcesses.{has_kept, is_child}, Telling.told}, declared.{call.Keep.Keep, reply.Reply.Reply, refusal.Refusal.Refusal}}, proofs.words.OpenRows.open_row}
use Rattle.ix_model.{specs.laws.{Sound.Sound, CallLaws.{lacks_descriptor, lacks_process, descriptor_of, process_named, has_descriptor}}, proofs.words.Looks.ends_float_entry}
use Rattle.ix_model.proofs.{frames.Frames.{FrameSound, frame_of}, refused.Refusing.{Relabelled, relabelled_itself, refusing_row, plain_answer, decided_frames}}
use Rattle.ix_model.proofs.words.{Ends.{Ends, plain, ends_change_open}, Endings.{ends_put_object, ends_put_process, ends_add_process}}
use Rattle.ix_model.proofs.words.RowEnds.{ends_spot, ends_vacant, ends_end_process, ends_logged, ends_let_go_object, ends_let_go, ends_let_go_all}
use Rattle.ix_model.proofs.refused.Asking.{is_for_want, there_is, ask_caller, ask_object, ask_observe, ask_affect, ask_walk, ask_entitled, ask_room, ask_opened}
use Rattle.ix_model.proofs.refused.Asking.{ask_exercise, ask_allowed, ask_movable, ask_target, ask_claimed}
use Rattle.ix_model.specs.history.Events as op
use Rattle.ix_model.specs.declared.call.Keep.TheVariants as keeping
use Rattle.ix_model.specs.declared.reply.Reply.TheVariants as reply
use Rattle.ix_model.specs.declared.refusal.Refusal.TheVariants as refusal

-- what a refusal for want of something says of what the call named
abbrev Missing : Frame → ℕ → Option ℕ → Option ℕ → Refusal → Type 0
Missing f pid fd target refusal.BadFd = option_map_or (has_descriptor f pid) fd true ≡ false
Missing f pid fd target refusal.NoProcess = option_map_or (lives f) target true ≡ false
Missing f pid fd target _ = Unit

pub record Blames (f : Frame) (pid : ℕ) (fd target : Option ℕ) (r : Refusal) (g : Frame) : Type 0 where
  pub is : Missing f pid fd target r

harmless_is : (f : Frame) (pid : ℕ) (fd target : Option ℕ) (r : Refusal) → is_for_want r ≡ false → Missing f pid fd target r
harmless_is f pid fd target refusal.BadFd h = cc
harmless_is f pid fd target refusal.NoProcess h = cc
harmless_is f pid fd target _ h = tt

module _ (f : Frame) (s : FrameSound f) (pid : ℕ) (alive : lives f pid ≡ true) (start : Relabelled pid f f) where
  harmless : (fd target : Option ℕ) (r : Refusal) (g : Frame) → is_for_want r ≡ false → Blames f pid fd target r g
  harmless fd target r g h = record { is = harmless_is f _ fd _ r h }

  no_descriptor : (fd : ℕ) (target : Option ℕ) (g : Frame) → has_descriptor f pid fd ≡ false → Blames f pid (Some fd) target refusal.BadFd g
  no_descriptor fd target g h = record { is = h }

  no_target : (fd : Option ℕ) (target : ℕ) (g : Frame) → lives f target ≡ false → Blames f pid fd (Some target) refusal.NoProcess g
  no_target fd target g h = record { is = h }

  abbrev Asks : Option ℕ → Option ℕ → Outcome Reply → Type 0
  Asks fd target o = Ends o (Blames f pid fd target) (λ a g. Unit)

  -- one lemma for each word
  ruleset asking = (
    plain,
    ends_change_open,
    ends_put_object,
    ends_put_process,
    ends_add_process,
    ends_spot,
    ends_vacant,
    ends_end_process,
    ends_logged,
    ends_let_go_object,
    ends_let_go,
    ends_let_go_all,
    ends_float_entry,
    ask_caller,
    ask_object,
    ask_observe,
    ask_affect,
    ask_walk,
    ask_entitled,
    ask_room,
    ask_exercise,
    ask_allowed,
    ask_movable,
    ask_claimed,
    harmless,
  )

  -- the descriptor that a fork keeps
  keeps_one : (keep : Keep) (p : Process) (Q : Unit {0} → Frame → Type 0) → living (at f.processes pid) ≡ Some p → Q tt f
      → Ends (need (has_kept keep p) refusal.BadFd f) (Blames f pid (descriptor_of (op.Fork keep)) None) Q
  unfolding Ends need Rattle.ix_model.specs.rows.Rows.pass Rattle.ix_model.specs.rows.Rows.refuse
  keeps_one keeping.All p Q here next = next
  keeps_one keeping.Nothing p Q here next = next
  keeps_one (keeping.One fd) p Q here next = go _ refl
    where
      go : (b : Bool) → is_some (at p.fds fd.0) ≡ b → Ends (need b refusal.BadFd f) (Blames f pid (Some fd.0) None) Q
      go true is = next
      go false is = record { is = ap (λ o. option_map_or (λ q. is_some (at q.fds fd.0)) o false) here ∙ is }

  -- the record of a child that has ended
  a_record : (c : ℕ) (P : Refusal → Frame → Type 0) (Q : Process → Frame → Type 0) → position (λ q. is_child pid q && is_ended q) f.processes ≡ Some c
      → ((q : Process) → at f.processes c ≡ Some q → Q q f) → Ends (record_of c f) P Q
  unfolding record_of
  a_record c P Q first next = there_is _ _ f P Q (some_child _ (position-Some (λ q. is_child pid q && is_ended q) f.processes c None first).1) next
    where
      some_child : (o : Option Process) → (is_child pid o && is_ended o) ≡ true → is_some o ≡ true
      some_child None h = cc
      some_child (Some q) h = refl

  -- ---- the table
  ruleset table = (asking, keeps_one, a_record, ask_opened, no_descriptor, ask_target, no_target)

  pub asks_row : (t : LengthChecks) (place : ℕ) (c : Op) → Asks (descriptor_of c) (process_named c) (row t place pid c f)
  unfolding open_row missing spot_at object_at Ends
  asks_row t place op.MakePipe = search table depth 80 fits 16000
  asks_row t place c = search table depth 80 fits 16000

-- ---- the decision
-- what a refusal says of what the call named, or of the caller
abbrev Wants : Frame → ℕ → Op → Refusal → Type 0
Wants f pid c refusal.BadFd = option_map_or (has_descriptor f pid) (descriptor_of c) true ≡ false
Wants f pid c refusal.NoProcess = (lives f pid && option_map_or (lives f) (process_named c) true) ≡ false
Wants f pid c _ = Unit

lacking : (f : Frame) (pid : ℕ) (c : Op) (r : Refusal) → Missing f pid (descriptor_of c) (process_named c) r → Wants f pid c r
lacking f pid c refusal.BadFd h = h
lacking f pid c refusal.NoProcess h = go _
  where
    go : (b : Bool) → (b && option_map_or (lives f) (process_named c) true) ≡ false
    go true = h
    go false = refl
lacking f pid c _ h = tt

settled_wants : (f : Frame) (pid : ℕ) (c : Op) (o : Outcome Reply) (r : Refusal) → Ends o (Blames f pid (descriptor_of c) (process_named c)) (λ a g. Unit {0})
    → Ends o (λ r g. Relabelled pid f g) (λ a g. is_answer a ≡ true) → (settled f o).reply ≡ reply.No r → Wants f pid c r
unfolding Ends
settled_wants f pid c (Refuse why g) r h k is =
    let same : why ≡ r = cc in
    subst (λ x. Wants f pid c x) same (lacking f _ c _ h.is)
settled_wants f pid c (Pass a g) r h k is = absurd (true≢false (sym k ∙ ap is_answer is))

decided_wants : (t : LengthChecks) (place pid : ℕ) (c : Op) (f : Frame) (r : Refusal) → FrameSound f → (verdict t place pid c f).reply ≡ reply.No r → Wants f pid c r
unfolding verdict
decided_wants t place pid c f r s is = go _ refl is
  where
    unknown : Decision
    unknown = record { reply = reply.No refusal.NoProcess; frame = f }

    go : (b : Bool) → lives f pid ≡ b → (if b then settled f (row t place pid c f) else unknown).reply ≡ reply.No r → Wants f pid c r
    go true alive h = settled_wants f _ c (row t place pid c f) r (asks_row f s _ alive (relabelled_itself _ f) t place c) (refusing_row t _ _ c f) h
    go false dead h =
        let same : refusal.NoProcess ≡ r = cc in
        subst (λ x. Wants f pid c x) same (ap (λ b. b && option_map_or (lives f) (process_named c) true) dead)

-- ---- the step
step_wants : (w : World) (place pid : ℕ) (c : Op) (r : Refusal) → Sound w → (step w place pid c).reply ≡ reply.No r → Wants w.frame pid c r
unfolding step
step_wants w place pid c r s is =
    let t = told w _ c in
    let plain = plain_answer w _ c _ r (λ refused. ap (λ f. f.objects) (decided_frames t _ _ c _ r refused).relabelled.is) is in
    decided_wants t _ _ c _ r (frame_of w s) plain.reply

pub want_of_descriptor : (w : World) (place pid : ℕ) (c : Op) → Sound w → (step w place pid c).reply ≡ reply.No refusal.BadFd → lacks_descriptor w.frame pid c ≡ true
want_of_descriptor w place pid c s is = ap not (step_wants w _ _ c _ s is)

pub want_of_process : (w : World) (place pid : ℕ) (c : Op) → Sound w → (step w place pid c).reply ≡ reply.No refusal.NoProcess → lacks_process w.frame pid c ≡ true
want_of_process w place pid c s is = ap not (step_wants w _ _ c _ s is)
