-- A call that names what isn't there is refused so.
use Rattle.std.{specs.Option.option_map_or, proofs.Common.{◌≡◌, ◌&&◌, ℕ, Bool, true, false, not, true≢false, Option, Some, None, is_some, refl, sym, ap, ◌∙◌, if◌then◌else◌}}
use Rattle.ix_model.specs.{world.World.{Frame, World, Process, at, living, lives}, rows.{Rows.{◌>>=◌, on_pass, frame, some, refuse, process}, Telling.told, Outcomes.Row}, history.Step.step}
use Rattle.ix_model.specs.{rows.{Walks.{OpenFile, behind, behind_of, entry_at, opened}, OnProcesses.fork, OnLabels.{grant_lic, set_ceiling}}, declared.reply.Reply.Reply}
use Rattle.ix_model.specs.{rows.OnDescriptors.{LengthChecks, read_fd, write_fd, cut_fd, seek_fd, dup_fd, close_fd, pex, unpex}, history.Events.Op}
use Rattle.ix_model.{specs.{rows.Table.{Decision, row, verdict}, declared.refusal.Refusal.Refusal}, proofs.{frames.Frames.{FrameSound, frame_of}, words.Ends.{Ends, ends_bind, ends_then}}}
use Rattle.ix_model.specs.laws.{Sound.Sound, CallLaws.{NothingElseIsMissing, has_descriptor, descriptor_of, process_named, lacks_process}}
use Rattle.ix_model.specs.history.Step.{plainly, read_answer, write_answer, cut_answer, seek_answer, stat_answer, exit_answer, wait_answer, pex_answer, answer}
use Rattle.ix_model.proofs.refused.{Refusing.relabelled_itself, Asking.ask_caller, AskingRows.{want_of_descriptor, want_of_process}}
use Rattle.ix_model.proofs.paths_and_pipes.Stopping.{tested, never, decided_stops}
use Rattle.ix_model.specs.history.Events as op
use Rattle.ix_model.specs.declared.call.Keep.TheVariants as keeping
use Rattle.ix_model.specs.declared.reply.Reply.TheVariants as reply
use Rattle.ix_model.specs.declared.refusal.Refusal.TheVariants as refusal

not_true : (b : Bool) → not b ≡ true → b ≡ false
not_true true h = sym h
not_true false h = refl

-- ---- descriptors
bad_fd : Refusal → Frame → Type 0
bad_fd r g = r ≡ refusal.BadFd

module _ (f : Frame) (pid fd : ℕ) (gone : has_descriptor f pid fd ≡ false) where
  none_behind : behind f pid fd ≡ None
  unfolding behind
  none_behind = go _ gone
    where
      no_entry : (d : Option ℕ) → is_some d ≡ false → entry_at f d ≡ None
      no_entry None h = refl
      no_entry (Some e) h = cc

      go : (p : Option Process) → option_map_or (λ q. is_some (at q.fds fd)) p false ≡ false → behind_of p f fd ≡ None
      go None h = refl
      go (Some q) h = no_entry _ h

  refused : (Q : OpenFile → Frame → Type 0) → Ends (opened pid fd f) bad_fd Q
  unfolding opened ◌>>=◌ on_pass frame some refuse Ends bad_fd
  refused Q = rw none_behind refl

  no_row : (k : OpenFile → Row Reply) → Ends (◌>>=◌ (opened pid fd) k f) bad_fd never
  no_row k = ends_bind _ _ f _ _ (refused _)

-- a fork that is to keep it
no_fork : (f : Frame) → FrameSound f → (pid : ℕ) → lives f pid ≡ true → (keep : Rattle.ix_model.specs.declared.call.Keep.Keep)
    → option_map_or (has_descriptor f pid) (descriptor_of (op.Fork keep)) true ≡ false → Ends (fork pid keep f) bad_fd never
unfolding fork bad_fd
no_fork f s pid alive keeping.All gone = absurd (true≢false gone)
no_fork f s pid alive keeping.Nothing gone = absurd (true≢false gone)
no_fork f s pid alive (keeping.One fd) gone =
    ends_bind _ _ f _ _ (ask_caller f s _ alive f _ _ (relabelled_itself _ f) (λ p here.
    ends_then _ _ f _ _ (tested _ _ f _ _
    (λ kept. absurd (true≢false (sym kept ∙ sym (ap (λ o. option_map_or (λ q. is_some (at q.fds fd.0)) o false) here) ∙ gone)))
    (λ none. refl))))

-- ---- processes
no_process : Refusal → Frame → Type 0
no_process r g = r ≡ refusal.NoProcess

dead : (f : Frame) (target : ℕ) (Q : Process → Frame → Type 0) → lives f target ≡ false → Ends (process target f) no_process Q
unfolding process some refuse Ends no_process
dead f target Q h = rw go refl
  where
    ended : (b : Bool) (q : Process) → not b ≡ false → (if b then None else Some q) ≡ None
    ended true q h = refl
    ended false q h = absurd (true≢false h)

    go : (o : Option Process) → option_map_or (λ p. not p.ended) o false ≡ false → living o ≡ None
    go None h = refl
    go (Some q) h = ended _ q h

-- ---- steps
refused_answer : (w : World) (pid : ℕ) (c : Op) (r : Refusal) (g : Frame) → (answer w pid c (record { reply = reply.No r; frame = g })).reply ≡ reply.No r
unfolding answer plainly read_answer write_answer cut_answer seek_answer stat_answer exit_answer wait_answer pex_answer
refused_answer w pid (op.ReadFd fd count) r g = go _
  where
    go : (b : Option OpenFile) → (read_answer w count b (reply.No r) g).reply ≡ reply.No r
    go None = refl
    go (Some e) = refl
refused_answer w pid (op.WriteFd fd bytes) r g = go _
  where
    go : (b : Option OpenFile) → (write_answer w bytes b (reply.No r) g).reply ≡ reply.No r
    go None = refl
    go (Some e) = refl
refused_answer w pid (op.CutFd fd len) r g = go _
  where
    go : (b : Option OpenFile) → (cut_answer w len b (reply.No r) g).reply ≡ reply.No r
    go None = refl
    go (Some e) = refl
refused_answer w pid (op.SeekFd fd offset) r g = go _
  where
    go : (b : Option OpenFile) → (seek_answer w offset b (reply.No r) g).reply ≡ reply.No r
    go None = refl
    go (Some e) = refl
refused_answer w pid (op.Pex fd) r g = go _
  where
    go : (b : Option OpenFile) → (pex_answer w b (reply.No r) g).reply ≡ reply.No r
    go None = refl
    go (Some e) = refl
refused_answer w pid _ r g = refl

as_decided : (w : World) (place pid : ℕ) (c : Op) (r : Refusal) → (verdict (told w pid c) place pid c w.frame).reply ≡ reply.No r → (step w place pid c).reply ≡ reply.No r
unfolding step
as_decided w place pid c r is =
    let d : Decision = verdict (told w pid c) place pid c w.frame in
    ap (λ a. (answer w pid c (record { reply = a; frame = d.frame })).reply) is ∙ refused_answer w pid c r d.frame

module _ (w : World) (s : Sound w) (place pid : ℕ) (alive : lives w.frame pid ≡ true) where
  stops_as : (c : Op) (r : Refusal) → Ends (row (told w pid c) place pid c w.frame) (λ why g. why ≡ r) never → (step w place pid c).reply ≡ reply.No r
  stops_as c r ends = as_decided w _ _ c r (decided_stops _ _ _ c _ r alive ends)

  bad_fd_comes : (c : Op) → option_map_or (has_descriptor w.frame pid) (descriptor_of c) true ≡ false → (step w place pid c).reply ≡ reply.No refusal.BadFd
  unfolding row bad_fd read_fd write_fd cut_fd seek_fd dup_fd close_fd pex unpex
  bad_fd_comes (op.ReadFd fd count) gone = stops_as _ _ (no_row _ pid fd gone _)
  bad_fd_comes (op.WriteFd fd bytes) gone = stops_as _ _ (no_row _ pid fd gone _)
  bad_fd_comes (op.CutFd fd len) gone = stops_as _ _ (no_row _ pid fd gone _)
  bad_fd_comes (op.SeekFd fd offset) gone = stops_as _ _ (no_row _ pid fd gone _)
  bad_fd_comes (op.DupFd fd) gone = stops_as _ _ (no_row _ pid fd gone _)
  bad_fd_comes (op.CloseFd fd) gone = stops_as _ _ (no_row _ pid fd gone _)
  bad_fd_comes (op.Fork keep) gone = stops_as _ _ (no_fork _ (frame_of w s) _ alive _ gone)
  bad_fd_comes (op.Pex fd) gone = stops_as _ _ (no_row _ pid fd gone _)
  bad_fd_comes (op.Unpex fd) gone = stops_as _ _ (no_row _ pid fd gone _)
  bad_fd_comes _ gone = absurd (true≢false gone)

  target_gone : (c : Op) → option_map_or (lives w.frame) (process_named c) true ≡ false → (step w place pid c).reply ≡ reply.No refusal.NoProcess
  unfolding row grant_lic set_ceiling no_process
  target_gone (op.GrantLic target more) gone = stops_as _ _ (ends_bind _ _ _ _ _ (dead _ _ _ gone))
  target_gone (op.SetCeiling target now) gone = stops_as _ _ (ends_bind _ _ _ _ _ (dead _ _ _ gone))
  target_gone _ gone = absurd (true≢false gone)

nobody : (t : LengthChecks) (place pid : ℕ) (c : Op) (f : Frame) → lives f pid ≡ false → (verdict t place pid c f).reply ≡ reply.No refusal.NoProcess
unfolding verdict
nobody t place pid c f gone = rw gone refl

no_process_comes : (w : World) (place pid : ℕ) (c : Op) → Sound w → lacks_process w.frame pid c ≡ true → (step w place pid c).reply ≡ reply.No refusal.NoProcess
no_process_comes w place pid c s lacks = go _ refl (not_true _ lacks)
  where
    go : (b : Bool) → lives w.frame pid ≡ b → (b && option_map_or (lives w.frame) (process_named c) true) ≡ false → (step w place pid c).reply ≡ reply.No refusal.NoProcess
    go true alive h = target_gone w s place pid alive c h
    go false gone h = as_decided w _ _ c _ (nobody _ _ _ c _ gone)

pub nothing_else_is_missing : (w : World) (place pid : ℕ) (c : Op) → Sound w → NothingElseIsMissing w pid c (step w place pid c).reply
nothing_else_is_missing w place pid c s = record {
  bad_fd = want_of_descriptor w _ _ c s;
  bad_fd_comes = λ alive lacks. bad_fd_comes w s place pid alive c (not_true _ lacks);
  no_process = want_of_process w _ _ c s;
  no_process_comes = no_process_comes w _ _ c s;
}
