-- The row of every call leaves a sound frame.
use Rattle.std.proofs.Common.{◌≡◌, ℕ, Bool, true, false, refl, if◌then◌else◌}
use Rattle.ix_model.specs.{world.World.{Frame, lives}, rows.{Outcomes.Outcome, OnDescriptors.LengthChecks, Table.{Decision, row, settled, verdict}}, history.Events.Op, declared.reply.Reply.Reply}
use Rattle.ix_model.proofs.{words.{Keeps.Holds, Ends.{Ends, kept_ends}, Lasts.settled_keeps}, sound.{Making.{create_at_ends, make_dir_ends, link_at_ends}, Steadily.{follows_row, is_steady}}}
use Rattle.ix_model.proofs.{frames.{Frames.{FrameSound, Follows, follows_itself}, Claimants.{pex_ends, unpex_ends}, Retired.wait_child_ends}, sound.Closing.{close_fd_ends, exit_ends}}
use Rattle.ix_model.proofs.sound.{Unmaking.{unlink_at_ends, remove_dir_ends}, Adding.{open_at_ends, dup_fd_ends, make_pipe_ends}, Forking.fork_ends, Logging.{set_priv_ends, change_dir_ends}}
use Rattle.ix_model.proofs.sound.Logging.{set_label_ends, set_self_ends, thaw_ends, thaw_self_ends, grant_lic_ends, set_ceiling_ends, read_log_ends}
use Rattle.ix_model.specs.history.Events as op
use Rattle.ix_model.specs.declared.reply.Reply.TheVariants as reply
use Rattle.ix_model.specs.declared.refusal.Refusal.TheVariants as refusal

module _ (f : Frame) (s : FrameSound f) where
  start : Follows f f
  start = follows_itself f s

  ends_so : (o : Outcome Reply) → Ends o (λ r g. Follows f g) (λ a g. Follows f g) → Holds o (Follows f)
  ends_so = kept_ends _

  steady_so : (t : LengthChecks) (place pid : ℕ) (c : Op) → is_steady c ≡ true → Holds (row t place pid c f) (Follows f)
  steady_so t place pid c h = (follows_row f t _ _ c h).led f start

  ruleset leading = (
    start,
    ends_so,
    create_at_ends,
    open_at_ends,
    dup_fd_ends,
    close_fd_ends,
    make_pipe_ends,
    make_dir_ends,
    link_at_ends,
    unlink_at_ends,
    remove_dir_ends,
    change_dir_ends,
    fork_ends,
    exit_ends,
    wait_child_ends,
    set_label_ends,
    set_self_ends,
    thaw_ends,
    thaw_self_ends,
    set_priv_ends,
    grant_lic_ends,
    set_ceiling_ends,
    pex_ends,
    unpex_ends,
    read_log_ends,
  )

  row_follows : (t : LengthChecks) (place pid : ℕ) (c : Op) → lives f pid ≡ true → Holds (row t place pid c f) (Follows f)
  unfolding row
  row_follows t place pid (op.ReadFd fd count) alive = steady_so t place pid (op.ReadFd fd count) refl
  row_follows t place pid (op.WriteFd fd bytes) alive = steady_so t place pid (op.WriteFd fd bytes) refl
  row_follows t place pid (op.CutFd fd len) alive = steady_so t place pid (op.CutFd fd len) refl
  row_follows t place pid (op.SeekFd fd offset) alive = steady_so t place pid (op.SeekFd fd offset) refl
  row_follows t place pid (op.StatAt path) alive = steady_so t place pid (op.StatAt path) refl
  row_follows t place pid (op.ListAt path index) alive = steady_so t place pid (op.ListAt path index) refl
  row_follows t place pid (op.Exec path) alive = steady_so t place pid (op.Exec path) refl
  row_follows t place pid (op.LabelOf path) alive = steady_so t place pid (op.LabelOf path) refl
  row_follows t place pid (op.Freeze path) alive = steady_so t place pid (op.Freeze path) refl
  row_follows t place pid (op.DropLic set) alive = steady_so t place pid (op.DropLic set) refl
  row_follows t place pid op.SelfLabel alive = steady_so t place pid op.SelfLabel refl
  row_follows t place pid op.FreezeSelf alive = steady_so t place pid op.FreezeSelf refl
  row_follows t place pid c alive = search leading

  -- what is decided leaves a sound frame
  pub follows_decided : (t : LengthChecks) (place pid : ℕ) (c : Op) → Follows f (verdict t place pid c f).frame
  unfolding verdict
  follows_decided t place pid c = go _ refl
    where
      unknown : Decision
      unknown = record { reply = reply.No refusal.NoProcess; frame = f }

      go : (b : Bool) → lives f pid ≡ b → Follows f (if b then settled f (row t place pid c f) else unknown).frame
      go true alive = settled_keeps _ f (row t place pid c f) (follows_itself f s) (row_follows t _ _ c alive)
      go false none = follows_itself f s
