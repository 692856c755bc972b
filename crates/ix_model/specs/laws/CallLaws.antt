-- What no call ever changes, and when a call is refused for want of what it names.
use Rattle.std.specs.Prelude.{◌≡◌, ℕ, Bool, true, false, not, ◌&&◌, List, length, Option, Some, None, is_some}
use Rattle.std.specs.Option.{option_map_or}
use Rattle.ix_model.specs.world.World.{Frame, World, at, living, lives}
use Rattle.ix_model.specs.history.Step.{step, run}
use Rattle.ix_model.specs.laws.Sound.{Sound}
use Rattle.ix_model.specs.history.Events.{Op, Event}
use Rattle.ix_model.specs.history.Events as op
use Rattle.ix_model.specs.declared.call.Keep.TheVariants as keep
use Rattle.ix_model.specs.declared.refusal.Refusal.TheVariants as refusal
use Rattle.ix_model.specs.declared.reply.Reply.{Reply}
use Rattle.ix_model.specs.declared.reply.Reply.TheVariants as reply

-- ---- what stays for ever
-- the limits, the file systems, and how many numbers of objects and of open entries there are
pub record LimitsStay (f g : Frame) : Type 0 where
  pub limits : g.limits ≡ f.limits
  pub fss : g.fss ≡ f.fss
  pub objects : length g.objects ≡ length f.objects
  pub opens : length g.opens ≡ length f.opens

-- no history changes them
abbrev pub LimitsNeverChange : Type 0
LimitsNeverChange = (w : World) (place : ℕ) (h : List Event) → LimitsStay w.frame (run w place h).frame

-- ---- what a call may name
-- the descriptor that a call names
abbrev pub descriptor_of : Op → Option ℕ
descriptor_of (op.ReadFd fd count) = Some fd
descriptor_of (op.WriteFd fd bytes) = Some fd
descriptor_of (op.CutFd fd len) = Some fd
descriptor_of (op.SeekFd fd offset) = Some fd
descriptor_of (op.DupFd fd) = Some fd
descriptor_of (op.CloseFd fd) = Some fd
descriptor_of (op.Fork (keep.One fd)) = Some fd.0
descriptor_of (op.Pex fd) = Some fd
descriptor_of (op.Unpex fd) = Some fd
descriptor_of _ = None

-- the process that a call names
abbrev pub process_named : Op → Option ℕ
process_named (op.GrantLic target set) = Some target
process_named (op.SetCeiling target label) = Some target
process_named _ = None

-- whether a descriptor is one of a living process
abbrev pub has_descriptor : Frame → ℕ → ℕ → Bool
has_descriptor f pid fd = option_map_or (λ p. is_some (at p.fds fd)) (living (at f.processes pid)) false

-- whether the call names a descriptor that is none of the caller's; and whether the caller doesn't live, or the process that
-- the call names doesn't
abbrev pub lacks_descriptor : Frame → ℕ → Op → Bool
lacks_descriptor f pid c = not (option_map_or (has_descriptor f pid) (descriptor_of c) true)

abbrev pub lacks_process : Frame → ℕ → Op → Bool
lacks_process f pid c = not (lives f pid && option_map_or (lives f) (process_named c) true)

-- NoProcess comes exactly where a process is lacking, and BadFd to a living caller exactly where a descriptor is
pub record NothingElseIsMissing (w : World) (pid : ℕ) (c : Op) (r : Reply) : Type 0 where
  pub bad_fd : r ≡ reply.No refusal.BadFd → lacks_descriptor w.frame pid c ≡ true
  pub bad_fd_comes : lives w.frame pid ≡ true → lacks_descriptor w.frame pid c ≡ true → r ≡ reply.No refusal.BadFd
  pub no_process : r ≡ reply.No refusal.NoProcess → lacks_process w.frame pid c ≡ true
  pub no_process_comes : lacks_process w.frame pid c ≡ true → r ≡ reply.No refusal.NoProcess

-- So no row asks for an object, an open entry or a process at a number at which nothing stands: that would be refused so
-- too, whatever the call names.
abbrev pub RowsAskForWhatStands : Type 0
RowsAskForWhatStands = (w : World) (place pid : ℕ) (c : Op) → Sound w → NothingElseIsMissing w pid c (step w place pid c).reply
