-- The calls on files, and what one of them leaves.
use Rattle.std.specs.Prelude.{◌≡◌, ℕ, Bool, true, false, List, Option}
use Rattle.ix_model.specs.world.World.{World, Process}
use Rattle.ix_model.specs.world.Contents.{carried}
use Rattle.ix_model.specs.history.Step.{Given, put_front}
use Rattle.ix_model.specs.history.Events.{Op}
use Rattle.ix_model.specs.history.Events as op
use Rattle.ix_model.specs.declared.reply.Reply.{Reply}
use Rattle.ix_tables.specs.Parts.{Parts}
use Rattle.ix_fcalls.specs.Around.{Around, frame_of, world_of}
use Rattle.ix_fcalls.specs.Counted.{Keeps}

-- the calls that the files answer: from CreateAt to ListAt in the order of the call table
abbrev pub is_filed : Op → Bool
is_filed (op.CreateAt path) = true
is_filed (op.OpenAt path mode) = true
is_filed (op.ReadFd fd count) = true
is_filed (op.WriteFd fd bytes) = true
is_filed (op.CutFd fd len) = true
is_filed (op.SeekFd fd offset) = true
is_filed (op.DupFd fd) = true
is_filed (op.CloseFd fd) = true
is_filed op.MakePipe = true
is_filed (op.MakeDir path) = true
is_filed (op.LinkAt target path) = true
is_filed (op.UnlinkAt path) = true
is_filed (op.RemoveDir path) = true
is_filed (op.ChangeDir path) = true
is_filed (op.StatAt path) = true
is_filed (op.ListAt path index) = true
is_filed _ = false

-- the world that is given stands, the reply is the one that is given, and its bytes are at the front of the buffer
pub record Answers (given : Given) (w : World) (r : Reply) (before after : List ℕ) : Type 0 where
  pub world : w ≡ given.world
  pub reply : r ≡ given.reply
  pub bytes : after ≡ put_front given.bytes before

-- the calls that may let an object or an open entry go
abbrev pub lets_go : Op → Bool
lets_go (op.CloseFd fd) = true
lets_go (op.UnlinkAt path) = true
lets_go (op.RemoveDir path) = true
lets_go _ = false

-- the calls that neither look at what is held nor edit it
abbrev pub is_plain : Op → Bool
is_plain (op.ReadFd fd count) = false
is_plain (op.WriteFd fd bytes) = false
is_plain (op.CutFd fd len) = false
is_plain (op.SeekFd fd offset) = false
is_plain (op.StatAt path) = false
is_plain o = is_filed o

-- a look at an object
abbrev pub IsLook : Op → Type 0
IsLook (op.StatAt path) = Unit {0}
IsLook _ = ⊥

-- what is held after a decision: what is carried, which is all where nothing may go
abbrev pub Leaves : Bool → Around → Parts → Parts → List (Option Process) → List (Option Process) → Type 0
Leaves true a t u before after = (world_of a u after).content ≡ carried (frame_of a t before) (frame_of a u after) (world_of a t before).content
Leaves false a t u before after = Keeps t u
