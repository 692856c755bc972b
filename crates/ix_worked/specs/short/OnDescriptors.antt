-- Short histories of the calls on descriptors.
use Rattle.std.specs.Prelude.{List, [], ◌∷◌, ◌++◌, map, replicate, codes}
use Rattle.ix_label.specs.Category.{bottom, top}
use Rattle.ix_model.specs.history.Events.{Event}
use Rattle.ix_model.specs.history.Events as op
use Rattle.ix_model.specs.world.Privs.{no_privileges}
use Rattle.ix_model.specs.declared.call.Keep.TheVariants as keep
use Rattle.ix_model.specs.declared.call.Mode.TheVariants as mode
use Rattle.ix_model.specs.declared.config.Config.{Config}
use Rattle.ix_model.specs.declared.refusal.Refusal.TheVariants as refusal
use Rattle.ix_model.specs.declared.reply.Reply.TheVariants as reply
use Rattle.ix_worked.specs.Scripts.{in_root, proc, file, gives, by, refuses, small_limits, small}
use Rattle.ix_worked.specs.Sessions.{Line}
use Rattle.std.specs.List.{range_with_len}

-- proc a - * - -
-- file /n - free - - "abc"
abbrev pub desk : Config
desk = small (proc bottom top ∷ []) (file (codes "n") bottom (codes "abc") ∷ [])

-- 30 copies of a descriptor, a pipe, two more copies, and a pipe again
abbrev pub copying : List (Event × Line)
copying =
    map (λ n. (by 1 (op.DupFd 0), gives (reply.Number n) [] bottom)) (range_with_len 1 30)
    ++ (by 1 op.MakePipe, refuses refusal.NoFd bottom)
    ∷ (by 1 (op.DupFd 0), gives (reply.Number 31) [] bottom)
    ∷ (by 1 (op.DupFd 0), refuses refusal.NoFd bottom)
    ∷ (by 1 op.MakePipe, refuses refusal.NoFd bottom)
    ∷ []

-- the same with as many open entries as descriptors
abbrev pub long_desk : Config
long_desk = record desk { limits = record small_limits { opens = 64 } }

-- no descriptor names an open entry yet
abbrev pub using_none : List (Event × Line)
using_none =
    (by 1 (op.ReadFd 0 1), refuses refusal.BadFd bottom)
    ∷ (by 1 (op.WriteFd 0 []), refuses refusal.BadFd bottom)
    ∷ (by 1 (op.CutFd 0 0), refuses refusal.BadFd bottom)
    ∷ (by 1 (op.SeekFd 31 0), refuses refusal.BadFd bottom)
    ∷ (by 1 (op.DupFd 32), refuses refusal.BadFd bottom)
    ∷ (by 1 (op.CloseFd 255), refuses refusal.BadFd bottom)
    ∷ (by 1 (op.Pex 0), refuses refusal.BadFd bottom)
    ∷ (by 1 (op.Unpex 0), refuses refusal.BadFd bottom)
    ∷ (by 1 (op.Fork (keep.One (record { 0 = 0 }))), refuses refusal.BadFd bottom)
    ∷ []

-- it is open for writing
abbrev pub reading_a_writer : List (Event × Line)
reading_a_writer =
    (by 1 (op.OpenAt (in_root (codes "n")) mode.Write), gives (reply.Number 0) [] bottom)
    ∷ (by 1 (op.ReadFd 0 1), refuses refusal.NotReadable bottom)
    ∷ []

-- it is open for reading
abbrev pub writing_a_reader : List (Event × Line)
writing_a_reader =
    (by 1 (op.OpenAt (in_root (codes "n")) mode.Read), gives (reply.Number 0) [] bottom)
    ∷ (by 1 (op.WriteFd 0 (codes "x")), refuses refusal.NotWritable bottom)
    ∷ (by 1 (op.CutFd 0 0), refuses refusal.NotWritable bottom)
    ∷ []

-- a file of the greatest length needs more blocks than there are, which is looked at later
abbrev pub going_too_far : List (Event × Line)
going_too_far =
    (by 1 (op.OpenAt (in_root (codes "n")) mode.Both), gives (reply.Number 0) [] bottom)
    ∷ (by 1 (op.ReadFd 0 4097), refuses refusal.TooBig bottom)
    ∷ (by 1 (op.WriteFd 0 (replicate 4097 65)), refuses refusal.TooBig bottom)
    ∷ (by 1 (op.CutFd 0 1048577), refuses refusal.TooBig bottom)
    ∷ (by 1 (op.CutFd 0 1048576), refuses refusal.NoSpace bottom)
    ∷ (by 1 (op.SeekFd 0 1048577), refuses refusal.TooBig bottom)
    ∷ (by 1 (op.SeekFd 0 1048576), gives reply.Done [] bottom)
    ∷ (by 1 (op.WriteFd 0 (codes "x")), refuses refusal.TooBig bottom)
    ∷ []

-- the descriptor is on a file
abbrev pub claiming_a_file : List (Event × Line)
claiming_a_file =
    (by 1 (op.OpenAt (in_root (codes "n")) mode.Both), gives (reply.Number 0) [] bottom)
    ∷ (by 1 (op.Pex 0), refuses refusal.NotPipe bottom)
    ∷ (by 1 (op.Unpex 0), refuses refusal.NotPipe bottom)
    ∷ []

-- both ends are asked
abbrev pub cutting_a_pipe : List (Event × Line)
cutting_a_pipe =
    (by 1 op.MakePipe, gives (reply.Two (record { 0 = 0 }) (record { 0 = 1 })) [] bottom)
    ∷ (by 1 (op.CutFd 0 0), refuses refusal.IsPipe bottom)
    ∷ (by 1 (op.SeekFd 1 0), refuses refusal.IsPipe bottom)
    ∷ []

-- before the claim, and by a child after it, which claims the end once it is let go
abbrev pub letting_go : List (Event × Line)
letting_go =
    (by 1 op.MakePipe, gives (reply.Two (record { 0 = 0 }) (record { 0 = 1 })) [] bottom)
    ∷ (by 1 (op.Unpex 0), refuses refusal.NotClaimed bottom)
    ∷ (by 1 (op.Pex 0), gives reply.Half [] bottom)
    ∷ (by 1 (op.Fork keep.All), gives (reply.Number 2) [] bottom)
    ∷ (by 2 (op.Unpex 0), refuses refusal.NotClaimed bottom)
    ∷ (by 2 (op.WriteFd 0 []), refuses refusal.PexHeld bottom)
    ∷ (by 2 (op.Pex 0), refuses refusal.PexHeld bottom)
    ∷ (by 1 (op.Unpex 0), gives reply.Done [] bottom)
    ∷ (by 2 (op.Pex 0), gives reply.Half [] bottom)
    ∷ []

-- 31 are in use before the pipe, and 32 after one copy more
abbrev pub using_all : List (Event × Line)
using_all =
    (by 1 (op.OpenAt (in_root (codes "n")) mode.Read), gives (reply.Number 0) [] bottom)
    ∷ (copying ++ (by 1 (op.OpenAt (in_root (codes "n")) mode.Read), refuses refusal.NoFd bottom) ∷ [])

-- there are four
abbrev pub opening_all : List (Event × Line)
opening_all =
    (by 1 (op.OpenAt (in_root (codes "n")) mode.Read), gives (reply.Number 0) [] bottom)
    ∷ (by 1 (op.OpenAt (in_root (codes "n")) mode.Read), gives (reply.Number 1) [] bottom)
    ∷ (by 1 (op.OpenAt (in_root (codes "n")) mode.Read), gives (reply.Number 2) [] bottom)
    ∷ (by 1 op.MakePipe, refuses refusal.NoOpen bottom)
    ∷ (by 1 (op.OpenAt (in_root (codes "n")) mode.Read), gives (reply.Number 3) [] bottom)
    ∷ (by 1 (op.OpenAt (in_root (codes "n")) mode.Read), refuses refusal.NoOpen bottom)
    ∷ (by 1 op.MakePipe, refuses refusal.NoOpen bottom)
    ∷ (by 1 (op.DupFd 0), gives (reply.Number 4) [] bottom)
    ∷ (by 1 (op.Fork keep.All), gives (reply.Number 2) [] bottom)
    ∷ []

-- there is one
abbrev pub making_pipes : List (Event × Line)
making_pipes =
    (by 1 op.MakePipe, gives (reply.Two (record { 0 = 0 }) (record { 0 = 1 })) [] bottom)
    ∷ (by 1 op.MakePipe, refuses refusal.NoInode bottom)
    ∷ (by 1 (op.CloseFd 0), gives reply.Done [] bottom)
    ∷ (by 1 op.MakePipe, refuses refusal.NoInode bottom)
    ∷ (by 1 (op.CloseFd 1), gives reply.Done [] bottom)
    ∷ (by 1 op.MakePipe, gives (reply.Two (record { 0 = 0 }) (record { 0 = 1 })) [] bottom)
    ∷ []

-- the pipe is empty, has a byte, and is empty again
abbrev pub reading_nothing : List (Event × Line)
reading_nothing =
    (by 1 op.MakePipe, gives (reply.Two (record { 0 = 0 }) (record { 0 = 1 })) [] bottom)
    ∷ (by 1 (op.ReadFd 0 0), refuses refusal.Again bottom)
    ∷ (by 1 (op.WriteFd 1 (codes "x")), gives (reply.Number 1) [] bottom)
    ∷ (by 1 (op.ReadFd 0 0), gives (reply.Bytes 0) [] bottom)
    ∷ (by 1 (op.ReadFd 0 8), gives (reply.Bytes 1) (codes "x") bottom)
    ∷ (by 1 (op.ReadFd 0 8), refuses refusal.Again bottom)
    ∷ (by 1 (op.CloseFd 1), gives reply.Done [] bottom)
    ∷ (by 1 (op.ReadFd 0 0), gives (reply.Bytes 0) [] bottom)
    ∷ []

-- it is full, and its other end is let go
abbrev pub writing_into_a_broken_pipe : List (Event × Line)
writing_into_a_broken_pipe =
    (by 1 op.MakePipe, gives (reply.Two (record { 0 = 0 }) (record { 0 = 1 })) [] bottom)
    ∷ (by 1 (op.WriteFd 0 (replicate 4096 65)), gives (reply.Number 4096) [] bottom)
    ∷ (by 1 (op.WriteFd 0 (codes "x")), refuses refusal.PipeFull bottom)
    ∷ (by 1 (op.CloseFd 1), gives reply.Done [] bottom)
    ∷ (by 1 (op.WriteFd 0 (codes "x")), refuses refusal.Broken bottom)
    ∷ []

-- a byte is written before, and one after
abbrev pub claiming_both : List (Event × Line)
claiming_both =
    (by 1 op.MakePipe, gives (reply.Two (record { 0 = 0 }) (record { 0 = 1 })) [] bottom)
    ∷ (by 1 (op.Pex 0), gives reply.Half [] bottom)
    ∷ (by 1 (op.WriteFd 0 (codes "x")), gives (reply.Number 1) [] bottom)
    ∷ (by 1 (op.Pex 1), gives (reply.Whole (record { 0 = 1 }) bottom no_privileges) [] bottom)
    ∷ (by 1 (op.ReadFd 1 8), refuses refusal.Again bottom)
    ∷ (by 1 (op.WriteFd 0 (codes "y")), gives (reply.Number 1) [] bottom)
    ∷ (by 1 (op.Pex 1), gives (reply.Whole (record { 0 = 1 }) bottom no_privileges) [] bottom)
    ∷ (by 1 (op.ReadFd 1 8), gives (reply.Bytes 1) (codes "y") bottom)
    ∷ []

-- the child is let in once the last is closed
abbrev pub closing_a_claimed_end : List (Event × Line)
closing_a_claimed_end =
    (by 1 op.MakePipe, gives (reply.Two (record { 0 = 0 }) (record { 0 = 1 })) [] bottom)
    ∷ (by 1 (op.Fork keep.All), gives (reply.Number 2) [] bottom)
    ∷ (by 1 (op.Pex 0), gives reply.Half [] bottom)
    ∷ (by 1 (op.DupFd 0), gives (reply.Number 2) [] bottom)
    ∷ (by 1 (op.CloseFd 0), gives reply.Done [] bottom)
    ∷ (by 2 (op.WriteFd 0 (codes "x")), refuses refusal.PexHeld bottom)
    ∷ (by 1 (op.CloseFd 2), gives reply.Done [] bottom)
    ∷ (by 2 (op.WriteFd 0 (codes "x")), gives (reply.Number 1) [] bottom)
    ∷ []

-- the file has three bytes, then two, then four
abbrev pub writing_in_the_middle : List (Event × Line)
writing_in_the_middle =
    (by 1 (op.OpenAt (in_root (codes "n")) mode.Both), gives (reply.Number 0) [] bottom)
    ∷ (by 1 (op.SeekFd 0 1), gives reply.Done [] bottom)
    ∷ (by 1 (op.WriteFd 0 (codes "X")), gives (reply.Number 1) [] bottom)
    ∷ (by 1 (op.CutFd 0 2), gives reply.Done [] bottom)
    ∷ (by 1 (op.CutFd 0 4), gives reply.Done [] bottom)
    ∷ (by 1 (op.ReadFd 0 8), gives (reply.Bytes 2) (0 ∷ 0 ∷ []) bottom)
    ∷ (by 1 (op.SeekFd 0 9), gives reply.Done [] bottom)
    ∷ (by 1 (op.WriteFd 0 []), gives (reply.Number 0) [] bottom)
    ∷ (by 1 (op.SeekFd 0 0), gives reply.Done [] bottom)
    ∷ (by 1 (op.ReadFd 0 8), gives (reply.Bytes 4) (97 ∷ 88 ∷ 0 ∷ 0 ∷ []) bottom)
    ∷ []

-- a file is read and closed, and a pipe written and closed
abbrev pub using_numbers_again : List (Event × Line)
using_numbers_again =
    (by 1 (op.OpenAt (in_root (codes "n")) mode.Read), gives (reply.Number 0) [] bottom)
    ∷ (by 1 (op.ReadFd 0 2), gives (reply.Bytes 2) (codes "ab") bottom)
    ∷ (by 1 (op.CloseFd 0), gives reply.Done [] bottom)
    ∷ (by 1 (op.OpenAt (in_root (codes "n")) mode.Read), gives (reply.Number 0) [] bottom)
    ∷ (by 1 (op.ReadFd 0 8), gives (reply.Bytes 3) (codes "abc") bottom)
    ∷ (by 1 (op.CloseFd 0), gives reply.Done [] bottom)
    ∷ (by 1 op.MakePipe, gives (reply.Two (record { 0 = 0 }) (record { 0 = 1 })) [] bottom)
    ∷ (by 1 (op.WriteFd 0 (codes "x")), gives (reply.Number 1) [] bottom)
    ∷ (by 1 (op.CloseFd 0), gives reply.Done [] bottom)
    ∷ (by 1 (op.CloseFd 1), gives reply.Done [] bottom)
    ∷ (by 1 op.MakePipe, gives (reply.Two (record { 0 = 0 }) (record { 0 = 1 })) [] bottom)
    ∷ (by 1 (op.ReadFd 1 8), refuses refusal.Again bottom)
    ∷ []

-- each call has two reasons to be refused: an end of a pipe, a claim, and what is open for reading, and too many bytes
abbrev pub asking_too_much : List (Event × Line)
asking_too_much =
    (by 1 op.MakePipe, gives (reply.Two (record { 0 = 0 }) (record { 0 = 1 })) [] bottom)
    ∷ (by 1 (op.SeekFd 0 1048577), refuses refusal.IsPipe bottom)
    ∷ (by 1 (op.CutFd 0 1048577), refuses refusal.IsPipe bottom)
    ∷ (by 1 (op.CloseFd 1), gives reply.Done [] bottom)
    ∷ (by 1 (op.WriteFd 0 (replicate 4097 65)), refuses refusal.TooBig bottom)
    ∷ (by 1 (op.Pex 0), gives reply.Half [] bottom)
    ∷ (by 1 (op.Fork keep.All), gives (reply.Number 2) [] bottom)
    ∷ (by 2 (op.ReadFd 0 4097), refuses refusal.PexHeld bottom)
    ∷ (by 2 (op.WriteFd 0 (replicate 4097 65)), refuses refusal.PexHeld bottom)
    ∷ (by 2 (op.OpenAt (in_root (codes "n")) mode.Read), gives (reply.Number 1) [] bottom)
    ∷ (by 2 (op.WriteFd 1 (replicate 4097 65)), refuses refusal.NotWritable bottom)
    ∷ (by 2 (op.CutFd 1 1048577), refuses refusal.NotWritable bottom)
    ∷ []
