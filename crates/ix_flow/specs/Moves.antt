-- What an entry does to what objects hold, whatever that is made of: it moves as bytes do.
use Rattle.std.specs.Prelude.{ℕ, ◌-◌, not, ◌&&◌, List, [], ◌++◌, drop, Option, Some, None, if◌then◌else◌}
use Rattle.ix_model.specs.world.World.{World, Frame, Content, HoldingOf}
use Rattle.ix_model.specs.world.Contents.{carried, cleared, kept, offset_of, on_pipe, on_side, resized, written_over}
use Rattle.ix_model.specs.rows.Walks.{OpenFile, behind}
use Rattle.ix_model.specs.history.Step.{Given, is_whole}
use Rattle.ix_model.specs.history.Events.{Op}
use Rattle.ix_model.specs.history.Events as op
use Rattle.ix_model.specs.declared.reply.Reply.{Reply}
use Rattle.ix_model.specs.declared.reply.Reply.TheVariants as reply

-- a read takes from the front of what a pipe's end can read
unfoldable pub taken : {A : Type 0} → Frame → Option OpenFile → Reply → List (HoldingOf A) → List (HoldingOf A)
taken f (Some e) (reply.Bytes k) hs = if on_pipe f e then on_side e.entry.object e.entry.end (drop k) hs else hs
taken f _ r hs = hs

-- a write puts what is new at the end of what a pipe's other end can read, or over a file from the offset on
unfoldable pub put_there : {A : Type 0} → A → Frame → Content → List A → Option OpenFile → Reply → List (HoldingOf A) → List (HoldingOf A)
put_there gap f c new (Some e) (reply.Number k) hs =
    if on_pipe f e then on_side e.entry.object (1 - e.entry.end) (λ old. old ++ new) hs
    else on_side e.entry.object e.entry.end (written_over gap (offset_of c e.id) new) hs
put_there gap f c new _ r hs = hs

-- a cut sets the length of a file
unfoldable pub cut_there : {A : Type 0} → A → ℕ → Option OpenFile → Reply → List (HoldingOf A) → List (HoldingOf A)
cut_there gap len (Some e) reply.Done hs = on_side e.entry.object e.entry.end (resized gap len) hs
cut_there gap len _ r hs = hs

-- the claim that makes a path whole empties it
unfoldable pub emptied_there : {A : Type 0} → Frame → Frame → Option OpenFile → List (HoldingOf A) → List (HoldingOf A)
emptied_there f g (Some e) hs = if is_whole g e.entry.object && not (is_whole f e.entry.object) then cleared e.entry.object hs else hs
emptied_there f g None hs = hs

-- what a call that is given this does to what objects hold, where this fills a gap and that is new
unfoldable pub edited : {A : Type 0} → A → List A → World → ℕ → Op → Given → List (HoldingOf A) → List (HoldingOf A)
edited gap new w pid (op.ReadFd fd count) given hs = taken w.frame (behind w.frame pid fd) given.reply hs
edited gap new w pid (op.WriteFd fd bytes) given hs = put_there gap w.frame (carried w.frame given.world.frame w.content) new (behind w.frame pid fd) given.reply hs
edited gap new w pid (op.CutFd fd len) given hs = cut_there gap len (behind w.frame pid fd) given.reply hs
edited gap new w pid (op.Pex fd) given hs = emptied_there w.frame given.world.frame (behind w.frame pid fd) hs
edited gap new w pid _ given hs = hs

-- what stands before and after the call keeps what it holds, and of that this is made
abbrev pub moved : {A : Type 0} → A → List A → World → ℕ → Op → Given → List (HoldingOf A) → List (HoldingOf A)
moved gap new w pid o given hs = edited gap new w pid o given (kept w.frame given.world.frame hs)

-- the bytes that a call writes
abbrev pub bytes_written : Op → List ℕ
bytes_written (op.WriteFd fd bytes) = bytes
bytes_written _ = []
