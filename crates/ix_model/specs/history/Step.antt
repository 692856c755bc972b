-- One step of the machine: a row's decision, and what it does to bytes, offsets and statuses. Runs of histories.
use Rattle.std.specs.Prelude.{ℕ, suc, Bool, false, not, ◌&&◌, List, [], ◌∷◌, ◌++◌, length, take, drop, Option, Some, None, is_some, if◌then◌else◌}
use Rattle.std.specs.Option.{option_map_or}
use Rattle.ix_model.specs.world.World.{Frame, World, Content, at}
use Rattle.ix_model.specs.rows.Walks.{OpenFile, behind}
use Rattle.ix_model.specs.rows.Table.{Decision, verdict}
use Rattle.ix_model.specs.world.Contents.{carried, holding_of, readable, after_read, after_write, after_cut, after_seek, after_exit, emptied, status_of}
use Rattle.ix_model.specs.rows.Telling.{told}
use Rattle.ix_model.specs.history.Events.{Op, Event}
use Rattle.ix_model.specs.history.Events as op
use Rattle.ix_model.specs.declared.reply.Kind.TheVariants as kind
use Rattle.ix_model.specs.declared.reply.Reply.{Reply}
use Rattle.ix_model.specs.declared.reply.Reply.TheVariants as reply

-- ---- the step
-- what a call gives: the reply, with bytes where it is Bytes, and the world after it
pub record Given : Type 0 where
  pub world : World
  pub reply : Reply
  pub bytes : List ℕ

-- the answer of a call that edits no content
unfoldable pub plainly : World → Decision → Given
plainly w d = record { world = record { frame = d.frame; content = carried w.frame d.frame w.content }; reply = d.reply; bytes = [] }

-- the answer of a call that edits the content: the true reply, the bytes that it gives, and the edit
abbrev pub edited : World → Frame → Reply → List ℕ → (Content → Content) → Given
edited w g r bytes edit = record { world = record { frame = g; content = edit (carried w.frame g w.content) }; reply = r; bytes = bytes }

-- a read gives the bytes that are readable, up to the count, and moves past them
abbrev pub read_given : World → List ℕ → OpenFile → Frame → Given
read_given w bytes e g = edited w g (reply.Bytes (length bytes)) bytes (after_read w.frame e (length bytes))

unfoldable pub read_answer : World → ℕ → Option OpenFile → Reply → Frame → Given
read_answer w count (Some e) (reply.Bytes k) g = read_given w (take count (readable w.frame w.content e)) e g
read_answer w count _ r g = plainly w (record { reply = r; frame = g })

-- a write tells how many bytes it wrote
unfoldable pub write_answer : World → List ℕ → Option OpenFile → Reply → Frame → Given
write_answer w new (Some e) (reply.Number k) g = edited w g (reply.Number (length new)) [] (after_write w.frame e new)
write_answer w new _ r g = plainly w (record { reply = r; frame = g })

-- a cut and a seek
unfoldable pub cut_answer : World → ℕ → Option OpenFile → Reply → Frame → Given
cut_answer w len (Some e) reply.Done g = edited w g reply.Done [] (after_cut e len)
cut_answer w len _ r g = plainly w (record { reply = r; frame = g })

unfoldable pub seek_answer : World → ℕ → Option OpenFile → Reply → Frame → Given
seek_answer w offset (Some e) reply.Done g = edited w g reply.Done [] (after_seek e offset)
seek_answer w offset _ r g = plainly w (record { reply = r; frame = g })

-- a look at a file tells its size
unfoldable pub stat_answer : World → Reply → Frame → Given
stat_answer w (reply.Stat o kind.File size links frozen cap lic) g = plainly w (record { reply = reply.Stat o kind.File (length (holding_of w.content o.0).first) links frozen cap lic; frame = g })
stat_answer w r g = plainly w (record { reply = r; frame = g })

-- an exit leaves the status
unfoldable pub exit_answer : World → ℕ → ℕ → Reply → Frame → Given
exit_answer w pid status reply.Done g = edited w g reply.Done [] (after_exit g pid status)
exit_answer w pid status r g = plainly w (record { reply = r; frame = g })

-- a wait tells the status that the child left
unfoldable pub wait_answer : World → Reply → Frame → Given
wait_answer w (reply.Child p status) g = plainly w (record { reply = reply.Child p (status_of w.content p.0); frame = g })
wait_answer w r g = plainly w (record { reply = r; frame = g })

-- whether both ends of a pipe are claimed
abbrev pub is_whole : Frame → ℕ → Bool
is_whole f o = option_map_or (λ x. is_some (at x.claims 0) && is_some (at x.claims 1)) (at f.objects o) false

-- the claim that makes a path whole empties it
unfoldable pub pex_answer : World → Option OpenFile → Reply → Frame → Given
pex_answer w (Some e) r g =
    let o = e.entry.object in
    edited w g r [] (λ c. if is_whole g o && not (is_whole w.frame o) then emptied o c else c)
pex_answer w None r g = plainly w (record { reply = r; frame = g })

-- what a call gives, by its decision
unfoldable pub answer : World → ℕ → Op → Decision → Given
answer w pid (op.ReadFd fd count) d = read_answer w count (behind w.frame pid fd) d.reply d.frame
answer w pid (op.WriteFd fd bytes) d = write_answer w bytes (behind w.frame pid fd) d.reply d.frame
answer w pid (op.CutFd fd len) d = cut_answer w len (behind w.frame pid fd) d.reply d.frame
answer w pid (op.SeekFd fd offset) d = seek_answer w offset (behind w.frame pid fd) d.reply d.frame
answer w pid (op.StatAt path) d = stat_answer w d.reply d.frame
answer w pid (op.Exit status) d = exit_answer w pid status d.reply d.frame
answer w pid op.WaitChild d = wait_answer w d.reply d.frame
answer w pid (op.Pex fd) d = pex_answer w (behind w.frame pid fd) d.reply d.frame
answer w pid _ d = plainly w d

-- the step of a call by a process, which is the entry at this place
unfoldable pub step : World → ℕ → ℕ → Op → Given
step w place pid o = answer w pid o (verdict (told w pid o) place pid o w.frame)

-- ---- runs
-- the step of an entry
abbrev pub step_of : World → ℕ → Event → Given
step_of w place e = step w place e.pid e.op

-- the world after all entries of a history, the first of which is at this place
abbrev pub run : World → ℕ → List Event → World
run w place [] = w
run w place (e ∷ events) = run (step_of w place e).world (suc place) events

-- bytes at the front of a buffer
abbrev pub put_front : List ℕ → List ℕ → List ℕ
put_front bytes buf = bytes ++ drop (length bytes) buf
