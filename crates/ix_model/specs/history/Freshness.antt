-- Fresh descriptors: those whose labels a call has looked at, and that nothing has touched since.
use Rattle.std.specs.Prelude.{ℕ, suc, Bool, true, false, not, ◌&&◌, ◌||◌, ◌==◌, List, [], ◌∷◌, Option}
use Rattle.std.specs.Option.{option_map_or}
use Rattle.ix_label.specs.Category.{Categories, bottom, same}
use Rattle.ix_model.specs.world.World.{World, Frame, at}
use Rattle.ix_model.specs.rows.Walks.{OpenFile, behind}
use Rattle.ix_model.specs.history.AuditLog.{label_at, of_process}
use Rattle.std.proofs.Common.{option_map}
use Rattle.ix_model.specs.history.Step.{Given, step_of}
use Rattle.ix_model.specs.history.Events.{Op, Event}
use Rattle.ix_model.specs.history.Events as op
use Rattle.ix_model.specs.declared.reply.Reply.{Reply}
use Rattle.ix_model.specs.declared.reply.Reply.TheVariants as reply

-- a descriptor is fresh for reading, or for writing
pub data Way : Type 0 where
  Reading : Way
  Writing : Way

-- a read of the descriptor that gave bytes makes it fresh for reading, and a write that gave a length for writing
abbrev pub refreshes : Way → ℕ → Op → Reply → Bool
refreshes Reading fd (op.ReadFd d count) (reply.Bytes k) = d == fd
refreshes Writing fd (op.WriteFd d bytes) (reply.Number n) = d == fd
refreshes way fd o r = false

-- a call that closes the descriptor
abbrev pub closes : ℕ → Op → Reply → Bool
closes fd (op.CloseFd d) reply.Done = d == fd
closes fd (op.Exit status) reply.Done = true
closes fd o r = false

-- the label of an open entry
abbrev pub label_through : Frame → Option OpenFile → Categories
label_through f e = option_map_or (λ b. option_map_or (λ x. x.label) (at f.opens b.id) bottom) e bottom

-- the label of a process, of the object that its descriptor stood for, or of the open entry was changed from one frame to the next
abbrev pub relabels : Frame → Frame → ℕ → ℕ → Bool
relabels f g pid fd =
    let e = behind f pid fd in
    let o = option_map (λ b. b.entry.object) e in
    not (same (of_process (λ p. p.label) bottom f pid) (of_process (λ p. p.label) bottom g pid) && same (label_at f o) (label_at g o) && same (label_through f e) (label_through g e))

-- whether the descriptor is fresh after an entry, by whether it was before
abbrev pub fresh_after : World → Event → Given → ℕ → ℕ → Way → Bool → Bool
fresh_after w e given pid fd way was =
    e.pid == pid && refreshes way fd e.op given.reply
    || was && not (e.pid == pid && closes fd e.op given.reply) && not (relabels w.frame given.world.frame pid fd)

-- whether it is fresh after a history, by whether it was before; the first entry is at this place
unfoldable pub fresh_from : Bool → World → ℕ → List Event → ℕ → ℕ → Way → Bool
fresh_from was w place [] pid fd way = was
fresh_from was w place (e ∷ events) pid fd way = fresh_from (fresh_after w e (step_of w place e) pid fd way was) (step_of w place e).world (suc place) events pid fd way

-- a descriptor of a process is fresh once a call has refreshed it, until it is closed or a label changes
unfoldable pub is_fresh : World → List Event → ℕ → ℕ → Way → Bool
is_fresh w events pid fd way = fresh_from false w 1 events pid fd way
