-- What a core's marks tell of its history, and what a call makes of them.
use Rattle.std.specs.Prelude.{◌≡◌, ◌≤◌, ◌<◌, ◌+◌, ◌*◌, ◌==◌, ◌&&◌, ℕ, Bool, true, false, not, length, Option, Some, None, is_some, if◌then◌else◌}
use Rattle.std.proofs.Common.{option_map}
use Rattle.ix_label.specs.Category.{Categories, bottom, same}
use Rattle.ix_float.specs.declared.mark.Way.{Way}
use Rattle.ix_float.specs.declared.mark.Way.TheVariants as way
use Rattle.ix_model.specs.world.World.{World, Frame, lives}
use Rattle.ix_model.specs.opening.Opening.{opening_world}
use Rattle.ix_model.specs.history.AuditLog.{label_at, of_process}
use Rattle.ix_model.specs.history.Events.{Op, Event}
use Rattle.ix_model.specs.history.Events as op
use Rattle.ix_model.specs.history.Freshness as freshness
use Rattle.ix_model.specs.history.History.{History, world_of}
use Rattle.ix_model.specs.history.Step.{step}
use Rattle.ix_model.specs.declared.ids.Fd.{Fd}
use Rattle.ix_model.specs.declared.reply.Reply.{Reply}
use Rattle.ix_model.specs.declared.reply.Reply.TheVariants as reply
use Rattle.ix_fresh.specs.Known as facts
use Rattle.ix_fresh.specs.Laws.{Spot, spot_behind, fresh_spot, spot_after}
use Rattle.ix_fresh.specs.Touched.{target, entry_target, label_of_entry}
use Rattle.ix_journal.specs.Entries.{Entries}
use Rattle.ix_marks.specs.Known.{Known, Sizes, spot_of, has_row, is_it, unless, on_object, on_entry}
use Rattle.ix_marks.specs.declared.row.Spot as marked
use Rattle.ix_core.specs.Stepping.{StandsFor}
use Rattle.ix_core.specs.declared.marking.Before.{Before}

-- ---- freshness
-- the way of a mark, as freshness has it
abbrev pub way_of : Way → freshness.Way
way_of way.Reading = freshness.Reading
way_of way.Writing = freshness.Writing

-- the spot of a mark, as freshness has it
abbrev pub spot_in : marked.Spot → Spot
spot_in s = record { entry = s.entry; object = s.object }

-- whether a call is a read through a descriptor that is fresh for reading, or a write through one that is fresh for writing
abbrev pub goes_fresh : History → ℕ → Op → Bool
goes_fresh h pid (op.ReadFd fd count) = freshness.is_fresh (opening_world h.config) h.events pid fd freshness.Reading
goes_fresh h pid (op.WriteFd fd bytes) = freshness.is_fresh (opening_world h.config) h.events pid fd freshness.Writing
goes_fresh h pid _ = false

-- ---- what marks stand for
-- so many rows, objects and open entries as a world has at most
abbrev pub sizes_of : Frame → Sizes
sizes_of f = record { rows = f.limits.procs; objects = length f.objects; opens = length f.opens }

-- the rows are of living processes, and there is a generation for each number
pub record AreReady (m : Known) (f : Frame) : Type 0 where
  pub rows : (pid : ℕ) → has_row m pid ≡ true → lives f pid ≡ true
  pub sizes : m.sizes ≡ sizes_of f

-- the marks are those of the descriptors that are fresh after a history, each at what the descriptor stands for; an entry
-- raises at most three generations
pub record AreMarked (m : Known) (h : History) : Type 0 where
  pub spots : (pid fd : ℕ) (w : Way) → option_map spot_in (spot_of m pid fd w) ≡ fresh_spot (opening_world h.config) h.events pid fd (way_of w)
  pub ready : AreReady m (world_of h).frame
  pub raised : m.raised ≤ 3 * length h.events

-- what a core keeps: it stands for its history, and so do its marks
pub record IsKept (world : World) (journal : Entries) (marks : Known) (h : History) : Type 0 where
  pub stands : StandsFor world journal h
  pub marked : AreMarked marks h

-- of each marked descriptor it is known that a call that way would change no label, and it stands for the mark's spot
pub record AreKnown (m : Known) (f : Frame) : Type 0 where
  pub here : (pid fd : ℕ) (w : Way) (s : Spot) → option_map spot_in (spot_of m pid fd w) ≡ Some s → spot_behind f pid fd ≡ Some s
  pub known : (pid fd : ℕ) (w : Way) → is_some (spot_of m pid fd w) ≡ true → facts.Known (way_of w) f pid fd

-- ---- what a call makes of them
-- the call of a process, whichever seat and line it is of
abbrev pub call_by : ℕ → Op → Event
call_by pid o = record { seat = 0; line = 0; pid = pid; op = o }

-- the marks after a call: at the spots that the call leaves
pub record AreTold (m n : Known) (w : World) (place pid : ℕ) (o : Op) : Type 0 where
  pub spots : (q fd : ℕ) (v : Way) → option_map spot_in (spot_of n q fd v) ≡ spot_after w place (call_by pid o) q fd (way_of v) (option_map spot_in (spot_of m q fd v))
  pub ready : AreReady n (step w place pid o).world.frame
  pub raised : n.raised ≤ m.raised + 3

-- the mark of the descriptor that a call reads or writes through
abbrev pub mark_through : Known → ℕ → Op → Option marked.Spot
mark_through m pid (op.ReadFd fd count) = spot_of m pid fd way.Reading
mark_through m pid (op.WriteFd fd bytes) = spot_of m pid fd way.Writing
mark_through m pid _ = None

-- the spot of that descriptor
abbrev pub spot_through : Frame → ℕ → Op → Option Spot
spot_through f pid (op.ReadFd fd count) = spot_behind f pid fd
spot_through f pid (op.WriteFd fd bytes) = spot_behind f pid fd
spot_through f pid _ = None

-- the labels that a call may change, and of what they are, and the spot of the descriptor that it reads or writes through
pub record IsBefore (b : Before) (f : Frame) (pid : ℕ) (o : Op) : Type 0 where
  pub process : b.process ≡ of_process (λ p. p.label) bottom f pid
  pub object : option_map (λ x. x.0) b.object ≡ target f pid o
  pub object_label : b.object_label ≡ label_at f (target f pid o)
  pub entry : b.entry ≡ entry_target f pid o
  pub entry_label : b.entry_label ≡ label_of_entry f (entry_target f pid o)
  pub spot : option_map spot_in b.spot ≡ spot_through f pid o

-- whether a process, an object or an open entry has another label than this one
abbrev pub other_process : Categories → Frame → ℕ → Bool
other_process was g pid = not (same was (of_process (λ p. p.label) bottom g pid))

abbrev pub other_object : Categories → Frame → Option ℕ → Bool
other_object was g o = not (same was (label_at g o))

abbrev pub other_entry : Categories → Frame → Option ℕ → Bool
other_entry was g e = not (same was (label_of_entry g e))

-- a mark, unless it is on an object, or an open entry, whose label has changed
abbrev pub unless_object : Option ℕ → Bool → Option marked.Spot → Option marked.Spot
unless_object (Some o) true s = unless (on_object o) s
unless_object _ _ s = s

abbrev pub unless_entry : Option ℕ → Bool → Option marked.Spot → Option marked.Spot
unless_entry (Some e) true s = unless (on_entry e) s
unless_entry _ _ s = s

-- a mark, unless its descriptor is closed
abbrev pub unless_closed : ℕ → Op → Reply → ℕ → ℕ → Option marked.Spot → Option marked.Spot
unless_closed pid (op.CloseFd fd) reply.Done q d s = if q == pid && d == fd then None else s
unless_closed pid (op.Exit status) reply.Done q d s = if q == pid then None else s
unless_closed pid _ _ q d s = s

-- whether a process has exited
abbrev pub has_exited : Op → Reply → Bool
has_exited (op.Exit status) reply.Done = true
has_exited _ _ = false

-- the descriptor that a call refreshes, and for which way
abbrev pub refreshed : Op → Reply → Option (Fd × Way)
refreshed (op.ReadFd fd count) (reply.Bytes k) = Some (record { 0 = fd }, way.Reading)
refreshed (op.WriteFd fd bytes) (reply.Number k) = Some (record { 0 = fd }, way.Writing)
refreshed _ _ = None

-- a mark, or the new spot where it is that of a refreshed descriptor
abbrev pub or_refreshed : ℕ → Option (Fd × Way) → Option marked.Spot → ℕ → ℕ → Way → Option marked.Spot → Option marked.Spot
or_refreshed pid None spot q d w s = s
or_refreshed pid (Some r) spot q d w s = if is_it pid r.0.0 r.1 q d w then spot else s

-- a descriptor that is refreshed stands for something, and there is a row for its process
pub record CanRefresh (m : Known) (pid : ℕ) (r : Fd × Way) (spot : Option marked.Spot) : Type 0 where
  pub stands : is_some spot ≡ true
  pub descriptor : r.0.0 < 32
  pub room : has_row m pid ≡ false → 0 < m.owners.free
