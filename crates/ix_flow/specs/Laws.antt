-- The promise about origins.
use Rattle.std.specs.Prelude.{◌≡◌, ◌++◌, ℕ, true, false, All, map, Some, None, slice_get}
use Rattle.ix_label.specs.Category.{Categories, bottom, leq}
use Rattle.ix_model.specs.world.World.{Object, at}
use Rattle.ix_model.specs.world.Contents.{held_at}
use Rattle.ix_model.specs.rows.Auditing.{audit_line}
use Rattle.ix_model.specs.rows.Walks.{OpenFile, behind}
use Rattle.ix_model.specs.history.AuditLog.{of_process}
use Rattle.ix_model.specs.history.Events.{Event}
use Rattle.ix_model.specs.history.Events as op
use Rattle.ix_model.specs.history.History.{History, world_of, next, with_entry}
use Rattle.ix_model.specs.declared.audit.Act.TheVariants as act
use Rattle.ix_flow.specs.Origins.{Marked, Origin, Gap, each, bytes_of}
use Rattle.ix_flow.specs.Marks.{marks_of, marks_read}
use Rattle.ix_flow.specs.Lowerings.{label_of, via}
use Rattle.ix_flow.specs.Lines.{Piece, end_line, flow_text, lines_of_entry, object_read, pieces_read}
use Rattle.ix_flow.specs.Tracking.{counts_of, lines_so_far}

-- ---- the marked run is the run
-- the bytes that the marked run holds and reads are those of the run
pub record BytesAreTheRuns (h : History) : Type 0 where
  pub held : map (each (λ (m : Marked). m.byte)) (marks_of h) ≡ (world_of h).content.holdings
  pub read : (e : Event) → bytes_of (marks_read h e) ≡ (next h e).bytes

abbrev pub TheMarkedRunIsTheRun : Type 0
TheMarkedRunIsTheRun = (h : History) → BytesAreTheRuns h

-- ---- what was let down
-- the log has a line for the entry of a place: downfile, and that object
pub record IsInTheLog (h : History) (place o : ℕ) : Type 0 where
  pub index : ℕ
  pub pid : ℕ
  pub was : Categories
  pub now : Categories
  pub line : slice_get (world_of h).frame.log index ≡ Some (audit_line place pid act.DownFile o was now)
  pub falls : leq was now ≡ false

-- What came into an object was written under a label at or below this one; or an entry has let the object down since, and
-- its line is in the log; or it is a gap's.
pub data IsAccountedFor (h : History) (o : ℕ) (l : Categories) (origin : Origin) : Type 0 where
  Below : via h o origin ≡ None → leq (label_of h origin) l ≡ true → IsAccountedFor h o l origin
  LetDown : (place : ℕ) → via h o origin ≡ Some place → IsInTheLog h place o → IsAccountedFor h o l origin
  OfGap : origin ≡ Gap → IsAccountedFor h o l origin

-- each origin that stands in an object is at or below the object's label, or the object was let down since
pub record OriginsStayBelow (h : History) : Type 0 where
  pub first : (o : ℕ) (x : Object) → at (world_of h).frame.objects o ≡ Some x → All (λ (m : Marked). IsAccountedFor h o x.label m.origin) (held_at (marks_of h) o).first
  pub second : (o : ℕ) (x : Object) → at (world_of h).frame.objects o ≡ Some x → All (λ (m : Marked). IsAccountedFor h o x.label m.origin) (held_at (marks_of h) o).second

abbrev pub OriginsAreBelow : Type 0
OriginsAreBelow = (h : History) → OriginsStayBelow h

-- each origin that was read is at or below the reader's label after the read, or the object that was read was let down since
abbrev pub ReadersAreAbove : Type 0
ReadersAreAbove = (h : History) (e : Event) (fd count : ℕ) (b : OpenFile) → e.op ≡ op.ReadFd fd count → behind (world_of h).frame e.pid fd ≡ Some b →
    All (λ (m : Marked). IsAccountedFor h b.entry.object (of_process (λ p. p.label) bottom (next h e).world.frame e.pid) m.origin) (marks_read h e)

-- ---- lines
-- So is each line: where it names no lowering, its label is at or below the reader's after the read.
abbrev pub ArePiecesAccountedFor : History → Event → Type 0
ArePiecesAccountedFor h e = All (λ (p : Piece). IsAccountedFor h (object_read h e.pid e.op) (of_process (λ q. q.label) bottom (next h e).world.frame e.pid) p.origin) (pieces_read h e)

abbrev pub LinesAreAccountedFor : Type 0
LinesAreAccountedFor = (h : History) (e : Event) → ArePiecesAccountedFor h e

-- ---- the text
-- the flow of a history is the lines of its entries, and behind them the last one
abbrev pub FlowsAreLinesAndAnEnd : Type 0
FlowsAreLinesAndAnEnd = (h : History) → flow_text h ≡ lines_so_far h ++ end_line (counts_of h)

-- an entry more has its lines behind those of the entries before it
abbrev pub LinesGoOn : Type 0
LinesGoOn = (h : History) (e : Event) → lines_so_far (with_entry h e) ≡ lines_so_far h ++ lines_of_entry h e
