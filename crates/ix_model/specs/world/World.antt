-- The machine's world: the frame that calls decide on, and the content that it holds.
use Rattle.std.specs.Prelude.{ℕ, Bool, true, false, not, ◌&&◌, ◌==◌, if◌then◌else◌, List, [], ◌∷◌, position, Option, Some, None, is_none, slice_set, slice_index_or}
use Rattle.std.specs.Option.{option_map_or}
use Rattle.std.proofs.Common.{option_map}
use Rattle.std.specs.List.{list_any}
use Rattle.ix_label.specs.Category.{Categories, top}
use Rattle.ix_model.specs.world.Privs.{is_empty}
use Rattle.ix_model.specs.declared.call.Mode.{Mode}
use Rattle.ix_model.specs.declared.call.Mode.TheVariants as mode
use Rattle.ix_model.specs.declared.reply.Kind.{Kind}
use Rattle.ix_model.specs.declared.reply.Kind.TheVariants as kind
use Rattle.ix_model.specs.declared.privs.PrivSet.{PrivSet}
use Rattle.ix_model.specs.declared.audit.AuditLine.{AuditLine}
use Rattle.ix_model.specs.declared.config.FsSpec.{FsSpec}
use Rattle.ix_model.specs.declared.config.Limits.{Limits}

-- A file, a directory or a pipe, without what it holds. A pipe has no file system, and a claim on each end: a pid or none.
-- A directory has pairs of a name and an object's number, in order of making.
pub record Object : Type 0 where
  pub kind : Kind
  pub fs : Option ℕ
  pub label : Categories
  pub frozen : Bool
  pub cap : PrivSet
  pub lic : PrivSet
  pub claims : List (Option ℕ)
  pub names : List (List ℕ × ℕ)

-- A process, living or ended. It has 32 descriptors, each naming an open entry or none.
pub record Process : Type 0 where
  pub parent : Option ℕ
  pub label : Categories
  pub ceiling : Categories
  pub frozen : Bool
  pub cap : PrivSet
  pub lic : PrivSet
  pub own : PrivSet
  pub cwd : ℕ
  pub fds : List (Option ℕ)
  pub ended : Bool

-- An open entry: an object, or an end of a pipe. The end of a file's entry is 0, and the label of a pipe's stays at bottom.
pub record Open : Type 0 where
  pub object : ℕ
  pub end : ℕ
  pub mode : Mode
  pub label : Categories

-- All but bytes, offsets and exit statuses. What stands in a table stands at its number; at pid 0 nothing ever does.
-- The processes only grow, so the next pid is the length of their table. The objects and the open entries have fixed length.
pub record Frame : Type 0 where
  pub limits : Limits
  pub fss : List FsSpec
  pub objects : List (Option Object)
  pub processes : List (Option Process)
  pub opens : List (Option Open)
  pub log : List AuditLine

-- What an object holds: a file all of it in the first list; a pipe what end 0 can read, and what end 1 can. That may be
-- anything that moves as bytes do.
pub record HoldingOf (A : Type 0) : Type 0 where
  pub first : List A
  pub second : List A

-- bytes
abbrev pub Holding : Type 0
Holding = HoldingOf ℕ

-- The bytes of each object, the offset of each open entry and the exit status of each process, by the same numbers.
pub record Content : Type 0 where
  pub holdings : List Holding
  pub offsets : List ℕ
  pub statuses : List ℕ

-- a frame, and what it holds
pub record World : Type 0 where
  pub frame : Frame
  pub content : Content

-- ---- tables
-- what a table has at a number
abbrev pub at : {A : Type 0} → List (Option A) → ℕ → Option A
at table n = slice_index_or table n None

-- the table with that at the number
abbrev pub put : {A : Type 0} → List (Option A) → ℕ → Option A → List (Option A)
put table n x = slice_set table n x

-- the table with what stands at the number changed
abbrev pub change : {A : Type 0} → List (Option A) → ℕ → (A → A) → List (Option A)
change table n h = put table n (option_map h (at table n))

-- the lowest number at which nothing stands
abbrev pub lowest_free : {A : Type 0} → List (Option A) → Option ℕ
lowest_free table = position is_none table

-- ---- objects
-- what an object is
abbrev pub is_file : Object → Bool
is_file o = elim o.kind [ kind.File ↦ true | _ ↦ false ]

abbrev pub is_dir : Object → Bool
is_dir o = elim o.kind [ kind.Dir ↦ true | _ ↦ false ]

abbrev pub is_pipe : Object → Bool
is_pipe o = elim o.kind [ kind.Pipe ↦ true | _ ↦ false ]

-- a file that carries privileges
abbrev pub is_trusted : Object → Bool
is_trusted o = is_file o && not (is_empty o.cap && is_empty o.lic)

-- the file system of a number; a number past them stands for one without a name, with no block and no inode
abbrev pub fs_at : List FsSpec → ℕ → FsSpec
fs_at fss k = slice_index_or fss k (record { name = []; ceiling = top; blocks = 0; inodes = 0 })

-- the ceiling of an object: that of its file system; a pipe's is top
abbrev pub ceiling_of : List FsSpec → Object → Categories
ceiling_of fss o = option_map_or (λ k. (fs_at fss k).ceiling) o.fs top

-- whether a process other than this one has claimed the end
abbrev pub claimed_by_another : Object → ℕ → ℕ → Bool
claimed_by_another o end pid = option_map_or (λ p. not (p == pid)) (at o.claims end) false

-- whether a process has claimed the end
abbrev pub claimed_by : Object → ℕ → ℕ → Bool
claimed_by o end pid = option_map_or (λ p. p == pid) (at o.claims end) false

-- what is no pipe has no claims, and a new pipe has none yet
abbrev pub no_claims : List (Option ℕ)
no_claims = None ∷ None ∷ []

-- ---- processes and open entries
-- a process, where it lives
abbrev pub living : Option Process → Option Process
living None = None
living (Some p) = if p.ended then None else Some p

-- whether a process lives
abbrev pub lives : Frame → ℕ → Bool
lives f pid = option_map_or (λ p. not p.ended) (at f.processes pid) false

-- whether a record is there that has ended
abbrev pub is_ended : Option Process → Bool
is_ended p = option_map_or (λ q. q.ended) p false

-- whether an open entry of that mode serves for reading, and for writing
abbrev pub may_read : Mode → Bool
may_read mode.Read = true
may_read mode.Both = true
may_read mode.Write = false

abbrev pub may_write : Mode → Bool
may_write mode.Write = true
may_write mode.Both = true
may_write mode.Read = false

-- whether an open entry is on that end of that object
abbrev pub is_on : ℕ → ℕ → Option Open → Bool
is_on o end e = option_map_or (λ x. x.object == o && x.end == end) e false

-- an end is held where some open entry is on it
abbrev pub held : List (Option Open) → ℕ → ℕ → Bool
held opens o end = list_any (is_on o end) opens
