-- The worlds that the sessions go through, written out.
use Rattle.std.proofs.Common.{ℕ, ◌+◌, ◌-◌, true, List, [], ◌∷◌, ◌++◌, Option, Some, None, option_map, map, length, replicate, slice_set}
use Rattle.ix_label.specs.Category.{Categories, bottom}
use Rattle.ix_model.specs.{world.{World.{World, Process, Object, Open, at, change, put}, Directories.with_name}, opening.{Opening.process_of, Flat.flat_world}}
use Rattle.ix_model.specs.{rows.OnPaths.new_object, declared.{audit.AuditLine.AuditLine, call.Mode.Mode, reply.Kind.Kind, config.{FsSpec.FsSpec, ProcSpec.ProcSpec, ObjSpec.ObjSpec}}}
use Rattle.ix_worked.specs.Scripts.{usual_limits}
use Rattle.ix_model.specs.declared.call.Mode.TheVariants as mode
use Rattle.ix_model.specs.declared.reply.Kind.TheVariants as kind

-- a process, and the open entries behind its first descriptors
pub record Holder : Type 0 where
  pub spec : ProcSpec
  pub holds : List ℕ

-- an open entry of a file, with its label and its offset
pub record Opened : Type 0 where
  pub file : ℕ
  pub mode : Mode
  pub label : Categories
  pub offset : ℕ

-- these at the front of a table of so many
abbrev front : {A : Type 0} → ℕ → A → List A → List A
front n none xs = xs ++ replicate (n - length xs) none

-- processes, files and open entries on one file system
abbrev pub world_with : FsSpec → List Holder → List ObjSpec → List Opened → World
world_with fs holders files opens =
    let w = flat_world usual_limits fs (map (λ h. h.spec) holders) files (fs.inodes - 1 + usual_limits.pipes - length files) in
    record {
      frame = record w.frame {
        processes = None ∷ map (λ h. Some (record (process_of h.spec) { fds = front 32 None (map Some h.holds) })) holders;
        opens = front usual_limits.opens None (map (λ e. Some (record { object = e.file; end = 0; mode = e.mode; label = e.label })) opens);
      };
      content = record w.content { offsets = front usual_limits.opens 0 (map (λ e. e.offset) opens) };
    }

-- ---- a world with one thing changed
abbrev pub with_process : ℕ → (Process → Process) → World → World
with_process pid h w = record w { frame = record w.frame { processes = change w.frame.processes pid h } }

abbrev pub with_object : ℕ → (Object → Object) → World → World
with_object o h w = record w { frame = record w.frame { objects = change w.frame.objects o h } }

abbrev pub with_line : AuditLine → World → World
with_line l w = record w { frame = record w.frame { log = w.frame.log ++ l ∷ [] } }

-- a process at a label, and an object
abbrev pub floated : ℕ → Categories → World → World
floated pid label w = with_process pid (λ p. record p { label = label }) w

abbrev pub raised : ℕ → Categories → World → World
raised o label w = with_object o (λ x. record x { label = label }) w

-- an open entry under a descriptor of a process, and one of a file
abbrev pub with_entry : ℕ → ℕ → ℕ → Open → World → World
with_entry pid fd e entry w = with_process pid (λ p. record p { fds = put p.fds fd (Some e) }) (record w { frame = record w.frame { opens = put w.frame.opens e (Some entry) } })

abbrev pub opened : ℕ → Mode → Open
opened file mode = record { object = file; end = 0; mode = mode; label = bottom }

-- an open entry at a label
abbrev pub marked : ℕ → Categories → World → World
marked e label w = record w { frame = record w.frame { opens = change w.frame.opens e (λ x. record x { label = label }) } }

-- what a descriptor of a process names
abbrev pub with_fd : ℕ → ℕ → Option ℕ → World → World
with_fd pid fd e w = with_process pid (λ p. record p { fds = put p.fds fd e }) w

-- without an open entry
abbrev pub without_entry : ℕ → World → World
without_entry e w = record { frame = record w.frame { opens = put w.frame.opens e None }; content = record w.content { offsets = slice_set w.content.offsets e 0 } }

-- an open entry at an offset
abbrev pub moved : ℕ → ℕ → World → World
moved e offset w = record w { content = record w.content { offsets = slice_set w.content.offsets e offset } }

-- a file with these bytes, and a pipe of which end 0 can read the first, and end 1 the second
abbrev pub holding : ℕ → List ℕ → List ℕ → World → World
holding o first second w = record w { content = record w.content { holdings = slice_set w.content.holdings o (record { first = first; second = second }) } }

-- an object that is there, or gone
abbrev pub with_new : ℕ → Option Object → World → World
with_new o x w = record w { frame = record w.frame { objects = put w.frame.objects o x } }

-- a new file or directory of a file system, under a name in a directory
abbrev pub with_made : Kind → ℕ → ℕ → List ℕ → ℕ → World → World
with_made kind fs dir name o w = with_object dir (with_name name o) (with_new o (Some (new_object kind (Some fs))) w)

-- a pipe, and its ends under two descriptors of a process, by these open entries
abbrev pub with_pipe : ℕ → ℕ → ℕ → ℕ → ℕ → ℕ → World → World
with_pipe pid o a b d e w =
    with_entry pid a d (record { object = o; end = 0; mode = mode.Both; label = bottom })
    (with_entry pid b e (record { object = o; end = 1; mode = mode.Both; label = bottom }) (with_new o (Some (new_object kind.Pipe None)) w))

-- a pipe with these claims
abbrev pub claimed_by : ℕ → Option ℕ → Option ℕ → World → World
claimed_by o first second w = with_object o (λ x. record x { claims = first ∷ second ∷ [] }) w

-- a process more, like its parent
abbrev pub with_child : ℕ → World → World
with_child pid w = record {
  frame = record w.frame { processes = w.frame.processes ++ option_map {T = Process} (λ p. record p { parent = Some pid }) (at w.frame.processes pid) ∷ [] };
  content = record w.content { statuses = w.content.statuses ++ 0 ∷ [] };
}

-- a child that has ended, without descriptors
abbrev pub with_ended : ℕ → ℕ → World → World
with_ended pid status w =
    let v = with_process pid (λ p. record p { fds = replicate 32 None; ended = true }) w in
    record v { content = record v.content { statuses = slice_set v.content.statuses pid status } }

-- a record that is gone, with its status
abbrev pub without_process : ℕ → World → World
without_process pid w = record { frame = record w.frame { processes = put w.frame.processes pid None }; content = record w.content { statuses = slice_set w.content.statuses pid 0 } }
