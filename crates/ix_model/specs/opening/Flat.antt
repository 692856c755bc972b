-- The opening world of a config with one file system and files alone in its root, written out.
use Rattle.std.specs.Prelude.{ℕ, suc, ◌+◌, List, [], ◌∷◌, ◌++◌, length, map, replicate, Option, Some, None}
use Rattle.ix_model.specs.world.World.{World, Object, Holding}
use Rattle.ix_model.specs.world.Contents.{holds_nothing}
use Rattle.ix_model.specs.opening.Opening.{root_of, process_of, object_of}
use Rattle.ix_model.specs.world.Naming.{last_name}
use Rattle.ix_model.specs.declared.config.Limits.{Limits}
use Rattle.ix_model.specs.declared.config.FsSpec.{FsSpec}
use Rattle.ix_model.specs.declared.config.ProcSpec.{ProcSpec}
use Rattle.ix_model.specs.declared.config.ObjSpec.{ObjSpec}

-- the names of files, with their numbers from k on
abbrev pub named : ℕ → List ObjSpec → List (List ℕ × ℕ)
named k [] = []
named k (b ∷ bs) = (last_name b.path.names, k) ∷ named (suc k) bs

-- the root with these names
abbrev pub root_with : List (List ℕ × ℕ) → Object
root_with names = record (root_of 0) { names = names }

-- a file, and what it holds
abbrev pub file_of : ObjSpec → Option Object
file_of b = Some (object_of 0 b)

abbrev pub bytes_of : ObjSpec → Holding
bytes_of b = record { first = b.bytes; second = [] }

-- the root and the files, and n numbers at which nothing stands
abbrev pub flat_objects : List ObjSpec → ℕ → List (Option Object)
flat_objects bs n = Some (root_with (named 1 bs)) ∷ (map file_of bs ++ replicate n None)

abbrev pub flat_holdings : List ObjSpec → ℕ → List Holding
flat_holdings bs n = holds_nothing ∷ (map bytes_of bs ++ replicate n holds_nothing)

-- the whole world
abbrev pub flat_world : Limits → FsSpec → List ProcSpec → List ObjSpec → ℕ → World
flat_world l s procs bs n = record {
  frame = record { limits = l; fss = s ∷ []; objects = flat_objects bs n; processes = None ∷ map (λ p. Some (process_of p)) procs; opens = replicate l.opens None; log = [] };
  content = record { holdings = flat_holdings bs n; offsets = replicate l.opens 0; statuses = replicate (length procs + 1) 0 };
}
