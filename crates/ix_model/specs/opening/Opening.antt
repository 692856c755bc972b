-- The opening world: what a config describes.
use Rattle.std.specs.Prelude.{ℕ, suc, ◌+◌, ◌-◌, false, List, [], ◌∷◌, ◌++◌, length, map, drop, replicate, Option, Some, None, if◌then◌else◌, slice_set, unwrap_or}
use Rattle.std.specs.Option.{option_map_or}
use Rattle.ix_label.specs.Category.{bottom}
use Rattle.ix_model.specs.world.Privs.{no_privileges}
use Rattle.ix_model.specs.world.World.{World, Object, Process, put, change, no_claims}
use Rattle.ix_model.specs.world.Naming.{last_name}
use Rattle.ix_model.specs.world.Numbers.{first_inode, free_inode}
use Rattle.ix_model.specs.rows.Walks.{node, child}
use Rattle.ix_model.specs.world.Contents.{holds_nothing}
use Rattle.ix_model.specs.declared.reply.Kind.TheVariants as kind
use Rattle.ix_model.specs.declared.config.Config.{Config}
use Rattle.ix_model.specs.declared.config.FsSpec.{FsSpec}
use Rattle.ix_model.specs.declared.config.ProcSpec.{ProcSpec}
use Rattle.ix_model.specs.declared.config.ObjSpec.{ObjSpec}

-- ---- before any line
abbrev pub root_of : ℕ → Object
root_of k = record { kind = kind.Dir; fs = Some k; label = bottom; frozen = false; cap = no_privileges; lic = no_privileges; claims = no_claims; names = [] }

-- the inodes of file systems from number k on: the root of each, and nothing else
abbrev pub bare : ℕ → List FsSpec → List (Option Object)
bare k [] = []
bare k (s ∷ fss) = (Some (root_of k) ∷ replicate (s.inodes - 1) None) ++ bare (suc k) fss

-- the names of the further file systems, with the numbers of their roots from n on
abbrev pub mounts : ℕ → List FsSpec → List (List ℕ × ℕ)
mounts n [] = []
mounts n (s ∷ fss) = (s.name, n) ∷ mounts (n + s.inodes) fss

-- the objects of which a config says nothing: the roots, of which the first has the names of the others, and no pipe
unfoldable pub bare_objects : Config → List (Option Object)
bare_objects c = change (bare 0 c.fss ++ replicate c.limits.pipes None) 0 (λ root. record root { names = mounts (first_inode c.fss 1) (drop 1 c.fss) })

-- ---- a process line
abbrev pub process_of : ProcSpec → Process
process_of p = record { parent = None; label = p.label; ceiling = p.ceiling; frozen = false; cap = p.cap; lic = p.lic; own = no_privileges; cwd = 0; fds = replicate 32 None; ended = false }

-- ---- an object line
-- the directory of a path: where all names but the last lead, from a directory on
abbrev pub directory_of : List (Option Object) → ℕ → List (List ℕ) → ℕ
directory_of objects n [] = n
directory_of objects n (name ∷ []) = n
directory_of objects n (name ∷ next ∷ names) = directory_of objects (unwrap_or (child (node objects n) name) n) (next ∷ names)

-- the file or directory of a line, on a file system
abbrev pub object_of : ℕ → ObjSpec → Object
object_of k spec = record { kind = if spec.dir then kind.Dir else kind.File; fs = Some k; label = spec.label; frozen = spec.frozen; cap = spec.cap; lic = spec.lic; claims = no_claims; names = [] }

-- the object under its number and, in its directory, under its name
abbrev pub placed : World → ObjSpec → ℕ → ℕ → ℕ → World
placed w spec dir k o = record {
  frame = record w.frame { objects = change (put w.frame.objects o (Some (object_of k spec))) dir (λ x. record x { names = x.names ++ (last_name spec.path.names, o) ∷ [] }) };
  content = record w.content { holdings = slice_set w.content.holdings o (record { first = spec.bytes; second = [] }) };
}

-- an object line takes the lowest free inode of its directory's file system
unfoldable pub with_object : World → ObjSpec → World
with_object w spec =
    let dir = directory_of w.frame.objects 0 spec.path.names in
    let k = unwrap_or (node w.frame.objects dir).fs 0 in
    option_map_or (placed w spec dir k) (free_inode w.frame k) w

-- all lines, in order
abbrev pub with_objects : World → List ObjSpec → World
with_objects w [] = w
with_objects w (spec ∷ specs) = with_objects (with_object w spec) specs

-- ---- the world
-- the processes have pids 1, 2 and so on, in order
abbrev pub bare_world : Config → World
bare_world c = record {
  frame = record { limits = c.limits; fss = c.fss; objects = bare_objects c; processes = None ∷ map (λ p. Some (process_of p)) c.procs; opens = replicate c.limits.opens None; log = [] };
  content = record { holdings = replicate (length (bare_objects c)) holds_nothing; offsets = replicate c.limits.opens 0; statuses = replicate (length c.procs + 1) 0 };
}

-- the world that a config describes
unfoldable pub opening_world : Config → World
opening_world c = with_objects (bare_world c) c.objects
