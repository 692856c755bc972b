-- Objects joined from inodes, names and pipes, and what they hold.
use Rattle.std.specs.Prelude.{◌≡◌, ◌+◌, ◌<◌, ◌≤◌, ◌==◌, ◌^◌, ℕ, Bool, true, false, List, [], ◌∷◌, ◌++◌, length, map, sum, count_by, Option, Some, None}
use Rattle.std.specs.Option.{option_map_or}
use Rattle.std.proofs.Common.{option_map}
use Rattle.ix_model.specs.world.World.{Object, Holding, at, no_claims}
use Rattle.ix_model.specs.world.Privs.{no_privileges}
use Rattle.ix_model.specs.world.Numbers.{first_pipe}
use Rattle.ix_model.specs.declared.reply.Kind.TheVariants as kind
use Rattle.ix_model.specs.declared.config.Limits.{Limits}
use Rattle.ix_inode.specs.Nodes.{Nodes}
use Rattle.ix_inode.specs.Shown.{kind_of}
use Rattle.ix_inode.specs.declared.node.Node.{Node}
use Rattle.ix_name.specs.Directories.{Directories, names_of}
use Rattle.ix_open.specs.Table.{OpenTable}
use Rattle.ix_pipe.specs.Pipe.{Pipe}
use Rattle.ix_tables.specs.Parts.{Parts}

-- an inode with the names that it has as a directory
abbrev pub object_of : List (List ℕ × ℕ) → Node → Object
object_of names x = record { kind = kind_of x.dir; fs = Some x.fs; label = x.label; frozen = x.frozen; cap = x.cap; lic = x.lic; claims = no_claims; names = names }

-- each inode with the names of its number; there are none past the last list
abbrev pub objects_of : List (Option Node) → List (List (List ℕ × ℕ)) → List (Option Object)
objects_of [] lists = []
objects_of (x ∷ xs) [] = option_map (object_of []) x ∷ objects_of xs []
objects_of (x ∷ xs) (names ∷ lists) = option_map (object_of names) x ∷ objects_of xs lists

-- a pipe: it lies on no file system, and is neither frozen nor has privileges or names
abbrev pub object_of_pipe : Pipe → Object
object_of_pipe p = record { kind = kind.Pipe; fs = None; label = p.label; frozen = false; cap = no_privileges; lic = no_privileges; claims = p.claims; names = [] }

-- what an inode of these bytes holds, and what a pipe does
abbrev pub holding_of_bytes : List ℕ → Holding
holding_of_bytes bytes = record { first = bytes; second = [] }

abbrev pub holding_of_pipe : Option Pipe → Holding
holding_of_pipe None = record { first = []; second = [] }
holding_of_pipe (Some p) = p.holding

-- the inodes of all file systems, and behind them the pipes
abbrev pub all_objects : Nodes → Directories → List (Option Pipe) → List (Option Object)
all_objects nodes names pipes = objects_of nodes.nodes names.lists ++ map (option_map object_of_pipe) pipes

abbrev pub all_holdings : Nodes → List (Option Pipe) → List Holding
all_holdings nodes pipes = map holding_of_bytes nodes.bytes ++ map holding_of_pipe pipes

-- the parts that inodes, names, pipes and open entries are
abbrev pub joined : Limits → Nodes → Directories → List (Option Pipe) → OpenTable → List ℕ → Parts
joined limits nodes names pipes opens homes = record {
  limits = limits;
  fss = nodes.fss;
  objects = all_objects nodes names pipes;
  opens = opens.opens;
  holdings = all_holdings nodes pipes;
  offsets = opens.offsets;
  owners = opens.owners;
  homes = homes;
}

-- how many names there are in lists, and how many of them name an object
abbrev pub names_in : List (List (List ℕ × ℕ)) → ℕ
names_in lists = sum (map length lists)

abbrev pub names_for : ℕ → List (List (List ℕ × ℕ)) → ℕ
names_for o lists = sum (map (count_by (λ e. e.1 == o)) lists)

-- how many names there may be for what stands at a number: for a directory at most one, for a file as many as its links
abbrev pub HasLinks : Bool → ℕ → ℕ → Type 0
HasLinks true links k = k ≤ 1
HasLinks false links k = links ≡ k

-- none are for a number at which nothing stands
abbrev pub HasNames : Option Node → ℕ → Type 0
HasNames None k = k ≡ 0
HasNames (Some x) k = HasLinks x.dir x.links k

-- What holds between the tables: there are as many lists of names and of bytes as inodes, and names in directories alone;
-- each name takes an entry; a file's links are its names, and a directory has at most one; each pipe has its number behind
-- the inodes.
pub record AreJoined (limits : Limits) (nodes : Nodes) (names : Directories) (ps : List (Option Pipe)) (es : OpenTable) (hs : List ℕ) : Type 0 where
  pub lists : length names.lists ≡ length nodes.nodes
  pub bytes : length nodes.bytes ≡ length nodes.nodes
  pub bare : (o : ℕ) → option_map_or (λ x. x.dir) (at nodes.nodes o) false ≡ false → names_of names o ≡ []
  pub entries : names.free + names_in names.lists ≡ limits.names
  pub links : (o : ℕ) → HasNames (at nodes.nodes o) (names_for o names.lists)
  pub first : first_pipe nodes.fss ≡ length nodes.nodes
  pub pipes : length ps ≡ limits.pipes
  pub opens : length es.opens ≡ limits.opens
  pub objects : es.objects ≡ length nodes.nodes + length ps
  pub homes : length hs ≡ length nodes.nodes + length ps
  pub few : length nodes.nodes + length ps < 2 ^ 32
  pub few_names : limits.names < 2 ^ 32
