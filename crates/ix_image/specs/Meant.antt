-- What the code's types mean, and what its readers give.
use Rattle.std.specs.Prelude.{◌≡◌, ℕ, min, Bool, true, false, List, [], length, map, slice_get, slice_index, slice_index_or, Some, Result, Ok, Err}
use Rattle.ix_image.specs.declared.fault.Fault.{Fault}
use Rattle.ix_image.specs.declared.fault.ReadImage.{ReadImage}
use Rattle.ix_image.specs.declared.fault.ReadImage.TheVariants as why
use Rattle.ix_image.specs.declared.fault.Stop.{Stop}
use Rattle.ix_image.specs.declared.fault.Stop.TheVariants as stop
use Rattle.ix_image.specs.declared.naming.Link.{Link}
use Rattle.ix_image.specs.declared.naming.Links.{Links}
use Rattle.ix_image.specs.declared.contents.Contents.{Contents}
use Rattle.ix_image.specs.declared.contents.Contents.TheVariants as contents
use Rattle.ix_image.specs.declared.node.Node.{Node}
use Rattle.ix_image.specs.Labelled.{label_in}
use Rattle.ix_model.specs.declared.config.FsSpec.{FsSpec}
use Rattle.ix_image.specs.Trees.{LinkOf, NodeOf, TreeOf, Holds, is_directory}
use Rattle.ix_image.specs.Trees as holds
use Rattle.ix_image.specs.Fitting.{times_named, is_reached}
use Rattle.ix_image.specs.Reading.{Read, links_at, tree_in, image_fault}

-- ---- what readers give
-- what was read, or the fault
abbrev pub Gives : {X Y : Type 0} → (X → Y) → Result X Fault → Result Y Fault → Type 0
Gives view (Ok x) read = read ≡ Ok (view x)
Gives view (Err f) read = read ≡ Err f

-- the same, unless memory ran out
abbrev pub Stops : {Y : Type 0} → Stop → Result Y Fault → Type 0
Stops (stop.Fault f) read = read ≡ Err f
Stops stop.NoMemory read = Unit {0}

abbrev pub GivesOrStops : {X Y : Type 0} → (X → Y) → Result X Stop → Result Y Fault → Type 0
GivesOrStops view (Ok x) read = read ≡ Ok (view x)
GivesOrStops view (Err s) read = Stops s read

-- ---- what is kept
-- a name with its object
abbrev pub link_of : Link → LinkOf
link_of l = (l.name.now, l.object)

-- the names that were read, where they were
abbrev pub links_read : Read (List LinkOf) → List LinkOf
links_read (Ok x) = x.0
links_read (Err f) = []

-- names that stand at the front of a text
abbrev pub links_in : Links → List LinkOf
links_in l = links_read (links_at l.count l.text.now)

-- what an object holds
abbrev pub held_of : Contents → Holds
held_of (contents.File bytes) = holds.Bytes bytes.now
held_of (contents.Dir links) = holds.Links (links_in links)

-- an object, and objects
abbrev pub node_of : Node → NodeOf
node_of n = record { number = n.number; frozen = n.frozen; cap = n.cap; lic = n.lic; label = label_in n.label.now; holds = held_of n.contents }

abbrev pub nodes_of : List Node → List NodeOf
nodes_of nodes = map node_of nodes

-- a tree, of its file systems and objects
abbrev pub tree_made : List FsSpec → List Node → TreeOf
tree_made fss nodes = record { fss = fss; nodes = nodes_of nodes }

-- ---- what reading tells
-- the tree, or the first fault, unless memory ran out
abbrev pub Tells : Result TreeOf ReadImage → List ℕ → Type 0
Tells (Ok t) bytes = tree_in bytes ≡ Ok t
Tells (Err (why.Fault at rule)) bytes = image_fault bytes ≡ Some (at, rule)
Tells (Err why.NoMemory) bytes = Unit {0}

-- the tree that is known to be there, unless memory ran out
abbrev pub IsReadAs : TreeOf → Result TreeOf ReadImage → Type 0
IsReadAs t (Ok read) = read ≡ t
IsReadAs t (Err e) = e ≡ why.NoMemory

-- ---- places
-- an object of that number stands at an index
pub record IsAt (nodes : List NodeOf) (i n : ℕ) : Type 0 where
  pub node : NodeOf
  pub is : slice_get nodes i ≡ Some node
  pub number : node.number ≡ n

-- how often objects are named in directories, where twice is as good as more
pub record AreCounts (nodes dirs : List NodeOf) (counts : List ℕ) : Type 0 where
  pub long : length counts ≡ length nodes
  pub each : (i : ℕ) (x : NodeOf) → slice_get nodes i ≡ Some x → min (slice_index counts i) 2 ≡ min (times_named dirs x.number) 2

-- which directories are reached from object 0
pub record AreMarks (nodes : List NodeOf) (marks : List Bool) : Type 0 where
  pub long : length marks ≡ length nodes
  pub each : (i : ℕ) (x : NodeOf) → slice_get nodes i ≡ Some x → is_directory x ≡ true → slice_index_or marks i false ≡ is_reached nodes (length nodes) x.number
