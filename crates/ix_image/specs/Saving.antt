-- How far the image of a core's tree was written.
use Rattle.std.specs.Prelude.{◌≡◌, ℕ, ◌+◌, ◌-◌, ◌*◌, ◌<◌, ◌≤◌, ◌==◌, Bool, true, false, not, List, [], ◌++◌, length, drop, Option, Some, None, slice_get, slice_index_or, if◌then◌else◌}
use Rattle.std.specs.Option.{option_map_or, option_and_then}
use Rattle.std.specs.List.{flat_map, range_with_len}
use Rattle.ix_model.specs.world.World.{World, Object, at}
use Rattle.ix_model.specs.world.Contents.{holding_of}
use Rattle.ix_model.specs.world.Owners.{times_named}
use Rattle.ix_model.specs.history.Views.{view_of, names_there}
use Rattle.ix_model.specs.declared.config.FsSpec.{FsSpec}
use Rattle.ix_model.specs.declared.views.ObjView.{ObjView}
use Rattle.ix_model.specs.declared.reply.Kind.{Kind}
use Rattle.ix_model.specs.declared.reply.Kind.TheVariants as kind
use Rattle.ix_image.specs.declared.part.Part.{Part}
use Rattle.ix_image.specs.declared.part.Part.TheVariants as part
use Rattle.ix_image.specs.Trees.{NodeOf, LinkOf, Holds, Bytes, Links}
use Rattle.ix_image.specs.Image.{first_bytes, four, file_system_bytes, link_bytes, marks_of, marks_bytes, node_bytes, image_of}
use Rattle.ix_image.specs.Labelled.{label_bytes}
use Rattle.ix_image.specs.Taken.{is_kept, held_in, node_of, kept_at, tree_on}

-- ---- what is known of objects
-- which objects have a name
pub record AreNamed (w : World) (named : List Bool) : Type 0 where
  pub long : length named ≡ length w.frame.objects
  pub each : (o : ℕ) → o < length named → slice_index_or named o false ≡ not (times_named w.frame.objects o == 0)

-- what is to be seen of an object that is in the tree
abbrev pub kept_view : World → ℕ → Option ObjView
kept_view w n = option_and_then (λ x. if is_kept w n x then Some (view_of x) else None) (at w.frame.objects n)

-- the objects in the tree from a number on
abbrev pub kept_from : World → ℕ → List NodeOf
kept_from w n = flat_map (kept_at w) (range_with_len n (length w.frame.objects - n))

-- the names of a directory, where one is there
abbrev pub names_at : World → ℕ → List LinkOf
names_at w n = option_map_or (λ x. x.names) (at w.frame.objects n) []

-- whether a kind is that of a directory, and of a file
abbrev pub is_dir_kind : Kind → Bool
is_dir_kind k = elim k [ kind.Dir ↦ true | _ ↦ false ]

abbrev pub is_file_kind : Kind → Bool
is_file_kind k = elim k [ kind.File ↦ true | _ ↦ false ]

-- ---- pieces of an object
-- how much it holds, in four bytes, and what it holds
abbrev pub count_held : Holds → ℕ
count_held (Bytes bytes) = length bytes
count_held (Links links) = length links

abbrev pub body_bytes : Holds → List ℕ
body_bytes (Bytes bytes) = bytes
body_bytes (Links links) = flat_map link_bytes links

-- what stands before what it holds
abbrev pub head_bytes : NodeOf → List ℕ
head_bytes x = four x.number ++ (marks_bytes (marks_of x) ++ (label_bytes x.label ++ four (count_held x.holds)))

-- ---- what is left to write
-- the first bytes, and how many file systems there are
abbrev pub start_bytes : ℕ → List ℕ
start_bytes systems = first_bytes ++ four systems

-- the objects from a number on
abbrev pub objects_left : World → ℕ → List ℕ
objects_left w n = flat_map node_bytes (kept_from w n)

-- the names of a directory that are left, where so many are
abbrev pub names_left : World → ℕ → ℕ → List LinkOf
names_left w n left = drop (length (names_at w n) - left) (names_at w n)

abbrev pub bytes_left : List FsSpec → World → Part → List ℕ
bytes_left fss w part.Start = image_of (tree_on fss w)
bytes_left fss w (part.FileSystem k) = flat_map file_system_bytes (drop k fss) ++ (four (length (kept_from w 0)) ++ objects_left w 0)
bytes_left fss w (part.Object n) = objects_left w n
bytes_left fss w (part.Bytes n place) = drop place (holding_of w.content n).first ++ objects_left w (n + 1)
bytes_left fss w (part.Name n left name object) = flat_map link_bytes (names_left w n left) ++ objects_left w (n + 1)
bytes_left fss w part.End = []

-- how often it goes on without a byte, at most
abbrev pub turns_left : World → Part → ℕ
turns_left w part.Start = 4 + 2 * length w.frame.objects
turns_left w (part.FileSystem k) = 3 + 2 * length w.frame.objects
turns_left w (part.Object n) = 1 + 2 * (length w.frame.objects - n)
turns_left w (part.Bytes n place) = 2 + 2 * (length w.frame.objects - (n + 1))
turns_left w (part.Name n left name object) = 2 + 2 * (length w.frame.objects - (n + 1))
turns_left w part.End = 0

abbrev pub pieces_left : List FsSpec → World → Part → ℕ
pieces_left fss w p = length (bytes_left fss w p) + turns_left w p

-- ---- where it stands
-- a number behind which there is another
abbrev pub HasNext : ℕ → Type 0
HasNext n = n < 4294967295

-- a file of that number is there
pub record IsFile (w : World) (n : ℕ) : Type 0 where
  pub object : Object
  pub is : at w.frame.objects n ≡ Some object
  pub file : object.kind ≡ kind.File
  pub next : HasNext n

-- of the names that are left of a directory, of which there are so many, this is the first
pub record IsFirst (w : World) (n left : ℕ) (link : LinkOf) : Type 0 where
  pub there : names_there w.frame.objects n ≡ Some (names_at w n)
  pub some : 0 < left
  pub low : left ≤ length (names_at w n)
  pub is : slice_get (names_at w n) (length (names_at w n) - left) ≡ Some link
  pub next : HasNext n

abbrev pub Stands : World → Part → Type 0
Stands w part.Start = Unit {0}
Stands w (part.FileSystem k) = Unit {0}
Stands w (part.Object n) = Unit {0}
Stands w (part.Bytes n place) = IsFile w n
Stands w (part.Name n left name object) = IsFirst w n left (name, object.0)
Stands w part.End = Unit {0}

-- ---- what an object writes
-- its head was written behind a text
pub record HasHead (w : World) (n : ℕ) (before after : List ℕ) : Type 0 where
  pub object : Object
  pub is : at w.frame.objects n ≡ Some object
  pub text : after ≡ before ++ head_bytes (node_of w n object)

-- what comes behind its head
pub record Begins (w : World) (n : ℕ) (x : Object) (next : Part) : Type 0 where
  pub text : (fss : List FsSpec) → bytes_left fss w next ≡ body_bytes (held_in w n x) ++ objects_left w (n + 1)
  pub turns : turns_left w next ≤ 2 + 2 * (length w.frame.objects - (n + 1))
  pub stands : Stands w next

-- ---- going on
-- from one part to the next, by a piece
pub record Writes (fss : List FsSpec) (w : World) (old new : Part) (piece : List ℕ) : Type 0 where
  pub text : piece ++ bytes_left fss w new ≡ bytes_left fss w old
  pub fewer : pieces_left fss w new < pieces_left fss w old
  pub stands : Stands w new

-- the same, with the piece at the end of a text
pub record WritesOn (fss : List FsSpec) (w : World) (old new : Part) (before after : List ℕ) : Type 0 where
  pub piece : List ℕ
  pub grown : after ≡ before ++ piece
  pub writes : Writes fss w old new piece
