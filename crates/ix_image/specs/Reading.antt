-- How an image is read: field after field from left to right, up to the first that breaks a rule.
use Rattle.std.specs.Prelude.{ℕ, zero, suc, ◌+◌, ◌-◌, ◌==◌, nat_lt, nat_le, Bool, ◌&&◌, List, [], ◌∷◌, length, take, drop, Option, Some, None, Result, Ok, Err, if◌then◌else◌}
use Rattle.std.specs.Int.{w32, from_be_bytes}
use Rattle.ix_label.specs.Category.{Categories, leq}
use Rattle.ix_model.specs.opening.Valid.{is_within}
use Rattle.ix_model.specs.world.Naming.{is_name}
use Rattle.ix_model.specs.world.World.{fs_at}
use Rattle.ix_model.specs.declared.config.FsSpec.{FsSpec}
use Rattle.ix_text.specs.Names.{is_script_name}
use Rattle.ix_model.specs.declared.privs.PrivSet.{PrivSet}
use Rattle.ix_image.specs.declared.fault.Fault.{Fault}
use Rattle.ix_image.specs.declared.marks.Marks.{Marks}
use Rattle.ix_image.specs.Trees.{TreeOf, NodeOf, LinkOf, Holds, Bytes, Links, inodes_in, home}
use Rattle.ix_image.specs.Labelled.{label_in}
use Rattle.ix_image.specs.Image.{first_bytes, longest, is_count_of_file_systems, is_size_of_file_system, is_size_of_file, is_count_of_names}
use Rattle.ix_image.specs.Fitting.{names_fit}

-- ---- faults
-- A fault is a rule, and how many bytes are left from the place where it is broken.
-- a field breaks a rule at its first byte
abbrev pub breaks : ℕ → List ℕ → Fault
breaks rule bytes = record { left = length bytes; rule = rule }

-- what is there breaks a rule at its end
abbrev pub ends : ℕ → Fault
ends rule = record { left = 0; rule = rule }

-- what is read: a value and the bytes behind it, or the first fault
abbrev pub Read : Type 0 → Type 0
Read A = Result (A × List ℕ) Fault

infixl 10 ◌>>=◌
abbrev pub ◌>>=◌ : {A B : Type 0} → Result A Fault → (A → Result B Fault) → Result B Fault
(Ok x) >>= f = f x
(Err e) >>= f = Err e

-- ---- fields
-- so many bytes; a byte is missing where there are fewer
unfoldable pub bytes_at : ℕ → List ℕ → Read (List ℕ)
bytes_at n bytes = if nat_lt (length bytes) n then Err (ends 1) else Ok (take n bytes, drop n bytes)

-- bytes that are known: the rule is broken where the first one differs
abbrev pub same_at : List ℕ → List ℕ → Result (List ℕ) Fault
same_at [] bytes = Ok bytes
same_at (x ∷ wanted) [] = Err (ends 1)
same_at (x ∷ wanted) (b ∷ bytes) = if b == x then same_at wanted bytes else Err (breaks 2 (b ∷ bytes))

-- the first bytes
unfoldable pub start_at : List ℕ → Result (List ℕ) Fault
start_at bytes = if nat_lt (length bytes) (length first_bytes) then Err (ends 1) else same_at first_bytes bytes

-- a number of four bytes, the most significant first
unfoldable pub word_at : List ℕ → Read ℕ
word_at bytes = do
  n ← bytes_at 4 bytes
  Ok (from_be_bytes w32 n.0, n.1)

-- such a number that passes a test, or else is out of range
unfoldable pub number_at : (ℕ → Bool) → List ℕ → Read ℕ
number_at test bytes = do
  n ← word_at bytes
  if test n.0 then Ok n else Err (breaks 3 bytes)

-- a number of one byte, or else out of range
unfoldable pub small_at : ℕ → List ℕ → Read ℕ
small_at most [] = Err (ends 1)
small_at most (b ∷ bytes) = if nat_le b most then Ok (b, bytes) else Err (breaks 3 (b ∷ bytes))

-- bytes behind their number, which has one byte
unfoldable pub text_at : List ℕ → Read (List ℕ)
text_at [] = Err (ends 1)
text_at (len ∷ bytes) = bytes_at len bytes

-- whether something holds
unfoldable pub flag_at : List ℕ → Read Bool
flag_at bytes = do
  n ← small_at 1 bytes
  Ok (n.0 == 1, n.1)

-- a set of the five privileges
unfoldable pub set_at : List ℕ → Read PrivSet
set_at bytes = do
  n ← small_at 31 bytes
  Ok (record { 0 = n.0 }, n.1)

-- what stands between an object's number and its label
unfoldable pub marks_at : List ℕ → Read Marks
marks_at bytes = do
  is_dir ← flag_at bytes
  frozen ← flag_at is_dir.1
  cap ← set_at frozen.1
  lic ← set_at cap.1
  Ok (record { is_dir = is_dir.0; frozen = frozen.0; cap = cap.0; lic = lic.0 }, lic.1)

-- a name behind its length, which passes a test, or else is not well formed
unfoldable pub name_at : (List ℕ → Bool) → List ℕ → Read (List ℕ)
name_at test bytes = do
  name ← text_at bytes
  if test name.0 then Ok name else Err (breaks 4 bytes)

-- a label
unfoldable pub label_at : List ℕ → Read Categories
label_at bytes = do
  label ← bytes_at 64 bytes
  Ok (label_in label.0, label.1)

-- a label that is below a ceiling
unfoldable pub label_below_at : Categories → List ℕ → Read Categories
label_below_at ceiling bytes = do
  label ← label_at bytes
  if leq label.0 ceiling then Ok label else Err (breaks 6 bytes)

-- the number of an object: above that of the last one, and of some file system; or else out of order
unfoldable pub order_at : List FsSpec → ℕ → List ℕ → Read ℕ
order_at fss least bytes = do
  n ← word_at bytes
  if nat_le least n.0 && nat_lt n.0 (inodes_in fss) then Ok n else Err (breaks 5 bytes)

-- so many of one kind
unfoldable pub many_at : {A : Type 0} → (List ℕ → Read A) → ℕ → List ℕ → Read (List A)
many_at read zero bytes = Ok ([], bytes)
many_at read (suc n) bytes = do
  first ← read bytes
  others ← many_at read n first.1
  Ok (first.0 ∷ others.0, others.1)

-- ---- file systems
unfoldable pub file_system_at : List ℕ → Read FsSpec
file_system_at bytes = do
  name ← name_at is_script_name bytes
  ceiling ← label_at name.1
  blocks ← number_at is_size_of_file_system ceiling.1
  inodes ← number_at is_size_of_file_system blocks.1
  Ok (record { name = name.0; ceiling = ceiling.0; blocks = blocks.0; inodes = inodes.0 }, inodes.1)

-- so many of them
abbrev pub file_systems_at : ℕ → List ℕ → Read (List FsSpec)
file_systems_at = many_at file_system_at

-- ---- objects
-- a name with the number of its object
unfoldable pub link_at : List ℕ → Read LinkOf
link_at bytes = do
  name ← name_at is_name bytes
  object ← word_at name.1
  Ok ((name.0, object.0), object.1)

-- so many of them
abbrev pub links_at : ℕ → List ℕ → Read (List LinkOf)
links_at = many_at link_at

-- the bytes of a file, behind their number
unfoldable pub file_at : List ℕ → Read Holds
file_at bytes = do
  count ← number_at is_size_of_file bytes
  held ← bytes_at count.0 count.1
  Ok (Bytes held.0, held.1)

-- the names of a directory, behind their number
unfoldable pub directory_at : List ℕ → Read Holds
directory_at bytes = do
  count ← number_at is_count_of_names bytes
  links ← links_at count.0 count.1
  Ok (Links links.0, links.1)

-- what a directory or a file holds
unfoldable pub held_at : Bool → List ℕ → Read Holds
held_at is_dir bytes = if is_dir then directory_at bytes else file_at bytes

-- an object whose number is at least that
unfoldable pub node_at : List FsSpec → ℕ → List ℕ → Read NodeOf
node_at fss least bytes = do
  number ← order_at fss least bytes
  marks ← marks_at number.1
  label ← label_below_at (fs_at fss (home fss number.0)).ceiling marks.1
  holds ← held_at marks.0.is_dir label.1
  Ok (record { number = number.0; frozen = marks.0.frozen; cap = marks.0.cap; lic = marks.0.lic; label = label.0; holds = holds.0 }, holds.1)

-- so many of them, by rising number
unfoldable pub nodes_at : List FsSpec → ℕ → ℕ → List ℕ → Read (List NodeOf)
nodes_at fss least zero bytes = Ok ([], bytes)
nodes_at fss least (suc n) bytes = do
  first ← node_at fss least bytes
  others ← nodes_at fss (first.0.number + 1) n first.1
  Ok (first.0 ∷ others.0, others.1)

-- ---- the whole
-- all fields; a byte behind the last object is left over
unfoldable pub fields_of : List ℕ → Result TreeOf Fault
fields_of bytes = do
  start ← start_at bytes
  count ← number_at is_count_of_file_systems start
  fss ← file_systems_at count.0 count.1
  objects ← number_at (is_within 0 (inodes_in fss.0)) fss.1
  nodes ← nodes_at fss.0 0 objects.0 objects.1
  if length nodes.1 == 0 then Ok (record { fss = fss.0; nodes = nodes.0 }) else Err (breaks 7 nodes.1)

-- the tree: its names are looked at last, and its length before all
unfoldable pub tree_in : List ℕ → Result TreeOf Fault
tree_in bytes =
    if nat_lt longest (length bytes) then Err (breaks 9 (drop longest bytes))
    else do
      t ← fields_of bytes
      if names_fit t then Ok t else Err (ends 8)

-- a fault as it is told: its place, from 0, and its rule
abbrev pub told_fault : List ℕ → Fault → ℕ × ℕ
told_fault bytes f = (length bytes - f.left, f.rule)

abbrev pub fault_in : List ℕ → Result TreeOf Fault → Option (ℕ × ℕ)
fault_in bytes (Ok t) = None
fault_in bytes (Err f) = Some (told_fault bytes f)

-- the first fault of bytes, if they have one
abbrev pub image_fault : List ℕ → Option (ℕ × ℕ)
image_fault bytes = fault_in bytes (tree_in bytes)
