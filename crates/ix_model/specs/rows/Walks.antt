-- Walks along paths, and what stands behind a descriptor.
use Rattle.std.specs.Prelude.{ℕ, false, if◌then◌else◌, List, [], ◌∷◌, find, Option, Some, None, unwrap_or}
use Rattle.std.specs.Option.{option_map_or}
use Rattle.std.proofs.Common.{option_map}
use Rattle.ix_label.specs.Category.{Categories, bottom, join}
use Rattle.ix_model.specs.world.Naming.{PathOf, same_bytes}
use Rattle.ix_model.specs.world.Privs.{no_privileges}
use Rattle.ix_model.specs.world.World.{Object, Process, Open, Frame, at, living, is_dir, no_claims}
use Rattle.ix_model.specs.rows.Outcomes.{Row}
use Rattle.ix_model.specs.rows.Rows.{◌>>=◌, ◌>>◌, pass, refuse, some, frame, process, observe}
use Rattle.ix_model.specs.declared.reply.Kind.TheVariants as kind
use Rattle.ix_model.specs.declared.refusal.Refusal.TheVariants as refusal

-- where a walk ends: at an object, with the last directory looked into; where the last name is missing, with the
-- directory that lacks it; where another name is missing; or at an object that is no directory
pub data Sought : Type 0 where
  Found : ℕ → Option ℕ → Sought
  Missing : ℕ → Sought
  NotFound : Sought
  NotDir : Sought

-- a walk: where it ends, and the labels of the directories looked into
pub record Walk : Type 0 where
  pub outcome : Sought
  pub looked : List Categories

-- an empty file at bottom stands for what isn't there
abbrev pub nothing : Object
nothing = record { kind = kind.File; fs = None; label = bottom; frozen = false; cap = no_privileges; lic = no_privileges; claims = no_claims; names = [] }

-- the object of a number
abbrev pub node : List (Option Object) → ℕ → Object
node objects n = unwrap_or (at objects n) nothing

-- the object that a directory has under a name
abbrev pub child : Object → List ℕ → Option ℕ
child o name = option_map (λ e. e.1) (find (λ e. same_bytes e.0 name) o.names)

-- a walk that looked into one directory more, before all others
abbrev pub looking_into : Object → Walk → Walk
looking_into o w = record w { looked = o.label ∷ w.looked }

-- a name that the directory lacks, with the names after it
abbrev pub lacking : ℕ → List (List ℕ) → Walk
lacking dir [] = record { outcome = Missing dir; looked = [] }
lacking dir (name ∷ names) = record { outcome = NotFound; looked = [] }

-- from an object along names, with the last directory looked into
abbrev pub walk_from : List (Option Object) → ℕ → Option ℕ → List (List ℕ) → Walk
walk_from objects n dir [] = record { outcome = Found n dir; looked = [] }
walk_from objects n dir (name ∷ names) =
    if is_dir (node objects n) then looking_into (node objects n) (option_map_or (λ o. walk_from objects o (Some n) names) (child (node objects n) name) (lacking n names))
    else record { outcome = NotDir; looked = [] }

-- from the root, or from the process's working directory
abbrev pub walk : List (Option Object) → Process → PathOf → Walk
walk objects p path = walk_from objects (if path.absolute then 0 else p.cwd) None path.names

-- the join of labels
abbrev pub join_all : List Categories → Categories
join_all [] = bottom
join_all (l ∷ ls) = join l (join_all ls)

-- all directories looked into are observed before the walk's outcome is answered
unfoldable pub walked_to : ℕ → PathOf → Row Sought
walked_to pid path = do
  p ← process pid
  f ← frame
  observe pid (join_all (walk f.objects p path).looked)
  pass (walk f.objects p path).outcome

-- the object at which a walk ended, which must have found one
unfoldable pub found_object : Sought → Row ℕ
found_object (Found o dir) = pass o
found_object (Missing dir) = refuse refusal.NotFound
found_object NotFound = refuse refusal.NotFound
found_object NotDir = refuse refusal.NotDir

-- the object of the path, at which one must be
unfoldable pub object_at : ℕ → PathOf → Row ℕ
object_at pid path = do
  w ← walked_to pid path
  found_object w

-- where a path leads: an object, and the directory in which its last name stands; a path of no names has none
pub record Spot : Type 0 where
  pub object : ℕ
  pub dir : Option ℕ

-- the spot at which a walk ended, which must have found an object
unfoldable pub found_spot : Sought → Row Spot
found_spot (Found o dir) = pass (record { object = o; dir = dir })
found_spot (Missing dir) = refuse refusal.NotFound
found_spot NotFound = refuse refusal.NotFound
found_spot NotDir = refuse refusal.NotDir

-- the spot of the path, at which an object must be
unfoldable pub spot_at : ℕ → PathOf → Row Spot
spot_at pid path = do
  w ← walked_to pid path
  found_spot w

-- the directory that lacks the last name of a walk, which must have found nothing under it
unfoldable pub vacant : Sought → Row ℕ
vacant (Found o dir) = refuse refusal.Exists
vacant (Missing dir) = pass dir
vacant NotFound = refuse refusal.NotFound
vacant NotDir = refuse refusal.NotDir

-- the directory of the path, whose last name must be missing
unfoldable pub missing : ℕ → PathOf → Row ℕ
missing pid path = do
  w ← walked_to pid path
  vacant w

-- ---- descriptors
-- an open entry with its number
pub record OpenFile : Type 0 where
  pub id : ℕ
  pub entry : Open

-- the open entry of a number
abbrev pub entry_at : Frame → Option ℕ → Option OpenFile
entry_at f None = None
entry_at f (Some e) = option_map (λ x. record { id = e; entry = x }) (at f.opens e)

-- the open entry behind a descriptor of a process
abbrev pub behind_of : Option Process → Frame → ℕ → Option OpenFile
behind_of None f fd = None
behind_of (Some p) f fd = entry_at f (at p.fds fd)

-- the open entry behind a descriptor of a living process
unfoldable pub behind : Frame → ℕ → ℕ → Option OpenFile
behind f pid fd = behind_of (living (at f.processes pid)) f fd

-- the open entry behind a descriptor, which must be one of the caller's
unfoldable pub opened : ℕ → ℕ → Row OpenFile
opened pid fd = do
  f ← frame
  some (behind f pid fd) refusal.BadFd
