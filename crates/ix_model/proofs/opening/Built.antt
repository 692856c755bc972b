-- What holds of the objects that a valid config's lines have made so far.
use Rattle.std.proofs.Common.{◌≡◌, ◌<◌, ◌≤◌, ◌+◌, ◌==◌, ℕ, suc, Bool, true, false, not, List, [], ◌∷◌, ◌++◌, length, map, count_by, Option, Some, if◌then◌else◌, get_or}
use Rattle.std.specs.{Option.option_map_or, List.list_any}
use Rattle.ix_label.specs.Category.{leq}
use Rattle.ix_model.specs.world.{Naming.same_bytes, World.{fs_at, Object, Holding, at, is_file, is_dir, is_pipe, ceiling_of, no_claims}}
use Rattle.ix_model.specs.{world.{Contents.holds_nothing, Numbers.first_inode, Owners.{times_named, names_in_all}}, rows.Telling.blocks_where}
use Rattle.ix_model.specs.{opening.Valid.{all_differ, fs_of, is_taken, has_directory, lying_on, blocks_taken}, declared.config.{FsSpec.FsSpec, Limits.Limits, ObjSpec.ObjSpec}}
use Rattle.ix_model.proofs.{tables.Inodes.filled, opening.Leading.lead}

-- ---- each object by itself
-- it is below its ceiling, no pipe and claimed by no one, and its number is one of its file system's
pub record Fits (fss : List FsSpec) (o : ℕ) (x : Object) : Type 0 where
  pub low : leq x.label (ceiling_of fss x) ≡ true
  pub no_pipe : is_pipe x ≡ false
  pub unclaimed : x.claims ≡ no_claims
  pub fs : ℕ
  pub is_fs : x.fs ≡ Some fs
  pub from : first_inode fss fs ≤ o
  pub to : o < first_inode fss fs + (fs_at fss fs).inodes

-- ---- names
-- the names are sound, and each file is named
pub record Named (t : List (Option Object)) : Type 0 where
  pub root : option_map_or is_dir (at t 0) false ≡ true
  pub in_directories : (d : ℕ) (x : Object) → at t d ≡ Some x → is_dir x ≡ false → x.names ≡ []
  pub living : (d o : ℕ) (x : Object) → at t d ≡ Some x → 0 < count_by (λ n. n.1 == o) x.names → option_map_or (λ y. not (is_pipe y)) (at t o) false ≡ true
  pub differ : (d : ℕ) (x : Object) → at t d ≡ Some x → all_differ (map (λ n. n.0) x.names) ≡ true
  pub once : (o : ℕ) (x : Object) → at t o ≡ Some x → is_dir x ≡ true → times_named t o ≡ (if o == 0 then 0 else 1)
  pub files : (o : ℕ) (x : Object) → at t o ≡ Some x → is_file x ≡ true → 0 < times_named t o

-- ---- paths
-- the directory that is there under a path: the path leads to it, and its place is the path
pub record DirAt (fss : List FsSpec) (t : List (Option Object)) (place : ℕ → List (List ℕ)) (names : List (List ℕ)) : Type 0 where
  pub number : ℕ
  pub leads : lead t 0 names ≡ Some number
  pub object : Object
  pub is_object : at t number ≡ Some object
  pub dir : is_dir object ≡ true
  pub on : object.fs ≡ Some (fs_of fss names)
  pub back : place number ≡ names

-- what a directory names is there under its place and the name, and each directory that is there is found
pub record Ways (fss : List FsSpec) (before : List ObjSpec) (t : List (Option Object)) : Type 0 where
  pub place : ℕ → List (List ℕ)
  pub entries : (d : ℕ) (x : Object) (name : List ℕ) → at t d ≡ Some x → list_any (λ e. same_bytes e.0 name) x.names ≡ true → is_taken fss before (place d ++ name ∷ []) ≡ true
  pub dirs : (names : List (List ℕ)) → has_directory fss before names ≡ true → DirAt fss t place names

-- ---- counts
-- whether the object at a number lies on a file system
abbrev pub is_on_fs : List (Option Object) → ℕ → ℕ → Bool
is_on_fs t k o = option_map_or (λ x. option_map_or (λ j. j == k) x.fs false) (at t o) false

pub record Counted (fss : List FsSpec) (l : Limits) (before : List ObjSpec) (t : List (Option Object)) (hs : List Holding) : Type 0 where
  pub long : length t ≡ first_inode fss (length fss) + l.pipes
  pub room : length hs ≡ length t
  pub short : (o : ℕ) → length (get_or hs o holds_nothing).first ≤ 1048576
  pub names : suc (names_in_all t) ≡ length fss + length before
  pub few : length fss + length before ≤ suc l.names
  pub taken : (k : ℕ) → filled t (first_inode fss k) (fs_at fss k).inodes ≤ suc (length (lying_on fss k before))
  pub blocks : (k : ℕ) → blocks_where (is_on_fs t k) 0 hs ≤ blocks_taken fss k before
  pub within : (k : ℕ) → blocks_taken fss k before ≤ (fs_at fss k).blocks

-- ---- holdings
-- a directory has no bytes, and nothing has a second list
pub record Held (t : List (Option Object)) (hs : List Holding) : Type 0 where
  pub directory : (o : ℕ) (x : Object) → at t o ≡ Some x → is_dir x ≡ true → (get_or hs o holds_nothing).first ≡ []
  pub second : (o : ℕ) → (get_or hs o holds_nothing).second ≡ []

-- ---- the whole
pub record Built (fss : List FsSpec) (l : Limits) (before : List ObjSpec) (t : List (Option Object)) (hs : List Holding) : Type 0 where
  pub fits : (o : ℕ) (x : Object) → at t o ≡ Some x → Fits fss o x
  pub named : Named t
  pub ways : Ways fss before t
  pub counted : Counted fss l before t hs
  pub held : Held t hs
