-- What holds in every world that is reached.
use Rattle.std.specs.Prelude.{◌≡◌, ℕ, ◌+◌, ◌<◌, ◌≤◌, ◌==◌, true, false, not, ◌&&◌, ◌||◌, [], length, map, count_by, Some, None, is_some, is_none, if◌then◌else◌}
use Rattle.std.specs.Option.{option_map_or}
use Rattle.ix_label.specs.Category.{leq, bottom}
use Rattle.ix_model.specs.world.World.{fs_at, World, Frame, Object, Process, Open, at, living, lives, is_file, is_dir, is_pipe, held, ceiling_of, no_claims}
use Rattle.ix_model.specs.world.Contents.{holding_of, offset_of}
use Rattle.ix_model.specs.laws.Clean.{IsClean}
use Rattle.ix_model.specs.rows.Telling.{blocks_where, blocks_on, lies_on}
use Rattle.ix_model.specs.world.Numbers.{first_inode}
use Rattle.ix_model.specs.world.Owners.{times_named, names_in_all, owned, has_end}
use Rattle.ix_model.specs.opening.Valid.{all_differ}

-- ---- labels
-- no label is above its ceiling
pub record LabelsBelow (f : Frame) : Type 0 where
  pub objects : (o : ℕ) (x : Object) → at f.objects o ≡ Some x → leq x.label (ceiling_of f.fss x) ≡ true
  pub processes : (p : ℕ) (q : Process) → at f.processes p ≡ Some q → leq q.label q.ceiling ≡ true

-- ---- names
-- object 0 is a directory; directories alone have names, which name living files and directories and differ in one
-- directory; each directory but object 0 is named exactly once
pub record NamesSound (f : Frame) : Type 0 where
  pub root : option_map_or is_dir (at f.objects 0) false ≡ true
  pub in_directories : (d : ℕ) (x : Object) → at f.objects d ≡ Some x → is_dir x ≡ false → x.names ≡ []
  pub living : (d o : ℕ) (x : Object) → at f.objects d ≡ Some x → 0 < count_by (λ n. n.1 == o) x.names → option_map_or (λ y. not (is_pipe y)) (at f.objects o) false ≡ true
  pub differ : (d : ℕ) (x : Object) → at f.objects d ≡ Some x → all_differ (map (λ n. n.0) x.names) ≡ true
  pub once : (o : ℕ) (x : Object) → at f.objects o ≡ Some x → is_dir x ≡ true → times_named f.objects o ≡ (if o == 0 then 0 else 1)

-- ---- lives
-- a file lives only where it is named or has an open entry, and a pipe only where it has one
pub record LivesSound (f : Frame) : Type 0 where
  pub file : (o : ℕ) (x : Object) → at f.objects o ≡ Some x → is_file x ≡ true → (not (times_named f.objects o == 0) || held f.opens o 0) ≡ true
  pub pipe : (o : ℕ) (x : Object) → at f.objects o ≡ Some x → is_pipe x ≡ true → (held f.opens o 0 || held f.opens o 1) ≡ true

-- ---- descriptors and open entries
-- each descriptor of a living process that isn't free names an open entry; each open entry is named by such a
-- descriptor, its object lives and is a file or a pipe, and it is at end 0, or at end 1 of a pipe
pub record OpensSound (f : Frame) : Type 0 where
  pub descriptor : (p : ℕ) (q : Process) (fd e : ℕ) → living (at f.processes p) ≡ Some q → at q.fds fd ≡ Some e → is_some (at f.opens e) ≡ true
  pub owned : (e : ℕ) → is_some (at f.opens e) ≡ true → owned f.processes e ≡ true
  pub target : (e : ℕ) (x : Open) → at f.opens e ≡ Some x → option_map_or (λ y. not (is_dir y)) (at f.objects x.object) false ≡ true
  pub end : (e : ℕ) (x : Open) → at f.opens e ≡ Some x → (x.end == 0 || x.end == 1 && option_map_or is_pipe (at f.objects x.object) false) ≡ true

-- ---- processes
-- nothing is at pid 0, a living process's working directory is a living directory, a child's parent lives, and each
-- process has 32 descriptors
pub record ProcessesSound (f : Frame) : Type 0 where
  pub none : at f.processes 0 ≡ None
  pub home : (p : ℕ) (q : Process) → living (at f.processes p) ≡ Some q → option_map_or is_dir (at f.objects q.cwd) false ≡ true
  pub parent : (p r : ℕ) (q : Process) → at f.processes p ≡ Some q → q.parent ≡ Some r → lives f r ≡ true
  pub descriptors : (p : ℕ) (q : Process) → at f.processes p ≡ Some q → length q.fds ≡ 32

-- a claimant lives and has a descriptor on the end that it claims
pub record ClaimsSound (f : Frame) : Type 0 where
  pub claimant : (o end p : ℕ) (x : Object) → at f.objects o ≡ Some x → at x.claims end ≡ Some p → has_end f o end p ≡ true

-- ---- limits
-- Each table is as long as its limit. An object that isn't a pipe lies on the file system of its number; a pipe lies on
-- none, and its number is past theirs. All counts are within the limits. The next pid, the length of the processes'
-- table, is above every pid by what a table is.
pub record WithinLimits (f : Frame) : Type 0 where
  pub objects : length f.objects ≡ first_inode f.fss (length f.fss) + f.limits.pipes
  pub pipes : (o : ℕ) (x : Object) → at f.objects o ≡ Some x → is_none x.fs ≡ is_pipe x
  pub past : (o : ℕ) (x : Object) → at f.objects o ≡ Some x → is_pipe x ≡ true → first_inode f.fss (length f.fss) ≤ o
  pub numbers : (o k : ℕ) (x : Object) → at f.objects o ≡ Some x → x.fs ≡ Some k → (first_inode f.fss k ≤ o) × (o < first_inode f.fss k + (fs_at f.fss k).inodes)
  pub opens : length f.opens ≡ f.limits.opens
  pub processes : count_by is_some f.processes ≤ f.limits.procs
  pub names : names_in_all f.objects ≤ f.limits.names
  pub log : length f.log ≤ f.limits.log

-- ---- lengths
-- there is room for what each object and open entry holds; offsets and files end at 1,048,576, a pipe holds at most 4,096
-- bytes in each direction, and the files of a file system use no more blocks than it has
pub record LengthsSound (w : World) : Type 0 where
  pub holdings : length w.content.holdings ≡ length w.frame.objects
  pub offsets : length w.content.offsets ≡ length w.frame.opens
  pub offset : (e : ℕ) → offset_of w.content e ≤ 1048576
  pub file : (o : ℕ) (x : Object) → at w.frame.objects o ≡ Some x → is_pipe x ≡ false → length (holding_of w.content o).first ≤ 1048576
  pub pipe : (o : ℕ) (x : Object) → at w.frame.objects o ≡ Some x → is_pipe x ≡ true → (length (holding_of w.content o).first ≤ 4096) × (length (holding_of w.content o).second ≤ 4096)
  pub blocks : (k : ℕ) → blocks_where (lies_on w.frame (Some k)) 0 w.content.holdings ≤ blocks_on w.frame (Some k)

-- ---- what stands at a number
-- each object has two places for claims, which are empty where it is no pipe; a pipe's open entry is at bottom
pub record ShapesSound (f : Frame) : Type 0 where
  pub claims : (o : ℕ) (x : Object) → at f.objects o ≡ Some x → length x.claims ≡ 2
  pub unclaimed : (o : ℕ) (x : Object) → at f.objects o ≡ Some x → is_pipe x ≡ false → x.claims ≡ no_claims
  pub entries : (e : ℕ) (x : Open) → at f.opens e ≡ Some x → option_map_or is_pipe (at f.objects x.object) false ≡ true → x.label ≡ bottom

-- nothing is held at a number at which nothing stands; a directory has no bytes, and what is no pipe has no second list
pub record HoldingsSound (w : World) : Type 0 where
  pub clean : IsClean w
  pub directory : (o : ℕ) (x : Object) → at w.frame.objects o ≡ Some x → is_dir x ≡ true → (holding_of w.content o).first ≡ []
  pub second : (o : ℕ) (x : Object) → at w.frame.objects o ≡ Some x → is_pipe x ≡ false → (holding_of w.content o).second ≡ []

-- ---- the whole
pub record Sound (w : World) : Type 0 where
  pub labels : LabelsBelow w.frame
  pub names : NamesSound w.frame
  pub lives : LivesSound w.frame
  pub opens : OpensSound w.frame
  pub processes : ProcessesSound w.frame
  pub claims : ClaimsSound w.frame
  pub limits : WithinLimits w.frame
  pub lengths : LengthsSound w
  pub shapes : ShapesSound w.frame
  pub holdings : HoldingsSound w
