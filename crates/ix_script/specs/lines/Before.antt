-- What the lines before a line tell.
use Rattle.std.specs.Prelude.{ℕ, ◌==◌, Bool, true, false, ◌&&◌, ◌||◌, List, [], ◌∷◌, ◌++◌, map, count_by, Option, Some, None, if◌then◌else◌, codes}
use Rattle.std.specs.List.{list_any, flat_map, fold}
use Rattle.ix_label.specs.declared.form.Form.{Form}
use Rattle.ix_label.specs.declared.form.Form.TheVariants.{One}
use Rattle.ix_label.specs.Category.{Categories}
use Rattle.ix_label.specs.Forms.{all_of}
use Rattle.ix_model.specs.world.Naming.{PathOf, same_bytes}
use Rattle.ix_model.specs.declared.privs.PrivSet.{PrivSet}
use Rattle.ix_model.specs.world.Privs.{no_privileges}
use Rattle.ix_model.specs.declared.config.FsSpec.{FsSpec}
use Rattle.ix_model.specs.declared.config.Limits.{Limits}
use Rattle.ix_model.specs.declared.config.ProcSpec.{ProcSpec}
use Rattle.ix_model.specs.declared.config.ObjSpec.{ObjSpec}
use Rattle.ix_script.specs.declared.line.Line.{Line}
use Rattle.ix_script.specs.declared.line.Line.TheVariants as line
use Rattle.ix_script.specs.declared.line.What.{What}
use Rattle.ix_script.specs.declared.line.What.TheVariants as what

-- whether the name is one of these
abbrev pub is_known : List ℕ → List (List ℕ) → Bool
is_known name names = list_any (same_bytes name) names

-- ---- the header
-- the form that a line tells, if it is `ix 1` or `ix 2`
abbrev pub form_by : Line → Form
form_by (line.Version form) = form
form_by _ = One

-- the form in which labels are spelled: the first line tells it
abbrev pub form_told : List Line → Form
form_told [] = One
form_told (l ∷ lines) = form_by l

-- the file system that a line tells
abbrev pub fs_told : Line → List FsSpec
fs_told (line.Fs name ceiling blocks inodes) = (record { name = name; ceiling = ceiling; blocks = blocks; inodes = inodes }) ∷ []
fs_told _ = []

-- the file systems that lines tell, in order
unfoldable pub fss_told : List Line → List FsSpec
fss_told lines = flat_map fs_told lines

-- the file system of a script that tells none: its ceiling is `*`
unfoldable pub default_fs : Form → FsSpec
default_fs form = record { name = codes "root"; ceiling = all_of form; blocks = 4096; inodes = 256 }

-- these, or the one that is there where none is told
abbrev pub or_default : Form → List FsSpec → List FsSpec
or_default form [] = default_fs form ∷ []
or_default form (fs ∷ fss) = fs ∷ fss

-- the file systems of a script
abbrev pub fss_of : List Line → List FsSpec
fss_of lines = or_default (form_told lines) (fss_told lines)

-- what a `limit` line limits
abbrev pub what_told : Line → List What
what_told (line.Limit w n) = w ∷ []
what_told _ = []

-- what is limited, in order
unfoldable pub whats_told : List Line → List What
whats_told lines = flat_map what_told lines

-- the spelling of a WHAT
abbrev pub what_text : What → List ℕ
what_text what.Procs = codes "procs"
what_text what.Opens = codes "opens"
what_text what.Pipes = codes "pipes"
what_text what.Names = codes "names"
what_text what.Log = codes "log"

-- the limits of a script that tells none
unfoldable pub default_limits : Limits
default_limits = record { procs = 64; opens = 256; pipes = 32; names = 4096; log = 1024 }

-- limits with one set
abbrev pub with_limit : Limits → What → ℕ → Limits
with_limit l what.Procs n = record l { procs = n }
with_limit l what.Opens n = record l { opens = n }
with_limit l what.Pipes n = record l { pipes = n }
with_limit l what.Names n = record l { names = n }
with_limit l what.Log n = record l { log = n }

abbrev pub limits_after : Limits → Line → Limits
limits_after l (line.Limit w n) = with_limit l w n
limits_after l _ = l

-- the limits of a script
unfoldable pub limits_of : List Line → Limits
limits_of lines = fold limits_after default_limits lines

-- the process that a line tells, and its name
abbrev pub proc_told : Line → List ProcSpec
proc_told (line.Proc name label ceiling cap lic) = (record { label = label; ceiling = ceiling; cap = cap; lic = lic }) ∷ []
proc_told _ = []

abbrev pub proc_name_told : Line → List (List ℕ)
proc_name_told (line.Proc name label ceiling cap lic) = name ∷ []
proc_name_told _ = []

-- the processes of a script in order, and their names
unfoldable pub procs_of : List Line → List ProcSpec
procs_of lines = flat_map proc_told lines

unfoldable pub proc_names : List Line → List (List ℕ)
proc_names lines = flat_map proc_name_told lines

-- a directory and a file, as lines tell them
abbrev pub dir_spec : PathOf → Categories → Bool → ObjSpec
dir_spec path label frozen = record { path = path; dir = true; label = label; frozen = frozen; cap = no_privileges; lic = no_privileges; bytes = [] }

abbrev pub file_spec : PathOf → Categories → Bool → PrivSet → PrivSet → List ℕ → ObjSpec
file_spec path label frozen cap lic bytes = record { path = path; dir = false; label = label; frozen = frozen; cap = cap; lic = lic; bytes = bytes }

-- the directory or file that a line tells
abbrev pub object_told : Line → List ObjSpec
object_told (line.Dir path label frozen) = dir_spec path label frozen ∷ []
object_told (line.File path label frozen cap lic bytes) = file_spec path label frozen cap lic bytes ∷ []
object_told _ = []

-- the directories and files of a script, in order
unfoldable pub objects_of : List Line → List ObjSpec
objects_of lines = flat_map object_told lines

-- whether a line is the policy
abbrev pub is_policy : Line → Bool
is_policy (line.Policy text) = true
is_policy _ = false

unfoldable pub has_policy : List Line → Bool
has_policy lines = list_any is_policy lines

-- the groups of the header in their order: `ix`, then `limit`, then `fs`, then the others; commands, phases and lanes stand after it, and a
-- skipped line anywhere
abbrev pub group : Line → ℕ
group line.Skipped = 0
group (line.Version form) = 1
group (line.Limit w n) = 2
group (line.Fs name ceiling blocks inodes) = 3
group (line.Proc name label ceiling cap lic) = 4
group (line.Dir path label frozen) = 4
group (line.File path label frozen cap lic bytes) = 4
group (line.Policy text) = 4
group _ = 5

-- ---- the body
abbrev pub is_phase : Line → Bool
is_phase line.Phase = true
is_phase _ = false

-- whether a phase has begun
unfoldable pub in_body : List Line → Bool
in_body lines = list_any is_phase lines

-- the lane in which the next line stands
abbrev pub lane_after : Option (List ℕ) → Line → Option (List ℕ)
lane_after at line.Phase = None
lane_after at (line.Lane name) = Some name
lane_after at _ = at

unfoldable pub lane_now : List Line → Option (List ℕ)
lane_now lines = fold lane_after None lines

-- the lanes of the phase so far
abbrev pub phase_lanes_after : List (List ℕ) → Line → List (List ℕ)
phase_lanes_after names line.Phase = []
phase_lanes_after names (line.Lane name) = names ++ name ∷ []
phase_lanes_after names _ = names

unfoldable pub phase_lanes : List Line → List (List ℕ)
phase_lanes lines = fold phase_lanes_after [] lines

-- the lanes of the script, in the order in which they first appear
abbrev pub lanes_after : List (List ℕ) → Line → List (List ℕ)
lanes_after names (line.Lane name) = if is_known name names then names else names ++ name ∷ []
lanes_after names _ = names

unfoldable pub lanes_of : List Line → List (List ℕ)
lanes_of lines = fold lanes_after [] lines

-- whether a line is a command
abbrev pub is_command : Line → Bool
is_command line.Phase = false
is_command (line.Lane name) = false
is_command l = group l == 5

unfoldable pub commands : List Line → ℕ
commands lines = count_by is_command lines

-- ---- names after `as`
abbrev pub listed : Option (List ℕ) → List (List ℕ)
listed None = []
listed (Some name) = name ∷ []

abbrev pub listed_two : Option (List ℕ × List ℕ) → List (List ℕ)
listed_two None = []
listed_two (Some names) = names.0 ∷ names.1 ∷ []

-- the names of descriptors that a line gives
abbrev pub new_fds : Line → List (List ℕ)
new_fds (line.Open proc path mode named) = listed named
new_fds (line.Dup proc fd named) = listed named
new_fds (line.Pipe proc named) = listed_two named
new_fds _ = []

-- the name of a process that a line gives
abbrev pub new_procs : Line → List (List ℕ)
new_procs (line.Fork proc keep named) = listed named
new_procs (line.Login proc fd hand named) = listed named
new_procs _ = []

-- names, each with the lane `at`
abbrev pub in_lane : Option (List ℕ) → List (List ℕ) → List (List ℕ × List ℕ)
in_lane None names = []
in_lane (Some lane) names = map (λ name. (lane, name)) names

-- the names that lines give by `new`, each with the lane in which its line stands; the first line stands in the lane `at`
abbrev pub given : (Line → List (List ℕ)) → Option (List ℕ) → List Line → List (List ℕ × List ℕ)
given new at [] = []
given new at (l ∷ lines) = in_lane at (new l) ++ given new (lane_after at l) lines

unfoldable pub fds_given : List Line → List (List ℕ × List ℕ)
fds_given lines = given new_fds None lines

unfoldable pub procs_given : List Line → List (List ℕ × List ℕ)
procs_given lines = given new_procs None lines

-- whether that lane is one, and the name was given in it
abbrev pub is_given : Option (List ℕ) → List ℕ → List (List ℕ × List ℕ) → Bool
is_given None name names = false
is_given (Some lane) name names = list_any (λ n. same_bytes lane n.0 && same_bytes name n.1) names

-- a descriptor that the next line may name, and a process
abbrev pub knows_fd : List Line → List ℕ → Bool
knows_fd lines name = is_given (lane_now lines) name (fds_given lines)

abbrev pub knows_proc : List Line → List ℕ → Bool
knows_proc lines name = is_known name (proc_names lines) || is_given (lane_now lines) name (procs_given lines)
