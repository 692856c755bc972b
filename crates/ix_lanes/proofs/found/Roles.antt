-- What follows of a line from what it is for.
use Rattle.std.proofs.Common.{◌≡◌, ℕ, ◌<◌, true, false, true≢false, List, [], length, Option, Some, None, refl, sym, slice_get}
use Rattle.std.proofs.lemmas.Option.{get_or_from_slice_get, slice_get-get_or}
use Rattle.ix_script.specs.{declared.{line.Line.Line, role.Role.Role}, lines.{Before.{new_fds, new_procs, proc_name_told, is_phase}, Roles.role_of}}
use Rattle.ix_script.specs.scripts.Schedule.{begins_part, seat_after, seat_begun}
use Rattle.ix_script.specs.declared.line.Line.TheVariants as line
use Rattle.ix_script.specs.declared.role.Role.TheVariants as role
use Rattle.ix_lanes.specs.{declared.asking.places.Places.Places, asking.Places.has_places, histories.Indexed.line_in, running.Serially.role_begins}

-- ---- the line at an index
pub line-there : (s : List Line) (i : ℕ) → i < length s → slice_get s i ≡ Some (line_in s i)
line-there s i within = slice_get-get_or s i line.Skipped within

pub line-is : (s : List Line) (i : ℕ) (l : Line) → slice_get s i ≡ Some l → l ≡ line_in s i
line-is s i l at = sym (get_or_from_slice_get s i l line.Skipped at)

-- ---- phases
pub phase-role : (l : Line) → role_of l ≡ role.Phase → is_phase l ≡ true
unfolding role_of
phase-role line.Phase is = refl
phase-role _ is = cc

pub no-phase : (l : Line) → (role_of l ≡ role.Phase → ⊥) → is_phase l ≡ false
unfolding role_of
no-phase line.Phase not = absurd (not refl)
no-phase _ not = refl

-- ---- parts
-- whether a line begins a part, by what it is for
pub begins-role : (l : Line) → role_begins (role_of l) ≡ begins_part l
unfolding role_of
begins-role line.Phase = refl
begins-role (line.Lane name) = refl
begins-role _ = refl

-- what begins none is for neither
pub begins-not : (r : Role) → (r ≡ role.Phase → ⊥) → (r ≡ role.Lane → ⊥) → role_begins r ≡ false
begins-not role.Phase no_phase no_lane = absurd (no_phase refl)
begins-not role.Lane no_phase no_lane = absurd (no_lane refl)
begins-not _ no_phase no_lane = refl

-- ---- seats
-- a phase begins in no lane
pub seat-begun : (lanes : List (List ℕ)) (at : Option ℕ) (l : Line) → role_of l ≡ role.Phase → seat_after lanes at l ≡ None
unfolding role_of
seat-begun lanes at line.Phase is = refl
seat-begun lanes at _ is = cc

-- a line that begins neither a phase nor a lane's part of it leaves the seat
pub seat-left : (lanes : List (List ℕ)) (at : Option ℕ) (l : Line) → (role_of l ≡ role.Phase → ⊥) → (role_of l ≡ role.Lane → ⊥) → seat_after lanes at l ≡ at
unfolding role_of
seat-left lanes at line.Phase no_phase no_lane = absurd (no_phase refl)
seat-left lanes at (line.Lane name) no_phase no_lane = absurd (no_lane refl)
seat-left lanes at _ no_phase no_lane = refl

pub seat-stays : (lanes : List (List ℕ)) (at : Option ℕ) (l : Line) → role_begins (role_of l) ≡ false → seat_after lanes at l ≡ at
unfolding role_of
seat-stays lanes at line.Phase begins = absurd (true≢false begins)
seat-stays lanes at (line.Lane name) begins = absurd (true≢false begins)
seat-stays lanes at _ begins = refl

-- the lane of a line that begins a lane's part of a phase is the one that it names
pub seat-named : (lanes : List (List ℕ)) (at : Option ℕ) (l : Line) → role_of l ≡ role.Lane → seat_after lanes at l ≡ seat_begun lanes (Some l)
unfolding role_of
seat-named lanes at (line.Lane name) is = refl
seat-named lanes at _ is = cc

-- the lane of a line that begins a part is the one that it begins, if any
pub seat-told : (lanes : List (List ℕ)) (at : Option ℕ) (l : Line) → role_begins (role_of l) ≡ true → seat_begun lanes (Some l) ≡ seat_after lanes at l
unfolding role_of
seat-told lanes at line.Phase begins = refl
seat-told lanes at (line.Lane name) begins = refl
seat-told lanes at _ begins = absurd (true≢false (sym begins))

-- ---- names
-- a line that doesn't stand in the header names no process of it
pub no-proc : (l : Line) → (role_of l ≡ role.Header → ⊥) → proc_name_told l ≡ []
unfolding role_of
no-proc (line.Proc name label ceiling cap lic) not = absurd (not refl)
no-proc _ not = refl

no-fds : (l : Line) → (role_of l ≡ role.Naming → ⊥) → new_fds l ≡ []
unfolding role_of
no-fds (line.Open proc path mode named) not = absurd (not refl)
no-fds (line.Dup proc fd named) not = absurd (not refl)
no-fds (line.Pipe proc named) not = absurd (not refl)
no-fds _ not = refl

no-procs : (l : Line) → (role_of l ≡ role.Naming → ⊥) → (role_of l ≡ role.Server → ⊥) → new_procs l ≡ []
unfolding role_of
no-procs (line.Fork proc keep named) not no_server = absurd (not refl)
no-procs (line.Login proc fd hand named) not no_server = absurd (no_server refl)
no-procs _ not no_server = refl

-- a line that gives no name needs no place
pub no-places : (places : Places) (l : Line) → (role_of l ≡ role.Naming → ⊥) → (role_of l ≡ role.Server → ⊥) → has_places places l ≡ true
unfolding has_places
no-places places l not no_server = rw (no-fds l not, no-procs l not no_server) refl
