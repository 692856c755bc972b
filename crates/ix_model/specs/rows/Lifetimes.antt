-- How long open entries, objects and claims last.
use Rattle.std.specs.Prelude.{ℕ, ◌==◌, Bool, false, not, ◌&&◌, ◌||◌, List, [], ◌∷◌, None}
use Rattle.std.specs.Option.{option_map_or}
use Rattle.std.specs.List.{range_with_len}
use Rattle.ix_model.specs.world.World.{Frame, Object, at, put, is_file, is_dir, is_pipe, held}
use Rattle.ix_model.specs.world.Owners.{times_named, owned, has_end}
use Rattle.ix_model.specs.rows.Outcomes.{Row}
use Rattle.ix_model.specs.rows.Rows.{◌>>◌, pass, only_if, change_process, change_object, put_object, put_open}
use Rattle.ix_model.specs.rows.Walks.{OpenFile, behind}

-- an object stays while it is a directory, a file with a name or an open entry, or a pipe with an open entry
abbrev pub stays : Frame → ℕ → Object → Bool
stays f o x =
    is_dir x
    || is_file x && (not (times_named f.objects o == 0) || held f.opens o 0)
    || is_pipe x && (held f.opens o 0 || held f.opens o 1)

-- an object that doesn't stay is gone
unfoldable pub let_go_object : ℕ → Row (Unit {0})
let_go_object o = λ f. only_if (option_map_or (λ x. not (stays f o x)) (at f.objects o) false) (put_object o None) f

-- an open entry that no living process has is gone
unfoldable pub let_go_open : ℕ → Row (Unit {0})
let_go_open e = λ f. only_if (not (owned f.processes e)) (put_open e None) f

-- whether a process has claimed an end, and has no descriptor on it any more
abbrev pub has_lost : Frame → ℕ → ℕ → ℕ → Bool
has_lost f pid o end = option_map_or (λ x. option_map_or (λ p. p == pid) (at x.claims end) false) (at f.objects o) false && not (has_end f o end pid)

-- a claim ends with the claimant's last descriptor on the end
unfoldable pub let_go_claim : ℕ → ℕ → ℕ → Row (Unit {0})
let_go_claim pid o end = λ f. only_if (has_lost f pid o end) (change_object o (λ x. record x { claims = put x.claims end None })) f

-- a descriptor is given up, and with it what it alone kept
unfoldable pub let_go : ℕ → ℕ → OpenFile → Row (Unit {0})
let_go pid fd e = do
  change_process pid (λ p. record p { fds = put p.fds fd None })
  let_go_claim pid e.entry.object e.entry.end
  let_go_open e.id
  let_go_object e.entry.object

-- a descriptor is given up, where it is one
unfoldable pub let_go_if_held : ℕ → ℕ → Row (Unit {0})
let_go_if_held pid fd = λ f. option_map_or (let_go pid fd) (behind f pid fd) (pass tt) f

-- each of these descriptors is given up
unfoldable pub let_go_each : ℕ → List ℕ → Row (Unit {0})
let_go_each pid [] = pass tt
let_go_each pid (fd ∷ fds) = do
  let_go_if_held pid fd
  let_go_each pid fds

-- all 32 descriptors are given up
unfoldable pub let_go_all : ℕ → Row (Unit {0})
let_go_all pid = let_go_each pid (range_with_len 0 32)
