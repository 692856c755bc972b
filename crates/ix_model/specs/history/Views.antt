-- What a report says of the world, and how much an object holds.
use Rattle.std.specs.Prelude.{ℕ, ◌==◌, nat_lt, Bool, false, ◌&&◌, ◌||◌, List, [], length, drop, Option, Some, None, if◌then◌else◌}
use Rattle.std.specs.Option.{option_and_then, option_map_or}
use Rattle.ix_model.specs.world.World.{World, Object, Process, at, is_dir, is_file, is_pipe}
use Rattle.ix_model.specs.world.Contents.{side, holding_of}
use Rattle.ix_model.specs.rows.Walks.{node}
use Rattle.ix_model.specs.declared.views.ObjView.{ObjView}
use Rattle.ix_model.specs.declared.views.ProcView.{ProcView}

-- of an object
abbrev pub view_of : Object → ObjView
view_of o = record { kind = o.kind; label = o.label; frozen = o.frozen }

-- of a process
abbrev pub shown_of : Process → ProcView
shown_of p = record { label = p.label; ended = p.ended }

-- whether an object has that end: a file end 0, a pipe both
abbrev pub has_side : Object → ℕ → Bool
has_side x end = is_file x && end == 0 || is_pipe x && nat_lt end 2

-- how much there is at an end of an object: the length of a file, or what that end of a pipe can read
unfoldable pub size_at : World → ℕ → ℕ → Option ℕ
size_at w o end = option_and_then (λ x. if has_side x end then Some (length (side end (holding_of w.content o))) else None) (at w.frame.objects o)

-- the bytes of a file from an offset on; none where no file is there
unfoldable pub bytes_inside : World → ℕ → ℕ → List ℕ
bytes_inside w o offset = if option_map_or is_file (at w.frame.objects o) false then drop offset (holding_of w.content o).first else []

-- the names of a directory with their objects, in order of making, where one is there
abbrev pub names_there : List (Option Object) → ℕ → Option (List (List ℕ × ℕ))
names_there objects o = if is_dir (node objects o) then Some (node objects o).names else None
