-- What the bytes behind an open entry need to stand on.
use Rattle.std.specs.Prelude.{◌≡◌, ◌<◌, ◌≤◌, true, false, not, length, is_some, slice_index_or}
use Rattle.std.specs.Option.{option_map_or}
use Rattle.ix_model.specs.world.World.{at, is_dir, is_pipe}
use Rattle.ix_model.specs.world.Contents.{holds_nothing}
use Rattle.ix_tables.specs.Parts.{Parts}
use Rattle.ix_fcalls.specs.declared.open_file.OpenFile.{OpenFile}

-- it stands, on a file at end 0 or on an end of a pipe, at its offset; neither that nor a file is past 1,048,576
pub record Serves (t : Parts) (b : OpenFile) : Type 0 where
  pub entry : is_some (at t.opens b.id) ≡ true
  pub object : option_map_or (λ x. not (is_dir x)) (at t.objects b.object) false ≡ true
  pub end : b.end < 2
  pub first : option_map_or is_pipe (at t.objects b.object) false ≡ false → b.end ≡ 0
  pub offset : b.offset ≡ slice_index_or t.offsets b.id 0
  pub low : b.offset ≤ 1048576
  pub short : length (slice_index_or t.holdings b.object holds_nothing).first ≤ 1048576
