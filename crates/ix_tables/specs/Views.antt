-- What the readers of the tables tell.
use Rattle.std.specs.Prelude.{◌≡◌, ◌+◌, ◌-◌, ℕ, Bool, true, false, not, nat_lt, ◌&&◌, List, [], take, drop, Option, Some, None, if◌then◌else◌, slice_set, slice_index_or}
use Rattle.std.specs.Option.{option_map_or}
use Rattle.std.proofs.Common.{option_map}
use Rattle.ix_model.specs.world.World.{Frame, Content, Object, at, put, change, fs_at, lowest_free, claimed_by_another}
use Rattle.ix_model.specs.history.Step.{is_whole}
use Rattle.ix_model.specs.world.Numbers.{first_inode, first_pipe}
use Rattle.ix_model.specs.world.Contents.{holds_nothing}
use Rattle.ix_model.specs.rows.Lifetimes.{stays}
use Rattle.ix_model.specs.rows.Telling.{blocks_for, blocks_on, blocks_beside, fs_of_object}
use Rattle.ix_model.specs.rows.Walks.{node}
use Rattle.ix_model.specs.declared.config.FsSpec.{FsSpec}
use Rattle.ix_tables.specs.Parts.{Parts}
use Rattle.ix_tables.specs.declared.row.ObjectRow.{ObjectRow}

-- the object of which that is told, with the claims and names that it has
abbrev pub object_by : Object → ObjectRow → Object
object_by o x = record { kind = x.kind; fs = x.fs; label = x.float.label; frozen = x.float.frozen; cap = x.cap; lic = x.lic; claims = o.claims; names = o.names }

-- what is told of the object of a number, or that none stands there
abbrev pub Shows : List (Option Object) → ℕ → Option ObjectRow → Type 0
Shows objects n None = at objects n ≡ None
Shows objects n (Some x) = at objects n ≡ Some (object_by (node objects n) x)

-- the lowest free inode of a file system, and the lowest free pipe
abbrev pub vacant_inode : List FsSpec → List (Option Object) → ℕ → Option ℕ
vacant_inode fss objects k = option_map (λ n. first_inode fss k + n) (lowest_free (take (fs_at fss k).inodes (drop (first_inode fss k) objects)))

abbrev pub vacant_pipe : List FsSpec → List (Option Object) → Option ℕ
vacant_pipe fss objects = option_map (λ n. first_pipe fss + n) (lowest_free (drop (first_pipe fss) objects))

-- the frame and the content of these parts, without processes, log and statuses
abbrev pub frame_alone : Parts → Frame
frame_alone t = record { limits = t.limits; fss = t.fss; objects = t.objects; processes = []; opens = t.opens; log = [] }

abbrev pub content_alone : Parts → Content
content_alone t = record { holdings = t.holdings; offsets = t.offsets; statuses = [] }

-- an object's number is free, and it holds nothing
abbrev pub without_object : ℕ → Parts → Parts
without_object n t = record t { objects = put t.objects n None; holdings = slice_set t.holdings n holds_nothing }

-- the object goes, unless it stays as long as it has a name or an open entry
abbrev pub object_let_go : ℕ → Parts → Parts
object_let_go n t = if option_map_or (λ x. not (stays (frame_alone t) n x)) (at t.objects n) false then without_object n t else t

-- an open entry is gone; its number stands at offset 0 without an owner
abbrev pub without_open : ℕ → Parts → Parts
without_open e t = record t { opens = put t.opens e None; offsets = slice_set t.offsets e 0; owners = slice_set t.owners e 0 }

-- one owner fewer: the entry is gone where that was the last one
abbrev pub released : Bool → ℕ → Parts → Parts
released true e t = without_open e t
released false e t = record t { owners = slice_set t.owners e (slice_index_or t.owners e 0 - 1) }

-- whether a file may have that length: the blocks of all files of its file system are within it then
abbrev pub has_room : ℕ → ℕ → Parts → Bool
has_room n len t = not (nat_lt (blocks_on (frame_alone t) (fs_of_object (frame_alone t) n)) (blocks_beside (frame_alone t) (content_alone t) n + blocks_for len))

-- an end of a pipe claimed by a process
abbrev pub with_claim : ℕ → ℕ → Option ℕ → Parts → Parts
with_claim n end claimant t = record t { objects = change t.objects n (λ x. record x { claims = put x.claims end claimant }) }

-- an object that holds nothing
abbrev pub emptied : ℕ → Parts → Parts
emptied n t = record t { holdings = slice_set t.holdings n holds_nothing }

-- an end of a pipe claimed by a process, unless another has claimed it; a path that becomes whole by it holds nothing
abbrev pub claimed : ℕ → ℕ → ℕ → Parts → Parts
claimed n end pid t =
    let u = with_claim n end (Some pid) t in
    if claimed_by_another (node t.objects n) end pid then t
    else (if is_whole (frame_alone u) n && not (is_whole (frame_alone t) n) then emptied n u else u)
