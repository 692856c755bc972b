-- What a world holds, and what reads, writes and the like do to it.
use Rattle.std.specs.Prelude.{ℕ, suc, ◌+◌, ◌-◌, ◌==◌, nat_le, Bool, false, ◌&&◌, List, [], ◌∷◌, ◌++◌, length, take, drop, replicate, is_some, if◌then◌else◌, slice_index_or, slice_set}
use Rattle.std.specs.Option.{option_map_or}
use Rattle.ix_model.specs.world.World.{Frame, Content, Holding, HoldingOf, at, is_ended, is_pipe}
use Rattle.ix_model.specs.rows.Walks.{OpenFile}

-- ---- what stays
-- only what stands at the numbers that pass stays, counted from k
unfoldable pub keep : {A : Type 0} → A → (ℕ → Bool) → ℕ → List A → List A
keep d p k [] = []
keep d p k (x ∷ xs) = (if p k then x else d) ∷ keep d p (suc k) xs

-- filled up to a length with what stands in a gap
abbrev pub filled : {A : Type 0} → A → ℕ → List A → List A
filled gap n xs = xs ++ replicate (n - length xs) gap

-- with zeros up to a length
abbrev pub grown : ℕ → List ℕ → List ℕ
grown n xs = filled 0 n xs

-- nothing is held
abbrev pub nothing_held : {A : Type 0} → HoldingOf A
nothing_held = record { first = []; second = [] }

-- no bytes
abbrev pub holds_nothing : Holding
holds_nothing = nothing_held

-- what stands in both frames keeps what it holds
abbrev pub kept : {A : Type 0} → Frame → Frame → List (HoldingOf A) → List (HoldingOf A)
kept f g hs = keep nothing_held (λ o. is_some (at f.objects o) && is_some (at g.objects o)) 0 hs

-- what stands in both frames keeps its bytes and its offset, what has ended in both keeps its status; all else has none
unfoldable pub carried : Frame → Frame → Content → Content
carried f g c = record {
  holdings = kept f g c.holdings;
  offsets = keep 0 (λ e. is_some (at f.opens e) && is_some (at g.opens e)) 0 c.offsets;
  statuses = keep 0 (λ p. is_ended (at f.processes p) && is_ended (at g.processes p)) 0 (grown (length g.processes) c.statuses);
}

-- ---- what there is to read
-- what is held at a number
abbrev pub held_at : {A : Type 0} → List (HoldingOf A) → ℕ → HoldingOf A
held_at hs o = slice_index_or hs o nothing_held

-- what an object holds
abbrev pub holding_of : Content → ℕ → Holding
holding_of c o = held_at c.holdings o

-- where an open entry stands
abbrev pub offset_of : Content → ℕ → ℕ
offset_of c e = slice_index_or c.offsets e 0

-- what an end reads from: what a file holds is at end 0
abbrev pub side : {A : Type 0} → ℕ → HoldingOf A → List A
side end h = if end == 0 then h.first else h.second

-- the holding with something else there
abbrev pub with_side : {A : Type 0} → ℕ → List A → HoldingOf A → HoldingOf A
with_side end now h = if end == 0 then record h { first = now } else record h { second = now }

-- whether an open entry is on a pipe
abbrev pub on_pipe : Frame → OpenFile → Bool
on_pipe f e = option_map_or is_pipe (at f.objects e.entry.object) false

-- what there is to read, of what is held: a file's from the offset, or all that the pipe's end can read
abbrev pub readable_in : {A : Type 0} → Frame → ℕ → OpenFile → List (HoldingOf A) → List A
readable_in f offset e hs = drop (if on_pipe f e then 0 else offset) (side e.entry.end (held_at hs e.entry.object))

-- the bytes that there are to read
unfoldable pub readable : Frame → Content → OpenFile → List ℕ
readable f c e = readable_in f (offset_of c e.id) e c.holdings

-- what is held, with what an end of an object reads from changed
abbrev pub on_side : {A : Type 0} → ℕ → ℕ → (List A → List A) → List (HoldingOf A) → List (HoldingOf A)
on_side o end h hs = slice_set hs o (with_side end (h (side end (held_at hs o))) (held_at hs o))

-- the content with that changed
abbrev pub change_side : ℕ → ℕ → (List ℕ → List ℕ) → Content → Content
change_side o end h c = record c { holdings = on_side o end h c.holdings }

-- a read of so many bytes moves a file's offset, and takes a pipe's bytes
unfoldable pub after_read : Frame → OpenFile → ℕ → Content → Content
after_read f e k c =
    if on_pipe f e then change_side e.entry.object e.entry.end (drop k) c
    else record c { offsets = slice_set c.offsets e.id (offset_of c e.id + k) }

-- written over a list at an offset, with a gap before it filled; what is nothing leaves the length
abbrev pub written_over : {A : Type 0} → A → ℕ → List A → List A → List A
written_over gap offset new old = if nat_le (length new) 0 then old else take offset old ++ (replicate (offset - length old) gap ++ (new ++ drop (offset + length new) old))

-- bytes written at an offset; a gap reads as zeros
abbrev pub spliced : ℕ → List ℕ → List ℕ → List ℕ
spliced offset new old = written_over 0 offset new old

-- the bytes stand at a file's offset, which moves, or at the end of what a pipe's other end can read
unfoldable pub after_write : Frame → OpenFile → List ℕ → Content → Content
after_write f e new c =
    if on_pipe f e then change_side e.entry.object (1 - e.entry.end) (λ old. old ++ new) c
    else record (change_side e.entry.object e.entry.end (spliced (offset_of c e.id) new) c) { offsets = slice_set c.offsets e.id (offset_of c e.id + length new) }

-- a list of that length: what is past it goes, and what is missing is filled
abbrev pub resized : {A : Type 0} → A → ℕ → List A → List A
resized gap len xs = take len (filled gap len xs)

-- a file of that length, where what is missing reads as zeros
abbrev pub cut_to : ℕ → List ℕ → List ℕ
cut_to len bytes = resized 0 len bytes

-- the file is cut to that length
unfoldable pub after_cut : OpenFile → ℕ → Content → Content
after_cut e len c = change_side e.entry.object e.entry.end (cut_to len) c

-- the offset is that
unfoldable pub after_seek : OpenFile → ℕ → Content → Content
after_seek e offset c = record c { offsets = slice_set c.offsets e.id offset }

-- nothing is held at a number
abbrev pub cleared : {A : Type 0} → ℕ → List (HoldingOf A) → List (HoldingOf A)
cleared o hs = slice_set hs o nothing_held

-- a path that has become whole holds nothing
unfoldable pub emptied : ℕ → Content → Content
emptied o c = record c { holdings = cleared o c.holdings }

-- the status of a process that has ended
abbrev pub status_of : Content → ℕ → ℕ
status_of c p = slice_index_or c.statuses p 0

-- what a process that has ended leaves, where its record stays
unfoldable pub after_exit : Frame → ℕ → ℕ → Content → Content
after_exit g p status c = if is_ended (at g.processes p) then record c { statuses = slice_set c.statuses p status } else c
