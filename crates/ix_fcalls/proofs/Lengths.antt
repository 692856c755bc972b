-- What lengths tell of an open entry, from the parts alone.
use Rattle.std.proofs.Common.{◌≡◌, ◌≤◌, ◌+◌, ◌-◌, ◌==◌, ◌&&◌, ◌||◌, ℕ, Bool, true, false, not, nat_le, nat_lt, List, length, drop, Option, Some, None, inl, inr}
use Rattle.std.{proofs.Common.{slice_index_or, if◌then◌else◌, refl, sym, ap, ◌∙◌, arith}, specs.{Prelude.max, Option.option_map_or}}
use Rattle.std.proofs.lemmas.{Bool.{cases_lt, le-leb, lt-leb, lt-ltb, le-ltb, eq-eqb, ne_eqb, ltb-false, or_parts}, List.length-drop}
use Rattle.ix_model.{specs.{world.{World.{Process, Holding, at, is_pipe}, Contents.{holds_nothing, side, readable}}, rows.OnDescriptors.LengthChecks}, proofs.tables.Blocks.blocks_from}
use Rattle.ix_model.specs.rows.Telling.{nothing_told, told_of_read, told_of_write, told_of_file_write, told_of_pipe_write, told_of_cut, blocks_on, blocks_for}
use Rattle.ix_model.specs.rows.Telling.{blocks_beside, lies_on, fs_of_object, length_then}
use Rattle.ix_tables.specs.{Parts.Parts, Views.{frame_alone, content_alone, has_room}}
use Rattle.ix_fcalls.specs.{declared.open_file.OpenFile.OpenFile, Around.{Around, frame_of, world_of}, Views.behind_of, Serving.Serves}

twice : (b : Bool) → not (not b) ≡ b
twice true = refl
twice false = refl

nothing_past : (n o : ℕ) → nat_le n o ≡ (n - o == 0)
nothing_past n o = elim (cases_lt o n) [
  | inl more ↦ lt-leb n o more ∙ sym (ne_eqb _ 0 (λ e. absurd (omega arith)))
  | inr low ↦ le-leb n o low ∙ sym (eq-eqb _ 0 (omega arith))
]

-- more than a pipe has room for
pub past_left : (there n : ℕ) → there ≤ 4096 → nat_lt (4096 - there) n ≡ nat_lt 4096 (there + n)
past_left there n few = elim (cases_lt _ n) [
  | inl more ↦ lt-ltb _ n more ∙ sym (lt-ltb 4096 _ (omega arith))
  | inr low ↦ le-ltb _ n low ∙ sym (le-ltb 4096 _ (omega arith))
]

-- a length that is within the greatest one
pub then_low : (offset n old : ℕ) → old ≤ 1048576 → offset + n ≤ 1048576 → length_then offset n old ≤ 1048576
then_low offset n old low past = go _
  where
    go : (b : Bool) → (if b then old else max old (offset + n)) ≤ 1048576
    go true = low
    go false = omega arith

-- a write that isn't too big
module _ (offset n : ℕ) (small : (nat_lt 4096 n || nat_lt 1048576 (offset + n)) ≡ false) where
  pub few_at : n ≤ 4096
  few_at = ltb-false 4096 n (or_parts _ _ small).0

  pub ends_at : offset + n ≤ 1048576
  ends_at = ltb-false 1048576 _ (or_parts _ _ small).1

module _ (a : Around) (t : Parts) (ps : List (Option Process)) where
  -- ---- room
  blocks_alone : (k : Option ℕ) → blocks_on (frame_alone t) k ≡ blocks_on (frame_of a t ps) k
  blocks_alone None = refl
  blocks_alone (Some k) = refl

  lies_alone : (k : Option ℕ) (m : ℕ) → lies_on (frame_alone t) k m ≡ lies_on (frame_of a t ps) k m
  lies_alone None m = refl
  lies_alone (Some k) m = refl

  beside_alone : (o : ℕ) → blocks_beside (frame_alone t) (content_alone t) o ≡ blocks_beside (frame_of a t ps) (world_of a t ps).content o
  beside_alone o = blocks_from _ _ 0 _ (λ m low. ap (λ b. not (m == o) && b) (lies_alone (fs_of_object (frame_of a t ps) o) m))

  -- whether a file system has too few blocks for a file of that length
  abbrev lacks : ℕ → ℕ → Bool
  lacks o len = nat_lt (blocks_on (frame_of a t ps) (fs_of_object (frame_of a t ps) o)) (blocks_beside (frame_of a t ps) (world_of a t ps).content o + blocks_for len)

  room_is : (o len : ℕ) → has_room o len t ≡ not (lacks o len)
  room_is o len = λ i. not (nat_lt (blocks_alone (fs_of_object (frame_of a t ps) o) i) (beside_alone o i + blocks_for len))

  lacks_is : (o len : ℕ) (r : Bool) → r ≡ has_room o len t → not r ≡ lacks o len
  lacks_is o len r is = ap not (is ∙ room_is o _) ∙ twice _

  has_room_is : (o len : ℕ) → lacks o len ≡ false → has_room o len t ≡ true
  has_room_is o len h = room_is o _ ∙ ap not h

  module _ (b : OpenFile) where
    abbrev holding : Holding
    holding = slice_index_or t.holdings b.object holds_nothing

    abbrev on_pipe_there : Bool
    on_pipe_there = option_map_or is_pipe (at t.objects b.object) false

    -- ---- reads
    abbrev read_tells : Bool → LengthChecks
    read_tells p = record nothing_told { empty = length (drop (if p then 0 else slice_index_or t.offsets b.id 0) (side b.end holding)) == 0 }

    read_is : told_of_read (frame_of a t ps) (world_of a t ps).content (Some (behind_of b)) ≡ read_tells on_pipe_there
    unfolding told_of_read readable
    read_is = refl

    pub told_read_pipe : (k : ℕ) → on_pipe_there ≡ true → k ≡ length (side b.end holding)
        → record nothing_told { empty = k == 0 } ≡ told_of_read (frame_of a t ps) (world_of a t ps).content (Some (behind_of b))
    told_read_pipe k pipe is = ap (λ n. record nothing_told { empty = n == 0 }) is ∙ sym (read_is ∙ ap read_tells pipe)

    pub told_read_file : (n : ℕ) → Serves t b → on_pipe_there ≡ false → n ≡ length holding.first
        → record nothing_told { empty = nat_le n b.offset } ≡ told_of_read (frame_of a t ps) (world_of a t ps).content (Some (behind_of b))
    told_read_file n s file is =
        let long = length-drop b.offset holding.first ∙ ap (λ k. k - b.offset) (sym is) in
        let there : drop (slice_index_or t.offsets b.id 0) (side b.end holding) ≡ drop b.offset holding.first = λ i. drop (sym s.offset i) (side (s.first file i) holding) in
        let same = nothing_past n _ ∙ ap (λ k. k == 0) (sym long ∙ ap length (sym there)) in
        ap (λ e. record nothing_told { empty = e }) same ∙ sym (read_is ∙ ap read_tells file)

    -- ---- cuts
    pub told_cut : (len : ℕ) (r : Bool) → r ≡ has_room b.object len t → record nothing_told { no_space = not r } ≡ told_of_cut (frame_of a t ps) (world_of a t ps).content len (Some (behind_of b))
    unfolding told_of_cut
    told_cut len r is = ap (λ x. record nothing_told { no_space = x }) (lacks_is _ _ r is)

    pub cut_has_room : (len : ℕ) → told_of_cut (frame_of a t ps) (world_of a t ps).content len (Some (behind_of b)) ≡ nothing_told → has_room b.object len t ≡ true
    unfolding told_of_cut
    cut_has_room len room = has_room_is _ _ (ap (λ m. m.no_space) room)

    -- ---- writes
    -- whether a write is too big
    abbrev big : ℕ → ℕ → Bool
    big offset n = nat_lt 4096 n || nat_lt 1048576 (offset + n)

    abbrev write_tells : ℕ → ℕ → ℕ → Bool → LengthChecks
    write_tells offset n old p = record nothing_told { too_big = p; no_space = not p && lacks b.object (length_then offset n old) }

    file_write_is : (n : ℕ) → told_of_file_write (frame_of a t ps) (world_of a t ps).content (behind_of b) n ≡ write_tells (slice_index_or t.offsets b.id 0) n
        (length (side b.end holding)) (big (slice_index_or t.offsets b.id 0) n)
    file_write_is n = refl

    -- at the offset of a file, all of whose bytes are at end 0
    file_write_here : (n : ℕ) → Serves t b → on_pipe_there ≡ false → told_of_file_write (frame_of a t ps) (world_of a t ps).content (behind_of b) n
        ≡ write_tells b.offset n (length holding.first) (big b.offset n)
    file_write_here n s file = file_write_is n ∙ (λ i. write_tells (sym s.offset i) n (length (side (s.first file i) holding)) (big (sym s.offset i) n))

    pub told_too_big : (n : ℕ) → Serves t b → on_pipe_there ≡ false → big b.offset n ≡ true
        → record nothing_told { too_big = true } ≡ told_of_file_write (frame_of a t ps) (world_of a t ps).content (behind_of b) n
    told_too_big n s file h = sym (file_write_here n s file ∙ ap (write_tells b.offset n (length holding.first)) h)

    pub told_file_write : (n old : ℕ) (r : Bool) → Serves t b → on_pipe_there ≡ false → big b.offset n ≡ false → old ≡ length holding.first → r ≡ has_room b.object (length_then b.offset n old) t
        → record nothing_told { no_space = not r } ≡ told_of_file_write (frame_of a t ps) (world_of a t ps).content (behind_of b) n
    told_file_write n old r s file h is room =
        ap (λ x. record nothing_told { no_space = x }) (lacks_is _ _ r room ∙ ap (λ k. lacks b.object (length_then b.offset n k)) is)
        ∙ sym (file_write_here n s file ∙ ap (write_tells b.offset n (length holding.first)) h)

    abbrev pick : ℕ → Bool → LengthChecks
    pick n p = if p then told_of_pipe_write (length (side (1 - b.end) holding)) n else told_of_file_write (frame_of a t ps) (world_of a t ps).content (behind_of b) n

    write_is : (n : ℕ) → told_of_write (frame_of a t ps) (world_of a t ps).content n (Some (behind_of b)) ≡ pick n on_pipe_there
    unfolding told_of_write
    write_is n = refl

    pub told_write_pipe : (n k : ℕ) (m : LengthChecks) → on_pipe_there ≡ true → k ≡ length (side (1 - b.end) holding) → m ≡ told_of_pipe_write k n
        → m ≡ told_of_write (frame_of a t ps) (world_of a t ps).content n (Some (behind_of b))
    told_write_pipe n k m pipe is told = told ∙ ap (λ j. told_of_pipe_write j n) is ∙ sym (write_is n ∙ ap (pick n) pipe)

    pub told_write_file : (n : ℕ) (m : LengthChecks) → on_pipe_there ≡ false
        → m ≡ told_of_file_write (frame_of a t ps) (world_of a t ps).content (behind_of b) n
        → m ≡ told_of_write (frame_of a t ps) (world_of a t ps).content n (Some (behind_of b))
    told_write_file n m file told = told ∙ sym (write_is n ∙ ap (pick n) file)

    -- ---- what there is room for
    module _ (n : ℕ) (room : told_of_write (frame_of a t ps) (world_of a t ps).content n (Some (behind_of b)) ≡ nothing_told) where
      pub pipe_room : on_pipe_there ≡ true → length (side (1 - b.end) holding) + n ≤ 4096
      pipe_room pipe = ltb-false 4096 _ (ap (λ m. m.full) (sym (write_is n ∙ ap (pick n) pipe) ∙ room))

      -- to a file that the open entry is on
      module _ (s : Serves t b) (file : on_pipe_there ≡ false) where
        here : write_tells b.offset n (length holding.first) (big b.offset n) ≡ nothing_told
        here = sym (file_write_here n s file) ∙ sym (write_is n ∙ ap (pick n) file) ∙ room

        small : big b.offset n ≡ false
        small = ap (λ m. m.too_big) here

        pub write_few : n ≤ 4096
        write_few = few_at b.offset n small

        pub write_ends : b.offset + n ≤ 1048576
        write_ends = ends_at b.offset n small

        pub write_low : length_then b.offset n (length holding.first) ≤ 1048576
        write_low = then_low _ n _ s.short write_ends

        pub write_has_room : has_room b.object (length_then b.offset n (length holding.first)) t ≡ true
        write_has_room = has_room_is _ _
            (ap (λ p. not p && lacks b.object (length_then b.offset n (length holding.first))) (sym small) ∙ ap (λ m. m.no_space) here)
