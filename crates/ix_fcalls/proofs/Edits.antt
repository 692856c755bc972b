-- What edits of bytes and offsets come to in the content.
use Rattle.std.proofs.Common.{◌≡◌, ◌+◌, ◌-◌, ◌++◌, ℕ, Bool, true, false, List, length, drop, Option, slice_index_or, slice_set, if◌then◌else◌, refl, sym, ap, subst, ◌∙◌}
use Rattle.std.specs.Option.{option_map_or}
use Rattle.ix_model.specs.world.World.{Content, Process, Holding, at, is_pipe}
use Rattle.ix_model.specs.world.Contents.{holds_nothing, side, with_side, change_side, readable, after_read, after_write, after_cut, spliced, cut_to}
use Rattle.ix_tables.specs.Parts.{Parts}
use Rattle.ix_fcalls.specs.{declared.open_file.OpenFile.OpenFile, Around.{Around, frame_of, world_of}, Counted.IsCounted, Views.behind_of, Serving.Serves}

-- the parts with other holdings and offsets
abbrev pub edited : Parts → List Holding → List ℕ → Parts
edited t holdings offsets = record t { holdings = holdings; offsets = offsets }

module _ (t v : Parts) (holdings : List Holding) (offsets : List ℕ) (is : v ≡ edited t holdings offsets) where
  pub edited_frame : (a : Around) (ps : List (Option Process)) → frame_of a v ps ≡ frame_of a t ps
  edited_frame a ps = ap (λ u. frame_of a u ps) is

  pub edited_counted : (ps : List (Option Process)) → IsCounted t ps → IsCounted v ps
  edited_counted ps c = subst (λ u. IsCounted u ps) (sym is) (record { owners = c.owners; homes = c.homes })

module _ (a : Around) (t : Parts) (ps : List (Option Process)) (b : OpenFile) where
  abbrev on_pipe_there : Bool
  on_pipe_there = option_map_or is_pipe (at t.objects b.object) false

  abbrev holding : Holding
  holding = slice_index_or t.holdings b.object holds_nothing

  abbrev content : Content
  content = (world_of a t ps).content

  -- ---- reads
  pub readable_pipe : on_pipe_there ≡ true → readable (frame_of a t ps) (world_of a t ps).content (behind_of b) ≡ side b.end holding
  unfolding readable
  readable_pipe pipe = ap (λ p. drop (if p then 0 else slice_index_or t.offsets b.id 0) (side b.end holding)) pipe

  pub readable_file : Serves t b → on_pipe_there ≡ false → readable (frame_of a t ps) (world_of a t ps).content (behind_of b) ≡ drop b.offset holding.first
  unfolding readable
  readable_file s file = ap (λ p. drop (if p then 0 else slice_index_or t.offsets b.id 0) (side b.end holding)) file ∙ (λ i. drop (sym s.offset i) (side (s.first file i) holding))

  abbrev after_read_at : ℕ → Bool → Content
  after_read_at k p = if p then change_side b.object b.end (drop k) content else record content { offsets = slice_set t.offsets b.id (slice_index_or t.offsets b.id 0 + k) }

  after_read_is : (k : ℕ) → after_read (frame_of a t ps) (behind_of b) k (world_of a t ps).content ≡ after_read_at k on_pipe_there
  unfolding after_read
  after_read_is k = refl

  pub took : (v : Parts) (k : ℕ) → on_pipe_there ≡ true → v ≡ record t { holdings = slice_set t.holdings b.object (with_side b.end (drop k (side b.end holding)) holding) }
      → (world_of a v ps).content ≡ after_read (frame_of a t ps) (behind_of b) k (world_of a t ps).content
  took v k pipe is = ap (λ u. (world_of a u ps).content) is ∙ sym (after_read_is k ∙ ap (after_read_at k) pipe)

  pub moved_past : (v : Parts) (k : ℕ) → Serves t b → on_pipe_there ≡ false → v ≡ record t { offsets = slice_set t.offsets b.id (b.offset + k) }
      → (world_of a v ps).content ≡ after_read (frame_of a t ps) (behind_of b) k (world_of a t ps).content
  moved_past v k s file is = ap (λ u. (world_of a u ps).content) is ∙ ap (λ o. record content { offsets = slice_set t.offsets b.id (o + k) }) s.offset
      ∙ sym (after_read_is k ∙ ap (after_read_at k) file)

  -- ---- writes
  abbrev after_write_at : List ℕ → Bool → Content
  after_write_at new p = if p then change_side b.object (1 - b.end) (λ old. old ++ new) content
      else record (change_side b.object b.end (spliced (slice_index_or t.offsets b.id 0) new) content) { offsets = slice_set t.offsets b.id (slice_index_or t.offsets b.id 0 + length new) }

  after_write_is : (new : List ℕ) → after_write (frame_of a t ps) (behind_of b) new (world_of a t ps).content ≡ after_write_at new on_pipe_there
  unfolding after_write
  after_write_is new = refl

  pub appended : (v : Parts) (new : List ℕ) → on_pipe_there ≡ true → v ≡ record t { holdings = slice_set t.holdings b.object (with_side (1 - b.end) (side (1 - b.end) holding ++ new) holding) }
      → (world_of a v ps).content ≡ after_write (frame_of a t ps) (behind_of b) new (world_of a t ps).content
  appended v new pipe is = ap (λ u. (world_of a u ps).content) is ∙ sym (after_write_is _ ∙ ap (after_write_at new) pipe)

  pub written : (v : Parts) (new : List ℕ) → Serves t b → on_pipe_there ≡ false
      → v ≡ record t { holdings = slice_set t.holdings b.object (with_side 0 (spliced b.offset new holding.first) holding); offsets = slice_set t.offsets b.id (b.offset + length new) }
      → (world_of a v ps).content ≡ after_write (frame_of a t ps) (behind_of b) new (world_of a t ps).content
  written v new s file is = ap (λ u. (world_of a u ps).content) is
      ∙ (λ i. record content {
        holdings = slice_set t.holdings b.object (with_side (sym (s.first file) i) (spliced (s.offset i) new (side (sym (s.first file) i) holding)) holding);
        offsets = slice_set t.offsets b.id (s.offset i + length new);
      }) ∙ sym (after_write_is _ ∙ ap (after_write_at new) file)

  -- ---- cuts
  pub cut_short : (v : Parts) (len : ℕ) → Serves t b → on_pipe_there ≡ false → v ≡ record t { holdings = slice_set t.holdings b.object (with_side 0 (cut_to len holding.first) holding) }
      → (world_of a v ps).content ≡ after_cut (behind_of b) len (world_of a t ps).content
  unfolding after_cut
  cut_short v len s file is = ap (λ u. (world_of a u ps).content) is
      ∙ (λ i. record content { holdings = slice_set t.holdings b.object (with_side (sym (s.first file) i) (cut_to len (side (sym (s.first file) i) holding)) holding) })
