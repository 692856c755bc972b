-- What calls on bytes leave as it was: the frame but for labels, and so what lengths tell and what there is to read.
use Rattle.std.proofs.Common.{◌≡◌, ◌==◌, ◌+◌, ◌-◌, ◌++◌, ℕ, Bool, false, not, ◌&&◌, ◌||◌, nat_lt, List, length, drop, Option, Some, None, refl, ap, ◌∙◌, if◌then◌else◌, slice_set}
use Rattle.std.specs.Option.{option_map_or, option_and_then}
use Rattle.ix_model.specs.{world.World.{Frame, Content, Process, is_pipe, fs_at}, rows.{OnDescriptors.{LengthChecks, seek_fd, float_entry}, Table.{verdict, row}, Walks.{OpenFile, opened}}}
use Rattle.ix_model.specs.world.Contents.{on_pipe, readable, after_read, after_write, side, change_side, holding_of, offset_of, spliced}
use Rattle.ix_model.specs.rows.Telling.{nothing_told, told_of_write, told_of_file_write, told_of_pipe_write, told_of_cut, blocks_on, blocks_beside, blocks_for}
use Rattle.ix_model.{specs.rows.Telling.{blocks_where, lies_on, fs_of_object, length_then}, proofs.frames.Floats.{Floats, floats_itself, floats_change_open}}
use Rattle.ix_model.proofs.{tables.{Blocks.blocks_from, Tables.seen_same}, words.{Keeps.{Keeps as KeepsRow, keeping}, Lasts.decided}}
use Rattle.ix_model.proofs.sound.FloatingRows.{floats_read_fd, floats_write_fd, floats_cut_fd}
use Rattle.ix_tables.specs.Parts.{Parts}
use Rattle.ix_fcalls.specs.{Around.{Around, world_of}, Counted.Keeps}
use Rattle.ix_model.specs.history.Events as op

-- ---- these calls change labels alone in the frame
pub floats_read : (m : LengthChecks) (place pid fd count : ℕ) (f : Frame) → Floats f (verdict m place pid (op.ReadFd fd count) f).frame
unfolding row
floats_read m place pid fd count f = decided (Floats f) m place pid (op.ReadFd fd count) f (floats_itself f) ((floats_read_fd f m _ fd _).led f (floats_itself f))

pub floats_write : (m : LengthChecks) (place pid fd : ℕ) (new : List ℕ) (f : Frame) → Floats f (verdict m place pid (op.WriteFd fd new) f).frame
unfolding row
floats_write m place pid fd new f = decided (Floats f) m place pid (op.WriteFd fd new) f (floats_itself f) ((floats_write_fd f m _ fd).led f (floats_itself f))

pub floats_cut : (m : LengthChecks) (place pid fd len : ℕ) (f : Frame) → Floats f (verdict m place pid (op.CutFd fd len) f).frame
unfolding row
floats_cut m place pid fd len f = decided (Floats f) m place pid (op.CutFd fd len) f (floats_itself f) ((floats_cut_fd f m _ fd _).led f (floats_itself f))

floats_seek_fd : (f : Frame) (pid fd offset : ℕ) → KeepsRow (Floats f) (seek_fd pid fd offset)
unfolding seek_fd opened float_entry
floats_seek_fd f pid fd offset = search (keeping, floats_change_open) depth 40

pub floats_seek : (m : LengthChecks) (place pid fd offset : ℕ) (f : Frame) → Floats f (verdict m place pid (op.SeekFd fd offset) f).frame
unfolding row
floats_seek m place pid fd offset f = decided (Floats f) m place pid (op.SeekFd fd offset) f (floats_itself f) ((floats_seek_fd f _ fd _).led f (floats_itself f))

-- ---- what labels don't change
module _ (f g : Frame) (r : Floats f g) where
  pub pipe_same : (e : OpenFile) → on_pipe g e ≡ on_pipe f e
  pipe_same e = seen_same _ (λ x. option_map_or is_pipe x false) (λ x. refl) _ _ r.objects e.entry.object

  fs_same : (o : ℕ) → fs_of_object g o ≡ fs_of_object f o
  fs_same o = seen_same _ (λ x. option_and_then (λ y. y.fs) x) (λ x. refl) _ _ r.objects o

  lies_same : (k : Option ℕ) (o : ℕ) → lies_on g k o ≡ lies_on f k o
  lies_same None o = refl
  lies_same (Some k) o = seen_same _ (λ x. option_map_or (λ y. option_map_or (λ j. j == k) y.fs false) x false) (λ x. refl) _ _ r.objects o

  blocks_same : (k : Option ℕ) → blocks_on g k ≡ blocks_on f k
  blocks_same None = refl
  blocks_same (Some k) = ap (λ fss. (fs_at fss k).blocks) r.fss

  all_same : (o : ℕ) → blocks_on g (fs_of_object g o) ≡ blocks_on f (fs_of_object f o)
  all_same o = ap (blocks_on g) (fs_same o) ∙ blocks_same _

  beside_same : (c : Content) (o : ℕ) → blocks_beside g c o ≡ blocks_beside f c o
  beside_same c o = ap (λ k. blocks_where (λ m. not (m == o) && lies_on g k m) 0 c.holdings) (fs_same o)
      ∙ blocks_from _ _ 0 _ (λ m low. ap (λ b. not (m == o) && b) (lies_same (fs_of_object f o) m))

  pub told_write_same : (c : Content) (n : ℕ) (e : OpenFile) → told_of_write g c n (Some e) ≡ told_of_write f c n (Some e)
  unfolding told_of_write
  told_write_same c n e = ap (λ p. if p then piped else told_of_file_write g c e n) (pipe_same e) ∙ ap (λ t. if on_pipe f e then piped else t) file
    where
      piped : LengthChecks
      piped = told_of_pipe_write (length (side (1 - e.entry.end) (holding_of c e.entry.object))) n

      big : Bool
      big = nat_lt 4096 n || nat_lt 1048576 (offset_of c e.id + n)

      file : told_of_file_write g c e n ≡ told_of_file_write f c e n
      file = λ i. record nothing_told {
        too_big = big;
        no_space = not big && nat_lt (all_same e.entry.object i)
            (beside_same c e.entry.object i + blocks_for (length_then (offset_of c e.id) n (length (side e.entry.end (holding_of c e.entry.object)))));
      }

  pub told_cut_same : (c : Content) (len : ℕ) (e : OpenFile) → told_of_cut g c len (Some e) ≡ told_of_cut f c len (Some e)
  unfolding told_of_cut
  told_cut_same c len e = λ i. record nothing_told { no_space = nat_lt (all_same e.entry.object i) (beside_same c e.entry.object i + blocks_for len) }

  pub readable_same : (c : Content) (e : OpenFile) → readable g c e ≡ readable f c e
  unfolding readable
  readable_same c e = ap (λ p. drop (if p then 0 else offset_of c e.id) (side e.entry.end (holding_of c e.entry.object))) (pipe_same e)

  pub after_read_same : (e : OpenFile) (k : ℕ) (c : Content) → after_read g e k c ≡ after_read f e k c
  unfolding after_read
  after_read_same e k c = ap (λ p. if p then change_side e.entry.object e.entry.end (drop k) c else record c { offsets = slice_set c.offsets e.id (offset_of c e.id + k) }) (pipe_same e)

  pub after_write_same : (e : OpenFile) (new : List ℕ) (c : Content) → after_write g e new c ≡ after_write f e new c
  unfolding after_write
  after_write_same e new c = ap (λ p. if p then change_side e.entry.object (1 - e.entry.end) (λ old. old ++ new) c else
      record (change_side e.entry.object e.entry.end (spliced (offset_of c e.id) new) c) { offsets = slice_set c.offsets e.id (offset_of c e.id + length new) })
      (pipe_same e)

-- what is held is what was held
pub content_same : (a : Around) (t u : Parts) (ps qs : List (Option Process)) → Keeps t u → (world_of a u qs).content ≡ (world_of a t ps).content
content_same a t u ps qs kept = λ i. record { holdings = kept.holdings i; offsets = kept.offsets i; statuses = a.statuses }
