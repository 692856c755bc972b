-- What an open entry of a sound world stands for, and still does when labels have changed.
use Rattle.std.proofs.Common.{◌≡◌, ◌<◌, ◌≤◌, ◌==◌, ℕ, Bool, true, false, inl, inr, not, ◌&&◌, ◌||◌, List, Option, Some, None, is_some, unwrap_or, length, refl}
use Rattle.std.{proofs.{Common.{slice_index_or, sym, ap, subst, ◌∙◌, arith}, lemmas.Bool.{or_cases, and_parts, eqb-true}}, specs.Option.option_map_or}
use Rattle.ix_model.specs.world.{World.{World, Object, Open, Process, at, is_file, is_dir, is_pipe}, Contents.{on_pipe, holding_of, holds_nothing}}
use Rattle.ix_model.specs.{laws.Sound.{LengthsSound, Sound}, rows.Walks.{OpenFile, behind, node, nothing}, declared.reply.Kind.Kind}
use Rattle.ix_model.proofs.{words.Standing.{behind_is, stands}, tables.Tables.seen_same, frames.Floats.Floats}
use Rattle.ix_tables.specs.Parts.{Parts}
use Rattle.ix_fcalls.specs.{declared.open_file.OpenFile.OpenFile as Found, Counted.Keeps, Views.behind_of, Serving.Serves, Around.{Around, frame_of, world_of}}
use Rattle.ix_model.specs.declared.reply.Kind.TheVariants as kind

-- an end is 0 or 1
pub low_end : (n : ℕ) (b : Bool) → (n == 0 || n == 1 && b) ≡ true → n < 2
low_end n b h = elim (or_cases _ _ h) [
  | inl first ↦ let e = eqb-true n 0 first in omega arith
  | inr other ↦ let e = eqb-true n 1 (and_parts _ b other).0 in omega arith
]

pub low_entry : (a : Around) (t : Parts) (ps : List (Option Process)) (e : ℕ) (x : Open) → Sound (world_of a t ps) → at t.opens e ≡ Some x → x.end < 2
low_entry a t ps e x sound is = low_end _ _ (sound.opens.end e x is)

-- an object on a pipe, and one on none that is no directory
pub pipe_node : (o : Option Object) → option_map_or is_pipe o false ≡ true → is_pipe (unwrap_or o nothing) ≡ true
pipe_node None h = cc
pipe_node (Some x) h = h

file_of : (o : Option Object) → option_map_or is_pipe o false ≡ false → option_map_or (λ y. not (is_dir y)) o false ≡ true → option_map_or is_file o false ≡ true
file_of None h k = k
file_of (Some x) h k = go _ h k
  where
    go : (k : Kind) → is_pipe (record x { kind = k }) ≡ false → not (is_dir (record x { kind = k })) ≡ true → is_file (record x { kind = k }) ≡ true
    go kind.File h k = refl
    go kind.Dir h k = cc
    go kind.Pipe h k = cc

module _ (a : Around) (t : Parts) (ps : List (Option Process)) (fd : ℕ) (e : OpenFile) (sound : Sound (world_of a t ps)) (is : behind (frame_of a t ps) a.pid fd ≡ Some e) where
  pub entry_there : at t.opens e.id ≡ Some e.entry
  entry_there = behind_is _ _ fd e is

  pub end_there : e.entry.end < 2
  end_there = low_entry a t ps _ _ sound entry_there

  pub end_zero : on_pipe (frame_of a t ps) e ≡ false → e.entry.end ≡ 0
  end_zero other = let s = stands _ _ _ sound.opens entry_there in s.at_end (sym (ap (λ o. option_map_or is_pipe o false) s.is_object) ∙ other)

-- ---- in the parts
found_short : (w : World) (o : ℕ) (x : Object) → LengthsSound w → at w.frame.objects o ≡ Some x → length (holding_of w.content o).first ≤ 1048576
found_short w o x l is = go _ refl
  where
    go : (b : Bool) → is_pipe x ≡ b → length (holding_of w.content o).first ≤ 1048576
    go true pipe = let both = l.pipe o x is pipe in omega (arith, both.0)
    go false other = l.file o x is other

pub serves_found : (a : Around) (t : Parts) (ps : List (Option Process)) (fd : ℕ) (b : Found) → Sound (world_of a t ps)
    → behind (frame_of a t ps) a.pid fd ≡ Some (behind_of b) → b.offset ≡ slice_index_or t.offsets b.id 0 → Serves t b
serves_found a t ps fd b sound is offset =
    let e = behind_of b in
    let there = entry_there a t ps fd e sound is in
    let s = stands _ _ _ sound.opens there in
    record {
      entry = ap is_some there;
      object = sound.opens.target b.id e.entry there;
      end = end_there a t ps fd e sound is;
      first = λ other. end_zero a t ps fd e sound is other;
      offset = offset;
      low = omega (arith, offset, sound.lengths.offset b.id);
      short = found_short _ _ _ sound.lengths s.is_object;
    }

pub serves_still : (a : Around) (t u : Parts) (ps qs : List (Option Process)) (b : Found) → Floats (frame_of a t ps) (frame_of a u qs) → Keeps t u → Serves t b → Serves u b
serves_still a t u ps qs b r kept s = record {
  entry = seen_same _ is_some (λ x. refl) _ _ r.opens b.id ∙ s.entry;
  object = seen_same _ (λ x. option_map_or (λ y. not (is_dir y)) x false) (λ x. refl) _ _ r.objects b.object ∙ s.object;
  end = s.end;
  first = λ other. s.first (sym (seen_same _ (λ x. option_map_or is_pipe x false) (λ x. refl) _ _ r.objects b.object) ∙ other);
  offset = s.offset ∙ sym (ap (λ os. slice_index_or os b.id 0) kept.offsets);
  low = s.low;
  short = subst (λ hs. length (slice_index_or hs b.object holds_nothing).first ≤ 1048576) (sym kept.holdings) s.short;
}

module _ (t : Parts) (b : Found) (s : Serves t b) where
  pub serves_pipe : option_map_or is_pipe (at t.objects b.object) false ≡ true → is_pipe (node t.objects b.object) ≡ true
  serves_pipe pipe = pipe_node _ pipe

  pub serves_file : option_map_or is_pipe (at t.objects b.object) false ≡ false → option_map_or is_file (at t.objects b.object) false ≡ true
  serves_file other = file_of _ other s.object
