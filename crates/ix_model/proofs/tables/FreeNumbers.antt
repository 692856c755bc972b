-- Free inodes and pipes: nothing stands there, and they are of the table.
use Rattle.std.proofs.Common.{◌≡◌, ◌<◌, ◌≤◌, ◌+◌, ℕ, List, take, drop, length, Option, Some, None, is_none, option_map, refl, sym, ap, ◌∙◌, arith}
use Rattle.std.proofs.lemmas.List.{length-take, length-drop, get_or-take, get_or-drop, Quantifiers.position-Some}
use Rattle.ix_model.{specs.world.{World.{fs_at, Frame, Object, at, lowest_free}, Numbers.{first_inode, free_inode, first_pipe, free_pipe}}, proofs.tables.Tables.none_is}

-- the lowest free number of a table is one of its numbers
pub lowest_free_is : {A : Type 0} (t : List (Option A)) (n : ℕ) → lowest_free t ≡ Some n → (n < length t) × (at t n ≡ None)
lowest_free_is t n h = let p = position-Some is_none t n None h in (p.0, none_is _ p.1)

pub record IsFreeInode (f : Frame) (k o : ℕ) : Type 0 where
  pub free : at f.objects o ≡ None
  pub inside : o < length f.objects
  pub first : first_inode f.fss k ≤ o
  pub last : o < first_inode f.fss k + (fs_at f.fss k).inodes

pub free_inode_is : (f : Frame) (k o : ℕ) → free_inode f k ≡ Some o → IsFreeInode f k o
unfolding free_inode
free_inode_is f k o h = go (lowest_free part) refl h
  where
    part : List (Option Object)
    part = take (fs_at f.fss k).inodes (drop (first_inode f.fss k) f.objects)

    go : (p : Option ℕ) → lowest_free (take (fs_at f.fss k).inodes (drop (first_inode f.fss k) f.objects)) ≡ p → option_map (λ n. first_inode f.fss k + n) p ≡ Some o → IsFreeInode f k o
    go None is h = cc
    go (Some n) is h =
        let q = lowest_free_is _ n is in
        let e : first_inode f.fss k + n ≡ o = cc in
        let few = length-take (fs_at f.fss k).inodes (drop (first_inode f.fss k) f.objects) in
        let rest = length-drop (first_inode f.fss k) f.objects in
        let low = q.0 in
        let small : n < (fs_at f.fss k).inodes = omega (arith, few, low) in
        record {
          free = ap (at f.objects) (sym e) ∙ sym (get_or-drop (first_inode f.fss k) f.objects n None)
              ∙ sym (get_or-take (fs_at f.fss k).inodes (drop (first_inode f.fss k) f.objects) n None small) ∙ q.1;
          inside = omega (arith, few, rest, low);
          first = omega arith;
          last = omega arith;
        }

pub record IsFreePipe (f : Frame) (o : ℕ) : Type 0 where
  pub free : at f.objects o ≡ None
  pub inside : o < length f.objects
  pub first : first_pipe f.fss ≤ o

pub free_pipe_is : (f : Frame) (o : ℕ) → free_pipe f ≡ Some o → IsFreePipe f o
unfolding free_pipe
free_pipe_is f o h = go _ refl h
  where
    go : (p : Option ℕ) → lowest_free (drop (first_pipe f.fss) f.objects) ≡ p → option_map (λ n. first_pipe f.fss + n) p ≡ Some o → IsFreePipe f o
    go None is h = cc
    go (Some n) is h =
        let q = lowest_free_is _ n is in
        let e : first_pipe f.fss + n ≡ o = cc in
        let rest = length-drop (first_pipe f.fss) f.objects in
        let low = q.0 in
        record {
          free = ap (at f.objects) (sym e) ∙ sym (get_or-drop (first_pipe f.fss) f.objects n None) ∙ q.1;
          inside = omega (arith, rest, low);
          first = omega arith;
        }
