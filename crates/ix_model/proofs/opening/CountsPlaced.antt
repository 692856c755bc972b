-- One object more, which takes an inode, a name and blocks of those that are left.
use Rattle.std.proofs.Common.{◌≡◌, ◌≢◌, ◌<◌, ◌≤◌, ◌+◌, ◌==◌, ℕ, suc, Bool, true, false, List, [], ◌∷◌, ◌++◌, length, length-append, length-set, cond, Option}
use Rattle.std.proofs.Common.{Some, is_some, set, refl, sym, ap, ◌∙◌, subst, arith, inl, inr}
use Rattle.std.{specs.Option.option_map_or, proofs.lemmas.{Bool.{cond-true, cond-false, Decides.eqb_tells}, List.Sums.{length-filter, sum_by_push}}}
use Rattle.ix_label.specs.Category.{leq}
use Rattle.ix_model.specs.{world.{World.{fs_at, Object, Holding, at}, Contents.holds_nothing, Numbers.first_inode}, rows.Telling.{blocks_for, blocks_where}}
use Rattle.ix_model.specs.{opening.Valid.{fs_of, lying_on, blocks_taken}, declared.config.{FsSpec.FsSpec, Limits.Limits, ObjSpec.ObjSpec}}
use Rattle.ix_model.proofs.{tables.{Blocks.{blocks_from, blocks_skip, blocks_edit}, Inodes.{one_fs, filled, filled_same, filled_more}}, opening.Lines.Line}
use Rattle.ix_model.proofs.{opening.{Fitting.taken-cons, Built.{is_on_fs, Fits, Counted}, NamesPlaced.new_no_pipe}, sound.Lengths.set_either}
use Rattle.ix_model.proofs.opening.Placing.{Place, with_one, at_new, seen, each_after, length-after, names_after}

-- ---- the lines on a file system
lying_more : (fss : List FsSpec) (j : ℕ) (before : List ObjSpec) (b : ObjSpec) → length (lying_on fss j (before ++ b ∷ [])) ≡ length (lying_on fss j before) + cond (fs_of fss b.path.names == j) 1 0
lying_more fss j before b =
    let on : ObjSpec → Bool = λ x. fs_of fss x.path.names == j in
    length-filter on _ ∙ sum_by_push (λ x. cond _ 1 0) before b ∙ ap (λ n. n + cond (on b) 1 0) (sym (length-filter on before))

blocks_more : (fss : List FsSpec) (j : ℕ) (before : List ObjSpec) (b : ObjSpec)
    → blocks_taken fss j (before ++ b ∷ []) ≡ blocks_taken fss j before + cond (fs_of fss b.path.names == j) (blocks_for (length b.bytes)) 0
blocks_more fss j [] b = taken-cons fss j b [] ∙ omega arith
blocks_more fss j (x ∷ before) b = omega (arith, taken-cons fss j x (before ++ b ∷ []), taken-cons fss j x before, blocks_more fss j before b)

-- ---- what a file holds at the start
abbrev pub holding_for : ObjSpec → Holding
holding_for b = record { first = b.bytes; second = [] }

module _ (fss : List FsSpec) (l : Limits) (before : List ObjSpec) (t : List (Option Object)) (hs : List Holding) (b : ObjSpec) (o d k : ℕ) (p : Place t o d)
    (line : Line fss l before b) (is_k : k ≡ fs_of fss b.path.names) (from : first_inode fss k ≤ o) (to : o < first_inode fss k + (fs_at fss k).inodes) where
  abbrev next : List (Option Object)
  next = with_one t b d k o

  -- ---- each object by itself
  pub fits_after : ((m : ℕ) (x : Object) → at t m ≡ Some x → Fits fss m x) → (m : ℕ) (x : Object) → at next m ≡ Some x → Fits fss m x
  fits_after fits = each_after t b o d k p _
      (record { low = low; no_pipe = new_no_pipe k b; unclaimed = refl; fs = k; is_fs = refl; from = from; to = to })
      (let r = fits d _ p.is_dir in search)
      (λ m x other apart is. fits m x is)
    where
      low : leq b.label (fs_at fss k).ceiling ≡ true
      low = ap (λ j. leq b.label (fs_at fss j).ceiling) is_k ∙ line.low

  -- ---- inodes
  stands_as : (m : ℕ) → m ≢ o → is_some (at next m) ≡ is_some (at t m)
  stands_as m other = seen t b o d k p is_some (λ x. refl) m other

  taken_after : ((j : ℕ) → filled t (first_inode fss j) (fs_at fss j).inodes ≤ suc (length (lying_on fss j before))) → (j : ℕ)
      → filled next (first_inode fss j) (fs_at fss j).inodes ≤ suc (length (lying_on fss j (before ++ b ∷ [])))
  taken_after taken j = elim (eqb_tells (fs_of fss b.path.names) j) [
    | inl here ↦
        let one : cond {A = ℕ} (fs_of fss b.path.names == j) 1 0 ≡ 1 = ap (λ x. cond {A = ℕ} x 1 0) here.0 in
        omega (arith, filled_more t next o (first_inode fss j) (fs_at fss j).inodes stands_as, taken j, lying_more fss j before b)
    | inr other ↦
        let same : filled next (first_inode fss j) (fs_at fss j).inodes ≡ filled t (first_inode fss j) (fs_at fss j).inodes =
        filled_same t next (first_inode fss j) (fs_at fss j).inodes (λ m low high. stands_as m (λ e.
        let here : k ≡ j = one_fs fss k j o from to (omega (arith, e, low)) (omega (arith, e, high)) in
        other.1 (sym is_k ∙ here))) in
        omega (arith, taken j, lying_more fss j before b)
  ]

  -- ---- blocks
  lies_as : (j m : ℕ) → m ≢ o → is_on_fs next j m ≡ is_on_fs t j m
  lies_as j m other = seen t b o d k p (λ x. option_map_or (λ y. option_map_or (λ i. i == j) y.fs false) x false) (λ x. refl) m other

  off_before : (j : ℕ) → is_on_fs t j o ≡ false
  off_before j = ap (λ x. option_map_or (λ y. option_map_or (λ i. i == j) y.fs false) x false) p.free

  off_after : (j : ℕ) → (k == j) ≡ false → is_on_fs next j o ≡ false
  off_after j other = ap (λ x. option_map_or (λ y. option_map_or (λ i. i == j) y.fs false) x false) (at_new t b o d k p) ∙ other

  blocks_after : (j : ℕ) → blocks_where (is_on_fs t j) 0 hs ≤ blocks_taken fss j before → blocks_where (is_on_fs next j) 0 (set hs o (holding_for b)) ≤ blocks_taken fss j (before ++ b ∷ [])
  blocks_after j blocks = elim (eqb_tells (fs_of fss b.path.names) j) [
    | inl here ↦
        let more : cond {A = ℕ} (fs_of fss b.path.names == j) (blocks_for (length b.bytes)) 0 ≡ blocks_for (length b.bytes) = cond-true _ _ _ here.0 in
        let edit = blocks_edit (is_on_fs next j) (is_on_fs t j) 0 hs o (holding_for b) (λ m other. sym (lies_as j m (λ e. other (omega arith)))) in
        omega (arith, blocks_more fss j before b)
    | inr other ↦
        let off : (k == j) ≡ false = ap (λ i. i == j) is_k ∙ other.0 in
        let skip : blocks_where (is_on_fs next j) 0 (set hs o (holding_for b)) ≡ blocks_where (is_on_fs next j) 0 hs =
        blocks_skip (is_on_fs next j) 0 hs o (holding_for b) (ap (is_on_fs next j) (omega arith) ∙ off_after j off) in
        let same : blocks_where (is_on_fs next j) 0 hs ≡ blocks_where (is_on_fs t j) 0 hs = blocks_from (is_on_fs next j) (is_on_fs t j) 0 hs (λ m low. as_before m off) in
        omega (arith, blocks_more fss j before b)
  ]
    where
      as_before : (m : ℕ) → (k == j) ≡ false → is_on_fs next j m ≡ is_on_fs t j m
      as_before m off = elim (eqb_tells m o) [
        | inl here ↦ ap (is_on_fs next j) here.1 ∙ off_after j off ∙ sym (ap (is_on_fs t j) here.1 ∙ off_before j)
        | inr apart ↦ lies_as j m apart.1
      ]

  within_after : (j : ℕ) → blocks_taken fss j before ≤ (fs_at fss j).blocks → blocks_taken fss j (before ++ b ∷ []) ≤ (fs_at fss j).blocks
  within_after j within = elim (eqb_tells (fs_of fss b.path.names) j) [
    | inl here ↦
        let more : cond {A = ℕ} (fs_of fss b.path.names == j) (blocks_for (length b.bytes)) 0 ≡ blocks_for (length b.bytes) = cond-true _ _ _ here.0 in
        let room : blocks_taken fss j before + blocks_for (length b.bytes) ≤ (fs_at fss j).blocks =
        subst (λ (i : ℕ). blocks_taken fss i before + blocks_for (length b.bytes) ≤ (fs_at fss i).blocks) here.1 line.blocks in
        omega (arith, blocks_more fss j before b)
    | inr other ↦
        let none : cond {A = ℕ} (fs_of fss b.path.names == j) (blocks_for (length b.bytes)) 0 ≡ 0 = cond-false _ _ _ other.0 in
        omega (arith, blocks_more fss j before b)
  ]

  -- ---- the whole
  pub counted_after : Counted fss l before t hs → Counted fss l (before ++ b ∷ []) next (set hs o (holding_for b))
  counted_after r = record {
    long = length-after t b o d k p ∙ r.long;
    room = length-set hs o _ ∙ r.room ∙ sym (length-after t b o d k p);
    short = λ m. set_either (λ h. length h.first ≤ 1048576) holds_nothing hs o m (holding_for b) (λ same. line.short) (r.short m);
    names = omega (arith, names_after t b o d k p, r.names, length-append before (b ∷ []));
    few = omega (arith, line.names, length-append before (b ∷ []));
    taken = taken_after r.taken;
    blocks = λ j. blocks_after j (r.blocks j);
    within = λ j. within_after j (r.within j);
  }
