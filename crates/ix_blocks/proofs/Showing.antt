-- The bytes of files, as blocks and lengths hold them.
use Rattle.std.proofs.Common.{◌≡◌, ℕ, zero, suc, ◌+◌, ◌-◌, ◌*◌, ◌<◌, ◌≤◌, List, [], ◌∷◌, ◌++◌, length, take, drop, set, get_or, replicate, refl, sym, ap, ◌∙◌, subst, arith, append_assoc}
use Rattle.std.proofs.{Common.{append-nil, length-append, length-set, length-drop, inl, inr}, Math.Seq.take-append-add, lemmas.{Bool.cases_eq, List.{get_or-set_same, get_or-set_other}}}
use Rattle.std.proofs.lemmas.List.{set-set, set-get_or, take_at, take_all, take-take, drop_all, length-take-le, length-replicate, take-replicate, replicate-append-replicate}
use Rattle.std.proofs.lemmas.List.{take-append-drop, take-append-le, drop-append-le}
use Rattle.ix_blocks.specs.{Files.{Files, all_empty, used, bytes_of, with_bytes, laid_over}, Shown.{cut_each, AreFilled, shown, blocks_view, IsBlocks}, Wholes.{Wholes, none_held}}
use Rattle.ix_blocks.{specs.{Wholes.{whole_of, blocks_added, blocks_dropped, with_laid_over}, declared.blocks.Blocks.TheInside.Inside}, proofs.Storing.{laid_over-left, length-laid_over}}
use Rattle.ix_model.specs.{rows.Telling.blocks_for, world.Contents.grown}

-- the bytes of each file, one by one
cut_each-at : (ns : List ℕ) (ws : List (List ℕ)) (f : ℕ) → get_or (cut_each ns ws) f [] ≡ take (get_or ns f 0) (get_or ws f [])
cut_each-at [] ws f = refl
cut_each-at (n ∷ ns) [] f = sym (take_all _ [] (omega arith))
cut_each-at (n ∷ ns) (w ∷ ws) zero = refl
cut_each-at (n ∷ ns) (w ∷ ws) (suc f) = cut_each-at ns ws f

cut_each-set : (ns : List ℕ) (ws : List (List ℕ)) (f n : ℕ) (w : List ℕ) → cut_each (set ns f n) (set ws f w) ≡ set (cut_each ns ws) f (take n w)
cut_each-set [] ws f n w = refl
cut_each-set (m ∷ ns) [] zero n w = refl
cut_each-set (m ∷ ns) [] (suc f) n w = refl
cut_each-set (m ∷ ns) (u ∷ ws) zero n w = refl
cut_each-set (m ∷ ns) (u ∷ ws) (suc f) n w = ap (λ ys. take m u ∷ ys) (cut_each-set ns ws f n w)

length-cut_each : (ns : List ℕ) (ws : List (List ℕ)) → length ws ≡ length ns → length (cut_each ns ws) ≡ length ns
length-cut_each [] ws e = refl
length-cut_each (n ∷ ns) [] e = absurd (omega arith)
length-cut_each (n ∷ ns) (w ∷ ws) e = ap suc (length-cut_each ns ws (omega (arith, e)))

-- files with no bytes and no block
cut_each-none : (n : ℕ) → cut_each (replicate n 0) (replicate n []) ≡ replicate n []
cut_each-none zero = refl
cut_each-none (suc n) = ap (λ ws. [] ∷ ws) (cut_each-none n)

used-none : (n : ℕ) → used (replicate n []) ≡ 0
used-none zero = refl
used-none (suc n) = omega (arith, used-none n)

-- other bytes of one file use other blocks
used-set : (xss : List (List ℕ)) (f : ℕ) (xs : List ℕ) → f < length xss → used (set xss f xs) + blocks_for (length (get_or xss f [])) ≡ used xss + blocks_for (length xs)
used-set [] f xs low = absurd (omega arith)
used-set (ys ∷ xss) zero xs low = omega arith
used-set (ys ∷ xss) (suc f) xs low = omega (arith, used-set xss f xs (omega arith))

-- zeros behind the first bytes, in the rest of the last block and in new ones
grown_bytes : (w : List ℕ) (n len k m : ℕ) → n + k ≡ length w → n ≤ len → len ≤ n + (k + m) → take len (laid_over n (replicate k 0) w ++ replicate m 0) ≡ grown len (take n w)
grown_bytes w n len k m all more few =
    let zs = replicate k 0 in
    let u = take n w in
    let front = length-take-le n w (omega (arith, all)) in
    let far : len ≡ length u + (len - n) = omega (arith, front, more) in
    ap (λ t. take len ((u ++ (zs ++ t)) ++ replicate m 0)) (drop_all (n + length zs) w (omega (arith, all, length-replicate {A = ℕ} k 0)))
    ∙ ap (λ t. take len ((u ++ t) ++ replicate m 0)) (append-nil zs) ∙ ap (take _) (append_assoc u zs _ ∙ ap (λ t. u ++ t) (replicate-append-replicate k m 0))
    ∙ ap (λ i. take i (u ++ replicate (k + m) 0)) far ∙ take-append-add u _ _ ∙ ap (λ t. u ++ t) (take-replicate (len - n) (k + m) 0 (omega (arith, few)))
    ∙ ap (λ i. u ++ replicate (len - i) 0) (sym front)

-- bytes laid over the first ones
laid_bytes : (w : List ℕ) (n place : ℕ) (xs : List ℕ) → n ≤ length w → place + length xs ≤ n → take n (laid_over place xs w) ≡ laid_over place xs (take n w)
laid_bytes w n place xs less within =
    let front = length-take-le n w less in
    ap (λ t. take n (laid_over place xs t)) (sym (take-append-drop n w)) ∙ ap (take n) (laid_over-left _ xs _ (drop n w) (omega (arith, front, within)))
    ∙ take_at _ _ n (length-laid_over _ xs _ (omega (arith, front, within)) ∙ front)

-- the files that are shown, and the number of blocks
shown_is : (ns : List ℕ) (t : Wholes) (files : List (List ℕ)) (blocks : ℕ) → cut_each ns t.wholes ≡ files → t.free + used files ≡ blocks → shown ns t ≡ record { files = files; blocks = blocks }
shown_is ns t files blocks bytes count = ap (λ xss. record { files = xss; blocks = t.free + used xss }) bytes ∙ ap (λ n. record { files = files; blocks = n }) count

-- blocks that are all free
pub shown_empty : (blocks n : ℕ) (ns : List ℕ) (t : Wholes) → ns ≡ replicate n 0 → t ≡ none_held blocks n → shown ns t ≡ all_empty blocks n
shown_empty blocks n ns t lengths is_t = ap (λ ms. shown ms t) lengths ∙ ap (shown (replicate n 0)) is_t
    ∙ shown_is _ _ _ _ (cut_each-none n) (omega (arith, used-none n))

-- what blocks and lengths are once a file has other bytes
pub record Leaves (ns : List ℕ) (t : Wholes) (v : Files) : Type 0 where
  pub filled : AreFilled ns t.wholes
  pub shows : shown ns t ≡ v

module _ (s : Inside) (v : Files) (is : blocks_view s ≡ v) (filled : IsBlocks s) (f : ℕ) (file : f < length v.files) where
  pub file_below : f < length s.lengths.items
  file_below = omega (arith, file, ap (λ (u : Files). length u.files) is, length-cut_each s.lengths.items s.store.wholes filled.each)

  pub file_held : f < length s.store.wholes
  file_held = omega (arith, file_below, filled.each)

  pub held_laid : (place : ℕ) (xs : List ℕ) (u : Wholes) → u ≡ with_laid_over f place xs s.store → f < length u.wholes
  held_laid place xs u is_u = omega (arith, file_held, ap (λ (x : Wholes). length x.wholes) is_u, length-set s.store.wholes f (laid_over place xs (whole_of f s.store)))

  -- the blocks that aren't used are free
  pub free_is : (n : ℕ) → n + used v.files ≡ v.blocks → n ≡ s.store.free
  free_is n all = omega (arith, all, ap (λ (u : Files). u.blocks) is, ap (λ (u : Files). used u.files) is)

  bytes_are : bytes_of f v ≡ take (get_or s.lengths.items f 0) (whole_of f s.store)
  bytes_are = ap (bytes_of f) (sym is) ∙ cut_each-at _ _ f

  pub whole_long : length (whole_of f s.store) ≡ 512 * blocks_for (get_or s.lengths.items f 0)
  whole_long = filled.sized f file_below

  pub bytes_long : length (bytes_of f v) ≡ get_or s.lengths.items f 0
  bytes_long = ap length bytes_are ∙ length-take-le _ _ (omega (arith, whole_long))

  -- as many whole blocks as the bytes need
  pub held_by : (len held : ℕ) → len ≡ length (bytes_of f v) → held ≡ blocks_for len → length (whole_of f s.store) ≡ 512 * held
  held_by len held is_len is_held = whole_long ∙ ap (λ n. 512 * blocks_for n) (sym (is_len ∙ bytes_long)) ∙ ap (λ n. 512 * n) (sym is_held)

  -- bytes of a file are those that its blocks have there
  pub front_of_bytes : (at n : ℕ) → at + n ≤ length (bytes_of f v) → take n (drop at (whole_of f s.store)) ≡ take n (drop at (bytes_of f v))
  front_of_bytes at n within =
      let k = get_or s.lengths.items f 0 in
      let w = whole_of f s.store in
      let front : length (take k w) ≡ k = length-take-le k w (omega (arith, whole_long)) in
      ap (λ t. take n (drop at t)) (sym (take-append-drop k w))
      ∙ ap (take n) (drop-append-le at (take k w) (drop k w) (omega (arith, front, within, bytes_long)))
      ∙ take-append-le n (drop at _) (drop k w) (omega (arith, length-drop at (take k w), front, within, bytes_long))
      ∙ ap (λ t. take n (drop at t)) (sym bytes_are)

  -- another length, and the blocks that it uses
  filled-set : (n : ℕ) (w : List ℕ) → length w ≡ 512 * blocks_for n → AreFilled (set s.lengths.items f n) (set s.store.wholes f w)
  filled-set n w long = record {
    each = length-set s.store.wholes f w ∙ filled.each ∙ sym (length-set _ f n);
    sized = λ g below. elim (cases_eq g f) [
      | inl e ↦
          ap (λ i. length (get_or (set s.store.wholes f w) i [])) e ∙ ap length (get_or-set_same s.store.wholes f w [] file_held) ∙ long
          ∙ ap (λ m. 512 * blocks_for m) (sym (ap (λ i. get_or (set s.lengths.items f n) i 0) e ∙ get_or-set_same _ f n 0 file_below))
      | inr ne ↦
          ap length (get_or-set_other s.store.wholes f g w [] ne) ∙ filled.sized g (omega (arith, below, length-set s.lengths.items f n))
          ∙ ap (λ m. 512 * blocks_for m) (sym (get_or-set_other _ f g n 0 ne))
    ];
  }

  leaves : (ns : List ℕ) (t : Wholes) (n : ℕ) (w xs : List ℕ) → ns ≡ set s.lengths.items f n → t.wholes ≡ set s.store.wholes f w → take n w ≡ xs → length xs ≡ n → length w ≡ 512 * blocks_for n
      → t.free + blocks_for n ≡ s.store.free + blocks_for (get_or s.lengths.items f 0) → Leaves ns t (with_bytes f xs v)
  leaves ns t n w xs lengths wholes bytes long full free =
      let files = cut_each s.lengths.items s.store.wholes in
      let old : length (get_or files f []) ≡ get_or s.lengths.items f 0 = ap (λ (u : Files). length (bytes_of f u)) is ∙ bytes_long in
      let cut : cut_each ns t.wholes ≡ set files f xs =
      ap (λ ms. cut_each ms t.wholes) lengths ∙ ap (cut_each (set _ f n)) wholes ∙ cut_each-set _ _ f n w ∙ ap (set files f) bytes in
      let blocks : t.free + used (set files f xs) ≡ s.store.free + used files =
      omega (
        arith,
        used-set files f xs (omega (arith, file_below, length-cut_each s.lengths.items s.store.wholes filled.each)),
        free,
        ap blocks_for long,
        ap blocks_for old,
      ) in
      record {
        filled = subst (λ ms. AreFilled ms t.wholes) (sym lengths) (subst (AreFilled _) (sym wholes) (filled-set n w full));
        shows = shown_is ns t _ _ cut blocks ∙ ap (with_bytes f xs) is;
      }

  -- a file of so many bytes more, all zeros
  pub leaves_grown : (old len held more : ℕ) (t u : Wholes) → old ≡ length (bytes_of f v) → old ≤ len → held ≡ blocks_for old → more ≡ blocks_for len - held → more ≤ s.store.free
      → u ≡ with_laid_over f old (replicate (held * 512 - old) 0) s.store → t ≡ blocks_added more f u
      → Leaves (set s.lengths.items f len) t (with_bytes f (grown len (bytes_of f v)) v)
  leaves_grown old len held more t u is_old longer is_held is_more some is_u is_t =
      let n = get_or s.lengths.items f 0 in
      let w = whole_of f s.store in
      let k = held * 512 - old in
      let zs : List ℕ = replicate k 0 in
      let ms : List ℕ = replicate (512 * more) 0 in
      let a = laid_over old zs w in
      let same : old ≡ n = is_old ∙ bytes_long in
      let all : old + k ≡ length w = omega (arith, whole_long, same, is_held) in
      let full : length a ≡ length w = length-laid_over old zs w (omega (arith, all, length-replicate {A = ℕ} k 0)) in
      let laid : u.wholes ≡ set s.store.wholes f a = ap (λ (x : Wholes). x.wholes) is_u in
      let wholes : t.wholes ≡ set s.store.wholes f (a ++ ms) =
      ap (λ (x : Wholes). x.wholes) is_t ∙ ap (λ xss. set xss f (get_or xss f [] ++ ms)) laid
      ∙ ap (λ x. set (set s.store.wholes f a) f (x ++ ms)) (get_or-set_same s.store.wholes f a [] file_held) ∙ set-set s.store.wholes f a (a ++ ms) in
      let bytes : take len (a ++ ms) ≡ grown len (bytes_of f v) =
      grown_bytes w old len k (512 * more) all longer (omega (arith, is_held, is_more)) ∙ ap (λ i. grown len (take i w)) same ∙ ap (grown len) (sym bytes_are) in
      leaves (set s.lengths.items f len) t len (a ++ ms) (grown len (bytes_of f v)) refl wholes bytes
      (omega (arith, length-append (bytes_of f v) (replicate (len - length (bytes_of f v)) 0), length-replicate {A = ℕ} (len - length (bytes_of f v)) 0, is_old, longer))
      (omega (arith, length-append a ms, length-replicate {A = ℕ} (512 * more) 0, full, all, is_held, is_more, longer))
      (omega (arith, ap (λ (x : Wholes). x.free) is_t, ap (λ (x : Wholes). x.free) is_u, some, same, is_held, is_more, longer))

  -- a file of the first bytes alone
  pub leaves_shrunk : (old len held kept : ℕ) (t : Wholes) → old ≡ length (bytes_of f v) → len ≤ old → held ≡ blocks_for old → kept ≡ blocks_for len
      → t ≡ blocks_dropped (held - kept) f s.store → Leaves (set s.lengths.items f len) t (with_bytes f (take len (bytes_of f v)) v)
  leaves_shrunk old len held kept t is_old fewer is_held is_kept is_t =
      let n = get_or s.lengths.items f 0 in
      let w = whole_of f s.store in
      let same : old ≡ n = is_old ∙ bytes_long in
      let rest = length w - 512 * (held - kept) in
      let full : rest ≡ 512 * blocks_for len = omega (arith, whole_long, fewer, same, is_held, is_kept) in
      leaves (set _ f len) t len (take _ w) (take _ _) refl (ap (λ (x : Wholes). x.wholes) is_t) (take-take len rest w (omega (arith, full))
      ∙ sym (ap (take len) bytes_are ∙ take-take len n w (omega (arith, same, fewer))))
      (length-take-le len (bytes_of f v) (omega (arith, is_old, fewer))) (length-take-le rest w (omega arith) ∙ full)
      (omega (arith, ap (λ (x : Wholes). x.free) is_t, same, is_held, is_kept, fewer))

  -- a file with bytes laid over its own
  pub leaves_laid : (place : ℕ) (xs : List ℕ) (t : Wholes) → place + length xs ≤ length (bytes_of f v) → t ≡ with_laid_over f place xs s.store
      → Leaves s.lengths.items t (with_bytes f (laid_over place xs (bytes_of f v)) v)
  leaves_laid place xs t within is_t =
      let n = get_or s.lengths.items f 0 in
      let w = whole_of f s.store in
      let fits : place + length xs ≤ n = omega (arith, bytes_long, within) in
      let less : n ≤ length w = omega (arith, whole_long) in
      leaves s.lengths.items t n (laid_over place xs w) (laid_over place xs (bytes_of f v)) (sym (set-get_or s.lengths.items f 0)) (ap (λ (u : Wholes). u.wholes) is_t)
      (laid_bytes w n place xs less fits ∙ ap (laid_over place xs) (sym bytes_are)) (length-laid_over place xs (bytes_of f v) within ∙ bytes_long)
      (length-laid_over place xs w (omega (arith, fits, less)) ∙ whole_long) (ap (λ (u : Wholes). u.free + blocks_for n) is_t)
