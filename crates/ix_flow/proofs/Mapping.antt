-- What is made of each thing held is made of it after each edit as before.
use Rattle.std.proofs.Common.{◌≡◌, ◌+◌, ◌-◌, nat_le, ℕ, zero, suc, Bool, true, false, List, [], ◌∷◌, ◌++◌, length, map, take, drop, replicate, Option, Some, None, if◌then◌else◌, refl, sym}
use Rattle.std.proofs.{Common.{ap, ◌∙◌, set}, Math.ListN.get_or-map, lemmas.List.{length-map, map-append, map-set, take-map, drop-map}}
use Rattle.ix_model.specs.{declared.reply.Reply.Reply, history.{Events.Op, Step.Given}, rows.Walks.OpenFile, world.Contents.{written_over, filled, held_at, keep, kept, nothing_held}}
use Rattle.ix_model.specs.world.{Contents.{offset_of, on_pipe, on_side, readable_in, resized, side, with_side}, World.{World, Frame, Content, HoldingOf}}
use Rattle.ix_flow.specs.{Moves.{taken, put_there, cut_there, emptied_there, edited, moved}, Origins.each}
use Rattle.ix_model.specs.history.Events as op
use Rattle.ix_model.specs.declared.reply.Reply.TheVariants as reply

module _ {A B : Type 0} (F : A → B) where
  -- ---- lists
  replicate_map : (n : ℕ) (x : A) → map F (replicate n x) ≡ replicate n (F x)
  replicate_map zero x = refl
  replicate_map (suc n) x = ap (λ xs. F x ∷ xs) (replicate_map n x)

  filled_map : (gap : A) (n : ℕ) (xs : List A) → map F (filled gap n xs) ≡ filled (F gap) n (map F xs)
  filled_map gap n xs = map-append F xs _ ∙ (λ i. map F xs ++ replicate_map (n - length xs) gap i)
      ∙ ap (λ k. map F xs ++ replicate (n - k) (F gap)) (sym (length-map xs F))

  pub resized_map : (gap : A) (n : ℕ) (xs : List A) → map F (resized gap n xs) ≡ resized (F gap) n (map F xs)
  resized_map gap n xs = sym (take-map F n _) ∙ ap (take n) (filled_map _ n xs)

  -- new ones among the old, after a gap where they begin past the end
  amid : {C : Type 0} → C → ℕ → List C → List C → List C
  amid gap from new old = take from old ++ (replicate (from - length old) gap ++ (new ++ drop (from + length new) old))

  amid_map : (gap : A) (from : ℕ) (new old : List A) → map F (amid gap from new old) ≡ amid (F gap) from (map F new) (map F old)
  unfolding amid
  amid_map gap from new old =
      map-append F _ _
      ∙ (λ i. sym (take-map F from old) i ++ (map-append F (replicate _ gap) (new ++ drop (from + length new) old)
      ∙ (λ j. replicate_map (from - length old) gap j ++ map-append F new (drop (from + length new) old) j)) i)
      ∙ (λ i. take from (map F old) ++ (replicate (from - sym (length-map old F) i) (F gap) ++
      (map F new ++ (sym (drop-map F (from + length new) old) ∙ ap (λ k. drop (from + k) (map F old)) (sym (length-map new F))) i)))

  pub over_map : (gap : A) (from : ℕ) (new old : List A) → map F (written_over gap from new old) ≡ written_over (F gap) from (map F new) (map F old)
  unfolding amid
  over_map gap from new old = go _ ∙ (λ i. if nat_le (sym (length-map new F) i) 0 then map F old else amid (F gap) from (map F new) (map F old))
    where
      go : (b : Bool) → map F (if b then old else amid gap from new old) ≡ (if b then map F old else amid (F gap) from (map F new) (map F old))
      go true = refl
      go false = amid_map _ from _ _

  -- ---- what is held
  pub held_map : (hs : List (HoldingOf A)) (o : ℕ) → held_at (map (each F) hs) o ≡ each F (held_at hs o)
  held_map hs o = get_or-map _ hs o nothing_held

  side_map : (end : ℕ) (h : HoldingOf A) → side end (each F h) ≡ map F (side end h)
  side_map end h = go _
    where
      go : (b : Bool) → (if b then map F h.first else map F h.second) ≡ map F (if b then h.first else h.second)
      go true = refl
      go false = refl

  with_side_map : (end : ℕ) (now : List A) (h : HoldingOf A) → each F (with_side end now h) ≡ with_side end (map F now) (each F h)
  with_side_map end now h = go _
    where
      one : HoldingOf A
      one = record h { first = now }

      two : HoldingOf A
      two = record h { second = now }

      one_made : HoldingOf B
      one_made = record (each F h) { first = map F now }

      two_made : HoldingOf B
      two_made = record (each F h) { second = map F now }

      go : (b : Bool) → each F (if b then one else two) ≡ (if b then one_made else two_made)
      go true = refl
      go false = refl

  pub held_side : (hs : List (HoldingOf A)) (o end : ℕ) → side end (held_at (map (each F) hs) o) ≡ map F (side end (held_at hs o))
  held_side hs o end = ap (side end) (held_map hs o) ∙ side_map _ (held_at hs o)

  pub readable_map : (f : Frame) (offset : ℕ) (e : OpenFile) (hs : List (HoldingOf A)) → readable_in f offset e (map (each F) hs) ≡ map F (readable_in f offset e hs)
  readable_map f offset e hs =
      let from = if on_pipe f e then 0 else offset in
      ap (drop from) (held_side hs _ _) ∙ drop-map F from _

  -- ---- edits
  keep_each : (p : ℕ → Bool) (k : ℕ) (xs : List (HoldingOf A)) → map (each F) (keep nothing_held p k xs) ≡ keep nothing_held p k (map (each F) xs)
  unfolding keep
  keep_each p k [] = refl
  keep_each p k (x ∷ xs) = λ i. go (p k) i ∷ keep_each p (suc k) xs i
    where
      go : (b : Bool) → each F (if b then x else nothing_held) ≡ (if b then each F x else nothing_held)
      go true = refl
      go false = refl

  kept_map : (f g : Frame) (hs : List (HoldingOf A)) → map (each F) (kept f g hs) ≡ kept f g (map (each F) hs)
  kept_map f g hs = keep_each _ 0 hs

  on_side_map : (o end : ℕ) (h : List A → List A) (k : List B → List B) (hs : List (HoldingOf A)) → ((xs : List A) → map F (h xs) ≡ k (map F xs))
      → map (each F) (on_side o end h hs) ≡ on_side o end k (map (each F) hs)
  on_side_map o end h k hs same =
      let new =
      with_side_map _ _ (held_at hs o) ∙ (λ i. with_side end ((same (side end (held_at hs o)) ∙ ap k (sym (held_side hs o end))) i) (sym (held_map hs o) i)) in
      map-set _ hs o _ ∙ ap (λ x. set (map (each F) hs) o x) new

  either_map : (b : Bool) (x y : List (HoldingOf A)) (v w : List (HoldingOf B)) → map (each F) x ≡ v → map (each F) y ≡ w → map (each F) (if b then x else y) ≡ (if b then v else w)
  either_map true x y v w r s = r
  either_map false x y v w r s = s

  taken_map : (f : Frame) (e : Option OpenFile) (r : Reply) (hs : List (HoldingOf A)) → map (each F) (taken f e r hs) ≡ taken f e r (map (each F) hs)
  unfolding taken
  taken_map f (Some e) (reply.Bytes k) hs = either_map _ _ _ _ _ (on_side_map _ _ _ (drop k) hs (λ xs. sym (drop-map F k xs))) refl
  taken_map f _ r hs = refl

  put_map : (gap : A) (f : Frame) (c : Content) (new : List A) (e : Option OpenFile) (r : Reply) (hs : List (HoldingOf A))
      → map (each F) (put_there gap f c new e r hs) ≡ put_there (F gap) f c (map F new) e r (map (each F) hs)
  unfolding put_there
  put_map gap f c new (Some e) (reply.Number k) hs = either_map _ _ _ _ _
      (on_side_map _ (1 - e.entry.end) _ (λ old. old ++ map F new) hs (λ xs. map-append F xs new))
      (on_side_map e.entry.object e.entry.end (written_over _ _ _) (written_over _ _ _) hs (λ xs. over_map gap (offset_of c e.id) new xs))
  put_map gap f c new _ r hs = refl

  cut_map : (gap : A) (len : ℕ) (e : Option OpenFile) (r : Reply) (hs : List (HoldingOf A)) → map (each F) (cut_there gap len e r hs) ≡ cut_there (F gap) len e r (map (each F) hs)
  unfolding cut_there
  cut_map gap len (Some e) reply.Done hs = on_side_map _ e.entry.end (resized gap len) (resized (F gap) len) hs (λ xs. resized_map gap len xs)
  cut_map gap len _ r hs = refl

  emptied_map : (f g : Frame) (e : Option OpenFile) (hs : List (HoldingOf A)) → map (each F) (emptied_there f g e hs) ≡ emptied_there f g e (map (each F) hs)
  unfolding emptied_there
  emptied_map f g (Some e) hs = either_map _ _ _ _ _ (map-set _ hs e.entry.object nothing_held) refl
  emptied_map f g None hs = refl

  edited_map : (gap : A) (new : List A) (w : World) (pid : ℕ) (o : Op) (given : Given) (hs : List (HoldingOf A))
      → map (each F) (edited gap new w pid o given hs) ≡ edited (F gap) (map F new) w pid o given (map (each F) hs)
  unfolding edited
  edited_map gap new w pid (op.ReadFd fd count) given hs = taken_map _ _ _ hs
  edited_map gap new w pid (op.WriteFd fd bytes) given hs = put_map _ _ _ _ _ _ hs
  edited_map gap new w pid (op.CutFd fd len) given hs = cut_map _ _ _ _ hs
  edited_map gap new w pid (op.Pex fd) given hs = emptied_map _ _ _ hs
  edited_map gap new w pid o given hs = refl

  -- so it is for a whole call
  pub moved_map : (gap : A) (new : List A) (w : World) (pid : ℕ) (o : Op) (given : Given) (hs : List (HoldingOf A))
      → map (each F) (moved gap new w pid o given hs) ≡ moved (F gap) (map F new) w pid o given (map (each F) hs)
  moved_map gap new w pid o given hs = edited_map _ _ w _ o _ _ ∙ ap (edited (F gap) (map F new) w pid o given) (kept_map w.frame given.world.frame hs)
