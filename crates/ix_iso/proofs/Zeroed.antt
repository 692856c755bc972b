-- What is held, with every byte and status 0: each edit of it does the same as of what is held.
use Rattle.std.proofs.Common.{◌≡◌, ◌+◌, ◌-◌, ◌==◌, nat_le, nat_lt, ℕ, zero, suc, Bool, true, false, not, ◌&&◌, ◌||◌, List, [], ◌∷◌, ◌++◌, length, map, take, ap}
use Rattle.std.proofs.{Common.{drop, replicate, Option, Some, None, is_some, if◌then◌else◌, refl, sym, ◌∙◌, arith, set}, Math.ListN.get_or-map, lemmas.List.{length-map, map-append, map-set}}
use Rattle.ix_model.specs.{world.World.{Frame, Content, Holding, at, is_ended}, rows.Walks.OpenFile, two_runs.EqualLengths.{zeros, zeroed}}
use Rattle.ix_model.specs.world.Contents.{keep, grown, carried, holding_of, offset_of, side, with_side, on_pipe, readable, change_side, after_read, after_write}
use Rattle.ix_model.specs.world.Contents.{spliced, after_cut, cut_to, after_seek, after_exit, emptied, holds_nothing}
use Rattle.ix_model.specs.rows.Telling.{blocks_for, blocks_where, blocks_on, blocks_beside, fs_of_object, length_then, nothing_told, told_of_read}
use Rattle.ix_model.specs.rows.Telling.{told_of_pipe_write, told_of_file_write, told_of_write, told_of_cut}

abbrev pub zero_content : Content → Content
zero_content c = record c { holdings = map zeroed c.holdings; statuses = zeros c.statuses }

-- ---- lists
pub take_zeros : (n : ℕ) (xs : List ℕ) → zeros (take n xs) ≡ take n (zeros xs)
take_zeros zero xs = refl
take_zeros (suc n) [] = refl
take_zeros (suc n) (x ∷ xs) = ap (λ ys. 0 ∷ ys) (take_zeros n xs)

drop_zeros : (n : ℕ) (xs : List ℕ) → zeros (drop n xs) ≡ drop n (zeros xs)
drop_zeros zero xs = refl
drop_zeros (suc n) [] = refl
drop_zeros (suc n) (x ∷ xs) = drop_zeros n xs

replicate_zeros : (n : ℕ) → zeros (replicate n 0) ≡ replicate n 0
replicate_zeros zero = refl
replicate_zeros (suc n) = ap (λ xs. 0 ∷ xs) (replicate_zeros n)

pub length_zeros : (xs : List ℕ) → length (zeros xs) ≡ length xs
length_zeros xs = length-map xs (λ b. 0)

append_zeros : (xs ys : List ℕ) → zeros (xs ++ ys) ≡ zeros xs ++ zeros ys
append_zeros xs ys = map-append (λ b. 0) xs ys

grown_zeros : (n : ℕ) (xs : List ℕ) → zeros (grown n xs) ≡ grown n (zeros xs)
grown_zeros n xs = append_zeros xs _ ∙ (λ i. zeros xs ++ replicate_zeros (n - length xs) i) ∙ ap (λ k. zeros xs ++ replicate (n - k) 0) (sym (length_zeros xs))

pub same_zeros : (a b : List ℕ) → length a ≡ length b → zeros a ≡ zeros b
same_zeros [] [] h = refl
same_zeros [] (y ∷ b) h = absurd (omega (arith, h))
same_zeros (x ∷ a) [] h = absurd (omega (arith, h))
same_zeros (x ∷ a) (y ∷ b) h = ap (λ xs. 0 ∷ xs) (same_zeros a b (omega (arith, h)))

keep_map : {A B : Type 0} (F : A → B) (d : A) (p : ℕ → Bool) (k : ℕ) (xs : List A) → map F (keep d p k xs) ≡ keep (F d) p k (map F xs)
unfolding keep
keep_map F d p k [] = refl
keep_map F d p k (x ∷ xs) = λ i. go (p k) i ∷ keep_map F d p (suc k) xs i
  where
    go : (b : Bool) → F (if b then x else d) ≡ (if b then F x else F d)
    go true = refl
    go false = refl

-- bytes with new ones among them, after a gap where they begin past the end
amid : ℕ → List ℕ → List ℕ → List ℕ
amid at new old = take at old ++ (replicate (at - length old) 0 ++ (new ++ drop (at + length new) old))

amid_zeros : (at : ℕ) (new old : List ℕ) → zeros (amid at new old) ≡ amid at (zeros new) (zeros old)
unfolding amid
amid_zeros at new old =
    let gap : List ℕ = replicate (at - length old) 0 in
    append_zeros (take at _) (gap ++ (new ++ drop (at + length new) old))
    ∙ (λ i. take_zeros at old i ++ (append_zeros gap (new ++ drop (at + length new) old) ∙ (λ j. replicate_zeros (at - length old) j ++ append_zeros new (drop (at + length new) old) j)) i)
    ∙ (λ i. take at (zeros old) ++ (replicate (at - sym (length_zeros old) i) 0 ++ (zeros new ++ (drop_zeros (at + length new) old ∙ ap (λ k. drop (at + k) (zeros old)) (sym (length_zeros new))) i)))

spliced_zeros : (at : ℕ) (new old : List ℕ) → zeros (spliced at new old) ≡ spliced at (zeros new) (zeros old)
unfolding amid
spliced_zeros at new old = go _ ∙ (λ i. if nat_le (sym (length_zeros new) i) 0 then zeros old else amid at (zeros new) (zeros old))
  where
    go : (b : Bool) → zeros (if b then old else amid at new old) ≡ (if b then zeros old else amid at (zeros new) (zeros old))
    go true = refl
    go false = amid_zeros at _ _

-- ---- what is held
holding_zero : (c : Content) (o : ℕ) → holding_of (zero_content c) o ≡ zeroed (holding_of c o)
holding_zero c o = get_or-map zeroed c.holdings o holds_nothing

side_zero : (end : ℕ) (h : Holding) → side end (zeroed h) ≡ zeros (side end h)
side_zero end h = go _
  where
    go : (b : Bool) → (if b then (zeroed h).first else (zeroed h).second) ≡ zeros (if b then h.first else h.second)
    go true = refl
    go false = refl

with_side_zero : (end : ℕ) (bytes : List ℕ) (h : Holding) → zeroed (with_side end bytes h) ≡ with_side end (zeros bytes) (zeroed h)
with_side_zero end bytes h = go _
  where
    one : Holding
    one = record h { first = bytes }

    two : Holding
    two = record h { second = bytes }

    one_zero : Holding
    one_zero = record (zeroed h) { first = zeros bytes }

    two_zero : Holding
    two_zero = record (zeroed h) { second = zeros bytes }

    go : (b : Bool) → zeroed (if b then one else two) ≡ (if b then one_zero else two_zero)
    go true = refl
    go false = refl

holding_side : (c : Content) (o end : ℕ) → side end (holding_of (zero_content c) o) ≡ zeros (side end (holding_of c o))
holding_side c o end = ap (side end) (holding_zero c o) ∙ side_zero end (holding_of c o)

pub first_length : (c : Content) (o : ℕ) → length (holding_of (zero_content c) o).first ≡ length (holding_of c o).first
first_length c o = ap (λ h. length h.first) (holding_zero c o) ∙ length_zeros _

side_length : (c : Content) (o end : ℕ) → length (side end (holding_of (zero_content c) o)) ≡ length (side end (holding_of c o))
side_length c o end = ap length (holding_side c o _) ∙ length_zeros _

pub readable_zero : (f : Frame) (c : Content) (e : OpenFile) → readable f (zero_content c) e ≡ zeros (readable f c e)
unfolding readable
readable_zero f c e = ap (drop (if on_pipe f e then 0 else offset_of c e.id)) (holding_side c e.entry.object e.entry.end)
    ∙ sym (drop_zeros (if on_pipe f e then 0 else offset_of c e.id) (side e.entry.end (holding_of c e.entry.object)))

-- ---- edits
pub carried_zero : (f g : Frame) (c : Content) → zero_content (carried f g c) ≡ carried f g (zero_content c)
unfolding carried
carried_zero f g c =
    let one = keep_map _ _ _ 0 _ in
    let two = keep_map _ 0 _ 0 _
    ∙ ap (keep 0 (λ p. is_ended (at _ p) && is_ended (at _ p)) 0) (grown_zeros (length g.processes) c.statuses) in
    λ i. record { holdings = one i; offsets = keep 0 (λ e. is_some (at f.opens e) && is_some (at g.opens e)) 0 c.offsets; statuses = two i }

change_zero : (o end : ℕ) (h k : List ℕ → List ℕ) (c : Content) → ((bytes : List ℕ) → zeros (h bytes) ≡ k (zeros bytes)) → zero_content (change_side o end h c) ≡ change_side o end k (zero_content c)
change_zero o end h k c same =
    let old = side end (holding_of c o) in
    let new =
    with_side_zero end (h old) (holding_of c o) ∙ (λ i. with_side end ((same old ∙ ap k (sym (holding_side c o end))) i) (sym (holding_zero c o) i)) in
    let all = map-set zeroed c.holdings o _ ∙ ap (λ x. set (map zeroed c.holdings) o x) new in
    λ i. record { holdings = all i; offsets = c.offsets; statuses = zeros c.statuses }

either_zero : (b : Bool) (x y v w : Content) → zero_content x ≡ v → zero_content y ≡ w → zero_content (if b then x else y) ≡ (if b then v else w)
either_zero true x y v w r s = r
either_zero false x y v w r s = s

pub read_zero : (f : Frame) (e : OpenFile) (k : ℕ) (c : Content) → zero_content (after_read f e k c) ≡ after_read f e k (zero_content c)
unfolding after_read
read_zero f e k c = either_zero (on_pipe f e) _ _ _ _ (change_zero e.entry.object e.entry.end _ (drop k) c (λ bytes. drop_zeros k bytes)) refl

pub write_zero : (f : Frame) (e : OpenFile) (new : List ℕ) (c : Content) → zero_content (after_write f e new c) ≡ after_write f e (zeros new) (zero_content c)
unfolding after_write
write_zero f e new c =
    let held = change_zero e.entry.object e.entry.end (spliced (offset_of c e.id) new) (spliced (offset_of c e.id) (zeros _)) c (λ bytes. spliced_zeros (offset_of c e.id) new bytes) in
    either_zero _ _ _ _ _ (change_zero _ (1 - e.entry.end) (λ old. old ++ new) (λ old. old ++ zeros new) c (λ bytes. append_zeros bytes new))
    (λ i. record (held i) { offsets = set c.offsets e.id (offset_of c e.id + sym (length_zeros new) i) })

pub cut_zero : (e : OpenFile) (len : ℕ) (c : Content) → zero_content (after_cut e len c) ≡ after_cut e len (zero_content c)
unfolding after_cut
cut_zero e len c = change_zero _ e.entry.end (cut_to len) (cut_to len) c (λ bytes. take_zeros len (grown len bytes) ∙ ap (take len) (grown_zeros len bytes))

pub seek_zero : (e : OpenFile) (offset : ℕ) (c : Content) → zero_content (after_seek e offset c) ≡ after_seek e offset (zero_content c)
unfolding after_seek
seek_zero e offset c = refl

pub exit_zero : (g : Frame) (pid status : ℕ) (c : Content) → zero_content (after_exit g pid status c) ≡ after_exit g pid 0 (zero_content c)
unfolding after_exit
exit_zero g pid status c = either_zero (is_ended (at g.processes pid)) _ _ _ _ (λ i. record {
  holdings = map zeroed c.holdings;
  offsets = c.offsets;
  statuses =
      map-set (λ b. 0) c.statuses pid status i;
}) refl

pub emptied_zero : (o : ℕ) (c : Content) → zero_content (emptied o c) ≡ emptied o (zero_content c)
unfolding emptied
emptied_zero o c = λ i. record { holdings = map-set zeroed c.holdings o holds_nothing i; offsets = c.offsets; statuses = zeros c.statuses }

-- ---- what is told
blocks_zero : (p : ℕ → Bool) (n : ℕ) (hs : List Holding) → blocks_where p n (map zeroed hs) ≡ blocks_where p n hs
blocks_zero p n [] = refl
blocks_zero p n (h ∷ hs) = λ i. (if p n then blocks_for (length_zeros h.first i) else 0) + blocks_zero p (suc n) hs i

beside_zero : (f : Frame) (c : Content) (o : ℕ) → blocks_beside f (zero_content c) o ≡ blocks_beside f c o
beside_zero f c o = blocks_zero _ 0 _

pub told_read_zero : (f : Frame) (c : Content) (b : Option OpenFile) → told_of_read f (zero_content c) b ≡ told_of_read f c b
unfolding told_of_read
told_read_zero f c None = refl
told_read_zero f c (Some e) = let long = ap length (readable_zero f c e) ∙ length_zeros _ in λ i. record nothing_told { empty = long i == 0 }

told_file_zero : (f : Frame) (c : Content) (e : OpenFile) (n : ℕ) → told_of_file_write f (zero_content c) e n ≡ told_of_file_write f c e n
told_file_zero f c e n = λ i. record nothing_told {
  too_big = nat_lt 4096 n || nat_lt 1048576 (offset_of c e.id + n);
  no_space = not (nat_lt 4096 n || nat_lt 1048576 (offset_of c e.id + n))
      && nat_lt (blocks_on f (fs_of_object f e.entry.object))
      (beside_zero f c e.entry.object i + blocks_for (length_then (offset_of c e.id) n (side_length c e.entry.object e.entry.end i)));
}

pub told_write_zero : (f : Frame) (c : Content) (n : ℕ) (b : Option OpenFile) → told_of_write f (zero_content c) n b ≡ told_of_write f c n b
unfolding told_of_write
told_write_zero f c n None = refl
told_write_zero f c n (Some e) = go _
  where
    go : (b : Bool) → (if b then told_of_pipe_write (length (side (1 - e.entry.end) (holding_of (zero_content c) e.entry.object))) n else
        told_of_file_write f (zero_content c) e n) ≡ (if b then told_of_pipe_write (length (side (1 - e.entry.end) (holding_of c e.entry.object))) n else
        told_of_file_write f c e n)
    go true = ap (λ k. told_of_pipe_write k n) (side_length c _ _)
    go false = told_file_zero f c e n

pub told_cut_zero : (f : Frame) (c : Content) (len : ℕ) (b : Option OpenFile) → told_of_cut f (zero_content c) len b ≡ told_of_cut f c len b
unfolding told_of_cut
told_cut_zero f c len None = refl
told_cut_zero f c len (Some e) = λ i. record nothing_told { no_space = nat_lt (blocks_on f (fs_of_object f e.entry.object)) (beside_zero f c e.entry.object i + blocks_for len) }
