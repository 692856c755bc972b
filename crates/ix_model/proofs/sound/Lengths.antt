-- Lengths and blocks after the calls that edit what is held.
use Rattle.std.proofs.Common.{◌≡◌, ◌<◌, ◌≤◌, ◌==◌, ◌+◌, ◌-◌, ℕ, zero, suc, max, Bool, true, false, true≢false, not, ◌&&◌, List, [], ◌∷◌, ◌++◌, length, take, ap, length-append}
use Rattle.std.{proofs.Common.{drop, replicate, Option, Some, if◌then◌else◌, nat_le, nat_lt, refl, sym, ◌∙◌, subst, arith, get_or, set, length-set}, specs.Option.option_map_or}
use Rattle.std.proofs.lemmas.{Bool.{cond-false, lt-leb, ne_eqb, not-true, ltb-false, or_parts}, List.{length-replicate, length-take, length-drop}}
use Rattle.ix_model.specs.{world.World.{Frame, Content, Object, Holding, at, is_pipe}, rows.{Walks.OpenFile, OnDescriptors.LengthChecks}, laws.Sound.{WithinLimits, LengthsSound}}
use Rattle.ix_model.specs.world.Contents.{holding_of, offset_of, holds_nothing, side, with_side, readable, after_read, after_write, after_cut, emptied, after_seek, grown, cut_to, spliced}
use Rattle.ix_model.specs.rows.Telling.{blocks_for, blocks_where, blocks_on, blocks_beside, lies_on, fs_of_object, length_then, told_of_pipe_write, told_of_file_write, told_of_write}
use Rattle.ix_model.proofs.{tables.{Tables.none_is, Blocks.{blocks_skip, blocks_edit, on_fs}}, words.Standing.{Standing, on_pipe_is}}

-- ---- lists
-- what holds of each element and of a new one holds after the new one is set
pub set_either : {A : Type 0} (P : A → Type 0) (d : A) (xs : List A) (o m : ℕ) (x : A) → (m ≡ o → P x) → P (get_or xs m d) → P (get_or (set xs o x) m d)
set_either P d [] o m x new old = old
set_either P d (y ∷ xs) zero zero x new old = new refl
set_either P d (y ∷ xs) zero (suc m) x new old = old
set_either P d (y ∷ xs) (suc o) zero x new old = old
set_either P d (y ∷ xs) (suc o) (suc m) x new old = set_either P d xs o m x (λ e. new (ap suc e)) old

length-spliced : (offset : ℕ) (new old : List ℕ) → length (spliced offset new old) ≡ length_then offset (length new) (length old)
length-spliced offset [] old = refl
length-spliced offset (b ∷ bs) old =
    let some : 0 < length (b ∷ bs) = omega arith in
    ap length (cond-false (nat_le (length (b ∷ bs)) 0) old _ (lt-leb (length (b ∷ bs)) 0 some))
    ∙ length-append (take offset old) _
    ∙ ap (λ n. length (take offset old) + n) (length-append (replicate (offset - length old) 0) _
    ∙ ap (λ n. length (replicate {A = ℕ} (offset - length old) 0) + n) (length-append (b ∷ bs) (drop (offset + length (b ∷ bs)) old)))
    ∙ omega (arith, length-take offset old, length-replicate {A = ℕ} (offset - length old) 0, length-drop (offset + length (b ∷ bs)) old)
    ∙ sym (cond-false (length (b ∷ bs) == 0) (length old) (max (length old) (offset + length (b ∷ bs))) (ne_eqb (length (b ∷ bs)) 0 (λ e. absurd (omega arith))))

length-cut : (len : ℕ) (old : List ℕ) → length (cut_to len old) ≡ len
length-cut len old = omega (arith, length-take len (grown len old), length-append old (replicate (len - length old) 0), length-replicate {A = ℕ} (len - length old) 0)

then_within : (m offset n old : ℕ) → offset + n ≤ m → old ≤ m → length_then offset n old ≤ m
then_within m offset n old h k = go _
  where
    go : (b : Bool) → (if b then old else max old (offset + n)) ≤ m
    go true = k
    go false = omega arith

-- ---- sides
side_within : (end n : ℕ) (h : Holding) → length h.first ≤ n → length h.second ≤ n → length (side end h) ≤ n
side_within end n h one two = go _
  where
    go : (b : Bool) → length (if b then h.first else h.second) ≤ n
    go true = one
    go false = two

with_side_within : (end n : ℕ) (bytes : List ℕ) (h : Holding) → length h.first ≤ n → length h.second ≤ n → length bytes ≤ n
    → (length (with_side end bytes h).first ≤ n) × (length (with_side end bytes h).second ≤ n)
with_side_within end n bytes h one two new = go _
  where
    first : Holding
    first = record h { first = bytes }

    second : Holding
    second = record h { second = bytes }

    go : (b : Bool) → (length (if b then first else second).first ≤ n) × (length (if b then first else second).second ≤ n)
    go true = (new, two)
    go false = (one, new)

-- ---- one edit
module _ (f : Frame) (c : Content) (l : LengthsSound (record { frame = f; content = c })) where
  holding_edited : (o : ℕ) (h : Holding) (x : Object) → at f.objects o ≡ Some x → (is_pipe x ≡ false → length h.first ≤ 1048576)
      → (is_pipe x ≡ true → (length h.first ≤ 4096) × (length h.second ≤ 4096))
      → ((k : ℕ) → blocks_where (lies_on f (Some k)) 0 (set c.holdings o h) ≤ blocks_on f (Some k))
      → LengthsSound (record { frame = f; content = record c { holdings = set c.holdings o h } })
  holding_edited o h x is file pipe blocks =
      let one : (m : ℕ) (y : Object) → at f.objects m ≡ Some y → m ≡ o → x ≡ y = λ m y here same. let e = sym is ∙ ap (at f.objects) (sym same) ∙ here in cc in
      record {
        holdings = length-set c.holdings o h ∙ l.holdings;
        offsets = l.offsets;
        offset = l.offset;
        file = λ m y here other. set_either (λ z. length z.first ≤ 1048576) holds_nothing c.holdings o m h (λ same. file (ap is_pipe (one m y here same) ∙ other)) (l.file m y here other);
        pipe = λ m y here yes. set_either (λ z. (length z.first ≤ 4096) × (length z.second ≤ 4096)) holds_nothing c.holdings o m h
            (λ same. pipe (ap is_pipe (one m y here same) ∙ yes)) (l.pipe m y here yes);
        blocks = blocks;
      }

  offset_edited : (e n : ℕ) → n ≤ 1048576 → LengthsSound (record { frame = f; content = record c { offsets = set c.offsets e n } })
  offset_edited e n low = record {
    holdings = l.holdings;
    offsets = length-set c.offsets e n ∙ l.offsets;
    offset = λ m. set_either (λ k. k ≤ 1048576) 0 c.offsets e m n (λ same. low) (l.offset m);
    file = l.file;
    pipe = l.pipe;
    blocks = l.blocks;
  }

  -- what holds nothing keeps all lengths
  emptied_blocks : (p : ℕ → Bool) (n : ℕ) (hs : List Holding) (o : ℕ) → blocks_where p n (set hs o holds_nothing) ≤ blocks_where p n hs
  emptied_blocks p n [] o = omega arith
  emptied_blocks p n (h ∷ hs) zero = let head : (if p n then blocks_for (length holds_nothing.first) else 0) ≡ 0 = none _ in omega arith
    where
      none : (b : Bool) → (if b then blocks_for (length holds_nothing.first) else 0) ≡ 0
      none true = refl
      none false = refl
  emptied_blocks p n (h ∷ hs) (suc o) = let rest = emptied_blocks p (suc n) hs o in omega arith

  pub lengths_emptied : (o : ℕ) → LengthsSound (record { frame = f; content = emptied o c })
  unfolding emptied
  lengths_emptied o = record {
    holdings = length-set c.holdings o holds_nothing ∙ l.holdings;
    offsets = l.offsets;
    offset = l.offset;
    file = λ m y here other. set_either (λ z. length z.first ≤ 1048576) holds_nothing c.holdings o m holds_nothing (λ same. omega arith) (l.file m y here other);
    pipe = λ m y here yes. set_either (λ z. (length z.first ≤ 4096) × (length z.second ≤ 4096)) holds_nothing c.holdings o m holds_nothing (λ same. (omega arith, omega arith)) (l.pipe m y here yes);
    blocks = λ k. let less = emptied_blocks (lies_on f (Some k)) 0 c.holdings o in omega (arith, l.blocks k);
  }

  -- a seek
  pub lengths_seek : (e : OpenFile) (offset : ℕ) → offset ≤ 1048576 → LengthsSound (record { frame = f; content = after_seek e offset c })
  unfolding after_seek
  lengths_seek e offset low = offset_edited _ _ low

  -- a pipe's bytes use no blocks
  pipe_edited : (o : ℕ) (h : Holding) (x : Object) → WithinLimits f → at f.objects o ≡ Some x → is_pipe x ≡ true
      → (length h.first ≤ 4096) × (length h.second ≤ 4096) → LengthsSound (record { frame = f; content = record c { holdings = set c.holdings o h } })
  pipe_edited o h x within is pipe low =
      holding_edited o h x is (λ other. absurd (true≢false (sym pipe ∙ other))) (λ yes. low) (λ k.
      let no_fs = none_is _ (within.pipes o x is ∙ pipe) in
      let off = ap (lies_on f (Some k)) (omega arith)
      ∙ ap (λ y. option_map_or (λ z. option_map_or (λ j. j == k) z.fs false) y false) is ∙ ap (λ y. option_map_or (λ j. j == k) y false) no_fs in
      let same = blocks_skip (lies_on f (Some k)) 0 c.holdings o h off in
      omega (arith, l.blocks k))

  -- ---- a read
  module _ (e : OpenFile) (s : Standing f e.entry) (within : WithinLimits f) where
    pipe_low : is_pipe s.object ≡ true → (length (holding_of c e.entry.object).first ≤ 4096) × (length (holding_of c e.entry.object).second ≤ 4096)
    pipe_low pipe = l.pipe e.entry.object s.object s.is_object pipe

    file_low : is_pipe s.object ≡ false → length (side e.entry.end (holding_of c e.entry.object)) ≤ 1048576
    file_low other =
        let same = ap (λ n. length (side n (holding_of c e.entry.object))) (s.at_end other) in
        let low = l.file e.entry.object s.object s.is_object other in
        omega arith

    pub lengths_read : (count : ℕ) → LengthsSound (record { frame = f; content = after_read f e (length (take count (readable f c e))) c })
    unfolding after_read readable
    lengths_read count = go _ (sym (on_pipe_is f e s))
      where
        go : (b : Bool) → is_pipe s.object ≡ b
            → LengthsSound (record {
              frame = f;
              content = if b then
                  record c {
                    holdings = set c.holdings e.entry.object
                        (with_side e.entry.end (drop (length (take count (drop (if b then 0 else offset_of c e.id) (side e.entry.end (holding_of c e.entry.object)))))
                        (side e.entry.end (holding_of c e.entry.object))) (holding_of c e.entry.object));
                  } else
                  record c {
                    offsets = set c.offsets e.id
                        (offset_of c e.id + length (take count (drop (if b then 0 else offset_of c e.id) (side e.entry.end (holding_of c e.entry.object)))));
                  };
            })
        go true pipe =
            let h = holding_of c e.entry.object in
            let k = length _ in
            let one = (pipe_low pipe).0 in
            let two = (pipe_low pipe).1 in
            let all = side_within e.entry.end 4096 h one two in
            let short : length (drop k (side e.entry.end h)) ≤ 4096 = omega (arith, length-drop k (side e.entry.end h)) in
            pipe_edited e.entry.object _ s.object within s.is_object pipe (with_side_within e.entry.end 4096 (drop k (side e.entry.end h)) h one two short)
        go false other =
            let h : Holding = holding_of c e.entry.object in
            let low = file_low other in
            let old = l.offset e.id in
            offset_edited e.id _ (omega (arith, length-take count (drop (offset_of c e.id) (side e.entry.end h)), length-drop (offset_of c e.id) (side e.entry.end h)))

    -- ---- a write
    pipe_written : (new : List ℕ) → is_pipe s.object ≡ true → length (side (1 - e.entry.end) (holding_of c e.entry.object)) + length new ≤ 4096
        → LengthsSound (record {
          frame = f;
          content =
              record c {
                holdings = set c.holdings e.entry.object (with_side (1 - e.entry.end) (side (1 - e.entry.end) (holding_of c e.entry.object)
                    ++ new) (holding_of c e.entry.object));
              };
        })
    pipe_written new pipe low =
        let h = holding_of c e.entry.object in
        let fits : length (side (1 - e.entry.end) h ++ new) ≤ 4096 = omega (arith, length-append (side (1 - e.entry.end) h) new) in
        pipe_edited _ _ _ within s.is_object pipe (with_side_within _ _ _ h (pipe_low pipe).0 (pipe_low pipe).1 fits)

    -- a file's holding with the new bytes
    written : List ℕ → Holding
    written new = with_side e.entry.end (spliced (offset_of c e.id) new (side e.entry.end (holding_of c e.entry.object))) (holding_of c e.entry.object)

    length-written : (new : List ℕ) → is_pipe s.object ≡ false → length (written new).first ≡ length_then (offset_of c e.id) (length new) (length (side e.entry.end (holding_of c e.entry.object)))
    unfolding written
    length-written new other =
        let h = holding_of c e.entry.object in
        let plain : List ℕ → ℕ → ℕ = λ old n. length (with_side n (spliced (offset_of c e.id) new old) h).first in
        ap (plain (side e.entry.end h)) (s.at_end other) ∙ length-spliced _ _ _

    -- a file's holding with other bytes, for which there is room
    blocks_filed : (h : Holding) (n : ℕ) → length h.first ≡ n → blocks_beside f c e.entry.object + blocks_for n ≤ blocks_on f (fs_of_object f e.entry.object)
        → (k : ℕ) → blocks_where (lies_on f (Some k)) 0 (set c.holdings e.entry.object h) ≤ blocks_on f (Some k)
    blocks_filed h n long room k = go (lies_on f (Some k) e.entry.object) refl
      where
        go : (b : Bool) → lies_on f (Some k) e.entry.object ≡ b → blocks_where (lies_on f (Some k)) 0 (set c.holdings e.entry.object h) ≤ blocks_on f (Some k)
        go false off =
            let skip = blocks_skip (lies_on f (Some k)) 0 c.holdings e.entry.object h (ap (lies_on f (Some k)) (omega arith) ∙ off) in
            omega (arith, l.blocks k)
        go true on =
            let fs : fs_of_object f e.entry.object ≡ Some k = on_fs f k e.entry.object on in
            let known : blocks_where (λ m. not (m == e.entry.object) && lies_on f (Some k) m) 0 c.holdings + blocks_for n ≤ blocks_on f (Some k) =
            subst (λ (t : Option ℕ). blocks_where (λ m. not (m == e.entry.object) && lies_on f t m) 0 c.holdings + blocks_for n ≤ blocks_on f t) fs room in
            let same : blocks_for (length h.first) ≡ blocks_for n = ap blocks_for long in
            let more = blocks_edit (lies_on f (Some k)) (λ m. not _ && lies_on f (Some k) m) 0 c.holdings e.entry.object h
            (λ m apart. ap (λ b. not b && lies_on f (Some k) m) (ne_eqb m e.entry.object (λ h. apart (omega arith)))) in
            omega arith

    file_filed : (h : Holding) (n : ℕ) → length h.first ≡ n → is_pipe s.object ≡ false → n ≤ 1048576
        → blocks_beside f c e.entry.object + blocks_for n ≤ blocks_on f (fs_of_object f e.entry.object)
        → LengthsSound (record { frame = f; content = record c { holdings = set c.holdings e.entry.object h } })
    file_filed h n long other low room = holding_edited _ h _ s.is_object (λ k. subst (λ m. m ≤ 1048576) (sym long) low)
        (λ yes. absurd (true≢false (sym yes ∙ other))) (blocks_filed h n long room)

    file_written : (new : List ℕ) → is_pipe s.object ≡ false → offset_of c e.id + length new ≤ 1048576
        → blocks_beside f c e.entry.object + blocks_for
        (length_then (offset_of c e.id) (length new) (length (side e.entry.end (holding_of c e.entry.object)))) ≤ blocks_on f (fs_of_object f e.entry.object)
        → LengthsSound (record { frame = f; content = record c { holdings = set c.holdings e.entry.object (written new) } })
    file_written new other low room = file_filed _ _ (length-written _ other) other (then_within _ _ _ _ low (file_low other)) room

    -- ---- a cut
    pub lengths_cut : (len : ℕ) → is_pipe s.object ≡ false → len ≤ 1048576
        → blocks_beside f c e.entry.object + blocks_for len ≤ blocks_on f (fs_of_object f e.entry.object)
        → LengthsSound (record { frame = f; content = after_cut e len c })
    unfolding after_cut
    lengths_cut len other low room =
        let h = holding_of c e.entry.object in
        let old = side e.entry.end (holding_of c e.entry.object) in
        let long =
        ap (λ n. length (with_side n (cut_to len (side e.entry.end (holding_of c e.entry.object))) (holding_of c e.entry.object)).first) (s.at_end other)
        ∙ length-cut _ (side e.entry.end (holding_of c e.entry.object)) in
        file_filed _ _ long other low room

pub lengths_write : (f : Frame) (c : Content) (l : LengthsSound (record { frame = f; content = c })) (e : OpenFile) (s : Standing f e.entry)
    (within : WithinLimits f) (new : List ℕ) → not (told_of_write f c (length new) (Some e)).too_big ≡ true
    → not (told_of_write f c (length new) (Some e)).full ≡ true → not (told_of_write f c (length new) (Some e)).no_space ≡ true
    → LengthsSound (record { frame = f; content = after_write f e new c })
unfolding after_write told_of_write written
lengths_write f c l e s within new small room space = go _ (sym (on_pipe_is f e s)) small room space
  where
    at_end : LengthChecks
    at_end = told_of_pipe_write (length (side (1 - e.entry.end) (holding_of c e.entry.object))) (length new)

    in_file : LengthChecks
    in_file = told_of_file_write f c e (length new)

    piped : Content
    piped = record c { holdings = set c.holdings e.entry.object (with_side (1 - e.entry.end) (side (1 - e.entry.end) (holding_of c e.entry.object) ++ new) (holding_of c e.entry.object)) }

    filed : Content
    filed = record c {
      holdings =
          set c.holdings e.entry.object (with_side e.entry.end (spliced (offset_of c e.id) new (side e.entry.end (holding_of c e.entry.object)))
          (holding_of c e.entry.object));
      offsets = set c.offsets e.id (offset_of c e.id + length new);
    }

    go : (b : Bool) → is_pipe s.object ≡ b → not (if b then at_end else in_file).too_big ≡ true → not (if b then at_end else in_file).full ≡ true
        → not (if b then at_end else in_file).no_space ≡ true → LengthsSound (record { frame = f; content = if b then piped else filed })
    go true pipe small room space = pipe_written f c l e s within new pipe (ltb-false 4096 _ (not-true _ room))
    go false other small room space =
        let parts = or_parts (nat_lt 4096 (length new)) (nat_lt 1048576 (offset_of c e.id + length new)) (not-true _ small) in
        let low : offset_of c e.id + length new ≤ 1048576 = ltb-false 1048576 _ parts.1 in
        let k : Option ℕ = fs_of_object f e.entry.object in
        let sum : ℕ = blocks_where (λ m. not (m == e.entry.object) && lies_on f k m) 0 c.holdings + blocks_for
        (length_then (offset_of c e.id) (length new) (length (side e.entry.end (holding_of c e.entry.object)))) in
        let enough : nat_lt (blocks_on f k) sum ≡ false = ap (λ b. not b && nat_lt (blocks_on f k) sum) (sym (not-true _ small)) ∙ not-true _ space in
        let one = file_written f c l e s within new other low (ltb-false (blocks_on f k) sum enough) in
        offset_edited f _ one e.id (offset_of c e.id + length new) low
