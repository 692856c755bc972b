-- The blocks that files use, as inodes count them and as the holdings show them.
use Rattle.std.proofs.Common.{◌≡◌, ◌+◌, ◌-◌, ◌≤◌, ◌==◌, ℕ, zero, suc, nat_le, nat_lt, Bool, true, false, not, ◌&&◌, List, [], ◌∷◌, ◌++◌, length, map, Option}
use Rattle.std.proofs.Common.{Some, None, option_map, slice_index_or, if◌then◌else◌, refl, sym, ap, ◌∙◌, arith, inl, inr, zero-add}
use Rattle.std.{specs.Option.{option_map_or, option_and_then}, proofs.lemmas.{Bool.{cases_lt, Decides.nat_tests}, List.get_or_past}}
use Rattle.ix_model.{specs.world.World.{Object, Holding, at, is_file, fs_at}, specs.world.Contents.holds_nothing, specs.declared.config.Limits.Limits}
use Rattle.ix_model.{specs.rows.Telling.{blocks_for, blocks_where, blocks_on, lies_on, fs_of_object}, proofs.tables.Blocks.blocks_from}
use Rattle.ix_inode.specs.{declared.node.Node.Node, Nodes.{Nodes, blocks_of, free_blocks, has_space, bytes_at}}
use Rattle.ix_name.specs.Directories.{Directories, names_of}
use Rattle.ix_open.specs.Table.{OpenTable}
use Rattle.ix_pipe.specs.Pipe.{Pipe}
use Rattle.ix_tables.specs.{Parts.Parts, Views.{frame_alone, has_room}}
use Rattle.ix_tables.specs.Joined.{object_of, object_of_pipe, holding_of_bytes, holding_of_pipe, all_objects, joined, AreJoined}
use Rattle.ix_tables.proofs.{Joining.{at_inode, at_pipe}, Holding.{inode_there, bytes_there, is_file_there}}

-- whether an inode names a file system
abbrev names_fs : ℕ → Option Node → Bool
names_fs k x = option_map_or (λ y. y.fs == k) x false

-- none are counted
none_from : (q : ℕ → Bool) (j : ℕ) (hs : List Holding) → ((i : ℕ) → q (j + i) ≡ false) → blocks_where q j hs ≡ 0
none_from q j [] h = refl
none_from q j (x ∷ hs) h =
    let here : q j ≡ false = ap q (omega arith) ∙ h 0 in
    λ i. (if here i then blocks_for (length x.first) else 0) + none_from q (suc j) hs (λ m. ap q (omega arith) ∙ h (suc m)) i

-- those of the inodes that name a file system
counted_from : (k : ℕ) (q : ℕ → Bool) (j : ℕ) (xs : List (Option Node)) (bs : List (List ℕ)) (hs : List Holding) → length bs ≡ length xs
    → ((i : ℕ) → q (j + i) ≡ names_fs k (at xs i)) → blocks_where q j (map holding_of_bytes bs ++ hs) ≡ blocks_of k xs bs
counted_from k q j [] [] hs long same = none_from q j hs same
counted_from k q j [] (b ∷ bs) hs long same = absurd (omega (arith, long))
counted_from k q j (x ∷ xs) [] hs long same = absurd (omega (arith, long))
counted_from k q j (x ∷ xs) (b ∷ bs) hs long same =
    let here : q j ≡ names_fs k x = ap q (omega arith) ∙ same 0 in
    λ i. (if here i then blocks_for (length b) else 0) + counted_from k q (suc j) xs bs hs (omega (arith, long)) (λ m. ap q (omega arith) ∙ same (suc m)) i

-- the others, and that one
one_and_others : (q : ℕ → Bool) (j o : ℕ) (hs : List Holding) → blocks_where (λ m. not (m == j + o) && q m) j hs + (if q (j + o) then
    blocks_for (length (slice_index_or hs o holds_nothing).first) else 0) ≡ blocks_where q j hs
one_and_others q j o [] = go (q (j + o))
  where
    go : (b : Bool) → 0 + (if b then blocks_for 0 else 0) ≡ 0
    go true = refl
    go false = refl
one_and_others q j zero (x ∷ hs) =
    let same : (j == j + 0) ≡ true = grind (arith, nat_tests) in
    let here : q j ≡ q (j + 0) = ap q (omega arith) in
    let first : (if not (j == j + 0) && q j then blocks_for (length x.first) else 0) ≡ 0 = ap (λ b. if not b && q j then blocks_for (length x.first) else 0) same in
    let that : (if q (j + 0) then blocks_for (length x.first) else 0) ≡ (if q j then blocks_for (length x.first) else 0) = ap (λ b. if b then blocks_for (length x.first) else 0) (sym here) in
    let rest : blocks_where (λ m. not (m == j + 0) && q m) (suc j) hs ≡ blocks_where q (suc j) hs =
    blocks_from (λ m. not (m == j + 0) && q m) q (suc j) hs (λ m low. ap (λ b. not b && q m) (differ m low)) in
    omega (arith, first, that, rest)
  where
    differ : (m : ℕ) → suc j ≤ m → (m == j + 0) ≡ false
    differ m low = grind (arith, nat_tests, low)
one_and_others q j (suc o) (x ∷ hs) =
    let other : (j == j + suc o) ≡ false = grind (arith, nat_tests) in
    let number : suc j + o ≡ j + suc o = omega arith in
    let first : (if not (j == j + suc o) && q j then blocks_for (length x.first) else 0) ≡ (if q j then blocks_for (length x.first) else 0) =
    ap (λ b. if not b && q j then blocks_for (length x.first) else 0) other in
    let rest : blocks_where (λ m. not (m == j + suc o) && q m) (suc j) hs + (if q (j + suc o) then blocks_for (length (slice_index_or hs o holds_nothing).first) else 0) ≡ blocks_where q (suc j) hs =
    ap (λ n. blocks_where (λ m. not (m == n) && q m) (suc j) hs + (if q n then blocks_for (length (slice_index_or hs o holds_nothing).first) else 0)) (sym number) ∙ one_and_others q (suc j) o hs in
    omega (arith, first, rest)

same_number : (k : ℕ) → (k == k) ≡ true
same_number k = grind (arith, nat_tests)

pipe_on : (k : ℕ) (p : Option Pipe) → option_map_or (λ x. option_map_or (λ j. j == k) x.fs false) (option_map object_of_pipe p) false ≡ false
pipe_on k None = refl
pipe_on k (Some p) = refl

inode_on : (k : ℕ) (names : List (List ℕ × ℕ)) (x : Option Node) → option_map_or (λ y. option_map_or (λ j. j == k) y.fs false) (option_map (object_of names) x) false ≡ names_fs k x
inode_on k names None = refl
inode_on k names (Some x) = refl

-- what a file may grow to, from what its file system has
room_by : (blocks beside free old new : ℕ) → beside + old + free ≡ blocks → nat_le (new - old) free ≡ not (nat_lt blocks (beside + new))
room_by blocks beside free old new all = grind (arith, nat_tests, all)

module _ (l : Limits) (nodes : Nodes) (names : Directories) (ps : List (Option Pipe)) (es : OpenTable) (hs : List ℕ) (first : ℕ)
    (inv : AreJoined l nodes names ps es hs × (first ≡ length nodes.nodes)) (n : ℕ) (file : option_map_or is_file (at (all_objects nodes names ps) n) false ≡ true) where
  abbrev whole : Parts
  whole = joined l nodes names ps es hs

  lies_there : (k m : ℕ) → lies_on (frame_alone whole) (Some k) m ≡ names_fs k (at nodes.nodes m)
  lies_there k m = elim (cases_lt m first) [
    | inl low ↦
        ap (λ (o : Option Object). option_map_or (λ x. option_map_or (λ j. j == k) x.fs false) o false) (at_inode nodes names ps m (omega (arith, low, inv.1)))
        ∙ inode_on k (names_of names m) (at nodes.nodes m)
    | inr past ↦
        ap (λ (o : Option Object). option_map_or (λ x. option_map_or (λ j. j == k) x.fs false) o false) (at_pipe nodes names ps first m inv.1 past)
        ∙ pipe_on k (at ps (m - first)) ∙ sym (ap (names_fs k) (get_or_past nodes.nodes m None (omega (arith, past, inv.1))))
  ]

  module _ (x : Node) (there : at nodes.nodes n ≡ Some x) where
    lies_here : lies_on (frame_alone whole) (Some x.fs) (0 + n) ≡ true
    lies_here = ap (lies_on (frame_alone whole) (Some x.fs)) (zero-add n) ∙ lies_there x.fs n ∙ ap (names_fs x.fs) there ∙ same_number x.fs

    fs_here : fs_of_object (frame_alone whole) n ≡ Some x.fs
    fs_here = ap (λ (o : Option Object). option_and_then (λ y. y.fs) o) (inode_there l nodes names ps es hs whole first inv refl n file ∙ ap (option_map (object_of (names_of names n))) there)

    beside_here : blocks_where (λ m. not (m == n) && lies_on (frame_alone whole) (Some x.fs) m) 0 whole.holdings + blocks_for (length (bytes_at n nodes)) ≡ blocks_of x.fs nodes.nodes nodes.bytes
    beside_here =
        let q : ℕ → Bool = lies_on (frame_alone whole) (Some x.fs) in
        let all : blocks_where q 0 whole.holdings ≡ blocks_of x.fs nodes.nodes nodes.bytes =
        counted_from x.fs q 0 nodes.nodes nodes.bytes (map holding_of_pipe ps) inv.0.bytes (λ i. ap q (zero-add i) ∙ lies_there x.fs i) in
        let others : blocks_where (λ m. not (m == n) && q m) 0 whole.holdings ≡ blocks_where (λ m. not (m == 0 + n) && q m) 0 whole.holdings =
        ap (λ o. blocks_where (λ m. not (m == o) && q m) 0 whole.holdings) (sym (zero-add n)) in
        let that : blocks_for (length (bytes_at n nodes)) ≡ (if q (0 + n) then blocks_for (length (slice_index_or whole.holdings n holds_nothing).first) else 0) =
        ap (λ (bs : List ℕ). blocks_for (length bs)) (bytes_there l nodes names ps es hs whole first inv refl n file)
        ∙ ap (λ b. if b then blocks_for (length (slice_index_or whole.holdings n holds_nothing).first) else 0) (sym lies_here) in
        (λ i. others i + that i) ∙ one_and_others q 0 n whole.holdings ∙ all

    room_here : (len : ℕ) → blocks_of x.fs nodes.nodes nodes.bytes + free_blocks x.fs nodes ≡ (fs_at nodes.fss x.fs).blocks → has_space n len nodes ≡ has_room n len whole
    room_here len all =
        let free : option_map_or (λ y. free_blocks y.fs nodes) (at nodes.nodes n) 0 ≡ free_blocks x.fs nodes = ap (λ (o : Option Node). option_map_or (λ y. free_blocks y.fs nodes) o 0) there in
        let f = frame_alone whole in
        ap (nat_le (blocks_for len - blocks_for (length (bytes_at n nodes)))) free
        ∙ room_by (fs_at nodes.fss x.fs).blocks (blocks_where (λ m. not (m == n) && lies_on f (Some x.fs) m) 0 whole.holdings) (free_blocks x.fs nodes)
        (blocks_for (length (bytes_at n nodes))) (blocks_for len) (ap (λ k. k + free_blocks x.fs nodes) beside_here ∙ all)
        ∙ sym (ap (λ k. not (nat_lt (blocks_on f k) (blocks_where (λ m. not (m == n) && lies_on f k m) 0 whole.holdings + blocks_for len))) fs_here)

pub room_there : (l : Limits) (nodes : Nodes) (names : Directories) (ps : List (Option Pipe)) (es : OpenTable) (hs : List ℕ) (now : Parts) (first : ℕ)
    → AreJoined l nodes names ps es hs × (first ≡ length nodes.nodes) → joined l nodes names ps es hs ≡ now
    → (n : ℕ) → option_map_or is_file (at now.objects n) false ≡ true → (len : ℕ)
    → ((x : Node) → at nodes.nodes n ≡ Some x → blocks_of x.fs nodes.nodes nodes.bytes + free_blocks x.fs nodes ≡ (fs_at nodes.fss x.fs).blocks)
    → has_space n len nodes ≡ has_room n len now
room_there l nodes names ps es hs now first inv view n file len all = go (at nodes.nodes n) refl ∙ ap (has_room n len) view
  where
    here : option_map_or is_file (at (all_objects nodes names ps) n) false ≡ true
    here = ap (λ (v : Parts). option_map_or is_file (at v.objects n) false) view ∙ file

    go : (x : Option Node) → at nodes.nodes n ≡ x → has_space n len nodes ≡ has_room n len (joined l nodes names ps es hs)
    go None is = absurd (cc (is_file_there l nodes names ps es hs now first inv view n file, is))
    go (Some x) is = room_here l nodes names ps es hs first inv n here x is len (all x is)
