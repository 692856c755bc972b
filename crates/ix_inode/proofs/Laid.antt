-- The file systems one behind the other: where their inodes stand, and an edit of one.
use Rattle.std.proofs.Common.{Bool, ◌≡◌, ◌<◌, ◌≤◌, ◌+◌, ◌-◌, ◌∙◌, ℕ, zero, suc, true, false, not, nat_le, List, [], ◌∷◌, ◌++◌, length, length-append, take, set}
use Rattle.std.proofs.Common.{drop, get_or, Option, Some, None, option_map, is_some, IfSome, if◌then◌else◌, ◌^◌, refl, sym, ap, subst, arith, inl, inr}
use Rattle.std.proofs.Common.{get_or-set_same, get_or-set_other}
use Rattle.std.specs.{List.flat_map, Option.option_map_or}
use Rattle.std.proofs.{lemmas.List.{length-set, length-map, get_or_default, get_or_read, get_or-map, set-get_or, take_more, append-nil}, lemmas.Bool.cases_eq}
use Rattle.std.proofs.{lemmas.List.Sums.{sum-map, sum_by-cons}, lemmas.List.Concat.{get_or-flat_map, flat_map-append}, Math.Seq.map-set_same}
use Rattle.ix_label.specs.{Category.leq, Lattice.bottom-leq}
use Rattle.ix_model.specs.{world.{World.{at, put, lowest_free, fs_at}, Numbers.first_inode}, declared.config.FsSpec.FsSpec, rows.Telling.blocks_for}
use Rattle.ix_numbers.proofs.Tied.{vacant_there}
use Rattle.ix_blocks.specs.Files.{Files, with_bytes, used, has_room}
use Rattle.ix_inode.specs.{declared.{node.Node.Node, volume.Volume.Volume}, Shown.{new_node, told, taken}}
use Rattle.ix_inode.specs.Volumes.{AreOn, IsVolume, AreVolumes, IsSpot, specs, all_nodes, all_bytes, nodes_of}
use Rattle.ix_inode.specs.Nodes.{Nodes, vacant_in, made, fs_ceiling, with_inode, with_node, without, holding, bytes_at, is_file_at, has_space, free_blocks}
use Rattle.ix_inode.specs.Nodes.{blocks_of, bytes_on, told_at}
use Rattle.ix_inode.proofs.{Standing.{on_edit, same_some}, Counted.used_here, Flat.{flat_set, flat_window}}

-- ---- where the inodes begin
first_cons : (s : FsSpec) (ss : List FsSpec) (k : ℕ) → first_inode (s ∷ ss) (suc k) ≡ s.inodes + first_inode ss k
first_cons s ss k =
    let f : FsSpec → ℕ = λ t. t.inodes in
    sum-map f (s ∷ take k ss) ∙ sum_by-cons f s (take k ss) ∙ ap (λ n. s.inodes + n) (sym (sum-map f (take k ss)))

start_at : {A : Type 0} (f : Volume → List A) (vs : List Volume) (k : ℕ) → ((j : ℕ) (v : Volume) → j < length vs → v ≡ get_or vs j v
    → length (f v) ≡ v.spec.inodes) → length (flat_map f (take k vs)) ≡ first_inode (specs vs) k
start_at f [] zero e = refl
start_at f [] (suc k) e = refl
start_at f (v ∷ vs) zero e = refl
start_at f (v ∷ vs) (suc k) e =
    let rest : length (flat_map f (take k vs)) ≡ first_inode (specs vs) k = start_at f vs k (λ j w low is. e (suc j) w (omega arith) is) in
    let here : length (f v) ≡ v.spec.inodes = e 0 v (omega arith) refl in
    omega (arith, length-append (f v) (flat_map f (take k vs)), rest, here, first_cons v.spec (specs vs) k)

start_is : (vs : List Volume) (k : ℕ) → AreVolumes vs → length (all_nodes (take k vs)) ≡ first_inode (specs vs) k
start_is vs k h = start_at (λ v. v.nodes) vs k (λ j v low is. (h.each j v low is).nodes)

bytes_start : (vs : List Volume) (k : ℕ) → AreVolumes vs → length (all_bytes (take k vs)) ≡ first_inode (specs vs) k
bytes_start vs k h = start_at (λ v. v.blocks.files) vs k (λ j v low is. (h.each j v low is).files)

-- a file system's number is below their count
pub low_is : (vs : List Volume) (k : ℕ) (s : Nodes) → nodes_of vs ≡ s → k < length s.fss → k < length vs
low_is vs k s is h = omega (arith, length-map vs (λ (v : Volume). v.spec), ap (λ (t : Nodes). length t.fss) is, h)

-- a file lives, and so does an inode that names a file system
pub file_lives : (o : ℕ) (s : Nodes) → is_file_at o s ≡ true → is_some (at s.nodes o) ≡ true
file_lives o s h = go (at s.nodes o) h
  where
    go : (x : Option Node) → option_map_or (λ y. not y.dir) x false ≡ true → is_some x ≡ true
    go None e = e
    go (Some x) e = refl

pub lives_by : (o : Option Node) (f : ℕ) → option_map (λ x. x.fs) o ≡ Some f → is_some o ≡ true
lives_by None f e = absurd (cc e)
lives_by (Some x) f e = refl

some_is : {A : Type 0} (o : Option A) → is_some o ≡ true → (x : A) × (o ≡ Some x)
some_is None h = absurd (cc h)
some_is (Some x) h = (x, refl)

-- a file system in which one inode, and what it holds, is another
pub record IsEdit (v w : Volume) (n : ℕ) (x : Option Node) (bytes : List ℕ) : Type 0 where
  pub spec : w.spec ≡ v.spec
  pub first : w.first ≡ v.first
  pub nodes : w.nodes ≡ set v.nodes n x
  pub files : w.blocks.files ≡ set v.blocks.files n bytes
  pub blocks : w.blocks.blocks ≡ v.blocks.blocks

-- ---- one file system
module _ (vs : List Volume) (h : AreVolumes vs) (k : ℕ) (v : Volume) (low : k < length vs) (is : v ≡ get_or vs k v) where
  one : IsVolume (specs vs) k v
  one = h.each k v low is

  kept_specs : (w : Volume) → w.spec ≡ v.spec → specs (set vs k w) ≡ specs vs
  kept_specs w e = map-set_same (λ (u : Volume). u.spec) vs k w v (e ∙ ap (λ (u : Volume). u.spec) is)

  -- as many files as inodes
  pub files_there : (n : ℕ) → n < length v.nodes → n < length v.blocks.files
  files_there n there = omega (arith, there, one.nodes, one.files)

  module _ (w : Volume) (n : ℕ) (x : Option Node) (bytes : List ℕ) (edit : IsEdit v w n x bytes) (there : n < length v.nodes) where
    edited : ((y : Node) → x ≡ Some y → (y.fs ≡ k) × (leq y.label v.spec.ceiling ≡ true)) → (x ≡ None → bytes ≡ []) → IsVolume (specs vs) k w
    edited new none =
        let on : AreOn k v.spec.ceiling (set v.nodes n x) (set v.blocks.files n bytes) = on_edit k v.spec.ceiling v.nodes v.blocks.files n x bytes one.on there (files_there n there) new none in
        let inodes : v.spec.inodes ≡ w.spec.inodes = ap (λ (s : FsSpec). s.inodes) (sym edit.spec) in
        record {
          first = edit.first ∙ one.first;
          nodes = ap length edit.nodes ∙ length-set v.nodes n x ∙ one.nodes ∙ inodes;
          files = ap length edit.files ∙ length-set v.blocks.files n bytes ∙ one.files ∙ inodes;
          blocks = edit.blocks ∙ one.blocks ∙ ap (λ (s : FsSpec). s.blocks) (sym edit.spec);
          low = omega (arith, one.low, edit.first, inodes);
          on = rw (edit.spec, edit.nodes, edit.files) on;
        }

    -- the file systems are that still
    laid_edit : ((y : Node) → x ≡ Some y → (y.fs ≡ k) × (leq y.label v.spec.ceiling ≡ true)) → (x ≡ None → bytes ≡ []) → AreVolumes (set vs k w)
    laid_edit new none =
        let same : specs (set vs k w) ≡ specs vs = kept_specs w edit.spec in
        let P : List FsSpec → ℕ → Volume → Type 0 = λ ss j u. IsVolume ss j u in
        record {
          each = λ j u below at_j.
              elim (cases_eq j k) [
                | inl e ↦
                    let here : u ≡ w = at_j ∙ ap (λ i. get_or (set vs k w) i u) e ∙ get_or-set_same vs k w u low in
                    subst (λ ss. P ss j u) (sym same) (subst (λ y. P (specs vs) j y) (sym here) (subst (λ i. P (specs vs) i w) (sym e) (edited new none)))
                | inr ne ↦ subst (λ ss. P ss j u) (sym same) (h.each j u (omega (arith, below, length-set vs k w)) (at_j ∙ get_or-set_other vs k j w u ne))
              ];
          few = omega (arith, h.few, length-set vs k w);
        }

    -- and so it is an edit of all inodes
    view_edit : (o : ℕ) → IsSpot vs k n o → nodes_of (set vs k w) ≡ with_inode o x bytes (nodes_of vs)
    view_edit o spot =
        let read : v ≡ get_or vs k w = get_or_read vs k v low is w in
        let ns : Volume → List (Option Node) = λ u. u.nodes in
        let bs : Volume → List (List ℕ) = λ u. u.blocks.files in
        let n_there : n < length (ns (get_or vs k w)) = subst (λ u. n < length (ns u)) read there in
        let b_there : n < length (bs (get_or vs k w)) = subst (λ u. n < length (bs u)) read (files_there n there) in
        let n_edit : all_nodes (set vs k w) ≡ set (all_nodes vs) (length (all_nodes (take k vs)) + n) x = flat_set ns vs k n w x low n_there (edit.nodes ∙ ap (λ (u : Volume). set u.nodes n x) read) in
        let b_edit : all_bytes (set vs k w) ≡ set (all_bytes vs) (length (all_bytes (take k vs)) + n) bytes =
        flat_set bs vs k n w bytes low b_there (edit.files ∙ ap (λ (u : Volume). set u.blocks.files n bytes) read) in
        let number : length (all_bytes (take k vs)) + n ≡ o = omega (arith, bytes_start vs k h, start_is vs k h, spot.number) in
        let new_nodes : all_nodes (set vs k w) ≡ set (all_nodes vs) o x = n_edit ∙ ap (λ m. set (all_nodes vs) m x) (sym spot.number) in
        let new_bytes : all_bytes (set vs k w) ≡ set (all_bytes vs) o bytes = b_edit ∙ ap (λ m. set (all_bytes vs) m bytes) number in
        λ i. record { fss = kept_specs w edit.spec i; nodes = new_nodes i; bytes = new_bytes i }

  -- ---- what is seen of it
  module _ (n o : ℕ) (spot : IsSpot vs k n o) where
    pub view_at : at (nodes_of vs).nodes o ≡ at v.nodes n
    view_at =
        let ns : Volume → List (Option Node) = λ u. u.nodes in
        let there : n < length (ns (get_or vs k v)) = subst (λ u. n < length (ns u)) is (spot.there v is) in
        ap (λ m. get_or (all_nodes vs) m None) spot.number ∙ get_or-flat_map ns vs k n v None low there ∙ sym (ap (λ (u : Volume). get_or u.nodes n None) is)

    pub view_bytes : bytes_at o (nodes_of vs) ≡ get_or v.blocks.files n []
    view_bytes =
        let bs : Volume → List (List ℕ) = λ u. u.blocks.files in
        let there : n < length (bs (get_or vs k v)) = subst (λ u. n < length (bs u)) is (files_there n (spot.there v is)) in
        let number : o ≡ length (all_bytes (take k vs)) + n = omega (arith, bytes_start vs k h, start_is vs k h, spot.number) in
        ap (λ m. get_or (all_bytes vs) m []) number ∙ get_or-flat_map bs vs k n v [] low there ∙ sym (ap (λ (u : Volume). get_or u.blocks.files n []) is)

  spec_at : (d : FsSpec) → get_or (specs vs) k d ≡ v.spec
  spec_at d = get_or-map (λ (u : Volume). u.spec) vs k v d low ∙ ap (λ (u : Volume). u.spec) (sym is)

  -- its ceiling, and its first inode
  pub view_ceiling : fs_ceiling k (nodes_of vs) ≡ v.spec.ceiling
  view_ceiling = ap (λ (s : FsSpec). s.ceiling) (spec_at _)

  view_first : v.first ≡ first_inode (specs vs) k
  view_first = one.first

  -- what lies in its range
  window : {A : Type 0} (f : Volume → List A) → length (flat_map f (take k vs)) ≡ first_inode (specs vs) k → length (f v) ≡ v.spec.inodes
      → take (fs_at (specs vs) k).inodes (drop (first_inode (specs vs) k) (flat_map f vs)) ≡ f v
  window f start long =
      let count : (fs_at (specs vs) k).inodes ≡ length (f (get_or vs k v)) = ap (λ (s : FsSpec). s.inodes) (spec_at _) ∙ sym long ∙ ap (λ (u : Volume). length (f u)) is in
      ap (λ m. take (fs_at (specs vs) k).inodes (drop m (flat_map f vs))) (sym start) ∙ flat_window f vs k _ v low count ∙ sym (ap f is)

  -- its lowest free number
  pub view_vacant : vacant_in k (nodes_of vs) ≡ option_map (λ n. v.first + n) (lowest_free v.nodes)
  view_vacant =
      ap (λ (t : List (Option Node)). option_map (λ n. first_inode (specs vs) k + n) (lowest_free t)) (window (λ u. u.nodes) (start_is vs k h) one.nodes)
      ∙ ap (λ m. option_map (λ n. m + n) (lowest_free v.nodes)) (sym one.first)

  -- its free blocks
  view_free : free_blocks k (nodes_of vs) ≡ v.blocks.blocks - used v.blocks.files
  view_free =
      let blocks : (fs_at (specs vs) k).blocks ≡ v.blocks.blocks = ap (λ (s : FsSpec). s.blocks) (spec_at _) ∙ sym one.blocks in
      let files : bytes_on k (nodes_of vs) ≡ v.blocks.files = window (λ u. u.blocks.files) (bytes_start vs k h) one.files in
      λ i. blocks i - used (files i)

  -- all its blocks
  pub view_counted : (free : ℕ) → free + used v.blocks.files ≡ v.blocks.blocks → blocks_of k (all_nodes vs) (all_bytes vs) + free_blocks k (nodes_of vs) ≡ (fs_at (specs vs) k).blocks
  view_counted free all =
      let blocks : (fs_at (specs vs) k).blocks ≡ v.blocks.blocks = ap (λ (s : FsSpec). s.blocks) (spec_at _) ∙ sym one.blocks in
      let files : blocks_of k (all_nodes vs) (all_bytes vs) ≡ used v.blocks.files = used_here vs 0 k k v (λ j u there e. let w = h.each j u there e in
      record { on = subst (λ m. AreOn m u.spec.ceiling u.nodes u.blocks.files) (omega arith) w.on; long = w.files ∙ sym w.nodes }) (omega arith) low is in
      omega (arith, blocks, files, view_free, all)

  pub view_space : (n o len : ℕ) → IsSpot vs k n o → is_some (at v.nodes n) ≡ true → has_room n len v.blocks ≡ has_space o len (nodes_of vs)
  view_space n o len spot lives =
      let x = some_is (at v.nodes n) lives in
      let seen : at (nodes_of vs).nodes o ≡ Some x.0 = view_at n o spot ∙ x.1 in
      let free : v.blocks.blocks - used v.blocks.files ≡ option_map_or (λ y. free_blocks y.fs (nodes_of vs)) (at (nodes_of vs).nodes o) 0 = sym view_free
      ∙ ap (λ j. free_blocks j (nodes_of vs)) (sym (one.on.fs n x.0 x.1))
      ∙ ap (λ (p : Option Node). option_map_or (λ y. free_blocks y.fs (nodes_of vs)) p 0) (sym seen) in
      let bytes : get_or v.blocks.files n [] ≡ bytes_at o (nodes_of vs) = sym (view_bytes n o spot) in
      λ i. nat_le (blocks_for len - blocks_for (length (bytes i))) (free i)

  -- what is told of an inode of it
  pub view_told : (n o : ℕ) (x : Node) → IsSpot vs k n o → at v.nodes n ≡ Some x → option_map (told_at o (nodes_of vs)) (at (nodes_of vs).nodes o)
      ≡ Some (told v.spec.ceiling (length (get_or v.blocks.files n [])) x)
  view_told n o x spot at_n =
      let ceiling : fs_ceiling x.fs (nodes_of vs) ≡ v.spec.ceiling = ap (λ m. fs_ceiling m (nodes_of vs)) (one.on.fs n x at_n) ∙ view_ceiling in
      let bytes : bytes_at o (nodes_of vs) ≡ get_or v.blocks.files n [] = view_bytes n o spot in
      ap (option_map (told_at o (nodes_of vs))) (view_at n o spot ∙ at_n) ∙ (λ i. Some (told (ceiling i) (length (bytes i)) x))

  -- a number of it
  spot_here : (n : ℕ) → n < length v.nodes → IsSpot vs k n (v.first + n)
  spot_here n there = record {
    within = low;
    there = λ u at_k. let P : Volume → Type 0 = λ w. n < length w.nodes in subst P (is ∙ get_or_default vs k v u low ∙ sym at_k) there;
    number = ap (λ m. m + n) (view_first ∙ sym (start_is vs k h));
  }

  -- ---- the edits
  -- an inode more
  module _ (dir : Bool) where
    new_edit : (n : ℕ) → at v.nodes n ≡ None → IsEdit v (record v { nodes = put v.nodes n (Some (new_node k dir)) }) n (Some (new_node k dir)) []
    new_edit n vacant = record {
      spec = refl;
      first = refl;
      nodes = refl;
      files = sym (ap (λ bs. set v.blocks.files n bs) (sym (one.on.empty n vacant))
          ∙ set-get_or v.blocks.files n []);
      blocks = refl;
    }

    pub view_made : (r : Option ℕ) → r ≡ lowest_free v.nodes → nodes_of (set vs k (record v { nodes = taken r (new_node k dir) v.nodes }))
        ≡ made (vacant_in k (nodes_of vs)) (new_node k dir) (nodes_of vs)
    view_made None e =
        let none : vacant_in k (nodes_of vs) ≡ None = view_vacant ∙ ap (λ p. option_map (λ n. v.first + n) p) (sym e) in
        let same : set vs k v ≡ vs = ap (λ u. set vs k u) is ∙ set-get_or vs k v in
        ap nodes_of same ∙ ap (λ p. made p (new_node k dir) (nodes_of vs)) (sym none)
    view_made (Some n) e =
        let some : vacant_in k (nodes_of vs) ≡ Some (v.first + n) = view_vacant ∙ ap (λ p. option_map (λ m. v.first + m) p) (sym e) in
        let free = vacant_there v.nodes n (sym e) in
        view_edit _ n _ [] (new_edit n free.1) free.0 (v.first + n) (spot_here n free.0) ∙ ap (λ p. made p (new_node k dir) (nodes_of vs)) (sym some)

    pub laid_made : (r : Option ℕ) → r ≡ lowest_free v.nodes → AreVolumes (set vs k (record v { nodes = taken r (new_node k dir) v.nodes }))
    laid_made None e = subst AreVolumes (sym (ap (λ u. set vs k u) is ∙ set-get_or vs k v)) h
    laid_made (Some n) e =
        let free = vacant_there v.nodes n (sym e) in
        laid_edit _ n _ [] (new_edit n free.1) free.0 (λ y same. let z : new_node k dir ≡ y = same_some same in
        (ap (λ (u : Node). u.fs) (sym z), ap (λ (u : Node). leq u.label v.spec.ceiling) (sym z) ∙ bottom-leq v.spec.ceiling)) (λ none. absurd (cc none))

  module _ (n o : ℕ) (spot : IsSpot vs k n o) where
    there : n < length v.nodes
    there = spot.there v is

    -- an inode in the place of one
    module _ (x : Node) where
      node_edit : IsEdit v (record v { nodes = put v.nodes n (Some x) }) n (Some x) (get_or v.blocks.files n [])
      node_edit = record { spec = refl; first = refl; nodes = refl; files = sym (set-get_or v.blocks.files n []); blocks = refl }

      pub view_node : nodes_of (set vs k (record v { nodes = put v.nodes n (Some x) })) ≡ with_node o x (nodes_of vs)
      view_node =
          let same : set (all_bytes vs) o (get_or v.blocks.files n []) ≡ all_bytes vs = ap (λ bs. set (all_bytes vs) o bs) (sym (view_bytes n o spot)) ∙ set-get_or (all_bytes vs) o [] in
          view_edit _ n (Some x) _ node_edit there o spot ∙ ap (λ bs. record (nodes_of vs) { nodes = put (all_nodes vs) o (Some x); bytes = bs }) same

      pub laid_node : x.fs ≡ k → leq x.label v.spec.ceiling ≡ true → AreVolumes (set vs k (record v { nodes = put v.nodes n (Some x) }))
      laid_node fs below = laid_edit _ n (Some x) _ node_edit there (λ y e. let z : x ≡ y = same_some e in
          (ap (λ (u : Node). u.fs) (sym z) ∙ fs, ap (λ (u : Node). leq u.label v.spec.ceiling) (sym z) ∙ below)) (λ e. absurd (cc e))

    -- one that goes, with its bytes
    gone_edit : IsEdit v (record v { nodes = put v.nodes n None; blocks = with_bytes n [] v.blocks }) n None []
    gone_edit = record { spec = refl; first = refl; nodes = refl; files = refl; blocks = refl }

    pub view_gone : nodes_of (set vs k (record v { nodes = put v.nodes n None; blocks = with_bytes n [] v.blocks })) ≡ without o (nodes_of vs)
    view_gone = view_edit _ n None [] gone_edit there o spot

    pub laid_gone : AreVolumes (set vs k (record v { nodes = put v.nodes n None; blocks = with_bytes n [] v.blocks }))
    laid_gone = laid_edit _ n None [] gone_edit there (λ y e. absurd (cc e)) (λ e. refl)

    -- other bytes of one that stands, where they have space
    module _ (bytes : List ℕ) where
      held_edit : IsEdit v (record v { blocks = with_bytes n bytes v.blocks }) n (at v.nodes n) bytes
      held_edit = record { spec = refl; first = refl; nodes = sym (set-get_or v.nodes n None); files = refl; blocks = refl }

      pub view_held : (b : Bool) (new : Files) → new ≡ (if b then with_bytes n bytes v.blocks else v.blocks)
          → nodes_of (set vs k (record v { blocks = new })) ≡ (if b then holding o bytes (nodes_of vs) else nodes_of vs)
      view_held true new e =
          let same : set (all_nodes vs) o (at v.nodes n) ≡ all_nodes vs = ap (λ x. set (all_nodes vs) o x) (sym (view_at n o spot)) ∙ set-get_or (all_nodes vs) o None in
          ap (λ fs. nodes_of (set vs k (record v { blocks = fs }))) e ∙ view_edit _ n _ bytes held_edit there o spot
          ∙ ap (λ ns. record (nodes_of vs) { nodes = ns; bytes = set (all_bytes vs) o bytes }) same
      view_held false new e = ap (λ fs. nodes_of (set vs k (record v { blocks = fs }))) e ∙ ap (λ u. nodes_of (set vs k u)) is ∙ ap nodes_of (set-get_or vs k v)

      pub laid_held : (b : Bool) (new : Files) → is_some (at v.nodes n) ≡ true → new ≡ (if b then with_bytes n bytes v.blocks else v.blocks) → AreVolumes (set vs k (record v { blocks = new }))
      laid_held true new lives e =
          let kept = laid_edit _ n (at v.nodes n) bytes held_edit there (λ y at_n. (one.on.fs n y at_n, one.on.below n y at_n)) (λ none. absurd (cc (ap is_some (sym none) ∙ lives))) in
          subst (λ fs. AreVolumes (set vs k (record v { blocks = fs }))) (sym e) kept
      laid_held false new lives e = subst (λ fs. AreVolumes (set vs k (record v { blocks = fs }))) (sym e) (subst AreVolumes (sym (ap (λ u. set vs k u) is ∙ set-get_or vs k v)) h)

    -- what lives at a number lives on the file system
    pub lives_here : (s : Nodes) → nodes_of vs ≡ s → is_some (at s.nodes o) ≡ true → is_some (at v.nodes n) ≡ true
    lives_here s e lives = ap is_some (sym (view_at n o spot)) ∙ ap (λ (t : Nodes). is_some (at t.nodes o)) e ∙ lives

    -- and what is kept of it names that file system
    pub fs_here : (f : ℕ) (s : Nodes) → nodes_of vs ≡ s → option_map (λ x. x.fs) (at s.nodes o) ≡ Some f → f ≡ k
    fs_here f s seen e = go (at v.nodes n) refl (ap (option_map (λ (x : Node). x.fs)) (sym (view_at n o spot)) ∙ ap (λ (t : Nodes). option_map (λ x. x.fs) (at t.nodes o)) seen ∙ e)
      where
        go : (x : Option Node) → at v.nodes n ≡ x → option_map (λ (y : Node). y.fs) x ≡ Some f → f ≡ k
        go None at_n e' = absurd (cc e')
        go (Some x) at_n e' = sym (same_some e') ∙ one.on.fs n x at_n

    pub below_spec : (x : Node) → at v.nodes n ≡ Some x → leq x.label v.spec.ceiling ≡ true
    below_spec x at_n = one.on.below n x at_n

    pub below_here : (x : Node) → at v.nodes n ≡ Some x → leq x.label (fs_ceiling x.fs (nodes_of vs)) ≡ true
    below_here x at_n = ap (λ m. leq x.label (fs_ceiling m (nodes_of vs))) (one.on.fs n x at_n) ∙ ap (leq x.label) view_ceiling ∙ one.on.below n x at_n

  -- its numbers fit
  pub fits_here : (r : Option ℕ) → r ≡ lowest_free v.nodes → IfSome r (λ n. v.first + n < 2 ^ 32)
  fits_here None e = tt
  fits_here (Some n) e = omega (arith, one.low, one.nodes, (vacant_there v.nodes n (sym e)).0, low, h.few)

  -- an inode of it that is passed over
  pub passed : (o : ℕ) → length (all_nodes (take k vs)) ≤ o → (v.first ≤ o → v.first + v.spec.inodes ≤ o) → length (all_nodes (take (k + 1) vs)) ≤ o
  passed o before past =
      let ns : Volume → List (Option Node) = λ u. u.nodes in
      let start : v.first ≡ length (all_nodes (take k vs)) = view_first ∙ sym (start_is vs k h) in
      let more : all_nodes (take (k + 1) vs) ≡ all_nodes (take k vs) ++ (v.nodes ++ []) = ap (λ ws. all_nodes ws) (take_more vs k v low)
      ∙ flat_map-append ns (take k vs) (get_or vs k v ∷ []) ∙ ap (λ (u : Volume). all_nodes (take k vs) ++ (u.nodes ++ [])) (sym is) in
      let long : length (all_nodes (take (k + 1) vs)) ≡ length (all_nodes (take k vs)) + length v.nodes = ap length more
      ∙ length-append (all_nodes (take k vs)) (v.nodes ++ []) ∙ ap (λ (t : List (Option Node)). length (all_nodes (take k vs)) + length t)
      (append-nil v.nodes) in
      omega (arith, long, one.nodes, start, past (omega (arith, start, before)))

  -- a number found on it
  pub found_spot : (o n : ℕ) → (o ≡ v.first + n) × (n < v.spec.inodes) → IsSpot vs k n o
  found_spot o n e = subst (λ m. IsSpot vs k n m) (sym e.0) (spot_here n (omega (arith, e.1, one.nodes)))
