-- The objects that inodes, names and pipes make, by number.
use Rattle.std.proofs.Common.{◌≡◌, ◌+◌, ◌-◌, ◌<◌, ◌≤◌, Bool, true, false, ℕ, zero, suc, List, [], ◌∷◌, ◌++◌, map, length, Option, Some, None, is_some, refl, ap}
use Rattle.std.proofs.Common.{option_map, unwrap_or, slice_index_or, length-append, sym, ◌∙◌, arith, inl, inr}
use Rattle.std.{specs.Option.option_map_or, proofs.lemmas.Bool.cases_lt, proofs.Math.ListN.get_or-map}
use Rattle.std.proofs.lemmas.List.{get_or_append_left, get_or-append_right, set-append_left, set-append_right, map-set, length-map}
use Rattle.ix_model.specs.{world.World.{Object, at, put, change, is_dir, is_pipe, ceiling_of, fs_at}, rows.Walks.{node, nothing}, declared.config.Limits.Limits}
use Rattle.ix_inode.specs.{Nodes.{Nodes, changed, ceiling_at}, Shown.{kind_of, is_dir_kind}, declared.node.Node.Node}
use Rattle.ix_name.specs.Directories.{Directories, names_of}
use Rattle.ix_open.specs.Table.{OpenTable}
use Rattle.ix_pipe.specs.Pipe.{Pipe}
use Rattle.ix_label.specs.Category.{top}
use Rattle.ix_tables.specs.{Parts.Parts, Joined.{object_of, objects_of, object_of_pipe, all_objects, joined, AreJoined}}

abbrev pub Lists : Type 0
Lists = List (List (List ℕ × ℕ))

abbrev pub names_at : Lists → ℕ → List (List ℕ × ℕ)
names_at ls n = slice_index_or ls n []

-- ---- inodes with their names
pub at_objects : (xs : List (Option Node)) (ls : Lists) (n : ℕ) → at (objects_of xs ls) n ≡ option_map (object_of (names_at ls n)) (at xs n)
at_objects [] ls n = refl
at_objects (x ∷ xs) [] zero = refl
at_objects (x ∷ xs) (l ∷ ls) zero = refl
at_objects (x ∷ xs) [] (suc n) = at_objects xs [] n
at_objects (x ∷ xs) (l ∷ ls) (suc n) = at_objects xs ls n

pub length-objects : (xs : List (Option Node)) (ls : Lists) → length (objects_of xs ls) ≡ length xs
length-objects [] ls = refl
length-objects (x ∷ xs) [] = ap suc (length-objects xs [])
length-objects (x ∷ xs) (l ∷ ls) = ap suc (length-objects xs ls)

pub objects_put : (xs : List (Option Node)) (ls : Lists) (n : ℕ) (x : Option Node) → objects_of (put xs n x) ls ≡ put (objects_of xs ls) n (option_map (object_of (names_at ls n)) x)
objects_put [] ls n x = refl
objects_put (y ∷ xs) [] zero x = refl
objects_put (y ∷ xs) (l ∷ ls) zero x = refl
objects_put (y ∷ xs) [] (suc n) x = ap (λ os. option_map (object_of []) y ∷ os) (objects_put xs [] n x)
objects_put (y ∷ xs) (l ∷ ls) (suc n) x = ap (λ os. option_map (object_of l) y ∷ os) (objects_put xs ls n x)

-- two edits after one map are one
mapped : {A B : Type 0} (f : A → B) (h : A → A) (k : B → B) → ((x : A) → f (h x) ≡ k (f x)) → (x : Option A) → option_map f (option_map h x) ≡ option_map k (option_map f x)
mapped f h k same None = refl
mapped f h k same (Some x) = ap Some (same x)

objects_changed : (xs : List (Option Node)) (ls : Lists) (n : ℕ) (h : Node → Node) (k : Object → Object)
    → ((names : List (List ℕ × ℕ)) (x : Node) → object_of names (h x) ≡ k (object_of names x)) → objects_of (change xs n h) ls ≡ change (objects_of xs ls) n k
objects_changed xs ls n h k same =
    objects_put xs ls n (option_map h (at xs n))
    ∙ ap (put (objects_of xs ls) n) (mapped (object_of (names_at ls n)) h k (same (names_at ls n)) (at xs n) ∙ ap (option_map k) (sym (at_objects xs ls n)))

-- ---- the inodes, and the pipes behind them
module _ (nodes : Nodes) (names : Directories) (pipes : List (Option Pipe)) where
  pub at_inode : (n : ℕ) → n < length nodes.nodes → at (all_objects nodes names pipes) n ≡ option_map (object_of (names_of names n)) (at nodes.nodes n)
  at_inode n low = get_or_append_left (objects_of nodes.nodes names.lists) (map (option_map object_of_pipe) pipes) None n (omega (
    arith,
    length-objects nodes.nodes names.lists,
    low,
  )) ∙ at_objects nodes.nodes names.lists n

  pub at_pipe : (first n : ℕ) → first ≡ length nodes.nodes → first ≤ n → at (all_objects nodes names pipes) n ≡ option_map object_of_pipe (at pipes (n - first))
  at_pipe first n is past = get_or-append_right (objects_of nodes.nodes names.lists) (map (option_map object_of_pipe) pipes) first n None
      (length-objects nodes.nodes names.lists ∙ sym is) past ∙ get_or-map (option_map object_of_pipe) pipes (n - first) None

  pub put_inode : (n : ℕ) (x : Option Object) → n < length nodes.nodes → put (all_objects nodes names pipes) n x ≡ put (objects_of nodes.nodes names.lists) n x ++ map (option_map object_of_pipe) pipes
  put_inode n x low = set-append_left (objects_of nodes.nodes names.lists) (map (option_map object_of_pipe) pipes) n x (omega (arith, length-objects nodes.nodes names.lists, low))

  pub put_pipe : (first n : ℕ) (p : Option Pipe) → first ≡ length nodes.nodes → first ≤ n
      → all_objects nodes names (put pipes (n - first) p) ≡ put (all_objects nodes names pipes) n (option_map object_of_pipe p)
  put_pipe first n p is past =
      ap (λ os. objects_of nodes.nodes names.lists ++ os) (map-set (option_map object_of_pipe) pipes (n - first) p)
      ∙ sym (set-append_right (objects_of nodes.nodes names.lists) (map (option_map object_of_pipe) pipes) first n (option_map object_of_pipe p) (length-objects nodes.nodes names.lists ∙ sym is) past)

  pub length-all : length (all_objects nodes names pipes) ≡ length nodes.nodes + length pipes
  length-all = length-append (objects_of nodes.nodes names.lists) (map (option_map object_of_pipe) pipes)
      ∙ ap (λ n. n + length (map (option_map object_of_pipe) pipes)) (length-objects nodes.nodes names.lists)
      ∙ ap (λ n. length nodes.nodes + n) (length-map pipes (option_map object_of_pipe))

  -- what stands and is no pipe is an inode
  pub inode_there : (n : ℕ) → is_some (at (all_objects nodes names pipes) n) ≡ true → is_pipe (node (all_objects nodes names pipes) n) ≡ false
      → (n < length nodes.nodes) × (is_some (at nodes.nodes n) ≡ true)
  inode_there n lives other = elim (cases_lt n (length nodes.nodes)) [
    | inl low ↦ (low, some (at nodes.nodes n) (ap is_some (sym (at_inode n low)) ∙ lives))
    | inr high ↦ absurd (piped (at pipes (n - length nodes.nodes)) (ap is_some (sym (at_pipe (length nodes.nodes) n refl high))
        ∙ lives) (ap (λ o. is_pipe (unwrap_or o nothing)) (sym (at_pipe (length nodes.nodes) n refl high)) ∙ other))
  ]
    where
      some : (x : Option Node) → is_some (option_map (object_of (names_of names n)) x) ≡ true → is_some x ≡ true
      some None h = h
      some (Some x) h = refl

      piped : (p : Option Pipe) → is_some (option_map object_of_pipe p) ≡ true → is_pipe (unwrap_or (option_map object_of_pipe p) nothing) ≡ false → ⊥
      piped None h other = cc
      piped (Some p) h other = cc

  -- ---- a change of an inode
  inode_changed : (n : ℕ) (h : Node → Node) (k : Object → Object) → n < length nodes.nodes
      → ((names : List (List ℕ × ℕ)) (x : Node) → object_of names (h x) ≡ k (object_of names x))
      → all_objects (changed n h nodes) names pipes ≡ change (all_objects nodes names pipes) n k
  inode_changed n h k low same =
      ap (λ os. os ++ map (option_map object_of_pipe) pipes) (objects_changed nodes.nodes names.lists n h k same)
      ∙ sym (put_inode n (option_map k (at (objects_of nodes.nodes names.lists) n)) low)
      ∙ ap (λ o. put (all_objects nodes names pipes) n (option_map k o)) (at_objects nodes.nodes names.lists n ∙ sym (at_inode n low))

  inode_ceiling : (n : ℕ) → n < length nodes.nodes → ceiling_of nodes.fss (node (all_objects nodes names pipes) n) ≡ ceiling_at n nodes
  inode_ceiling n low = ap (λ (o : Option Object). ceiling_of nodes.fss (unwrap_or o nothing)) (at_inode n low) ∙ go (at nodes.nodes n)
    where
      go : (x : Option Node) → ceiling_of nodes.fss (unwrap_or (option_map (object_of (names_of names n)) x) nothing) ≡ option_map_or (λ y. (fs_at nodes.fss y.fs).ceiling) x top
      go None = refl
      go (Some x) = refl

pub inode_edited : (limits : Limits) (nodes : Nodes) (names : Directories) (pipes : List (Option Pipe)) (es : OpenTable) (hs : List ℕ) (now : Parts) → joined limits nodes names pipes es hs ≡ now
    → (nodes2 : Nodes) (n : ℕ) (h : Node → Node) (k : Object → Object) → n < length nodes.nodes
    → ((names : List (List ℕ × ℕ)) (x : Node) → object_of names (h x) ≡ k (object_of names x)) → nodes2 ≡ changed n h nodes
    → joined limits nodes2 names pipes es hs ≡ record now { objects = change now.objects n k }
inode_edited limits nodes names pipes es hs now view nodes2 n h k low same is =
    let v : Parts = joined limits nodes names pipes es hs in
    let moved : joined limits (changed n h nodes) names pipes es hs ≡ record v { objects = change v.objects n k } = λ i. record v { objects = inode_changed nodes names pipes n h k low same i } in
    ap (λ (u : Nodes). joined limits u names pipes es hs) is ∙ moved ∙ ap (λ (u : Parts). let w : Parts = record u { objects = change u.objects n k } in w) view

module _ {limits : Limits} {nodes : Nodes} {names : Directories} {pipes : List (Option Pipe)} {es : OpenTable} {hs : List ℕ} {now : Parts}
    (j : AreJoined limits nodes names pipes es hs) (view : joined limits nodes names pipes es hs ≡ now) where
  pub there : (n : ℕ) → is_some (at now.objects n) ≡ true → is_pipe (node now.objects n) ≡ false → (n < length nodes.nodes) × (is_some (at nodes.nodes n) ≡ true)
  there n lives other = inode_there nodes names pipes n (ap (λ (v : Parts). is_some (at v.objects n)) view ∙ lives) (ap (λ (v : Parts). is_pipe (node v.objects n)) view ∙ other)

  pub edited_there : (nodes2 : Nodes) (n : ℕ) (h : Node → Node) (k : Object → Object) → n < length nodes.nodes
      → ((names : List (List ℕ × ℕ)) (x : Node) → object_of names (h x) ≡ k (object_of names x)) → nodes2 ≡ changed n h nodes
      → joined limits nodes2 names pipes es hs ≡ record now { objects = change now.objects n k }
  edited_there = inode_edited limits nodes names pipes es hs now view

  pub ceiling_there : (n : ℕ) → n < length nodes.nodes → ceiling_of now.fss (node now.objects n) ≡ ceiling_at n nodes
  ceiling_there n low = ap (λ (v : Parts). ceiling_of v.fss (node v.objects n)) (sym view) ∙ inode_ceiling nodes names pipes n low

  pub inode_there_below : (n : ℕ) → n < length nodes.nodes → is_some (at now.objects n) ≡ true → is_some (at nodes.nodes n) ≡ true
  inode_there_below n low lives = go (at nodes.nodes n) (ap is_some (sym (at_inode nodes names pipes n low)) ∙ ap (λ (v : Parts). is_some (at v.objects n)) view ∙ lives)
    where
      go : (x : Option Node) → is_some (option_map (object_of (names_of names n)) x) ≡ true → is_some x ≡ true
      go None h = h
      go (Some x) h = refl

  -- ---- directories
  pub directory_there : (d : ℕ) → is_dir (node now.objects d) ≡ true → (d < length nodes.nodes) × (option_map_or (λ x. x.dir) (at nodes.nodes d) false ≡ true)
  directory_there d dir =
      elim (cases_lt d (length nodes.nodes)) [
        | inl low ↦ (low, go (at nodes.nodes d) (ap (λ (o : Option Object). is_dir (unwrap_or o nothing)) (sym (at_inode nodes names pipes d low)) ∙ before))
        | inr high ↦ absurd (piped (at pipes (d - length nodes.nodes)) (ap (λ (o : Option Object). is_dir (unwrap_or o nothing))
            (sym (at_pipe nodes names pipes (length nodes.nodes) d refl high)) ∙ before))
      ]
    where
      before : is_dir (node (all_objects nodes names pipes) d) ≡ true
      before = ap (λ (v : Parts). is_dir (node v.objects d)) view ∙ dir

      go : (x : Option Node) → is_dir (unwrap_or (option_map (object_of (names_of names d)) x) nothing) ≡ true → option_map_or (λ y. y.dir) x false ≡ true
      go None h = cc
      go (Some x) h = by_kind x.dir h
        where
          by_kind : (b : Bool) → is_dir_kind (kind_of b) ≡ true → b ≡ true
          by_kind true h = refl
          by_kind false h = cc

      piped : (p : Option Pipe) → is_dir (unwrap_or (option_map object_of_pipe p) nothing) ≡ true → ⊥
      piped None h = cc
      piped (Some p) h = cc

  pub names_there : (d : ℕ) → is_dir (node now.objects d) ≡ true → (node now.objects d).names ≡ names_of names d
  names_there d dir =
      let here = directory_there d dir in
      ap (λ (v : Parts). (node v.objects d).names) (sym view) ∙ ap (λ (o : Option Object). (unwrap_or o nothing).names) (at_inode nodes names pipes d here.0) ∙ go (at nodes.nodes d) here.1
    where
      go : (x : Option Node) → option_map_or (λ y. y.dir) x false ≡ true → (unwrap_or (option_map (object_of (names_of names d)) x) nothing).names ≡ names_of names d
      go None h = cc
      go (Some x) h = refl

  pub directory_listed : (d : ℕ) → is_dir (node now.objects d) ≡ true → d < length names.lists
  directory_listed d dir = omega (arith, (directory_there d dir).0, j.lists)

  pub directory_stands : (d : ℕ) → is_dir (node now.objects d) ≡ true → is_some (at nodes.nodes d) ≡ true
  directory_stands d dir = go (at nodes.nodes d) (directory_there d dir).1
    where
      go : (x : Option Node) → option_map_or (λ y. y.dir) x false ≡ true → is_some x ≡ true
      go None h = cc
      go (Some x) h = refl
