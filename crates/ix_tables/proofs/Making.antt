-- Names that come.
use Rattle.std.proofs.Common.{◌≡◌, ◌+◌, ◌^◌, ◌<◌, ◌==◌, Bool, true, false, not, cond, ℕ, List, [], ◌∷◌, ◌++◌, length, Option, Some, None, is_some, option_map}
use Rattle.std.proofs.Common.{slice_set, refl, sym, ap, subst, ◌∙◌, arith, inl, inr, length-set, get_or-set_other, nat_lt}
use Rattle.std.{specs.Option.option_map_or, proofs.lemmas.Bool.Decides.{eqb_tells, nat_tests}}
use Rattle.ix_model.specs.world.{World.{Object, at, put, change, is_dir, is_file}, Directories.with_name, Contents.holds_nothing, Owners.names_in_all}
use Rattle.ix_model.specs.{rows.{Walks.{node, child}, OnPaths.new_object}, declared.{reply.Kind.Kind, config.Limits.Limits}}
use Rattle.ix_model.proofs.tables.Tables.{change_same}
use Rattle.ix_inode.specs.{Nodes.{told_at, changed, made, vacant_in, Nodes}, Shown.{kind_of, is_dir_kind, new_node}, declared.node.{Inode.Inode, Node.Node}}
use Rattle.ix_name.specs.Directories.{Directories, names_of, under, with_more}
use Rattle.ix_open.specs.Table.{OpenTable}
use Rattle.ix_pipe.specs.Pipe.{Pipe}
use Rattle.ix_tables.specs.{Views.vacant_inode, Parts.Parts, Joined.{joined, names_for, HasLinks, HasNames, AreJoined}}
use Rattle.ix_tables.proofs.{Placing.{joined_linked, placed, low, unnamed, at_placed, length_placed, placed_joined, placed_view, room_left, stays}, Renaming.directory_edited}
use Rattle.ix_tables.proofs.{Joining.{inode_edited, directory_there, directory_listed, names_there}, Naming.{room_is, few_times}, Counting.{names_more, times_more}}
use Rattle.ix_tables.proofs.Holding.{is_inode, is_file_there}

module _ {limits : Limits} {nodes : Nodes} {names : Directories} {pipes : List (Option Pipe)} {es : OpenTable} {hs : List ℕ} {now : Parts}
    (j : AreJoined limits nodes names pipes es hs) (view : joined limits nodes names pipes es hs ≡ now)
    (d n : ℕ) (name : List ℕ) (dir : is_dir (node now.objects d) ≡ true) (absent : child (node now.objects d) name ≡ None) (room : nat_lt (names_in_all now.objects) now.limits.names ≡ true) where
  below : d < length nodes.nodes
  below = (directory_there j view d dir).0

  in_lists : d < length names.lists
  in_lists = directory_listed j view d dir

  has_entry : nat_lt 0 names.free ≡ true
  has_entry = room_is limits nodes names pipes es hs now j view ∙ room

  -- the name may be entered
  pub may_enter : (d < length names.lists) × ((nat_lt 0 names.free ≡ true) × (under name (names_of names d) ≡ None))
  may_enter = (in_lists, (has_entry, ap (under name) (sym (names_there j view d dir)) ∙ absent))

  -- ---- the name with so many links, where what stands at its number may have that many and one name more
  module _ {nodes2 : Nodes} {names2 : Directories} (links : ℕ) (set : nodes2 ≡ changed n (λ x. record x { links = links }) nodes)
      (added : names2 ≡ with_more d name n names) (within : n < length nodes.nodes) where
    one_more : (o : ℕ) → names_for o (with_more d name n names).lists ≡ names_for o names.lists + cond (n == o) 1 0
    one_more o = times_more names.lists d n name in_lists o

    still_bare : (o : ℕ) → option_map_or (λ y. y.dir) (at nodes.nodes o) false ≡ false → names_of (with_more d name n names) o ≡ []
    still_bare o none = elim (eqb_tells o d) [
      | inl e ↦ let is_one = (directory_there j view d dir).1 in
          let no = ap (λ k. option_map_or (λ y. y.dir) (at nodes.nodes k) false) (sym e.1) ∙ none in absurd (cc (is_one, no))
      | inr e ↦ get_or-set_other names.lists d o (names_of names d ++ (name, n) ∷ []) [] e.1 ∙ j.bare o none
    ]

    named_joined : HasNames (option_map (λ y. let z : Node = record y { links = links } in z) (at nodes.nodes n)) (names_for n names.lists + 1) → AreJoined limits nodes2 names2 pipes es hs
    named_joined tied =
        let some : 0 < names.free = grind (arith, nat_tests, has_entry) in
        let itself : (n == n) ≡ true = elim (eqb_tells n n) [ inl e ↦ e.0 | inr e ↦ absurd (e.1 refl) ] in
        let here : names_for n names.lists + 1 ≡ names_for n (with_more d name n names).lists = omega (arith, one_more n, ap (λ b. cond {A = ℕ} b 1 0) itself) in
        let others : (o : ℕ) → (o ≡ n → ⊥) → names_for o (with_more d name n names).lists ≡ names_for o names.lists = λ o ne.
        let no : (n == o) ≡ false = elim (eqb_tells n o) [ inl f ↦ absurd (ne (sym f.1)) | inr f ↦ f.0 ] in
        omega (arith, one_more o, ap (λ b. cond {A = ℕ} b 1 0) no) in
        rw (set, added) (joined_linked j (with_more d name n names) n links (length-set names.lists d (names_of names d ++ (name, n) ∷ []))
        (omega (arith, names_more names.lists d n name in_lists, some)) still_bare
        (subst (HasNames (option_map (λ y. let z : Node = record y { links = links } in z) (at nodes.nodes n))) here tied) others)

    named_view : joined limits nodes2 names2 pipes es hs ≡ record now { objects = change now.objects d (with_name name n) }
    named_view =
        let edited = directory_edited limits nodes names names2 pipes es hs now j.lists view d (λ ns. ns ++ (name, n) ∷ []) below (ap (λ (x : Directories). x.lists) added) in
        let mid : Parts = record now { objects = change now.objects d (with_name name n) } in
        inode_edited limits nodes names2 pipes es hs mid edited nodes2 n (λ x. record x { links = links }) (λ x. x) within (λ ns x. refl) set
        ∙ ap (λ t. let w : Parts = record now { objects = t } in w) (change_same (change now.objects d (with_name name n)) n (λ x. x) (λ x h. refl))

  -- ---- one name more for a file
  module _ (file : option_map_or is_file (at now.objects n) false ≡ true) where
    plain : (n < length nodes.nodes) × (option_map_or (λ x. not x.dir) (at nodes.nodes n) false ≡ true)
    plain = (is_inode limits nodes names pipes es hs now (length nodes.nodes) (j, refl) view n file, is_file_there limits nodes names pipes es hs now (length nodes.nodes) (j, refl) view n file)

    pub stands : None ≡ option_map (told_at n nodes) (at nodes.nodes n) → ⊥
    stands is = go (at nodes.nodes n) plain.1 is
      where
        go : (x : Option Node) → option_map_or (λ y. not y.dir) x false ≡ true → None ≡ option_map (told_at n nodes) x → ⊥
        go None e h = cc
        go (Some x) e h = cc

    linked : (x : Node) → at nodes.nodes n ≡ Some x → (x.dir ≡ false) × (x.links ≡ names_for n names.lists)
    linked x e =
        let other : x.dir ≡ false = flip x.dir (ap (λ (o : Option Node). option_map_or (λ y. not y.dir) o false) (sym e) ∙ plain.1) in
        let tied : HasLinks x.dir x.links (names_for n names.lists) = subst (λ (o : Option Node). HasNames o (names_for n names.lists)) e (j.links n) in
        (other, subst (λ b. HasLinks b x.links (names_for n names.lists)) other tied)
      where
        flip : (b : Bool) → not b ≡ true → b ≡ false
        flip true h = cc
        flip false h = refl

    module _ (i : Inode) (is : Some i ≡ option_map (told_at n nodes) (at nodes.nodes n)) where
      links_are : i.links ≡ names_for n names.lists
      links_are = go (at nodes.nodes n) refl is
        where
          go : (x : Option Node) → at nodes.nodes n ≡ x → Some i ≡ option_map (told_at n nodes) x → i.links ≡ names_for n names.lists
          go None e h = cc
          go (Some x) e h = let same : x.links ≡ i.links = cc in sym same ∙ (linked x e).1

      pub few_links : limits.names < 2 ^ 32 → i.links + 1 < 2 ^ 32
      few_links small =
          let some : 0 < names.free = grind (arith, nat_tests, has_entry) in
          omega (arith, links_are, few_times n names.lists, j.entries, small, some)

      module _ {nodes2 : Nodes} {names2 : Directories} (more : nodes2 ≡ changed n (λ x. record x { links = i.links + 1 }) nodes) (added : names2 ≡ with_more d name n names) where
        tied_still : (x : Option Node) → at nodes.nodes n ≡ x → Some i ≡ option_map (told_at n nodes) x
            → HasNames (option_map (λ y. let z : Node = record y { links = i.links + 1 } in z) x) (names_for n names.lists + 1)
        tied_still None e h = cc
        tied_still (Some x) e h =
            let left : i.links + 1 ≡ names_for n names.lists + 1 = ap (λ k. k + 1) links_are in
            subst (λ b. HasLinks b (i.links + 1) (names_for n names.lists + 1)) (sym (linked x e).0) left

        pub linked_joined : AreJoined limits nodes2 names2 pipes es hs
        linked_joined = named_joined (i.links + 1) more added plain.0 (tied_still (at nodes.nodes n) refl is)

        pub linked_view : joined limits nodes2 names2 pipes es hs ≡ record now { objects = change now.objects d (with_name name n) }
        linked_view = named_view (i.links + 1) more added plain.0

-- ---- the name of a new inode
module _ {limits : Limits} {nodes : Nodes} {names : Directories} {pipes : List (Option Pipe)} {es : OpenTable} {hs : List ℕ} {now : Parts}
    (j : AreJoined limits nodes names pipes es hs) (view : joined limits nodes names pipes es hs ≡ now)
    (d n : ℕ) (name : List ℕ) (dir : is_dir (node now.objects d) ≡ true) (absent : child (node now.objects d) name ≡ None) (room : nat_lt (names_in_all now.objects) now.limits.names ≡ true)
    (fs : ℕ) (k : Kind) (vacant : vacant_inode now.fss now.objects fs ≡ Some n) (kind : kind_of (is_dir (new_object k None)) ≡ k)
    {nodes1 : Nodes} (new : nodes1 ≡ made (vacant_in fs nodes) (new_node fs (is_dir_kind k)) nodes) where
  pub new_stands : is_some (at nodes1.nodes n) ≡ true
  new_stands = ap is_some (at_placed j view n fs k vacant kind new)

  module _ {nodes2 : Nodes} {names2 : Directories} (set : nodes2 ≡ changed n (λ x. record x { links = 1 }) nodes1) (added : names2 ≡ with_more d name n names) where
    abbrev between : Parts
    between = placed n fs k now

    placed_long : length nodes1.nodes ≡ length nodes.nodes
    placed_long = length_placed j view n fs k vacant kind new

    pub length_made : length nodes2.nodes ≡ length nodes.nodes
    length_made = rw set (length-set nodes1.nodes n _) ∙ placed_long

    in_nodes : n < length nodes1.nodes
    in_nodes = omega (arith, low j view n fs k vacant kind, placed_long)

    joined1 : AreJoined limits nodes1 names pipes es hs
    joined1 = placed_joined j view n fs k vacant kind new

    view1 : joined limits nodes1 names pipes es hs ≡ between
    view1 = placed_view j view n fs k vacant kind new

    still : node between.objects d ≡ node now.objects d
    still = stays j view n fs k vacant kind d dir

    dir1 : is_dir (node between.objects d) ≡ true
    dir1 = ap is_dir still ∙ dir

    absent1 : child (node between.objects d) name ≡ None
    absent1 = ap (λ (o : Object). child o name) still ∙ absent

    room1 : nat_lt (names_in_all between.objects) between.limits.names ≡ true
    room1 = room_left j view n fs k vacant kind new room

    -- a file has one name then, as a directory has
    one_name : (b : Bool) → HasNames (Some (record (new_node fs b) { links = 1 })) 1
    one_name true = omega arith
    one_name false = refl

    pub made_joined : AreJoined limits nodes2 names2 pipes es hs
    made_joined =
        let none = unnamed j view n fs k vacant kind in
        let here = at_placed j view n fs k vacant kind new in
        let one : HasNames (Some (record (new_node fs (is_dir_kind k)) { links = 1 })) (names_for n names.lists + 1) =
        subst (λ m. HasNames (Some (record (new_node fs (is_dir_kind k)) { links = 1 })) (m + 1)) (sym none) (one_name (is_dir_kind k)) in
        named_joined joined1 view1 d n name dir1 absent1 room1 1 set added in_nodes
        (subst (λ (o : Option Node). HasNames (option_map (λ y. let z : Node = record y { links = 1 } in z) o) (names_for n names.lists + 1)) (sym here) one)

    pub made_view : joined limits nodes2 names2 pipes es hs ≡ record now {
      objects =
          change (put now.objects n (Some (new_object k (Some fs)))) d (with_name name n);
      holdings = slice_set now.holdings n holds_nothing;
    }
    made_view = named_view joined1 view1 d n name dir1 absent1 room1 1 set added in_nodes
