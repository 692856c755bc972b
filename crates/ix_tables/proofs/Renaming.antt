-- Names that come and go.
use Rattle.std.proofs.Common.{◌≡◌, ◌+◌, ◌-◌, ◌^◌, ◌<◌, ◌≤◌, ◌==◌, Bool, true, false, cond, unwrap_or, ℕ, zero, suc, List, [], ◌∷◌, ◌++◌, map, length, set, Some}
use Rattle.std.proofs.Common.{slice_set, Option, None, option_map, refl, sym, ap, subst, ◌∙◌, arith, inl, inr, length-set, get_or-set_other, get_or-set_same}
use Rattle.std.{specs.Option.option_map_or, proofs.lemmas.Bool.Decides.eqb_tells}
use Rattle.ix_model.specs.{world.{World.{Object, at, put, change, is_dir, is_file}, Directories.without_name}, rows.Walks.{node, child, nothing}}
use Rattle.ix_model.specs.declared.{reply.Kind.Kind, config.Limits.Limits}
use Rattle.ix_model.proofs.tables.{Finds.in_table, Tables.{change_same}}
use Rattle.ix_model.specs.declared.reply.Kind.TheVariants as kind
use Rattle.ix_inode.specs.{Nodes.{told_at, changed, Nodes, with_inode}, Shown.kind_of, declared.node.{Inode.Inode, Node.Node}}
use Rattle.ix_name.specs.Directories.{Directories, names_of, under, without, with_fewer, removed, AreDifferent}
use Rattle.ix_open.specs.Table.{OpenTable}
use Rattle.ix_pipe.specs.Pipe.{Pipe}
use Rattle.ix_tables.{specs.Parts.Parts, proofs.Joining.{inode_edited, Lists, names_at, at_objects, at_inode, put_inode, directory_there, directory_listed, names_there}}
use Rattle.ix_tables.{proofs.Counting.{Names, names_fewer, times_fewer}, proofs.Placing.{inode_put, joined_put, joined_linked}}
use Rattle.ix_tables.specs.Joined.{object_of, objects_of, object_of_pipe, all_objects, joined, names_in, names_for, HasLinks, HasNames, AreJoined}

pub objects_named : (xs : List (Option Node)) (ls : Lists) (d : ℕ) (h : Names → Names) → length ls ≡ length xs
    → objects_of xs (set ls d (h (names_at ls d))) ≡ change (objects_of xs ls) d (λ o. record o { names = h o.names })
objects_named [] [] d h long = refl
objects_named [] (l ∷ ls) d h long = let none : suc (length ls) ≡ 0 = long in absurd (omega (arith, none))
objects_named (x ∷ xs) [] d h long = let none : 0 ≡ suc (length xs) = long in absurd (omega (arith, none))
objects_named (None ∷ xs) (l ∷ ls) zero h long = refl
objects_named (Some x ∷ xs) (l ∷ ls) zero h long = refl
objects_named (x ∷ xs) (l ∷ ls) (suc d) h long = ap (λ os. option_map (object_of l) x ∷ os) (objects_named xs ls d h (omega (arith, long)))

-- other names of a directory
pub directory_edited : (limits : Limits) (nodes : Nodes) (names names2 : Directories) (pipes : List (Option Pipe)) (es : OpenTable) (hs : List ℕ) (now : Parts)
    → length names.lists ≡ length nodes.nodes → joined limits nodes names pipes es hs ≡ now
    → (d : ℕ) (h : Names → Names) → d < length nodes.nodes → names2.lists ≡ set names.lists d (h (names_of names d))
    → joined limits nodes names2 pipes es hs ≡ record now { objects = change now.objects d (λ o. record o { names = h o.names }) }
directory_edited limits nodes names names2 pipes es hs now long view d h low is =
    let v : Parts = joined limits nodes names pipes es hs in
    let k : Object → Object = λ o. record o { names = h o.names } in
    let os = ap (λ ls. objects_of nodes.nodes ls ++ map (option_map object_of_pipe) pipes) is
    ∙ ap (λ t. t ++ map (option_map object_of_pipe) pipes) (objects_named nodes.nodes names.lists d h long)
    ∙ sym (put_inode nodes names pipes d (option_map k (at (objects_of nodes.nodes names.lists) d)) low)
    ∙ ap (λ o. put (all_objects nodes names pipes) d (option_map k o)) (at_objects nodes.nodes names.lists d ∙ sym (at_inode nodes names pipes d low)) in
    let moved : joined limits nodes names2 pipes es hs ≡ record v { objects = change v.objects d k } = λ i. record v { objects = os i } in
    moved ∙ ap (λ (u : Parts). let w : Parts = record u { objects = change u.objects d k } in w) view

abbrev is_file_kind : Kind → Bool
is_file_kind k = elim k [ kind.File ↦ true | _ ↦ false ]

module _ {limits : Limits} {nodes : Nodes} {names : Directories} {pipes : List (Option Pipe)} {es : OpenTable} {hs : List ℕ} {now : Parts}
    (j : AreJoined limits nodes names pipes es hs) (view : joined limits nodes names pipes es hs ≡ now)
    (d n : ℕ) (name : List ℕ) (dir : is_dir (node now.objects d) ≡ true) (there : child (node now.objects d) name ≡ Some n)
    (different : AreDifferent (names_of names d)) {names2 : Directories} (left : names2 ≡ removed (under name (names_of names d)) d name names) where
  below : d < length nodes.nodes
  below = (directory_there j view d dir).0

  named : under name (names_of names d) ≡ Some n
  named = ap (under name) (sym (names_there j view d dir)) ∙ there

  left_is : names2 ≡ with_fewer d name names
  left_is = left ∙ ap (λ o. removed o d name names) named

  still_bare : (o : ℕ) → names_of names o ≡ [] → names_of (with_fewer d name names) o ≡ []
  still_bare o none = elim (eqb_tells o d) [
    | inl e ↦ ap (names_of (with_fewer d name names)) e.1 ∙ get_or-set_same names.lists d (without name (names_of names d)) [] (omega (arith, below, j.lists))
        ∙ ap (without name) (ap (names_of names) (sym e.1) ∙ none)
    | inr e ↦ get_or-set_other names.lists d o (without name (names_of names d)) [] e.1 ∙ none
  ]

  in_lists : d < length names.lists
  in_lists = directory_listed j view d dir

  many : (with_fewer d name names).free + names_in (with_fewer d name names).lists ≡ names.free + names_in names.lists
  many = omega (arith, names_fewer names.lists d n name in_lists different named)

  one_fewer : names_for n names.lists ≡ names_for n (with_fewer d name names).lists + 1
  one_fewer =
      let same : (n == n) ≡ true = elim (eqb_tells n n) [ inl e ↦ e.0 | inr e ↦ absurd (e.1 refl) ] in
      omega (arith, times_fewer names.lists d n name in_lists different named n, ap (λ b. cond {A = ℕ} b 1 0) same)

  others : (o : ℕ) → (o ≡ n → ⊥) → names_for o (with_fewer d name names).lists ≡ names_for o names.lists
  others o ne = elim (eqb_tells n o) [
    | inl e ↦ absurd (ne (sym e.1))
    | inr e ↦ omega (arith, times_fewer names.lists d n name in_lists different named o, ap (λ b. cond {A = ℕ} b 1 0) e.0)
  ]

  -- an empty directory goes with its name
  module _ (dir2 : is_dir (node now.objects n) ≡ true) (bare : (node now.objects n).names ≡ []) {nodes2 : Nodes} (gone : nodes2 ≡ with_inode n None [] nodes) where
    empty : names_of names n ≡ []
    empty = sym (names_there j view n dir2) ∙ bare

    once : names_for n names.lists ≤ 1
    once = go (at nodes.nodes n) refl (directory_there j view n dir2).1
      where
        go : (x : Option Node) → at nodes.nodes n ≡ x → option_map_or (λ y. y.dir) x false ≡ true → names_for n names.lists ≤ 1
        go None e h = cc
        go (Some x) e h =
            let tied : HasLinks x.dir x.links (names_for n names.lists) = subst (λ (o : Option Node). HasNames o (names_for n names.lists)) e (j.links n) in
            subst (λ b. HasLinks b x.links (names_for n names.lists)) h tied

    pub directory_joined : AreJoined limits nodes2 names2 pipes es hs
    directory_joined =
        let none : names_for n (with_fewer d name names).lists ≡ 0 = omega (arith, once, one_fewer) in
        let all : AreJoined limits (with_inode n None [] nodes) (with_fewer d name names) pipes es hs =
        joined_put j (with_fewer d name names) n None (directory_there j view n dir2).0
        (length-set names.lists d (without name (names_of names d))) many still_bare empty none others in
        rw (gone, left_is) all

    pub directory_gone : joined limits nodes2 names2 pipes es hs ≡ record now {
      objects = put (change now.objects d (without_name name)) n None;
      holdings =
          slice_set now.holdings n (record { first = []; second = [] });
    }
    directory_gone =
        let edited = directory_edited limits nodes names names2 pipes es hs now j.lists view d (without name) below (ap (λ (x : Directories). x.lists) left_is) in
        inode_put limits nodes nodes2 names2 pipes es hs (record now { objects = change now.objects d (without_name name) }) j.bytes edited n None
        (directory_there j view n dir2).0 gone

  -- a name of a file goes, and a link with it
  module _ (file : is_file (node now.objects n) ≡ true) where
    pub stands : None ≡ option_map (told_at n nodes) (at nodes.nodes n) → ⊥
    stands is = go (at nodes.nodes n) refl is
      where
        go : (x : Option Node) → at nodes.nodes n ≡ x → None ≡ option_map (told_at n nodes) x → ⊥
        go None e h = let none : names_for n names.lists ≡ 0 = subst (λ (o : Option Node). HasNames o (names_for n names.lists)) e (j.links n) in omega (arith, none, one_fewer)
        go (Some x) e h = cc

    -- what stands there is a file
    is_plain : (x : Node) → at nodes.nodes n ≡ Some x → x.dir ≡ false
    is_plain x e =
        let low = in_table nodes.nodes n x e in
        go x.dir (ap (λ (o : Option Object). is_file (unwrap_or o nothing)) (sym (ap (λ (v : Parts). at v.objects n) (sym view)
        ∙ at_inode nodes names pipes n low ∙ ap (option_map (object_of (names_of names n))) e)) ∙ file)
      where
        go : (b : Bool) → is_file_kind (kind_of b) ≡ true → b ≡ false
        go true h = cc
        go false h = refl

    linked : (x : Node) → at nodes.nodes n ≡ Some x → x.links ≡ names_for n names.lists
    linked x e =
        let tied : HasLinks x.dir x.links (names_for n names.lists) = subst (λ (o : Option Node). HasNames o (names_for n names.lists)) e (j.links n) in
        subst (λ b. HasLinks b x.links (names_for n names.lists)) (is_plain x e) tied

    pub some_link : (i : Inode) → Some i ≡ option_map (told_at n nodes) (at nodes.nodes n) → 1 ≤ i.links
    some_link i is = go (at nodes.nodes n) refl is
      where
        go : (x : Option Node) → at nodes.nodes n ≡ x → Some i ≡ option_map (told_at n nodes) x → 1 ≤ i.links
        go None e h = cc
        go (Some x) e h = let same : x.links ≡ i.links = cc in omega (arith, same, linked x e, one_fewer)

    module _ (i : Inode) (is : Some i ≡ option_map (told_at n nodes) (at nodes.nodes n)) {nodes2 : Nodes} (fewer : nodes2 ≡ changed n (λ x. record x { links = i.links - 1 }) nodes) where
      tied_still : (x : Option Node) → at nodes.nodes n ≡ x → Some i ≡ option_map (told_at n nodes) x
          → HasNames (option_map (λ y. let z : Node = record y { links = i.links - 1 } in z) x) (names_for n (with_fewer d name names).lists)
      tied_still None e h = cc
      tied_still (Some x) e h =
          let same : x.links ≡ i.links = cc in
          let left : i.links - 1 ≡ names_for n (with_fewer d name names).lists = omega (arith, same, linked x e, one_fewer) in
          subst (λ b. HasLinks b (i.links - 1) (names_for n (with_fewer d name names).lists)) (sym (is_plain x e)) left

      pub file_joined : AreJoined limits nodes2 names2 pipes es hs
      file_joined = rw (fewer, left_is) (joined_linked j (with_fewer d name names) n (i.links - 1) (length-set names.lists d (without name (names_of names d))) many
          (λ o h. still_bare o (j.bare o h)) (tied_still (at nodes.nodes n) refl is) others)

      pub file_left : joined limits nodes2 names2 pipes es hs ≡ record now { objects = change now.objects d (without_name name) }
      file_left =
          let edited = directory_edited limits nodes names names2 pipes es hs now j.lists view d (without name) below (ap (λ (x : Directories). x.lists) left_is) in
          let mid : Parts = record now { objects = change now.objects d (without_name name) } in
          inode_edited limits nodes names2 pipes es hs mid edited nodes2 n (λ x. record x { links = i.links - 1 }) (λ x. x) (within (at nodes.nodes n) refl is) (λ ns x. refl) fewer
          ∙ ap (λ t. let w : Parts = record now { objects = t } in w) (change_same (change now.objects d (without_name name)) n (λ x. x) (λ x h. refl))
        where
          within : (x : Option Node) → at nodes.nodes n ≡ x → Some i ≡ option_map (told_at n nodes) x → n < length nodes.nodes
          within None e h = cc
          within (Some x) e h = in_table nodes.nodes n x e
