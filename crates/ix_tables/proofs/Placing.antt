-- Another inode, or none, at a number, and a new one.
use Rattle.std.proofs.Common.{◌≡◌, ◌+◌, ◌<◌, ◌^◌, Bool, true, false, ℕ, List, [], ◌++◌, map, length, Option, Some, None, option_map, unwrap_or, slice_set, refl}
use Rattle.std.proofs.Common.{nat_lt, sym, ap, subst, ◌∙◌, arith, inl, inr, length-set, get_or-set_other, get_or-set_same}
use Rattle.std.{specs.Option.option_map_or, proofs.lemmas.{Bool.cases_eq, List.{length-map, map-set, set-append_left}}}
use Rattle.ix_model.proofs.tables.{FreeNumbers.IsFreeInode, Inodes.first_within, Tables.{seen_changed, at_changed}}
use Rattle.ix_model.specs.world.{World.{Object, at, put, is_dir}, Contents.holds_nothing, Numbers.first_pipe, Owners.names_in_all}
use Rattle.ix_model.specs.{rows.{OnPaths.new_object, Walks.{node, nothing}}, declared.{config.Limits.Limits, reply.Kind.Kind}}
use Rattle.ix_inode.specs.{Nodes.{Nodes, changed, with_inode, made, vacant_in}, Shown.{kind_of, is_dir_kind, new_node}, declared.node.Node.Node}
use Rattle.ix_name.specs.Directories.{Directories, names_of}
use Rattle.ix_open.specs.Table.{OpenTable}
use Rattle.ix_pipe.specs.Pipe.{Pipe}
use Rattle.ix_tables.specs.{Parts.Parts, Views.{frame_alone, vacant_inode}}
use Rattle.ix_tables.proofs.{Joining.{objects_put, at_inode, put_inode}, Naming.all_names, Vacant.{vacant_is, vacant_free}}
use Rattle.ix_tables.specs.Joined.{object_of, object_of_pipe, holding_of_bytes, holding_of_pipe, joined, names_in, names_for, HasNames, AreJoined}

-- the tables with that in the place of what stood there, without bytes
pub inode_put : (limits : Limits) (nodes nodes2 : Nodes) (names : Directories) (pipes : List (Option Pipe)) (es : OpenTable) (hs : List ℕ) (now : Parts)
    → length nodes.bytes ≡ length nodes.nodes → joined limits nodes names pipes es hs ≡ now
    → (n : ℕ) (x : Option Node) → n < length nodes.nodes → nodes2 ≡ with_inode n x [] nodes → joined limits nodes2 names pipes es hs ≡ record now {
      objects =
          put now.objects n (option_map (object_of (names_of names n)) x);
      holdings = slice_set now.holdings n holds_nothing;
    }
inode_put limits nodes nodes2 names pipes es hs now long view n x low is =
    let v : Parts = joined limits nodes names pipes es hs in
    let o : Option Object = option_map (object_of (names_of names n)) x in
    let os = ap (λ t. t ++ map (option_map object_of_pipe) pipes) (objects_put nodes.nodes names.lists n x) ∙ sym (put_inode nodes names pipes n o low) in
    let bs = ap (λ t. t ++ map holding_of_pipe pipes) (map-set holding_of_bytes nodes.bytes n [])
    ∙ sym (set-append_left (map holding_of_bytes nodes.bytes) (map holding_of_pipe pipes) n holds_nothing (omega (
      arith,
      length-map nodes.bytes holding_of_bytes,
      long,
      low,
    ))) in
    let moved : joined limits (with_inode n x [] nodes) names pipes es hs ≡ record v {
      objects = put v.objects n o;
      holdings =
          slice_set v.holdings n holds_nothing;
    } = λ i. record v { objects = os i; holdings = bs i } in
    ap (λ (u : Nodes). joined limits u names pipes es hs) is ∙ moved ∙ ap (λ (u : Parts). let w : Parts = record u {
      objects = put u.objects n o;
      holdings =
          slice_set u.holdings n holds_nothing;
    } in w) view

module _ {limits : Limits} {nodes : Nodes} {names : Directories} {pipes : List (Option Pipe)} {es : OpenTable} {hs : List ℕ} (j : AreJoined limits nodes names pipes es hs) where
  -- they are joined still with something else at a number, where the names are as many, and as many are for it as there may be
  joined_anew : (bytes : List (List ℕ)) (names2 : Directories) (n : ℕ) (x : Option Node) → length bytes ≡ length nodes.bytes → length names2.lists ≡ length names.lists
      → names2.free + names_in names2.lists ≡ names.free + names_in names.lists
      → ((o : ℕ) → option_map_or (λ y. y.dir) (at (put nodes.nodes n x) o) false ≡ false → names_of names2 o ≡ []) → HasNames (at (put nodes.nodes n x) n) (names_for n names2.lists)
      → ((o : ℕ) → (o ≡ n → ⊥) → names_for o names2.lists ≡ names_for o names.lists) → AreJoined limits (record nodes { nodes = put nodes.nodes n x; bytes = bytes }) names2 pipes es hs
  joined_anew bytes names2 n x as_many long many bare here others =
      let same : length nodes.nodes ≡ length (put nodes.nodes n x) = sym (length-set nodes.nodes n x) in
      record {
        lists = long ∙ j.lists ∙ same;
        bytes = as_many ∙ j.bytes ∙ same;
        bare = bare;
        entries = many ∙ j.entries;
        links = λ o. elim (cases_eq o n) [
          | inl e ↦ subst (λ k. HasNames (at (put nodes.nodes n x) k) (names_for k names2.lists)) (sym e) here
          | inr ne ↦ subst (λ y. HasNames y (names_for o names2.lists)) (sym (get_or-set_other nodes.nodes n o x None ne)) (subst (HasNames (at nodes.nodes o)) (sym (others o ne)) (j.links o))
        ];
        first = j.first ∙ same;
        pipes = j.pipes;
        opens = j.opens;
        objects = j.objects ∙ ap (λ k. k + length pipes) same;
        homes = j.homes ∙ ap (λ k. k + length pipes) same;
        few = subst (λ k. k + length pipes < 2 ^ 32) same j.few;
        few_names = j.few_names;
      }

  -- an inode, or none, in the place of what has no names as a directory
  pub joined_put : (names2 : Directories) (n : ℕ) (x : Option Node) → n < length nodes.nodes → length names2.lists ≡ length names.lists
      → names2.free + names_in names2.lists ≡ names.free + names_in names.lists
      → ((o : ℕ) → names_of names o ≡ [] → names_of names2 o ≡ []) → names_of names n ≡ [] → HasNames x (names_for n names2.lists)
      → ((o : ℕ) → (o ≡ n → ⊥) → names_for o names2.lists ≡ names_for o names.lists) → AreJoined limits (with_inode n x [] nodes) names2 pipes es hs
  joined_put names2 n x low long many bare empty some = joined_anew _ names2 n x (length-set nodes.bytes n []) long many
      (λ o is. elim (cases_eq o n) [
        | inl e ↦ bare o (ap (names_of names) e ∙ empty)
        | inr ne ↦ bare o (j.bare o (ap (λ (y : Option Node). option_map_or (λ z. z.dir) y false) (sym (get_or-set_other nodes.nodes n o x None ne)) ∙ is))
      ]) (subst (λ y. HasNames y (names_for n names2.lists)) (sym (get_or-set_same nodes.nodes n x None low)) some)

  -- so many links
  pub joined_linked : (names2 : Directories) (n links : ℕ) → length names2.lists ≡ length names.lists → names2.free + names_in names2.lists ≡ names.free + names_in names.lists
      → ((o : ℕ) → option_map_or (λ y. y.dir) (at nodes.nodes o) false ≡ false → names_of names2 o ≡ [])
      → HasNames (option_map (λ y. let z : Node = record y { links = links } in z) (at nodes.nodes n)) (names_for n names2.lists)
      → ((o : ℕ) → (o ≡ n → ⊥) → names_for o names2.lists ≡ names_for o names.lists) → AreJoined limits (changed n (λ x. record x { links = links }) nodes) names2 pipes es hs
  joined_linked names2 n links long many bare here = joined_anew nodes.bytes names2 n _ refl long many
      (λ o h. bare o (sym (seen_changed (λ (x : Option Node). option_map_or (λ y. y.dir) x false) (λ x. record x { links = links }) (λ y. refl) nodes.nodes n o) ∙ h))
      (subst (λ x. HasNames x (names_for n names2.lists)) (sym (at_changed nodes.nodes n (λ x. record x { links = links }))) here)

-- ---- a new inode, which no directory names yet
abbrev pub placed : ℕ → ℕ → Kind → Parts → Parts
placed n fs k t = record t { objects = put t.objects n (Some (new_object k (Some fs))); holdings = slice_set t.holdings n holds_nothing }

module _ {limits : Limits} {nodes : Nodes} {names : Directories} {pipes : List (Option Pipe)} {es : OpenTable} {hs : List ℕ} {now : Parts}
    (j : AreJoined limits nodes names pipes es hs) (view : joined limits nodes names pipes es hs ≡ now)
    (n fs : ℕ) (k : Kind) (vacant : vacant_inode now.fss now.objects fs ≡ Some n) (kind : kind_of (is_dir (new_object k None)) ≡ k) where
  free : IsFreeInode (frame_alone now) fs n
  free = vacant_free now fs n vacant

  pub low : n < length nodes.nodes
  low = let end = ap (λ (v : Parts). first_pipe v.fss) (sym view) ∙ j.first in omega (arith, free.last, first_within now.fss fs, end)

  none : at nodes.nodes n ≡ None
  none = go (at nodes.nodes n) (sym (ap (λ (v : Parts). at v.objects n) (sym view) ∙ at_inode nodes names pipes n low) ∙ free.free)
    where
      go : (x : Option Node) → option_map (object_of (names_of names n)) x ≡ None → x ≡ None
      go None h = refl
      go (Some x) h = cc

  nameless : names_of names n ≡ []
  nameless = j.bare n (ap (λ (o : Option Node). option_map_or (λ y. y.dir) o false) none)

  pub unnamed : names_for n names.lists ≡ 0
  unnamed = subst (λ (o : Option Node). HasNames o (names_for n names.lists)) none (j.links n)

  may_be : (b : Bool) → HasNames (Some (new_node fs b)) 0
  may_be true = omega arith
  may_be false = refl

  same : object_of (names_of names n) (new_node fs (is_dir_kind k)) ≡ new_object k (Some fs)
  same = λ i. record (new_object k (Some fs)) { kind = kind i; names = nameless i }

  module _ {nodes2 : Nodes} (new : nodes2 ≡ made (vacant_in fs nodes) (new_node fs (is_dir_kind k)) nodes) where
    placed_is : nodes2 ≡ with_inode n (Some (new_node fs (is_dir_kind k))) [] nodes
    placed_is = new ∙ ap (λ (o : Option ℕ). made o (new_node fs (is_dir_kind k)) nodes) (sym (vacant_is limits nodes names pipes es hs now j view fs) ∙ vacant)

    pub at_placed : at nodes2.nodes n ≡ Some (new_node fs (is_dir_kind k))
    at_placed = ap (λ (u : Nodes). at u.nodes n) placed_is ∙ get_or-set_same nodes.nodes n (Some (new_node fs (is_dir_kind k))) None low

    pub length_placed : length nodes2.nodes ≡ length nodes.nodes
    length_placed = ap (λ (u : Nodes). length u.nodes) placed_is ∙ length-set nodes.nodes n (Some (new_node fs (is_dir_kind k)))

    pub placed_joined : AreJoined limits nodes2 names pipes es hs
    placed_joined =
        let may : HasNames (Some (new_node fs (is_dir_kind k))) (names_for n names.lists) = subst (HasNames (Some (new_node fs (is_dir_kind k)))) (sym unnamed) (may_be (is_dir_kind k)) in
        subst (λ (u : Nodes). AreJoined limits u names pipes es hs) (sym placed_is) (joined_put j names n
        (Some (new_node fs (is_dir_kind k))) low refl refl (λ o h. h) nameless may (λ o ne. refl))

    pub placed_view : joined limits nodes2 names pipes es hs ≡ placed n fs k now
    placed_view =
        inode_put limits nodes nodes2 names pipes es hs now j.bytes view n (Some (new_node fs (is_dir_kind k))) low placed_is
        ∙ ap (λ (o : Object). let w : Parts = record now { objects = put now.objects n (Some o); holdings = slice_set now.holdings n holds_nothing } in w) same

    pub room_left : nat_lt (names_in_all now.objects) now.limits.names ≡ true → nat_lt (names_in_all (placed n fs k now).objects) now.limits.names ≡ true
    room_left room =
        let many : names_in_all (placed n fs k now).objects ≡ names_in_all now.objects =
        all_names limits nodes2 names pipes es hs (placed n fs k now) placed_joined placed_view
        ∙ sym (all_names limits nodes names pipes es hs now j view) in
        ap (λ m. nat_lt m now.limits.names) many ∙ room

  -- a directory is another, and stays
  pub stays : (d : ℕ) → is_dir (node now.objects d) ≡ true → node (placed n fs k now).objects d ≡ node now.objects d
  stays d dir = ap (λ (o : Option Object). unwrap_or o nothing) (get_or-set_other now.objects n d (Some (new_object k (Some fs))) None other)
    where
      other : d ≡ n → ⊥
      other e = let no : is_dir nothing ≡ true = ap (λ (o : Option Object). is_dir (unwrap_or o nothing)) (sym (ap (at now.objects) e ∙ free.free)) ∙ dir in cc
