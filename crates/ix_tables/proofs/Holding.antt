-- What files hold, before what pipes hold.
use Rattle.std.proofs.Common.{◌≡◌, ◌-◌, ◌<◌, ℕ, Bool, true, false, not, List, [], ◌++◌, length, map, Option, Some, None, option_map, slice_index_or, slice_set}
use Rattle.std.proofs.Common.{refl, sym, ap, ◌∙◌, arith, inl, inr}
use Rattle.std.specs.Option.{option_map_or}
use Rattle.std.proofs.{lemmas.{Bool.cases_lt, List.{get_or_append_left, set-append_left, map-set, length-map}}, Math.ListN.get_or-map}
use Rattle.ix_model.specs.{world.{World.{Object, Holding, at, is_file}, Contents.{holds_nothing, with_side}}, declared.config.Limits.Limits}
use Rattle.ix_inode.specs.{declared.node.{Node.Node, Inode.Inode}, Nodes.{Nodes, is_file_at, bytes_at, told_at, holding}, Shown.kind_of}
use Rattle.ix_name.specs.Directories.{Directories, names_of}
use Rattle.ix_open.specs.Table.{OpenTable}
use Rattle.ix_pipe.specs.Pipe.{Pipe}
use Rattle.ix_tables.specs.{Parts.Parts, Joined.{object_of, object_of_pipe, holding_of_bytes, holding_of_pipe, all_holdings, joined, AreJoined}}
use Rattle.ix_tables.proofs.Joining.{at_inode, at_pipe}

pipe_no_file : (p : Option Pipe) → option_map_or is_file (option_map object_of_pipe p) false ≡ false
pipe_no_file None = refl
pipe_no_file (Some p) = refl

file_kind : (names : List (List ℕ × ℕ)) (x : Option Node) → option_map_or is_file (option_map (object_of names) x) false ≡ true → option_map_or (λ y. not y.dir) x false ≡ true
file_kind names None h = h
file_kind names (Some x) h = go x.dir h
  where
    go : (b : Bool) → is_file (record (object_of names x) { kind = kind_of b }) ≡ true → not b ≡ true
    go true h = absurd (cc h)
    go false h = refl

module _ (l : Limits) (nodes : Nodes) (names : Directories) (ps : List (Option Pipe)) (es : OpenTable) (hs : List ℕ) (now : Parts) (first : ℕ)
    (inv : AreJoined l nodes names ps es hs × (first ≡ length nodes.nodes)) (view : joined l nodes names ps es hs ≡ now) (n : ℕ) (file : option_map_or is_file (at now.objects n) false ≡ true) where
  pub is_inode : n < first
  is_inode = elim (cases_lt n first) [
    | inl low ↦ low
    | inr past ↦
        let here : at now.objects n ≡ option_map object_of_pipe (at ps (n - first)) = ap (λ (v : Parts). at v.objects n) (sym view) ∙ at_pipe nodes names ps first n inv.1 past in
        absurd (cc (file, ap (λ (o : Option Object). option_map_or is_file o false) here, pipe_no_file (at ps (n - first))))
  ]

  pub inode_there : at now.objects n ≡ option_map (object_of (names_of names n)) (at nodes.nodes n)
  inode_there = ap (λ (v : Parts). at v.objects n) (sym view) ∙ at_inode nodes names ps n (omega (arith, is_inode, inv.1))

  pub is_file_there : is_file_at n nodes ≡ true
  is_file_there = file_kind (names_of names n) (at nodes.nodes n) (ap (λ (o : Option Object). option_map_or is_file o false) (sym inode_there) ∙ file)

  low_bytes : n < length nodes.bytes
  low_bytes = omega (arith, is_inode, inv.0.bytes, inv.1)

  held_there : slice_index_or now.holdings n holds_nothing ≡ holding_of_bytes (bytes_at n nodes)
  held_there =
      ap (λ (v : Parts). slice_index_or v.holdings n holds_nothing) (sym view)
      ∙ get_or_append_left (map holding_of_bytes nodes.bytes) (map holding_of_pipe ps) holds_nothing n (omega (arith, length-map nodes.bytes holding_of_bytes, low_bytes))
      ∙ get_or-map holding_of_bytes nodes.bytes n []

  pub bytes_there : bytes_at n nodes ≡ (slice_index_or now.holdings n holds_nothing).first
  bytes_there = ap (λ (h : Holding). h.first) (sym held_there)

  -- what is told of how many there are
  pub size_there : (r : Option Inode) → r ≡ option_map (told_at n nodes) (at nodes.nodes n) → option_map_or (λ x. x.size) r 0 ≡ length (slice_index_or now.holdings n holds_nothing).first
  size_there r is = ap (λ (s : Option Inode). option_map_or (λ x. x.size) s 0) is ∙ go (at nodes.nodes n) refl ∙ ap (λ (bs : List ℕ). length bs) bytes_there
    where
      go : (x : Option Node) → at nodes.nodes n ≡ x → option_map_or (λ y. y.size) (option_map (told_at n nodes) x) 0 ≡ length (bytes_at n nodes)
      go None e = absurd (cc (is_file_there, ap (λ (o : Option Node). option_map_or (λ y. not y.dir) o false) e))
      go (Some x) e = refl

  -- other bytes in the file
  pub written_there : (h : List ℕ → List ℕ) → joined l (holding n (h (bytes_at n nodes)) nodes) names ps es hs
      ≡ record now { holdings = slice_set now.holdings n (with_side 0 (h (slice_index_or now.holdings n holds_nothing).first) (slice_index_or now.holdings n holds_nothing)) }
  written_there h =
      let held : all_holdings (holding n (h (bytes_at n nodes)) nodes) ps ≡ slice_set (all_holdings nodes ps) n (holding_of_bytes (h (bytes_at n nodes))) =
      ap (λ (ks : List Holding). ks ++ map holding_of_pipe ps) (map-set holding_of_bytes nodes.bytes n (h (bytes_at n nodes)))
      ∙ sym (set-append_left (map holding_of_bytes nodes.bytes) (map holding_of_pipe ps) n (holding_of_bytes (h (bytes_at n nodes))) (omega (
        arith,
        length-map nodes.bytes holding_of_bytes,
        low_bytes,
      ))) in
      (λ i. record (joined l nodes names ps es hs) { holdings = held i })
      ∙ ap (λ (v : Parts). let u : Parts = record v { holdings = slice_set v.holdings n (holding_of_bytes (h (bytes_at n nodes))) } in u) view
      ∙ ap (λ (k : Holding). let u : Parts = record now { holdings = slice_set now.holdings n (with_side 0 (h k.first) k) } in u) (sym held_there)
