-- Pipes, which stand behind the inodes.
use Rattle.std.proofs.Common.{◌≡◌, ◌+◌, ◌-◌, ◌<◌, ◌≤◌, ℕ, Bool, true, false, List, [], ◌++◌, length, map, Option, Some, None, is_some, option_map, unwrap_or}
use Rattle.std.proofs.Common.{slice_index_or, slice_set, refl, sym, ap, ◌∙◌, arith, inl, inr}
use Rattle.std.specs.Option.{option_map_or}
use Rattle.std.proofs.lemmas.{Bool.{cases_lt, Decides.nat_tests}, List.{get_or-append_right, set-append_right, map-set, set-get_or, length-map}}
use Rattle.std.proofs.Math.ListN.{get_or-map}
use Rattle.ix_model.specs.{world.{World.{Object, Holding, at, put, change, is_pipe}, Contents.{holds_nothing, side}}, rows.Walks.{node, nothing}}
use Rattle.ix_model.specs.declared.config.Limits.{Limits}
use Rattle.ix_inode.specs.{declared.node.Node.Node, Nodes.Nodes, Shown.kind_of}
use Rattle.ix_name.specs.Directories.{Directories, names_of}
use Rattle.ix_open.specs.Table.{OpenTable}
use Rattle.ix_pipe.specs.{Pipe.{Pipe, waiting, waiting_at, fits, fits_at}, Claims.claimant_of}
use Rattle.ix_tables.{specs.Parts.Parts, proofs.Joining.{at_inode, at_pipe, put_pipe}}
use Rattle.ix_tables.specs.Joined.{object_of, object_of_pipe, holding_of_bytes, holding_of_pipe, all_objects, all_holdings, joined, AreJoined}

-- no inode is a pipe
no_pipe : (names : List (List ℕ × ℕ)) (x : Option Node) → is_pipe (unwrap_or (option_map (object_of names) x) nothing) ≡ false
no_pipe names None = refl
no_pipe names (Some x) = go x.dir
  where
    go : (b : Bool) → is_pipe (record nothing { kind = kind_of b }) ≡ false
    go true = refl
    go false = refl

some_piped : (p : Option Pipe) → is_pipe (unwrap_or (option_map object_of_pipe p) nothing) ≡ true → is_some p ≡ true
some_piped None h = h
some_piped (Some p) h = refl

module _ (nodes : Nodes) (names : Directories) (ps : List (Option Pipe)) (first n : ℕ) (is : first ≡ length nodes.nodes) where
  -- ---- what stands there
  no_pipe_before : n < first → is_pipe (node (all_objects nodes names ps) n) ≡ false
  no_pipe_before low =
      ap (λ (o : Option Object). is_pipe (unwrap_or o nothing)) (at_inode nodes names ps n (omega (arith, is, low)))
      ∙ no_pipe (names_of names n) (at nodes.nodes n)

  past_inodes : is_pipe (node (all_objects nodes names ps) n) ≡ true → first ≤ n
  past_inodes h = elim (cases_lt n first) [
    | inl low ↦ absurd (cc (no_pipe_before low, h))
    | inr past ↦ past
  ]

  pipe_lives : is_pipe (node (all_objects nodes names ps) n) ≡ true → is_some (at ps (n - first)) ≡ true
  pipe_lives h = some_piped (at ps (n - first)) (ap (λ (o : Option Object). is_pipe (unwrap_or o nothing)) (sym (at_pipe nodes names ps first n is (past_inodes h))) ∙ h)

  held_behind : length nodes.bytes ≡ length nodes.nodes → first ≤ n → slice_index_or (all_holdings nodes ps) n holds_nothing ≡ holding_of_pipe (at ps (n - first))
  held_behind bytes past =
      get_or-append_right (map holding_of_bytes nodes.bytes) (map holding_of_pipe ps) first n holds_nothing (length-map nodes.bytes holding_of_bytes ∙ bytes ∙ sym is) past
      ∙ get_or-map holding_of_pipe ps (n - first) None

  -- ---- another pipe, or none, in its place
  module _ (y : Option Pipe) (past : first ≤ n) where
    holdings_behind : length nodes.bytes ≡ length nodes.nodes → all_holdings nodes (put ps (n - first) y) ≡ slice_set (all_holdings nodes ps) n (holding_of_pipe y)
    holdings_behind bytes =
        ap (λ (hs : List Holding). map holding_of_bytes nodes.bytes ++ hs) (map-set holding_of_pipe ps (n - first) y)
        ∙ sym (set-append_right (map holding_of_bytes nodes.bytes) (map holding_of_pipe ps) first n (holding_of_pipe y) (length-map nodes.bytes holding_of_bytes ∙ bytes ∙ sym is) past)

    pub piped : (l : Limits) (es : OpenTable) (hs : List ℕ) → length nodes.bytes ≡ length nodes.nodes
        → joined l nodes names (put ps (n - first) y) es hs ≡ record (joined l nodes names ps es hs) {
          objects =
              put (all_objects nodes names ps) n (option_map object_of_pipe y);
          holdings = slice_set (all_holdings nodes ps) n (holding_of_pipe y);
        }
    piped l es hs bytes = λ i. record (joined l nodes names ps es hs) { objects = put_pipe nodes names ps first n y is past i; holdings = holdings_behind bytes i }

-- ---- what is told of a pipe that lives
claimant_is : (x : Option Pipe) (end : ℕ) → is_some x ≡ true → claimant_of end x ≡ at (unwrap_or (option_map object_of_pipe x) nothing).claims end
claimant_is None end h = absurd (cc h)
claimant_is (Some p) end h = refl

waiting_is : (x : Option Pipe) (end : ℕ) → is_some x ≡ true → option_map_or (waiting end) x [] ≡ side end (holding_of_pipe x)
waiting_is None end h = absurd (cc h)
waiting_is (Some p) end h = refl

fits_is : (x : Option Pipe) (end : ℕ) (bytes : List ℕ) → is_some x ≡ true → length (side end (holding_of_pipe x)) + length bytes ≤ 4096 → option_map_or (fits end bytes) x false ≡ true
fits_is None end bytes h room = absurd (cc h)
fits_is (Some p) end bytes h room = grind (arith, nat_tests, room)

both : (h : Pipe → Pipe) (k : Object → Object) → ((p : Pipe) → object_of_pipe (h p) ≡ k (object_of_pipe p)) → (x : Option Pipe)
    → option_map object_of_pipe (option_map h x) ≡ option_map k (option_map object_of_pipe x)
both h k same None = refl
both h k same (Some p) = ap (λ (o : Object). Some o) (same p)

filled : (h : Pipe → Pipe) (u : Holding → Holding) → ((p : Pipe) → (h p).holding ≡ u p.holding) → (x : Option Pipe) → is_some x ≡ true → holding_of_pipe (option_map h x) ≡ u (holding_of_pipe x)
filled h u same None lives = absurd (cc lives)
filled h u same (Some p) lives = same p

-- what stands behind the inodes is a pipe
pub pipe_past : (l : Limits) (nodes : Nodes) (names : Directories) (ps : List (Option Pipe)) (es : OpenTable) (hs : List ℕ) (now : Parts)
    → joined l nodes names ps es hs ≡ now → (first n : ℕ) → first ≡ length nodes.nodes → first ≤ n
    → is_some (at now.objects n) ≡ true → is_pipe (node now.objects n) ≡ true
pipe_past l nodes names ps es hs now view first n is past lives = ap (λ (o : Option Object). is_pipe (unwrap_or o nothing)) here ∙ go (at ps (n - first)) (ap is_some (sym here) ∙ lives)
  where
    here : at now.objects n ≡ option_map object_of_pipe (at ps (n - first))
    here = ap (λ (v : Parts). at v.objects n) (sym view) ∙ at_pipe nodes names ps first n is past

    go : (p : Option Pipe) → is_some (option_map object_of_pipe p) ≡ true → is_pipe (unwrap_or (option_map object_of_pipe p) nothing) ≡ true
    go None h = cc
    go (Some p) h = refl

-- ---- as the parts show it
module _ (l : Limits) (nodes : Nodes) (names : Directories) (ps : List (Option Pipe)) (es : OpenTable) (hs : List ℕ) (now : Parts) (first n : ℕ)
    (inv : AreJoined l nodes names ps es hs × (first ≡ length nodes.nodes)) (view : joined l nodes names ps es hs ≡ now) (pipe : is_pipe (node now.objects n) ≡ true) where
  piped_there : is_pipe (node (all_objects nodes names ps) n) ≡ true
  piped_there = ap (λ (v : Parts). is_pipe (node v.objects n)) view ∙ pipe

  pub is_past : first ≤ n
  is_past = past_inodes nodes names ps first n inv.1 piped_there

  pub is_living : is_some (at ps (n - first)) ≡ true
  is_living = pipe_lives nodes names ps first n inv.1 piped_there

  pub object_there : at now.objects n ≡ option_map object_of_pipe (at ps (n - first))
  object_there = ap (λ (v : Parts). at v.objects n) (sym view) ∙ at_pipe nodes names ps first n inv.1 is_past

  pub holding_there : slice_index_or now.holdings n holds_nothing ≡ holding_of_pipe (at ps (n - first))
  holding_there = ap (λ (v : Parts). slice_index_or v.holdings n holds_nothing) (sym view) ∙ held_behind nodes names ps first n inv.1 inv.0.bytes is_past

  pub claims_there : (end : ℕ) → claimant_of end (at ps (n - first)) ≡ at (node now.objects n).claims end
  claims_there end = claimant_is (at ps (n - first)) end is_living ∙ ap (λ (o : Option Object). at (unwrap_or o nothing).claims end) (sym object_there)

  pub waits_there : (end : ℕ) → waiting_at ps (n - first) end ≡ side end (slice_index_or now.holdings n holds_nothing)
  waits_there end = waiting_is (at ps (n - first)) end is_living ∙ ap (side end) (sym holding_there)

  pub fits_there : (end : ℕ) (bytes : List ℕ) → length (side end (slice_index_or now.holdings n holds_nothing)) + length bytes ≤ 4096 → fits_at ps (n - first) end bytes ≡ true
  fits_there end bytes room = fits_is (at ps (n - first)) end bytes is_living (omega (arith, room, ap (λ (h : Holding). length (side end h)) holding_there))

  -- another pipe in its place
  pub put_there : (y : Option Pipe) → joined l nodes names (put ps (n - first) y) es hs ≡ record now {
    objects =
        put now.objects n (option_map object_of_pipe y);
    holdings = slice_set now.holdings n (holding_of_pipe y);
  }
  put_there y = piped nodes names ps first n inv.1 y is_past l es hs inv.0.bytes ∙ ap (λ (v : Parts). let u : Parts =
      record v { objects = put v.objects n (option_map object_of_pipe y); holdings = slice_set v.holdings n (holding_of_pipe y) } in u) view

  -- the pipe changed, without what it holds
  pub changed_there : (h : Pipe → Pipe) (k : Object → Object) → ((p : Pipe) → object_of_pipe (h p) ≡ k (object_of_pipe p)) → ((p : Pipe) → (h p).holding ≡ p.holding)
      → joined l nodes names (change ps (n - first) h) es hs ≡ record now { objects = change now.objects n k }
  changed_there h k same kept =
      let os : option_map object_of_pipe (option_map h (at ps (n - first))) ≡ option_map k (at now.objects n) = both h k same (at ps (n - first)) ∙ ap (option_map k) (sym object_there) in
      let held : slice_set now.holdings n (holding_of_pipe (option_map h (at ps (n - first)))) ≡ now.holdings =
      ap (slice_set now.holdings n) (filled h (λ u. u) kept (at ps (n - first)) is_living ∙ sym holding_there) ∙ set-get_or now.holdings n holds_nothing in
      put_there (option_map h (at ps (n - first))) ∙ (λ i. record now { objects = put now.objects n (os i); holdings = held i })

  -- what it holds changed, and nothing else
  pub filled_there : (h : Pipe → Pipe) (u : Holding → Holding) → ((p : Pipe) → object_of_pipe (h p) ≡ object_of_pipe p) → ((p : Pipe) → (h p).holding ≡ u p.holding)
      → joined l nodes names (change ps (n - first) h) es hs ≡ record now { holdings = slice_set now.holdings n (u (slice_index_or now.holdings n holds_nothing)) }
  filled_there h u same fills =
      let os : put now.objects n (option_map object_of_pipe (option_map h (at ps (n - first)))) ≡ now.objects =
      ap (put now.objects n) (both h (λ o. o) same (at ps (n - first)) ∙ itself (option_map object_of_pipe (at ps (n - first))) ∙ sym object_there) ∙ set-get_or now.objects n None in
      let held : holding_of_pipe (option_map h (at ps (n - first))) ≡ u (slice_index_or now.holdings n holds_nothing) = filled h u fills (at ps (n - first)) is_living ∙ ap u (sym holding_there) in
      put_there (option_map h (at ps (n - first))) ∙ (λ i. record now { objects = os i; holdings = slice_set now.holdings n (held i) })
    where
      itself : (o : Option Object) → option_map (λ x. x) o ≡ o
      itself None = refl
      itself (Some o) = refl
