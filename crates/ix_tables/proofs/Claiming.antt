-- A claim on an end of a pipe.
use Rattle.std.proofs.Common.{◌≡◌, ◌-◌, ◌<◌, ◌==◌, ℕ, zero, suc, Bool, true, false, not, ◌&&◌, List, [], ◌∷◌, length, Option, Some, None, is_some, option_map}
use Rattle.std.proofs.Common.{unwrap_or, slice_index_or, slice_set, refl, sym, ap, ◌∙◌, arith, if◌then◌else◌}
use Rattle.std.{specs.Option.option_map_or, proofs.lemmas.{Bool.eqb-true, List.set-get_or}}
use Rattle.ix_model.{specs.world.World.{Object, at, put, change, is_pipe, claimed_by_another}, specs.world.Contents.holds_nothing}
use Rattle.ix_model.{specs.rows.Walks.{node, nothing}, specs.declared.config.Limits.Limits, proofs.tables.Tables.at_changed}
use Rattle.ix_inode.specs.Nodes.{Nodes}
use Rattle.ix_name.specs.Directories.{Directories}
use Rattle.ix_open.specs.Table.{OpenTable}
use Rattle.ix_pipe.specs.{Pipe.{Pipe, IsBounded}, Claims.claimant_of}
use Rattle.ix_pipe.specs.Pipe as pipe
use Rattle.ix_pipe.specs.Claims as pipe_claim
use Rattle.ix_tables.specs.{Parts.Parts, Views.{with_claim, claimed, emptied}, Joined.{object_of_pipe, holding_of_pipe, joined, AreJoined}}
use Rattle.ix_tables.proofs.Piping.{is_living, object_there, holding_there, put_there}

-- whether both ends of what stands there are claimed
abbrev both_claimed : Option Object → Bool
both_claimed o = option_map_or (λ x. is_some (at x.claims 0) && is_some (at x.claims 1)) o false

-- the parts after a claim, by whether another has the end, and whether the path is whole then and was before
abbrev after : ℕ → ℕ → ℕ → Parts → Bool → Bool → Bool → Parts
after n end pid v another now before = if another then v else (if now && not before then emptied n (with_claim n end (Some pid) v) else with_claim n end (Some pid) v)

abbrev with_pipe : ℕ → Pipe → Parts → Parts
with_pipe n p v = record v { objects = put v.objects n (Some (object_of_pipe p)); holdings = slice_set v.holdings n p.holding }

module _ (n end pid : ℕ) (v : Parts) (p : Pipe) (object : at v.objects n ≡ Some (object_of_pipe p)) (holding : slice_index_or v.holdings n holds_nothing ≡ p.holding) where
  abbrev claiming : Object → Object
  claiming x = record x { claims = put x.claims end (Some pid) }

  by_tests : claimed n end pid v ≡ after n end pid v (claimed_by_another (object_of_pipe p) end pid) (both_claimed (Some (claiming (object_of_pipe p)))) (both_claimed (Some (object_of_pipe p)))
  by_tests =
      let now : at (change v.objects n claiming) n ≡ Some (claiming (object_of_pipe p)) = at_changed v.objects n claiming ∙ ap (option_map claiming) object in
      λ i. after n end pid v (claimed_by_another (unwrap_or (object i) nothing) end pid) (both_claimed (now i)) (both_claimed (object i))

  same : with_pipe n p v ≡ v
  same =
      let os : put v.objects n (Some (object_of_pipe p)) ≡ v.objects = ap (put v.objects n) (sym object) ∙ set-get_or v.objects n None in
      let hs : slice_set v.holdings n p.holding ≡ v.holdings = ap (slice_set v.holdings n) (sym holding) ∙ set-get_or v.holdings n holds_nothing in
      λ i. record v { objects = os i; holdings = hs i }

  renewed : put v.objects n (Some (claiming (object_of_pipe p))) ≡ change v.objects n claiming
  renewed = ap (λ (o : Option Object). put v.objects n (option_map claiming o)) (sym object)

  half : with_pipe n (pipe.with_claim end (Some pid) p) v ≡ with_claim n end (Some pid) v
  half =
      let hs : slice_set v.holdings n p.holding ≡ v.holdings = ap (slice_set v.holdings n) (sym holding) ∙ set-get_or v.holdings n holds_nothing in
      λ i. record v { objects = renewed i; holdings = hs i }

  whole : with_pipe n (pipe_claim.emptied (pipe.with_claim end (Some pid) p)) v ≡ emptied n (with_claim n end (Some pid) v)
  whole = λ i. record v { objects = renewed i; holdings = slice_set v.holdings n holds_nothing }

  -- by who has the end, and who the other
  decided : (a b : Option ℕ) → at p.claims end ≡ a
      → with_pipe n (pipe_claim.claimed end pid a b p) v ≡ after n end pid v (option_map_or (λ q. not (q == pid)) a false) (is_some b) (is_some a && is_some b)
  decided None None is = half
  decided None (Some q) is = whole
  decided (Some q) b is = go (q == pid) refl (is_some b)
    where
      no_more : (other : Bool) → with_claim n end (Some pid) v ≡ (if other && not other then emptied n (with_claim n end (Some pid) v) else with_claim n end (Some pid) v)
      no_more true = refl
      no_more false = refl

      go : (mine : Bool) → (q == pid) ≡ mine → (other : Bool) → with_pipe n p v ≡ after n end pid v (not mine) other other
      go false e other = same
      go true e other =
          let claim : at p.claims end ≡ Some pid = is ∙ ap (λ k. Some k) (eqb-true q pid e) in
          let cs : put p.claims end (Some pid) ≡ p.claims = ap (put p.claims end) (sym claim) ∙ set-get_or p.claims end None in
          ap (λ (xs : List (Option ℕ)). with_pipe n (record p { claims = xs }) v) (sym cs) ∙ half ∙ no_more other

-- two claims, and a claim on one of the ends
now_is : (cs : List (Option ℕ)) (end pid : ℕ) → length cs ≡ 2 → end < 2 → (is_some (at (put cs end (Some pid)) 0) && is_some (at (put cs end (Some pid)) 1)) ≡ is_some (at cs (1 - end))
now_is [] end pid two low = absurd (cc two)
now_is (c ∷ []) end pid two low = absurd (cc two)
now_is (c ∷ d ∷ e ∷ cs) end pid two low = absurd (omega (arith, two))
now_is (c ∷ d ∷ []) zero pid two low = refl
now_is (None ∷ d ∷ []) (suc zero) pid two low = refl
now_is (Some q ∷ d ∷ []) (suc zero) pid two low = refl
now_is (c ∷ d ∷ []) (suc (suc end)) pid two low = absurd (omega (arith, low))

before_is : (cs : List (Option ℕ)) (end : ℕ) → length cs ≡ 2 → end < 2 → (is_some (at cs 0) && is_some (at cs 1)) ≡ (is_some (at cs end) && is_some (at cs (1 - end)))
before_is [] end two low = absurd (cc two)
before_is (c ∷ []) end two low = absurd (cc two)
before_is (c ∷ d ∷ e ∷ cs) end two low = absurd (omega (arith, two))
before_is (c ∷ d ∷ []) zero two low = refl
before_is (None ∷ None ∷ []) (suc zero) two low = refl
before_is (None ∷ Some r ∷ []) (suc zero) two low = refl
before_is (Some q ∷ None ∷ []) (suc zero) two low = refl
before_is (Some q ∷ Some r ∷ []) (suc zero) two low = refl
before_is (c ∷ d ∷ []) (suc (suc end)) two low = absurd (omega (arith, low))

module _ (l : Limits) (nodes : Nodes) (names : Directories) (ps : List (Option Pipe)) (es : OpenTable) (hs : List ℕ) (now : Parts) (first n : ℕ)
    (inv : AreJoined l nodes names ps es hs × (first ≡ length nodes.nodes)) (view : joined l nodes names ps es hs ≡ now) (is_one : is_pipe (node now.objects n) ≡ true) (end pid : ℕ) where
  abbrev claims_by : Option Pipe → Pipe → Pipe
  claims_by x p = pipe_claim.claimed end pid (claimant_of end x) (claimant_of (1 - end) x) p

  pub claimed_there : ((p : Pipe) → at ps (n - first) ≡ Some p → IsBounded p) → end < 2 → joined l nodes names (change ps (n - first) (claims_by (at ps (n - first)))) es hs ≡ claimed n end pid now
  claimed_there bounded low =
      put_there l nodes names ps es hs now first n inv view is_one (option_map (claims_by (at ps (n - first))) (at ps (n - first)))
      ∙ go (at ps (n - first)) refl (is_living l nodes names ps es hs now first n inv view is_one) (object_there l nodes names ps es hs now first n inv view
      is_one) (holding_there l nodes names ps es hs now first n inv view is_one)
    where
      go : (x : Option Pipe) → at ps (n - first) ≡ x → is_some x ≡ true → at now.objects n ≡ option_map object_of_pipe x → slice_index_or now.holdings n holds_nothing ≡ holding_of_pipe x
          → record now {
            objects = put now.objects n (option_map object_of_pipe (option_map (claims_by x) x));
            holdings =
                slice_set now.holdings n (holding_of_pipe (option_map (claims_by x) x));
          } ≡ claimed n end pid now
      go None is lives object holding = absurd (cc lives)
      go (Some p) is lives object holding =
          let two : length p.claims ≡ 2 = (bounded p is).claims in
          decided n end pid now p object holding (at p.claims end) (at p.claims (1 - end)) refl
          ∙ (λ i. after n end pid now (claimed_by_another (object_of_pipe p) end pid) (sym (now_is p.claims end pid two low) i) (sym (before_is p.claims end two low) i))
          ∙ sym (by_tests n end pid now p object holding)
