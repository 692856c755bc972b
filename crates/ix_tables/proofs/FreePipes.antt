-- Free pipes, and how many objects there can be.
use Rattle.std.proofs.Common.{◌≡◌, ◌+◌, ◌-◌, ◌<◌, ◌≤◌, ℕ, nat_lt, cond, List, [], ◌∷◌, length, map, drop, Option, Some, None, is_none, option_map, slice_set}
use Rattle.std.proofs.Common.{refl, sym, ap, ◌∙◌, arith}
use Rattle.std.{specs.List.position_or_len, proofs.lemmas.List.{length-map, drop_at}}
use Rattle.ix_model.specs.{world.{World.{Object, put, lowest_free}, Numbers.first_pipe, Contents.holds_nothing}, declared.config.Limits.Limits}
use Rattle.ix_model.specs.rows.OnPaths.{new_object}
use Rattle.ix_model.specs.declared.reply.Kind.TheVariants as kind
use Rattle.ix_inode.specs.Nodes.{Nodes}
use Rattle.ix_name.specs.Directories.{Directories}
use Rattle.ix_open.specs.Table.{OpenTable}
use Rattle.ix_pipe.specs.Pipe.{Pipe, made, new_pipe}
use Rattle.ix_tables.specs.{Parts.Parts, Views.vacant_pipe, Joined.{objects_of, object_of_pipe, all_objects, joined, AreJoined}}
use Rattle.ix_tables.proofs.{Joining.{length-objects, length-all}, Piping.piped}

-- the first free place depends on what stands alone
first_map : {A B : Type 0} (f : A → B) (t : List (Option A)) → position_or_len is_none (map (option_map f) t) ≡ position_or_len is_none t
first_map f [] = refl
first_map f (None ∷ t) = refl
first_map f (Some x ∷ t) = ap (λ n. 1 + n) (first_map f t)

free_map : {A B : Type 0} (f : A → B) (t : List (Option A)) → lowest_free (map (option_map f) t) ≡ lowest_free t
free_map f t =
    let long : length (map (option_map f) t) ≡ length t = length-map t (option_map f) in
    let first : position_or_len is_none (map (option_map f) t) ≡ position_or_len is_none t = first_map f t in
    λ i. cond (nat_lt (first i) (long i)) (Some (first i)) None

module _ (l : Limits) (nodes : Nodes) (names : Directories) (ps : List (Option Pipe)) (es : OpenTable) (hs : List ℕ) (now : Parts) (first : ℕ)
    (inv : AreJoined l nodes names ps es hs × (first ≡ length nodes.nodes)) (view : joined l nodes names ps es hs ≡ now) where
  -- an object's number is one on which an open entry can be
  pub within : (n : ℕ) → n < length now.objects → n < es.objects
  within n low = omega (arith, low, ap (λ (v : Parts). length v.objects) view, length-all nodes names ps, inv.0.objects)

  first_is : first_pipe nodes.fss ≡ first
  first_is = inv.0.first ∙ sym inv.1

  pipes_from : drop (first_pipe nodes.fss) (all_objects nodes names ps) ≡ map (option_map object_of_pipe) ps
  pipes_from = drop_at (objects_of nodes.nodes names.lists) (map (option_map object_of_pipe) ps) (first_pipe nodes.fss) (length-objects nodes.nodes names.lists ∙ sym inv.0.first)

  pub vacant_is : option_map (λ n. first + n) (lowest_free ps) ≡ vacant_pipe now.fss now.objects
  vacant_is =
      let free : lowest_free ps ≡ lowest_free (drop (first_pipe nodes.fss) (all_objects nodes names ps)) = sym (free_map object_of_pipe ps)
      ∙ ap (λ (os : List (Option Object)). lowest_free os) (sym pipes_from) in
      (λ i. option_map (λ n. sym first_is i + n) (free i)) ∙ ap (λ (v : Parts). vacant_pipe v.fss v.objects) view

  -- a pipe made under the lowest free number
  pub made_there : (n : ℕ) → vacant_pipe now.fss now.objects ≡ Some n
      → joined l nodes names (made (lowest_free ps) ps) es hs ≡ record now { objects = put now.objects n (Some (new_object kind.Pipe None)); holdings = slice_set now.holdings n holds_nothing }
  made_there n vacant = go (lowest_free ps) (vacant_is ∙ vacant)
    where
      go : (m : Option ℕ) → option_map (λ k. first + k) m ≡ Some n → joined l nodes names (made m ps) es hs ≡ record now {
        objects =
            put now.objects n (Some (new_object kind.Pipe None));
        holdings = slice_set now.holdings n holds_nothing;
      }
      go None is = absurd (cc is)
      go (Some k) is =
          let e : first + k ≡ n = cc in
          let back : n - first ≡ k = omega (arith, e) in
          let past : first ≤ n = omega (arith, e) in
          ap (λ m. joined l nodes names (put ps m (Some new_pipe)) es hs) (sym back)
          ∙ piped nodes names ps first n inv.1 (Some new_pipe) past l es hs inv.0.bytes
          ∙ ap (λ (v : Parts). let u : Parts = record v { objects = put v.objects n (Some (new_object kind.Pipe None)); holdings = slice_set v.holdings n holds_nothing } in u) view
