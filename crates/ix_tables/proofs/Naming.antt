-- How many names there are, and for each object.
use Rattle.std.proofs.Common.{◌≡◌, ◌≤◌, ◌+◌, ◌==◌, false, ℕ, suc, List, [], ◌∷◌, ◌++◌, map, sum, length, count_by, Option, Some, None, option_map, nat_lt, refl}
use Rattle.std.proofs.Common.{sym, ap, ◌∙◌, arith}
use Rattle.std.{specs.Option.option_map_or, proofs.lemmas.{Bool.Decides.nat_tests, List.Sums.{count_by-le-length, sum-map, sum_by-cons, sum_by-append}}}
use Rattle.ix_model.specs.{world.{World.{Object, at}, Owners.{names_in_all, times_in, times_named}}, declared.config.Limits.Limits}
use Rattle.ix_inode.specs.{Nodes.Nodes, declared.node.Node.Node}
use Rattle.ix_name.specs.Directories.{Directories}
use Rattle.ix_open.specs.Table.{OpenTable}
use Rattle.ix_pipe.specs.Pipe.{Pipe}
use Rattle.ix_tables.specs.{Parts.Parts, Joined.{object_of, objects_of, object_of_pipe, all_objects, joined, names_in, names_for, AreJoined}}
use Rattle.ix_tables.proofs.Joining.{Lists, names_at}

pub sum_more : {X : Type 0} (f : X → ℕ) (x : X) (xs : List X) → sum (map f (x ∷ xs)) ≡ f x + sum (map f xs)
sum_more f x xs = sum-map f (x ∷ xs) ∙ sum_by-cons f x xs ∙ ap (λ n. f x + n) (sym (sum-map f xs))

-- a sum over all objects that counts their names is one over the lists
module _ (f : Option Object → ℕ) (g : List (List ℕ × ℕ) → ℕ) (none : f None ≡ 0) (empty : g [] ≡ 0) (same : (x : Object) → f (Some x) ≡ g x.names) where
  over_inodes : (xs : List (Option Node)) (ls : Lists) → length ls ≡ length xs → ((o : ℕ) → option_map_or (λ x. x.dir) (at xs o) false ≡ false
      → names_at ls o ≡ []) → sum (map f (objects_of xs ls)) ≡ sum (map g ls)
  over_inodes [] [] long bare = refl
  over_inodes [] (l ∷ ls) long bare = let no : suc (length ls) ≡ 0 = long in absurd (omega (arith, no))
  over_inodes (x ∷ xs) [] long bare = let no : 0 ≡ suc (length xs) = long in absurd (omega (arith, no))
  over_inodes (None ∷ xs) (l ∷ ls) long bare =
      let here : g l ≡ 0 = ap g (bare 0 refl) ∙ empty in
      let rest = over_inodes xs ls (omega (arith, long)) (λ o. bare (suc o)) in
      omega (arith, sum_more f None (objects_of xs ls), sum_more g l ls, none, here, rest)
  over_inodes (Some x ∷ xs) (l ∷ ls) long bare =
      let here : f (Some (object_of l x)) ≡ g l = same (object_of l x) in
      let rest = over_inodes xs ls (omega (arith, long)) (λ o. bare (suc o)) in
      omega (arith, sum_more f (Some (object_of l x)) (objects_of xs ls), sum_more g l ls, here, rest)

  over_pipes : (ps : List (Option Pipe)) → sum (map f (map (option_map object_of_pipe) ps)) ≡ 0
  over_pipes [] = refl
  over_pipes (None ∷ ps) = omega (arith, sum_more f None (map (option_map object_of_pipe) ps), none, over_pipes ps)
  over_pipes (Some p ∷ ps) = omega (arith, sum_more f (Some (object_of_pipe p)) (map (option_map object_of_pipe) ps), same (object_of_pipe p), empty, over_pipes ps)

  over_all : (nodes : Nodes) (names : Directories) (pipes : List (Option Pipe)) → length names.lists ≡ length nodes.nodes
      → ((o : ℕ) → option_map_or (λ x. x.dir) (at nodes.nodes o) false ≡ false → names_at names.lists o ≡ [])
      → sum (map f (all_objects nodes names pipes)) ≡ sum (map g names.lists)
  over_all nodes names pipes long bare =
      let os = objects_of nodes.nodes names.lists in
      let ps = map (option_map object_of_pipe) pipes in
      omega (arith, sum-map f (os ++ ps), sum_by-append f os ps, sum-map f os, sum-map f ps, over_inodes nodes.nodes names.lists long bare, over_pipes pipes)

module _ (limits : Limits) (nodes : Nodes) (names : Directories) (pipes : List (Option Pipe)) (es : OpenTable) (hs : List ℕ) (now : Parts)
    (j : AreJoined limits nodes names pipes es hs) (view : joined limits nodes names pipes es hs ≡ now) where
  pub all_names : names_in_all now.objects ≡ names_in names.lists
  all_names = ap (λ (v : Parts). names_in_all v.objects) (sym view) ∙ over_all (λ o. option_map_or (λ y. length y.names) o 0) length refl refl (λ x. refl) nodes names pipes j.lists j.bare

  pub all_times : (o : ℕ) → times_named now.objects o ≡ names_for o names.lists
  all_times o = ap (λ (v : Parts). times_named v.objects o) (sym view) ∙ over_all (times_in o) (count_by (λ e. e.1 == o)) refl refl (λ x. refl) nodes names pipes j.lists j.bare

  pub room_is : nat_lt 0 names.free ≡ nat_lt (names_in_all now.objects) now.limits.names
  room_is =
      let limit : limits.names ≡ now.limits.names = ap (λ (v : Parts). v.limits.names) view in
      let here : names.free + names_in_all now.objects ≡ now.limits.names = omega (arith, all_names, j.entries, limit) in
      rw (← here) (grind (arith, nat_tests))

-- no object has more names than there are
pub few_times : (o : ℕ) (ls : Lists) → names_for o ls ≤ names_in ls
few_times o [] = omega arith
few_times o (l ∷ ls) = omega (arith, sum_more (count_by (λ e. e.1 == o)) l ls, sum_more length l ls, count_by-le-length (λ e. e.1 == o) l, few_times o ls)
