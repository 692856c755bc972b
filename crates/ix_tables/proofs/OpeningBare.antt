-- The tables before any object line show the world before any.
use Rattle.std.proofs.Common.{◌≡◌, ◌+◌, ◌-◌, ◌<◌, ◌≤◌, ◌==◌, ℕ, zero, suc, true, false, cond, List, [], ◌∷◌, ◌++◌, length, map, sum, drop, replicate, count_by}
use Rattle.std.proofs.Common.{Option, Some, None, option_map, refl, sym, ap, ◌∙◌, arith, length-append, length-set}
use Rattle.std.{specs.List.{list_all, range_with_len}, proofs.lemmas.Bool.Decides.nat_tests, proofs.lemmas.List.FromFn.length-range_with_len}
use Rattle.std.{proofs.lemmas.List.{length-replicate, length-map, map-append, replicate-append-replicate}, proofs.lemmas.List.Sums.sum_by-cons}
use Rattle.ix_model.specs.world.{World.{Object, Open, Process, change}, Contents.holds_nothing, Numbers.{first_inode, first_pipe}, Owners.is_at}
use Rattle.ix_model.specs.{rows.OnPaths.is_home, opening.{Opening.{root_of, mounts, process_of, bare_objects, bare_world}, Valid.fs_fits}}
use Rattle.ix_model.specs.declared.config.{Config.Config, FsSpec.FsSpec, ProcSpec.ProcSpec}
use Rattle.ix_model.specs.opening.Opening as opening
use Rattle.ix_model.proofs.opening.Bare.{roots, length-roots}
use Rattle.ix_inode.specs.{Nodes.{bare, opened}, Shown.new_node, declared.node.Node.Node}
use Rattle.ix_name.specs.Directories.{Directories}
use Rattle.ix_open.specs.Table.{OpenTable, none_open}
use Rattle.ix_pipe.specs.Pipe.{Pipe}
use Rattle.ix_tables.specs.{Parts.{named_by, owners_of, homes_of, parts_of}, Opening.{roots_named, homes_at_first}}
use Rattle.ix_tables.proofs.{Naming.sum_more, Renaming.objects_named}
use Rattle.ix_tables.specs.Joined.{object_of, objects_of, object_of_pipe, holding_of_bytes, holding_of_pipe, all_objects, all_holdings, joined}

map_repeated : {A B : Type 0} (f : A → B) (n : ℕ) (x : A) → map f (replicate n x) ≡ replicate n (f x)
map_repeated f zero x = refl
map_repeated f (suc n) x = ap (λ ys. f x ∷ ys) (map_repeated f n x)

-- ---- objects
-- inodes without names
pub without_names : (n : ℕ) (xs : List (Option Node)) → objects_of xs (replicate n []) ≡ map (option_map (object_of [])) xs
without_names n [] = refl
without_names zero (x ∷ xs) = ap (λ os. option_map (object_of []) x ∷ os) (without_names zero xs)
without_names (suc n) (x ∷ xs) = ap (λ os. option_map (object_of []) x ∷ os) (without_names n xs)

pub bare_as : (k : ℕ) (fss : List FsSpec) → map (option_map (object_of [])) (bare k fss) ≡ opening.bare k fss
bare_as k [] = refl
bare_as k (s ∷ fss) =
    map-append (option_map (object_of [])) (Some (new_node k true) ∷ replicate (s.inodes - 1) None) (bare (suc k) fss)
    ∙ (λ i. (Some (root_of k) ∷ map_repeated (option_map (object_of [])) (s.inodes - 1) None i) ++ bare_as (suc k) fss i)

pub length-bare : (fss : List FsSpec) → list_all fs_fits fss ≡ true → length (bare 0 fss) ≡ first_inode fss (length fss)
length-bare fss fit =
    let same : length (opening.bare 0 fss) ≡ length (bare 0 fss) = ap length (sym (bare_as 0 fss)) ∙ length-map (bare 0 fss) (option_map (object_of [])) in
    omega (arith, same, length-roots 0 fss 0 fit, length-append (opening.bare 0 fss) (replicate 0 None))

change_front : {A : Type 0} (xs ys : List (Option A)) (h : A → A) → 0 < length xs → change xs 0 h ++ ys ≡ change (xs ++ ys) 0 h
change_front [] ys h some = absurd (omega (arith, some))
change_front (x ∷ xs) ys h some = refl

-- ---- counts
pub map_to : {A B : Type 0} (f : A → B) (y : B) → ((x : A) → f x ≡ y) → (xs : List A) → map f xs ≡ replicate (length xs) y
map_to f y all [] = refl
map_to f y all (x ∷ xs) = λ i. all x i ∷ map_to f y all xs i

none_at : (e n : ℕ) → count_by (is_at e) (replicate n None) ≡ 0
none_at e zero = refl
none_at e (suc n) = omega (arith, sum_by-cons (λ (d : Option ℕ). cond {A = ℕ} (is_at e d) 1 0) None (replicate n None), none_at e n)

abbrev started : List ProcSpec → List (Option Process)
started ps = map (λ p. Some (process_of p)) ps

nobody_owns : (e : ℕ) (ps : List ProcSpec) → sum (map (named_by e) (started ps)) ≡ 0
nobody_owns e [] = refl
nobody_owns e (p ∷ ps) = omega (arith, sum_more (named_by e) (Some (process_of p)) (started ps), none_at e 32, nobody_owns e ps)

owners_none : (n : ℕ) (ps : List ProcSpec) → owners_of n (None ∷ started ps) ≡ replicate n 0
owners_none n ps =
    let each : (e : ℕ) → sum (map (named_by e) (None ∷ started ps)) ≡ 0 = λ e. omega (arith, sum_more (named_by e) None (started ps), nobody_owns e ps) in
    map_to (λ e. sum (map (named_by e) (None ∷ started ps))) 0 each (range_with_len 0 n) ∙ ap (λ k. replicate k 0) (length-range_with_len 0 n)

home_more : (o : ℕ) (p : Option Process) (ps : List (Option Process)) → count_by (is_home o) (p ∷ ps) ≡ cond (is_home o p) 1 0 + count_by (is_home o) ps
home_more o p ps = sum_by-cons (λ (q : Option Process). cond {A = ℕ} (is_home o q) 1 0) p ps

all_home : (ps : List ProcSpec) → count_by (is_home 0) (started ps) ≡ length ps
all_home [] = refl
all_home (p ∷ ps) = omega (arith, home_more 0 (Some (process_of p)) (started ps), all_home ps)

nobody_home : (o : ℕ) (ps : List ProcSpec) → 1 ≤ o → count_by (is_home o) (started ps) ≡ 0
nobody_home o [] past = refl
nobody_home o (p ∷ ps) past =
    let away : (0 == o) ≡ false = grind (arith, nat_tests, past) in
    omega (arith, home_more o (Some (process_of p)) (started ps), ap (λ b. cond {A = ℕ} b 1 0) away, nobody_home o ps past)

nobody_from : (k n : ℕ) (ps : List ProcSpec) → 1 ≤ k → map (λ o. count_by (is_home o) (None ∷ started ps)) (range_with_len k n) ≡ replicate n 0
nobody_from k zero ps past = refl
nobody_from k (suc n) ps past =
    let none : count_by (is_home k) (None ∷ started ps) ≡ 0 = omega (arith, home_more k None (started ps), nobody_home k ps past) in
    λ i. none i ∷ nobody_from (k + 1) n ps (omega (arith, past)) i

homes_are : (n : ℕ) (ps : List ProcSpec) → homes_at_first n (length ps) ≡ homes_of n (None ∷ started ps)
homes_are zero ps = refl
homes_are (suc n) ps =
    let all : length ps ≡ count_by (is_home 0) (None ∷ started ps) = omega (arith, home_more 0 None (started ps), all_home ps) in
    λ i. all i ∷ sym (nobody_from (0 + 1) n ps (omega arith)) i

-- ---- the whole
abbrev pub bare_names : Config → Directories
bare_names c = roots_named c.limits.names (first_pipe c.fss) c.fss

abbrev pub bare_pipes : Config → List (Option Pipe)
bare_pipes c = replicate c.limits.pipes None

abbrev pub bare_opens : Config → OpenTable
bare_opens c = none_open c.limits.opens (first_pipe c.fss + c.limits.pipes)

abbrev pub bare_homes : Config → List ℕ
bare_homes c = homes_at_first (first_pipe c.fss + c.limits.pipes) (length c.procs)

module _ (c : Config) (fit : list_all fs_fits c.fss ≡ true) (some : 0 < first_pipe c.fss) where
  abbrev n : ℕ
  n = first_pipe c.fss

  abbrev listed : List (List ℕ × ℕ)
  listed = mounts (first_inode c.fss 1) (drop 1 c.fss)

  as_bare : objects_of (bare 0 c.fss) (replicate n []) ≡ opening.bare 0 c.fss
  as_bare = without_names n (bare 0 c.fss) ∙ bare_as 0 c.fss

  long : length (opening.bare 0 c.fss) ≡ n
  long = ap length (sym (bare_as 0 c.fss)) ∙ length-map (bare 0 c.fss) (option_map (object_of [])) ∙ length-bare c.fss fit

  pub objects_are : all_objects (opened c.fss) (bare_names c) (bare_pipes c) ≡ bare_objects c
  unfolding bare_objects
  objects_are =
      let h : Object → Object = λ o. record o { names = listed } in
      let named : objects_of (bare 0 c.fss) (bare_names c).lists ≡ change (opening.bare 0 c.fss) 0 h =
      objects_named (bare 0 c.fss) (replicate n []) 0 (λ ns. listed) (length-replicate {A = List (List ℕ × ℕ)} n [] ∙ sym (length-bare c.fss fit))
      ∙ ap (λ (os : List (Option Object)). change os 0 h) as_bare in
      (λ i. named i ++ map_repeated (option_map object_of_pipe) c.limits.pipes None i)
      ∙ change_front (opening.bare 0 c.fss) (replicate c.limits.pipes None) h (omega (arith, long, some))

  many : length (bare_objects c) ≡ n + c.limits.pipes
  unfolding bare_objects
  many = length-set (roots 0 c.fss c.limits.pipes) 0 _ ∙ length-roots 0 c.fss c.limits.pipes fit

  holdings_are : all_holdings (opened c.fss) (bare_pipes c) ≡ replicate (length (bare_objects c)) holds_nothing
  holdings_are =
      (λ i. map_repeated holding_of_bytes n [] i ++ map_repeated holding_of_pipe c.limits.pipes None i)
      ∙ replicate-append-replicate n c.limits.pipes holds_nothing ∙ ap (λ k. replicate k holds_nothing) (sym many)

  owners_are : replicate c.limits.opens 0 ≡ owners_of (length (replicate {A = Option Open} c.limits.opens None)) (None ∷ started c.procs)
  owners_are = sym (ap (λ k. owners_of k (None ∷ started c.procs)) (length-replicate {A = Option Open} c.limits.opens None) ∙ owners_none c.limits.opens c.procs)

  homes_are_so : bare_homes c ≡ homes_of (length (bare_objects c)) (None ∷ started c.procs)
  homes_are_so = homes_are (n + c.limits.pipes) c.procs ∙ ap (λ k. homes_of k (None ∷ started c.procs)) (sym many)

  pub bare_view : joined c.limits (opened c.fss) (bare_names c) (bare_pipes c) (bare_opens c) (bare_homes c) ≡ parts_of (bare_world c)
  bare_view = λ i. record {
    limits = c.limits;
    fss = c.fss;
    objects = objects_are i;
    opens = replicate c.limits.opens None;
    holdings = holdings_are i;
    offsets = replicate c.limits.opens 0;
    owners = owners_are i;
    homes = homes_are_so i;
  }
