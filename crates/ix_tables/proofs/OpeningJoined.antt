-- The tables before any object line are joined as they have to be.
use Rattle.std.proofs.Common.{◌≡◌, ◌+◌, ◌<◌, ◌≤◌, ◌==◌, ◌&&◌, ℕ, zero, suc, Bool, true, false, nat_le, List, [], ◌∷◌, length, map, sum, drop, replicate, set}
use Rattle.std.proofs.Common.{count_by, Option, Some, None, option_map, refl, sym, ap, ◌∙◌, subst, arith, length-set, append-nil, get_or-set_other, inl, inr}
use Rattle.std.specs.{Option.option_map_or, List.list_all}
use Rattle.std.proofs.{Math.ListN.get_or-map, lemmas.Bool.{and_parts, leb-true, cases_lt}, lemmas.Bool.Decides.{nat_tests, eqb_tells}}
use Rattle.std.proofs.{lemmas.List.{length-replicate, length-drop}, lemmas.List.Sums.{sum-map, sum_by-cons}}
use Rattle.ix_model.specs.{world.{World.{Object, at, is_dir}, Numbers.{first_inode, first_pipe}}, declared.config.{Config.Config, FsSpec.FsSpec, Limits.Limits}}
use Rattle.ix_model.specs.opening.{Opening.mounts, Valid.{fs_fits, fss_fit, limits_fit, procs_fit, objects_fit, is_within, is_valid}}
use Rattle.ix_model.specs.opening.Opening as opening
use Rattle.ix_model.proofs.{tables.Inodes.first_within, opening.Bare.{some_inodes, roots, root_at, is_root}, opening.BareBuilt.{first_split, further_fit}}
use Rattle.ix_model.proofs.{opening.Mounts.{length-mounts, mounts_once, mount_at}, opening.Openings.all_one, opening.Validity.{FssFit, valid_parts}}
use Rattle.ix_inode.specs.{Nodes.{Nodes, bare, opened, are_within}, Shown.kind_of, declared.node.Node.Node}
use Rattle.ix_name.specs.Directories.{Directories}
use Rattle.ix_open.specs.Table.{OpenTable}
use Rattle.ix_pipe.specs.Pipe.{Pipe}
use Rattle.ix_tables.{specs.Joined.{object_of, names_in, names_for, HasLinks, HasNames, AreJoined}, proofs.Joining.{Lists, names_at}}
use Rattle.ix_tables.{proofs.Counting.{Names, total_set}, proofs.OpeningBare.{bare_as, length-bare, bare_names, bare_pipes, bare_opens, bare_homes}}

-- ---- what a valid config says
pub fss_within : (fss : List FsSpec) → FssFit fss → are_within fss ≡ true
fss_within fss v =
    let few : nat_le (length fss) 16 ≡ true = grind (arith, nat_tests, v.few) in
    λ i. few i && v.each i

limits_names : (l : Limits) → limits_fit l ≡ true → l.names ≤ 65536
unfolding limits_fit
limits_names l fit =
    let p1 = and_parts (is_within 1 1024 l.procs && is_within 1 4096 l.opens && nat_le l.pipes 1024 && is_within 16 65536 l.names) (nat_le l.log 65536) fit in
    let p2 = and_parts (is_within 1 1024 l.procs && is_within 1 4096 l.opens && nat_le l.pipes 1024) (is_within 16 65536 l.names) p1.0 in
    leb-true l.names 65536 (and_parts (nat_le 16 l.names) (nat_le l.names 65536) p2.1).1

few_names : (c : Config) → is_valid c ≡ true → c.limits.names ≤ 65536
unfolding is_valid
few_names c valid =
    let p1 = and_parts (fss_fit c.fss && limits_fit c.limits && procs_fit c.limits c.procs && objects_fit c.fss c.limits [] c.objects) (nat_le c.journal 870400000) valid in
    let p2 = and_parts (fss_fit c.fss && limits_fit c.limits && procs_fit c.limits c.procs) (objects_fit c.fss c.limits [] c.objects) p1.0 in
    let p3 = and_parts (fss_fit c.fss && limits_fit c.limits) (procs_fit c.limits c.procs) p2.0 in
    limits_names c.limits (and_parts (fss_fit c.fss) (limits_fit c.limits) p3.0).1

-- ---- the names of the further file systems
nothing_in : (f : Names → ℕ) (n : ℕ) → f [] ≡ 0 → sum (map f (replicate n [])) ≡ 0
nothing_in f zero none = refl
nothing_in f (suc n) none = sum-map f ([] ∷ replicate n []) ∙ sum_by-cons f [] (replicate n []) ∙ (λ i. none i + (sym (sum-map f (replicate n [])) ∙ nothing_in f n none) i)

-- a count over the lists is one over the first
over_first : (f : Names → ℕ) (n : ℕ) (names : Names) → f [] ≡ 0 → 0 < n → sum (map f (set (replicate n []) 0 names)) ≡ f names
over_first f n names none some =
    let here : f (names_at (replicate n []) 0) ≡ 0 = ap f (all_one [] n 0) ∙ none in
    omega (arith, total_set f (replicate n []) 0 names (omega (arith, length-replicate {A = Names} n [], some)), here, nothing_in f n none)

-- ---- the inodes
module _ (fss : List FsSpec) (fit : list_all fs_fits fss ≡ true) (some : 0 < length fss) where
  at_bare : (o : ℕ) → at (roots 0 fss 0) o ≡ option_map (object_of []) (at (bare 0 fss) o)
  at_bare o = ap (λ (os : List (Option Object)). at os o) (append-nil (opening.bare 0 fss) ∙ sym (bare_as 0 fss)) ∙ get_or-map (option_map (object_of [])) (bare 0 fss) o None

  dirs : (o : ℕ) (x : Node) → at (bare 0 fss) o ≡ Some x → x.dir ≡ true
  dirs o x is =
      let r = is_root 0 fss 0 o (object_of [] x) fit (at_bare o ∙ ap (option_map (object_of [])) is) in
      go x.dir (ap is_dir r.root)
    where
      go : (b : Bool) → is_dir (record (object_of [] x) { kind = kind_of b }) ≡ true → b ≡ true
      go true h = refl
      go false h = h

  abbrev listed : Names
  listed = mounts (first_inode fss 1) (drop 1 fss)

  once : (o : ℕ) → count_by (λ e. e.1 == o) listed ≤ 1
  once o = elim (cases_lt 0 (count_by (λ e. e.1 == o) listed)) [
    | inl named ↦
        let r = mount_at (drop 1 fss) (first_inode fss 1) o named in
        omega (arith, ap (λ (q : ℕ). count_by (λ (e : List ℕ × ℕ). e.1 == q) listed) r.is, mounts_once (drop 1 fss) (first_inode fss 1) r.place (further_fit fss fit) r.low)
    | inr none ↦ omega (arith, none)
  ]

  nowhere : (o : ℕ) → at (bare 0 fss) o ≡ None → count_by (λ e. e.1 == o) listed ≡ 0
  nowhere o is = elim (cases_lt 0 (count_by (λ e. e.1 == o) listed)) [
    | inl named ↦
        let r = mount_at (drop 1 fss) (first_inode fss 1) o named in
        let here : o ≡ first_inode fss (suc r.place) = r.is ∙ sym (first_split fss r.place some) in
        let low : suc r.place < length fss = omega (arith, r.low, length-drop 1 fss) in
        let e : None ≡ Some (opening.root_of (0 + suc r.place)) = sym (at_bare o ∙ ap (option_map (object_of [])) is) ∙ ap (at (roots 0 fss 0)) here ∙ root_at 0 fss 0 (suc r.place) fit low in
        cc
    | inr none ↦ omega (arith, none)
  ]

  linked : (o : ℕ) → HasNames (at (bare 0 fss) o) (count_by (λ e. e.1 == o) listed)
  linked o = go (at (bare 0 fss) o) refl
    where
      go : (x : Option Node) → at (bare 0 fss) o ≡ x → HasNames x (count_by (λ e. e.1 == o) listed)
      go None is = nowhere o is
      go (Some x) is = subst (λ (b : Bool). HasLinks b x.links (count_by (λ e. e.1 == o) listed)) (sym (dirs o x is)) (once o)

  root_there : at (bare 0 fss) 0 ≡ None → ⊥
  root_there is = let e : None ≡ Some (opening.root_of (0 + 0)) = sym (at_bare 0 ∙ ap (option_map (object_of [])) is) ∙ root_at 0 fss 0 0 fit some in cc

  bare_dirs : (n o : ℕ) → option_map_or (λ x. x.dir) (at (bare 0 fss) o) false ≡ false → names_at (set (replicate n []) 0 listed) o ≡ []
  bare_dirs n o none = elim (eqb_tells o 0) [
    | inl e ↦ absurd (go (at (bare 0 fss) 0) refl (ap (λ (k : ℕ). option_map_or (λ x. x.dir) (at (bare 0 fss) k) false) (sym e.1) ∙ none))
    | inr e ↦ get_or-set_other (replicate n []) 0 o listed [] e.1 ∙ all_one [] n o
  ]
    where
      go : (x : Option Node) → at (bare 0 fss) 0 ≡ x → option_map_or (λ y. y.dir) x false ≡ false → ⊥
      go None is h = root_there is
      go (Some x) is h = let d : x.dir ≡ true = dirs 0 x is in cc

-- ---- the whole
pub some_inode : (fss : List FsSpec) → list_all fs_fits fss ≡ true → 0 < length fss → 0 < first_pipe fss
some_inode fss fit some = omega (arith, some_inodes fss 0 fit some, first_within fss 0)

pub bare_joined : (c : Config) → is_valid c ≡ true → first_pipe c.fss ≤ 1048576 → AreJoined c.limits (opened c.fss) (bare_names c) (bare_pipes c) (bare_opens c) (bare_homes c)
bare_joined c valid few =
    let v = valid_parts c valid in
    let fit = v.fss.each in
    let n : ℕ = first_pipe c.fss in
    let ms : Names = mounts (first_inode c.fss 1) (drop 1 c.fss) in
    let ls : Lists = set (replicate n []) 0 ms in
    let inodes : 0 < n = some_inode c.fss fit v.fss.some in
    let long : length (bare 0 c.fss) ≡ n = length-bare c.fss fit in
    let pipes : length (bare_pipes c) ≡ c.limits.pipes = length-replicate {A = Option Pipe} c.limits.pipes None in
    let names : names_in ls ≡ length (drop 1 c.fss) = over_first length n ms refl inodes ∙ length-mounts (first_inode c.fss 1) (drop 1 c.fss) in
    let times : (o : ℕ) → names_for o ls ≡ count_by (λ e. e.1 == o) ms = λ o. over_first (count_by (λ e. e.1 == o)) n ms refl inodes in
    record {
      lists = length-set (replicate n []) 0 ms ∙ length-replicate {A = Names} n [] ∙ sym long;
      bytes = length-replicate {A = List ℕ} n [] ∙ sym long;
      bare = λ o none. bare_dirs c.fss fit v.fss.some n o none;
      entries = omega (arith, names, length-drop 1 c.fss, v.fss.few, v.limits.names);
      links = λ o. subst (λ (k : ℕ). HasNames (at (bare 0 c.fss) o) k) (sym (times o)) (linked c.fss fit v.fss.some o);
      first = sym long;
      pipes = pipes;
      opens = length-replicate c.limits.opens None;
      objects = omega (arith, long, pipes);
      homes = length-set (replicate (n + c.limits.pipes) 0) 0 (length c.procs) ∙ length-replicate {A = ℕ} (n + c.limits.pipes) 0 ∙ omega (arith, long, pipes);
      few = omega (arith, long, pipes, few, v.limits.pipes);
      few_names = omega (arith, few_names c valid);
    }

pub first_is : (c : Config) → is_valid c ≡ true → first_pipe c.fss ≡ length (bare 0 c.fss)
first_is c valid = sym (length-bare c.fss (valid_parts c valid).fss.each)

-- what was made is as it was asked for
pub joined_as : (c : Config) (nodes : Nodes) (names : Directories) (ps : List (Option Pipe)) (es : OpenTable) (hs : List ℕ) → nodes ≡ opened c.fss
    → names ≡ bare_names c → ps ≡ bare_pipes c → es ≡ bare_opens c → hs ≡ bare_homes c
    → AreJoined c.limits (opened c.fss) (bare_names c) (bare_pipes c) (bare_opens c) (bare_homes c) → AreJoined c.limits nodes names ps es hs
joined_as c nodes names ps es hs e1 e2 e3 e4 e5 all =
    subst (λ (x : Nodes). AreJoined c.limits x names ps es hs) (sym e1)
    (subst (λ (x : Directories). AreJoined c.limits (opened c.fss) x ps es hs) (sym e2)
    (subst (λ (x : List (Option Pipe)). AreJoined c.limits (opened c.fss) (bare_names c) x es hs) (sym e3)
    (subst (λ (x : OpenTable). AreJoined c.limits (opened c.fss) (bare_names c) (bare_pipes c) x hs) (sym e4)
    (subst (λ (x : List ℕ). AreJoined c.limits (opened c.fss) (bare_names c) (bare_pipes c) (bare_opens c) x) (sym e5) all))))
