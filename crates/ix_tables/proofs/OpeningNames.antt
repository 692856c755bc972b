-- How many inodes there are, and the names of the further file systems.
use Rattle.std.proofs.Common.{◌≡◌, ◌+◌, ◌-◌, ◌*◌, ◌<◌, ◌≤◌, ℕ, zero, suc, Bool, true, false, not, List, [], ◌∷◌, ◌++◌, length, map, take, drop, replicate, find}
use Rattle.std.proofs.Common.{set, get_or, Some, None, option_map, refl, sym, ap, ◌∙◌, arith}
use Rattle.std.{specs.List.list_any, proofs.lemmas.Bool.{and_parts, or_parts, not-true, cond-false}}
use Rattle.std.proofs.lemmas.List.{get_or-set_same, get_or_read, set-set, length-replicate, take_all, length-drop}
use Rattle.ix_model.specs.{world.{World.fs_at, Naming.same_bytes, Numbers.first_inode}, opening.{Opening.mounts, Valid.all_differ}}
use Rattle.ix_model.specs.declared.config.FsSpec.{FsSpec}
use Rattle.ix_model.proofs.tables.Inodes.{first-cons, first_next}
use Rattle.ix_inode.{specs.Nodes.are_within, proofs.Opening.{within_fits, within_few}}
use Rattle.ix_name.specs.Directories.{Directories, names_of, under, with_more}
use Rattle.ix_tables.specs.Opening.{roots_named}

-- ---- the inodes of the first so many file systems
pub record AreCounted (fss : List FsSpec) (k n : ℕ) : Type 0 where
  pub is : n ≡ first_inode fss k
  pub low : n ≤ k * 65536

-- ---- the names of the first so many of further file systems
any_at : (p : List ℕ → Bool) (ms : List FsSpec) (k : ℕ) (s : FsSpec) → list_any p (map (λ m. m.name) ms) ≡ false → k < length ms → s ≡ get_or ms k s → p s.name ≡ false
any_at p [] k s none low is = absurd (omega (arith, low))
any_at p (m ∷ ms) zero s none low is = ap (λ (x : FsSpec). p x.name) is ∙ (or_parts (p m.name) (list_any p (map (λ (x : FsSpec). x.name) ms)) none).0
any_at p (m ∷ ms) (suc k) s none low is = any_at p ms k s (or_parts (p m.name) (list_any p (map (λ (x : FsSpec). x.name) ms)) none).1 (omega (arith, low)) is

-- none of them has the name of the next
absent_so_far : (n : ℕ) (ms : List FsSpec) (k : ℕ) (s : FsSpec) → all_differ (map (λ m. m.name) ms) ≡ true → k < length ms → s ≡ get_or ms k s → under s.name (mounts n (take k ms)) ≡ None
absent_so_far n [] k s differ low is = absurd (omega (arith, low))
absent_so_far n (m ∷ ms) zero s differ low is = refl
absent_so_far n (m ∷ ms) (suc k) s differ low is =
    let p = and_parts (not (list_any (same_bytes m.name) (map (λ (x : FsSpec). x.name) ms))) (all_differ (map (λ (x : FsSpec). x.name) ms)) differ in
    let other : same_bytes m.name s.name ≡ false = any_at (same_bytes m.name) ms k s (not-true _ p.0) (omega (arith, low)) is in
    ap (option_map (λ (e : List ℕ × ℕ). e.1)) (cond-false (same_bytes m.name s.name) (Some (m.name, n)) (find (λ e. same_bytes e.0 s.name) (mounts (n + m.inodes) (take k ms))) other)
    ∙ absent_so_far (n + m.inodes) ms k s p.1 (omega (arith, low)) is

mounts_more : (n : ℕ) (ms : List FsSpec) (k : ℕ) (s : FsSpec) → k < length ms → s ≡ get_or ms k s → mounts n (take (suc k) ms) ≡ mounts n (take k ms) ++ (s.name, n + first_inode ms k) ∷ []
mounts_more n [] k s low is = absurd (omega (arith, low))
mounts_more n (m ∷ ms) zero s low is =
    let here : n ≡ n + 0 = omega arith in
    λ i. ((sym is i).name, here i) ∷ []
mounts_more n (m ∷ ms) (suc k) s low is =
    let there : n + m.inodes + first_inode ms k ≡ n + first_inode (m ∷ ms) (suc k) = omega (arith, first-cons m ms k) in
    ap (λ es. (m.name, n) ∷ es) (mounts_more (n + m.inodes) ms k s (omega (arith, low)) is ∙ ap (λ (o : ℕ). mounts (n + m.inodes) (take k ms) ++ (s.name, o) ∷ []) there)

-- the names so far, in the first root
abbrev pub named_so_far : ℕ → ℕ → ℕ → List FsSpec → ℕ → Directories
named_so_far entries inodes first rest k = record { lists = set (replicate inodes []) 0 (mounts first (take k rest)); free = entries - k }

pub record AreNamed (entries inodes : ℕ) (fss rest : List FsSpec) (k root : ℕ) (names : Directories) : Type 0 where
  pub further : rest ≡ drop 1 fss
  pub named : names ≡ named_so_far entries inodes (first_inode fss 1) rest k
  pub next : root ≡ first_inode fss 1 + first_inode rest k
  pub low : root ≤ (k + 1) * 65536

differ_rest : (fss : List FsSpec) → all_differ (map (λ s. s.name) fss) ≡ true → all_differ (map (λ s. s.name) (drop 1 fss)) ≡ true
differ_rest [] h = refl
differ_rest (s ∷ ms) h = (and_parts (not (list_any (same_bytes s.name) (map (λ (t : FsSpec). t.name) ms))) (all_differ (map (λ (t : FsSpec). t.name) ms)) h).1

set_empty : (inodes : ℕ) → set (replicate {A = List (List ℕ × ℕ)} inodes []) 0 [] ≡ replicate inodes []
set_empty zero = refl
set_empty (suc n) = refl

module _ (entries inodes : ℕ) (fss rest : List FsSpec) (k root : ℕ) (names : Directories) (s : FsSpec) (within : are_within fss ≡ true)
    (differ : all_differ (map (λ s. s.name) fss) ≡ true) (some : 0 < inodes)
    (so : AreNamed entries inodes fss rest k root names) (low : k < length rest) (is : s ≡ get_or rest k s) where
  abbrev lists : List (List (List ℕ × ℕ))
  lists = set (replicate inodes []) 0 (mounts (first_inode fss 1) (take k rest))

  at_root : names_of (named_so_far entries inodes (first_inode fss 1) rest k) 0 ≡ mounts (first_inode fss 1) (take k rest)
  at_root = get_or-set_same (replicate inodes []) 0 (mounts (first_inode fss 1) (take k rest)) [] (omega (arith, length-replicate {A = List (List ℕ × ℕ)} inodes [], some))

  pub absent : under s.name (names_of names 0) ≡ None
  absent =
      ap (λ (n : Directories). under s.name (names_of n 0)) so.named ∙ ap (under s.name) at_root
      ∙ absent_so_far (first_inode fss 1) rest k s (ap (λ (ms : List FsSpec). all_differ (map (λ m. m.name) ms)) so.further ∙ differ_rest fss differ) low is

  rest_long : length rest ≡ length fss - 1
  rest_long = ap length so.further ∙ length-drop 1 fss

  small : s.inodes ≤ 65536
  small =
      let here : s ≡ get_or fss (suc k) s = go fss so.further in
      (within_fits fss (suc k) s within (omega (arith, rest_long, low)) here).1
    where
      go : (fs : List FsSpec) → rest ≡ drop 1 fs → s ≡ get_or fs (suc k) s
      go [] e = is ∙ ap (λ ms. get_or ms k s) e
      go (x ∷ fs) e = is ∙ ap (λ ms. get_or ms k s) e

  pub few : root + s.inodes ≤ 1114112
  few = omega (arith, so.low, small, within_few fss within, rest_long, low)

  pub named_more : (after : Directories) → after ≡ with_more 0 s.name root names → AreNamed entries inodes fss rest (k + 1) (root + s.inodes) after
  named_more after added = record {
    further = so.further;
    named = added ∙ more;
    next = omega (arith, so.next, one_more, ap (first_inode rest) up);
    low = omega (arith, so.low, small);
  }
    where
      up : k + 1 ≡ suc k
      up = omega arith

      one_more : first_inode rest (suc k) ≡ first_inode rest k + s.inodes
      one_more =
          let read : s ≡ fs_at rest k = get_or_read rest k s low is _ in
          omega (arith, first_next rest k, ap (λ (t : FsSpec). t.inodes) read)

      more : with_more 0 s.name root names ≡ named_so_far entries inodes (first_inode fss 1) rest (k + 1)
      more =
          let free : entries - k - 1 ≡ entries - (k + 1) = omega arith in
          let listed : mounts (first_inode fss 1) (take k rest) ++ (s.name, root) ∷ [] ≡ mounts (first_inode fss 1) (take (k + 1) rest) =
          ap (λ (o : ℕ). mounts (first_inode fss 1) (take k rest) ++ (s.name, o) ∷ []) so.next
          ∙ sym (ap (λ (j : ℕ). mounts (first_inode fss 1) (take j rest)) up ∙ mounts_more (first_inode fss 1) rest k s low is) in
          let put : set lists 0 (names_of (named_so_far entries inodes (first_inode fss 1) rest k) 0 ++ (s.name, root) ∷ [])
          ≡ set (replicate inodes []) 0 (mounts (first_inode fss 1) (take (k + 1) rest)) =
          ap (λ es. set lists 0 (es ++ (s.name, root) ∷ [])) at_root ∙ set-set (replicate inodes []) 0 (mounts (first_inode fss 1) (take k rest))
          (mounts (first_inode fss 1) (take k rest) ++ (s.name, root) ∷ []) ∙ ap (λ es. set (replicate inodes []) 0 es) listed in
          ap (with_more 0 s.name root) so.named ∙ (λ i. record { lists = put i; free = free i })

-- none is named yet
pub named_none : (entries inodes : ℕ) (fss rest : List FsSpec) (root : ℕ) (names : Directories) → are_within fss ≡ true → 0 < length fss → rest ≡ drop 1 fss
    → root ≡ (fs_at fss 0).inodes → names ≡ record { lists = replicate inodes []; free = entries } → AreNamed entries inodes fss rest 0 root names
named_none entries inodes fss rest root names within some is first empty = record {
  further = is;
  named = empty ∙ (let free : entries ≡ entries - 0 = omega arith in λ i. record { lists = sym (set_empty inodes) i; free = free i });
  next = omega (arith, first, first_next fss 0);
  low = omega (arith, first, small fss within some);
}
  where
    small : (fs : List FsSpec) → are_within fs ≡ true → 0 < length fs → (fs_at fs 0).inodes ≤ 65536
    small [] h low = absurd (omega (arith, low))
    small (s ∷ fs) h low = (within_fits (s ∷ fs) 0 s h low refl).1

-- all are
pub named_all : (entries inodes : ℕ) (fss rest : List FsSpec) (k root : ℕ) (names : Directories) → k ≡ length rest
    → AreNamed entries inodes fss rest k root names → names ≡ roots_named entries inodes fss
named_all entries inodes fss rest k root names all so =
    let whole : take k rest ≡ drop 1 fss = take_all k rest (omega (arith, all)) ∙ so.further in
    let free : entries - k ≡ entries - (length fss - 1) = omega (arith, all, ap length so.further, length-drop 1 fss) in
    so.named ∙ (λ i. record { lists = set (replicate inodes []) 0 (mounts (first_inode fss 1) (whole i)); free = free i })

pub first_read : (fss : List FsSpec) (s : FsSpec) → 0 < length fss → (get_or fss 0 s).inodes ≡ (fs_at fss 0).inodes
first_read [] s some = absurd (omega (arith, some))
first_read (x ∷ fss) s some = refl

pub rest_is : (fss : List FsSpec) → take (length fss - 1) (drop 1 fss) ≡ drop 1 fss
rest_is fss = take_all (length fss - 1) (drop 1 fss) (omega (arith, length-drop 1 fss))
