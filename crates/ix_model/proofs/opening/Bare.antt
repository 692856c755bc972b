-- The table of objects before any line: a root for each file system, and nothing else.
use Rattle.std.{proofs.Common.{◌≡◌, ◌≢◌, ◌<◌, ◌≤◌, ◌+◌, ◌-◌, ℕ, zero, suc, true, List, [], ◌∷◌, ◌++◌, length, drop, replicate, Option, Some, None, option_map}, specs.List.list_all}
use Rattle.std.proofs.{Common.{refl, sym, ap, ◌∙◌, subst, arith, append_assoc, inl, inr, length-append}, Math.ListN.get_or-append}
use Rattle.std.proofs.lemmas.{Bool.{and_parts, leb-true, cases_lt, Decides.eqb_tells}, List.{get_or-append-add, get_or-set_other, length-replicate}}
use Rattle.ix_model.specs.{world.{World.{fs_at, Object, at, change}, Numbers.first_inode}, declared.config.FsSpec.FsSpec}
use Rattle.ix_model.{specs.opening.{Opening.{root_of, bare, mounts}, Valid.{is_within, fs_fits}}, proofs.{tables.{Inodes.first-cons, Tables.at_changed}, opening.Openings.all_one}}

-- ---- each file system has an inode
has_inode : (s : FsSpec) → fs_fits s ≡ true → 1 ≤ s.inodes
has_inode s fits =
    let parts = and_parts (is_within 1 65536 s.blocks) (is_within 1 65536 s.inodes) fits in
    leb-true 1 s.inodes (and_parts _ _ parts.1).0

pub first_fits : (s : FsSpec) (fss : List FsSpec) → list_all fs_fits (s ∷ fss) ≡ true → (1 ≤ s.inodes) × (list_all fs_fits fss ≡ true)
first_fits s fss fit =
    let p = and_parts _ _ fit in
    (has_inode s p.0, p.1)

pub some_inodes : (fss : List FsSpec) (k : ℕ) → list_all fs_fits fss ≡ true → k < length fss → 1 ≤ (fs_at fss k).inodes
some_inodes [] k fit low = absurd (omega arith)
some_inodes (s ∷ fss) zero fit low = (first_fits s fss fit).0
some_inodes (s ∷ fss) (suc k) fit low = some_inodes fss k (first_fits s fss fit).1 (omega arith)

-- ---- the table
abbrev pub roots : ℕ → List FsSpec → ℕ → List (Option Object)
roots k fss pipes = bare k fss ++ replicate pipes None

roots-cons : (k : ℕ) (s : FsSpec) (fss : List FsSpec) (pipes : ℕ) → roots k (s ∷ fss) pipes ≡ (Some (root_of k) ∷ replicate (s.inodes - 1) None) ++ roots (suc k) fss pipes
roots-cons k s fss pipes = append_assoc (Some (root_of k) ∷ replicate _ None) (bare (suc k) fss) (replicate pipes None)

length-front : (k : ℕ) (s : FsSpec) → 1 ≤ s.inodes → length (Some (root_of k) ∷ replicate {A = Option Object} (s.inodes - 1) None) ≡ s.inodes
length-front k s some = omega (arith, length-replicate {A = Option Object} (s.inodes - 1) None)

pub length-roots : (k : ℕ) (fss : List FsSpec) (pipes : ℕ) → list_all fs_fits fss ≡ true → length (roots k fss pipes) ≡ first_inode fss (length fss) + pipes
length-roots k [] pipes fit = length-replicate pipes None ∙ omega arith
length-roots k (s ∷ fss) pipes fit =
    let p = first_fits s fss fit in
    ap length (roots-cons k s _ _)
    ∙ length-append (Some (root_of k) ∷ replicate (s.inodes - 1) None) (roots (suc k) fss pipes)
    ∙ omega (arith, length-front k s p.0, length-roots (suc k) fss pipes p.1, first-cons s fss (length fss))

-- past a file system's inodes come those of the next
at_past : (k : ℕ) (s : FsSpec) (fss : List FsSpec) (pipes m : ℕ) → 1 ≤ s.inodes → at (roots k (s ∷ fss) pipes) (s.inodes + m) ≡ at (roots (suc k) fss pipes) m
at_past k s fss pipes m some =
    ap (λ t. at t (s.inodes + m)) (roots-cons k s _ _)
    ∙ ap (λ n. at ((Some (root_of k) ∷ replicate (s.inodes - 1) None) ++ roots (suc k) fss pipes) (n + m)) (sym (length-front k s some))
    ∙ get_or-append-add (Some (root_of k) ∷ replicate _ None) _ m None

at_gap : (k : ℕ) (s : FsSpec) (fss : List FsSpec) (pipes m : ℕ) → 1 ≤ s.inodes → suc m < s.inodes → at (roots k (s ∷ fss) pipes) (suc m) ≡ None
at_gap k s fss pipes m some low =
    ap (λ t. at t (suc m)) (roots-cons k s fss pipes)
    ∙ get_or-append (Some (root_of k) ∷ replicate _ None) (roots (suc k) fss pipes) None (suc m) (omega (arith, length-front k s some))
    ∙ all_one {A = Option Object} None (s.inodes - 1) m

-- each file system's root is at its first inode
pub root_at : (k : ℕ) (fss : List FsSpec) (pipes j : ℕ) → list_all fs_fits fss ≡ true → j < length fss → at (roots k fss pipes) (first_inode fss j) ≡ Some (root_of (k + j))
root_at k [] pipes j fit low = absurd (omega arith)
root_at k (s ∷ fss) pipes zero fit low = ap (λ n. Some (root_of n)) (omega arith)
root_at k (s ∷ fss) pipes (suc j) fit low =
    let p = first_fits s fss fit in
    ap (at (roots k (s ∷ fss) pipes)) (first-cons s _ j)
    ∙ at_past k s _ _ _ p.0
    ∙ root_at (suc k) fss _ j p.1 (omega arith)
    ∙ ap (λ n. Some (root_of n)) (omega arith)

-- and there is nothing else
pub record RootAt (k : ℕ) (fss : List FsSpec) (o : ℕ) (x : Object) : Type 0 where
  pub place : ℕ
  pub low : place < length fss
  pub is : o ≡ first_inode fss place
  pub root : x ≡ root_of (k + place)

pub is_root : (k : ℕ) (fss : List FsSpec) (pipes o : ℕ) (x : Object) → list_all fs_fits fss ≡ true → at (roots k fss pipes) o ≡ Some x → RootAt k fss o x
is_root k [] pipes o x fit is = let e : None ≡ Some x = sym (all_one {A = Option Object} None pipes o) ∙ is in cc
is_root k (s ∷ fss) pipes zero x fit is =
    let same : root_of k ≡ x = cc in
    record { place = 0; low = omega arith; is = refl; root = sym same ∙ ap root_of (omega arith) }
is_root k (s ∷ fss) pipes (suc m) x fit is =
    let p = first_fits s fss fit in
    elim (cases_lt (suc m) s.inodes) [
      | inl low ↦ let e : None ≡ Some x = sym (at_gap k s fss pipes m p.0 low) ∙ is in cc
      | inr high ↦
          let split : suc m ≡ s.inodes + (suc m - s.inodes) = omega arith in
          let r = is_root (suc k) fss pipes (suc m - s.inodes) x p.1 (sym (at_past k s fss pipes (suc m - s.inodes) p.0) ∙ ap (at (roots k (s ∷ fss) pipes)) (sym split) ∙ is) in
          record { place = suc r.place; low = omega (arith, r.low); is = split ∙ ap (λ n. s.inodes + n) r.is ∙ sym (first-cons s fss r.place); root = r.root ∙ ap root_of (omega arith) }
    ]

-- ---- with the further file systems named
abbrev pub with_mounts : List FsSpec → Object → Object
with_mounts fss root = record root { names = mounts (first_inode fss 1) (drop 1 fss) }

abbrev pub bare_table : List FsSpec → ℕ → List (Option Object)
bare_table fss pipes = change (roots 0 fss pipes) 0 (with_mounts fss)

module _ (fss : List FsSpec) (pipes : ℕ) (fit : list_all fs_fits fss ≡ true) (some : 0 < length fss) where
  first_there : at (roots 0 fss pipes) 0 ≡ Some (root_of 0)
  first_there = root_at 0 _ _ 0 fit some

  pub at_first : at (bare_table fss pipes) 0 ≡ Some (with_mounts fss (root_of 0))
  at_first = at_changed _ 0 _ ∙ ap (option_map _) first_there

  pub at_others : (o : ℕ) → o ≢ 0 → at (bare_table fss pipes) o ≡ at (roots 0 fss pipes) o
  at_others o other = get_or-set_other _ 0 o _ None other

  -- what holds of the first root, and of each other root, holds of each object
  pub each_root : (P : ℕ → Object → Type 0) → P 0 (with_mounts fss (root_of 0)) → ((k : ℕ) → suc k < length fss → P (first_inode fss (suc k)) (root_of (suc k)))
      → (o : ℕ) (x : Object) → at (bare_table fss pipes) o ≡ Some x → P o x
  each_root P first others o x is = elim (eqb_tells o 0) [
    | inl here ↦
        let both = sym at_first ∙ ap (at (bare_table fss pipes)) (sym here.1) ∙ is in
        let same : with_mounts fss (root_of 0) ≡ x = cc in
        subst (λ n. P n x) (sym here.1) (subst (λ y. P 0 y) same first)
    | inr other ↦ go (is_root 0 _ _ o x fit (sym (at_others o other.1) ∙ is)) other.1
  ]
    where
      at_root : (k : ℕ) → k < length fss → o ≡ first_inode fss k → x ≡ root_of k → o ≢ 0 → P o x
      at_root zero low is root other = absurd (other is)
      at_root (suc k) low is root other = subst (λ n. P n x) (sym is) (subst (λ y. P (first_inode fss (suc k)) y) (sym root) (others k low))

      go : RootAt 0 fss o x → o ≢ 0 → P o x
      go r other = at_root _ r.low r.is (r.root ∙ ap root_of (omega arith)) other
