-- The names of the further file systems' roots: how often each number stands among them, and what each leads to.
use Rattle.std.proofs.Common.{◌≡◌, ◌<◌, ◌+◌, ◌==◌, ℕ, zero, suc, Bool, true, false, ◌&&◌, ◌||◌, List, [], ◌∷◌, length, map, count_by, find, cond, Some, None}
use Rattle.std.{proofs.Common.{option_map, refl, sym, ap, ◌∙◌, arith, inl, inr}, specs.List.{list_any, list_all, position_from}}
use Rattle.std.proofs.{Math.Bool.and-true, lemmas.Bool.{cond-true, cond-false, eq-eqb, ne_eqb, Decides.eqb_tells}}
use Rattle.ix_model.specs.{world.{Naming.{same_bytes, same_names}, Numbers.first_inode}, opening.{Opening.mounts, Valid.fs_fits}, declared.config.FsSpec.FsSpec}
use Rattle.ix_model.proofs.{tables.{Alike.{bytes_itself, names_are}, Inodes.first-cons}, opening.Bare.first_fits, words.There.counted}

pub length-mounts : (n : ℕ) (ms : List FsSpec) → length (mounts n ms) ≡ length ms
length-mounts n [] = refl
length-mounts n (s ∷ ms) = ap suc (length-mounts (n + s.inodes) ms)

pub mounts_names : (n : ℕ) (ms : List FsSpec) → map (λ e. e.0) (mounts n ms) ≡ map (λ s. s.name) ms
mounts_names n [] = refl
mounts_names n (s ∷ ms) = ap (λ ns. s.name ∷ ns) (mounts_names (n + s.inodes) ms)

-- a name among them is a further root
pub mounts_any : (n : ℕ) (ms : List FsSpec) (name : List ℕ) → list_any (λ e. same_bytes e.0 name) (mounts n ms) ≡ true → list_any (λ s. same_names (s.name ∷ []) (name ∷ [])) ms ≡ true
mounts_any n [] name h = h
mounts_any n (s ∷ ms) name h = go (same_bytes s.name name) h (mounts_any (n + s.inodes) ms _)
  where
    go : (b : Bool) → (b || list_any (λ e. same_bytes e.0 name) (mounts (n + s.inodes) ms)) ≡ true
        → (list_any (λ e. same_bytes e.0 name) (mounts (n + s.inodes) ms) ≡ true → list_any (λ t. same_names (t.name ∷ []) (name ∷ [])) ms ≡ true)
        → (b && true || list_any (λ t. same_names (t.name ∷ []) (name ∷ [])) ms) ≡ true
    go true h next = refl
    go false h next = next h

-- ---- the numbers among them
count-mounts : (q n : ℕ) (s : FsSpec) (ms : List FsSpec) → count_by (λ e. e.1 == q) (mounts n (s ∷ ms)) ≡ cond {A = ℕ} (n == q) 1 0 + count_by (λ e. e.1 == q) (mounts (n + s.inodes) ms)
count-mounts q n s ms = counted q (s.name, n) (mounts (n + s.inodes) ms)

-- a number below the first
pub mounts_past : (ms : List FsSpec) (n q : ℕ) → q < n → count_by (λ e. e.1 == q) (mounts n ms) ≡ 0
mounts_past [] n q low = refl
mounts_past (s ∷ ms) n q low =
    let none = ap (λ b. cond {A = ℕ} b 1 0) (ne_eqb n q (λ e. absurd (omega arith))) in
    omega (arith, count-mounts q n s ms, mounts_past ms (n + s.inodes) q (omega arith))

pub mounts_without : (ms : List FsSpec) (n q : ℕ) → q < n → find (λ e. e.1 == q) (mounts n ms) ≡ None
mounts_without [] n q low = refl
mounts_without (s ∷ ms) n q low =
    cond-false _ _ (find (λ e. e.1 == q) _) (ne_eqb n q (λ e. absurd (omega arith)))
    ∙ mounts_without ms _ q (omega arith)

-- each root's number stands once
pub mounts_once : (ms : List FsSpec) (n k : ℕ) → list_all fs_fits ms ≡ true → k < length ms → count_by (λ e. e.1 == n + first_inode ms k) (mounts n ms) ≡ 1
mounts_once [] n k fit low = absurd (omega arith)
mounts_once (s ∷ ms) n zero fit low =
    let p = first_fits s ms fit in
    let q = n + first_inode (s ∷ ms) 0 in
    let one : cond {A = ℕ} (n == q) 1 0 ≡ 1 = ap (λ b. cond {A = ℕ} b 1 0) (eq-eqb n q (omega arith)) in
    omega (arith, count-mounts q n s ms, mounts_past ms (n + s.inodes) q (omega (arith, p.0)))
mounts_once (s ∷ ms) n (suc k) fit low =
    let p = first_fits s ms fit in
    let q : ℕ = n + first_inode (s ∷ ms) (suc k) in
    let further : (n + s.inodes) + first_inode ms k ≡ q = omega (arith, first-cons s ms k) in
    let none : cond {A = ℕ} (n == q) 1 0 ≡ 0 = ap (λ b. cond {A = ℕ} b 1 0) (ne_eqb n q (λ e. absurd (omega (arith, further, p.0)))) in
    let rest : count_by (λ e. e.1 == q) (mounts (n + s.inodes) ms) ≡ 1 = ap (λ m. count_by (λ e. e.1 == m) (mounts (n + s.inodes) ms)) (sym further)
    ∙ mounts_once ms (n + s.inodes) k p.1 (omega arith) in
    omega (arith, count-mounts q n s ms)

-- and no other number stands there
pub record MountAt (ms : List FsSpec) (n q : ℕ) : Type 0 where
  pub place : ℕ
  pub low : place < length ms
  pub is : q ≡ n + first_inode ms place

pub mount_at : (ms : List FsSpec) (n q : ℕ) → 0 < count_by (λ e. e.1 == q) (mounts n ms) → MountAt ms n q
mount_at [] n q some = absurd (omega arith)
mount_at (s ∷ ms) n q some = elim (eqb_tells n q) [
  | inl here ↦ record { place = 0; low = omega arith; is = omega (arith, here.1) }
  | inr other ↦
      let none : cond {A = ℕ} (n == q) 1 0 ≡ 0 = ap (λ b. cond b 1 0) other.0 in
      let r = mount_at ms (n + s.inodes) q (omega (arith, count-mounts q n s ms)) in
      record { place = suc r.place; low = omega (arith, r.low); is = omega (arith, r.is, first-cons s ms r.place) }
]

-- ---- a path of one name that is a further root's
pub record Mounted (ms : List FsSpec) (names : List (List ℕ)) (n i : ℕ) : Type 0 where
  pub name : List ℕ
  pub is : names ≡ name ∷ []
  pub place : ℕ
  pub low : place < length ms
  pub found : position_from (λ s. same_bytes s.name name) i ms ≡ Some (i + place)
  pub child : option_map (λ e. e.1) (find (λ e. same_bytes e.0 name) (mounts n ms)) ≡ Some (n + first_inode ms place)
  pub back : option_map (λ e. e.0) (find (λ e. e.1 == n + first_inode ms place) (mounts n ms)) ≡ Some name

pub mounted : (ms : List FsSpec) (names : List (List ℕ)) (n i : ℕ) → list_all fs_fits ms ≡ true → list_any (λ s. same_names (s.name ∷ []) names) ms ≡ true → Mounted ms names n i
mounted [] names n i fit h = cc
mounted (s ∷ ms) names n i fit h = go (same_names (s.name ∷ []) names) refl h (λ k. mounted ms names (n + s.inodes) (i + 1) (first_fits s ms fit).1 k)
  where
    go : (b : Bool) → same_names (s.name ∷ []) names ≡ b → (b || list_any (λ t. same_names (t.name ∷ []) names) ms) ≡ true
        → (list_any (λ t. same_names (t.name ∷ []) names) ms ≡ true → Mounted ms names (n + s.inodes) (i + 1)) → Mounted (s ∷ ms) names n i
    go true here h next = record {
      name = s.name;
      is = sym (names_are (s.name ∷ []) names here);
      place = 0;
      low = omega arith;
      found = cond-true (same_bytes s.name s.name) (Some i) (position_from (λ t. same_bytes t.name s.name) (i + 1) ms) (bytes_itself s.name) ∙ ap Some (omega arith);
      child = ap (option_map (λ (e : List ℕ × ℕ). e.1)) (cond-true (same_bytes s.name s.name) (Some (s.name, n))
          (find (λ e. same_bytes e.0 s.name) (mounts (n + s.inodes) ms)) (bytes_itself s.name)) ∙ ap Some (omega arith);
      back = ap (option_map (λ (e : List ℕ × ℕ). e.0)) (cond-true (n == n + first_inode (s ∷ ms) 0) (Some (s.name, n))
          (find (λ e. e.1 == n + first_inode (s ∷ ms) 0) (mounts (n + s.inodes) ms)) (eq-eqb n (n + first_inode (s ∷ ms) 0) (omega arith)));
    }
    go false here h next =
        let r = next h in
        let p = first_fits s ms fit in
        let other : same_bytes s.name r.name ≡ false = sym (and-true (same_bytes s.name r.name)) ∙ ap (same_names (s.name ∷ [])) (sym r.is) ∙ here in
        let further : (n + s.inodes) + first_inode ms r.place ≡ n + first_inode (s ∷ ms) (suc r.place) = omega (arith, first-cons s ms r.place) in
        let q : ℕ = n + first_inode (s ∷ ms) (suc r.place) in
        record {
          name = r.name;
          is = r.is;
          place = suc r.place;
          low = omega (arith, r.low);
          found = cond-false (same_bytes s.name r.name) (Some i) (position_from (λ t. same_bytes t.name r.name) (i + 1) ms) other ∙ r.found ∙ ap Some (omega arith);
          child = ap (option_map (λ (e : List ℕ × ℕ). e.1)) (cond-false (same_bytes s.name r.name) (Some (s.name, n))
              (find (λ e. same_bytes e.0 r.name) (mounts (n + s.inodes) ms)) other) ∙ r.child ∙ ap Some further;
          back = ap (option_map (λ (e : List ℕ × ℕ). e.0)) (cond-false (n == q) (Some (s.name, n)) (find (λ e. e.1 == q) (mounts (n + s.inodes) ms))
              (ne_eqb n q (λ e. absurd (omega (arith, further, p.0)))))
              ∙ ap (λ m. option_map (λ (e : List ℕ × ℕ). e.0) (find (λ e. e.1 == m) (mounts (n + s.inodes) ms))) (sym further) ∙ r.back;
        }
