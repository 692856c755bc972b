-- What an object line that fits says, and where a path leads after it.
use Rattle.std.proofs.Common.{◌≡◌, ◌⊎◌, ◌≤◌, ◌+◌, ◌-◌, ◌==◌, ℕ, suc, Bool, true, false, not, ◌&&◌, ◌||◌, List, [], ◌∷◌, ◌++◌, length, take, drop, cond, Some}
use Rattle.std.{proofs.Common.{None, nat_le, refl, sym, ap, ◌∙◌, arith, get_or, inl, inr, eqb-true}, specs.{Option.option_map_or, List.{list_any, position_from}}}
use Rattle.std.proofs.{Math.{Bool.{and-true, or-false}, Seq.drop-cons}, lemmas.Bool.{and_parts, or_parts, or_cases, or_left, or_right, not-true, leb-true}}
use Rattle.std.proofs.lemmas.{List.{take-append-drop, drop_all, Folds.list_any-append}, Iterator.Adapters.position_from-zero}
use Rattle.ix_label.specs.Category.{leq}
use Rattle.ix_model.{specs.{world.{World.fs_at, Naming.{same_bytes, same_names, last_name}, Privs.is_empty}, rows.Telling.blocks_for}, proofs.tables.Alike.{names_are, names_itself}}
use Rattle.ix_model.specs.{declared.config.{FsSpec.FsSpec, Limits.Limits, ObjSpec.ObjSpec}, opening.Valid.{fs_of, is_mount, is_taken, has_directory, lying_on, blocks_taken, object_fits}}

-- all names but the last
abbrev pub parent_of : List (List ℕ) → List (List ℕ)
parent_of names = take (length names - 1) names

-- what it says, part by part
pub record Line (fss : List FsSpec) (l : Limits) (before : List ObjSpec) (b : ObjSpec) : Type 0 where
  pub is_path : b.path.names ≡ parent_of b.path.names ++ last_name b.path.names ∷ []
  pub short : length b.bytes ≤ 1048576
  pub bare : b.dir ≡ true → b.bytes ≡ []
  pub low : leq b.label (fs_at fss (fs_of fss b.path.names)).ceiling ≡ true
  pub new : is_taken fss before b.path.names ≡ false
  pub dir : has_directory fss before (parent_of b.path.names) ≡ true
  pub names : length fss + length before ≤ l.names
  pub inodes : length (lying_on fss (fs_of fss b.path.names) before) + 2 ≤ (fs_at fss (fs_of fss b.path.names)).inodes
  pub blocks : blocks_taken fss (fs_of fss b.path.names) before + blocks_for (length b.bytes) ≤ (fs_at fss (fs_of fss b.path.names)).blocks

split_last : (names : List (List ℕ)) → 1 ≤ length names → names ≡ parent_of names ++ last_name names ∷ []
split_last names some =
    let i = length names - 1 in
    sym (take-append-drop i names)
    ∙ ap (λ rest. take i names ++ rest) (drop-cons names i [] (omega arith) ∙ ap (λ rest. get_or names i [] ∷ rest) (drop_all (suc i) names (omega arith)))

-- a directory's line has no bytes
empty_of : {A : Type 0} (xs : List A) → length xs ≡ 0 → xs ≡ []
empty_of [] none = refl
empty_of (x ∷ xs) none = absurd (omega arith)

no_bytes : (b : ObjSpec) → (not b.dir || (is_empty b.cap && is_empty b.lic && length b.bytes == 0)) ≡ true → b.dir ≡ true → b.bytes ≡ []
no_bytes b h dir =
    let bare = ap (λ d. not d || (is_empty b.cap && is_empty b.lic && length b.bytes == 0)) (sym dir) ∙ h in
    empty_of _ (eqb-true _ 0 (and_parts _ _ bare).1)

pub line_is : (fss : List FsSpec) (l : Limits) (before : List ObjSpec) (b : ObjSpec) → object_fits fss l before b ≡ true → Line fss l before b
unfolding object_fits
line_is fss l before b fits =
    let names = b.path.names in
    let k = fs_of fss names in
    let low = leq b.label (fs_at fss k).ceiling in
    let new = not _ in
    let dir = has_directory fss before (parent_of names) in
    let p1 = and_parts _ _ fits in
    let p2 = and_parts _ dir p1.0 in
    let p3 = and_parts _ new p2.0 in
    let p4 = and_parts _ low p3.0 in
    let w1 = and_parts _ _ p4.0 in
    let w2 = and_parts _ _ w1.0 in
    let w3 = and_parts b.path.absolute _ w2.0 in
    let inodes = nat_le _ _ in
    let blocks = nat_le _ _ in
    let r1 = and_parts _ blocks p1.1 in
    let r2 = and_parts _ inodes r1.0 in
    record {
      is_path = split_last _ (leb-true _ _ w3.1);
      short = leb-true _ _ w2.1;
      bare = no_bytes b w1.1;
      low = p4.1;
      new = not-true _ p3.1;
      dir = p2.1;
      names = leb-true _ _ r2.0;
      inodes = leb-true _ _ r2.1;
      blocks = leb-true _ _ r1.1;
    }

-- ---- the file system of a path
no_mount : (ms : List FsSpec) (name : List ℕ) (i : ℕ) → list_any (λ s. same_names (s.name ∷ []) (name ∷ [])) ms ≡ false → position_from (λ s. same_bytes s.name name) i ms ≡ None
no_mount [] name i h = refl
no_mount (s ∷ ms) name i h =
    let p = or_parts _ (list_any (λ t. same_names (t.name ∷ []) (name ∷ [])) ms) h in
    ap (λ b. cond b (Some i) (position_from (λ t. same_bytes t.name name) (i + 1) ms)) (sym (and-true _) ∙ p.0) ∙ no_mount ms _ _ p.1

-- a path that isn't a root lies where its directory does
pub fs_of_child : (fss : List FsSpec) (names : List (List ℕ)) (name : List ℕ) → is_mount fss (names ++ name ∷ []) ≡ false → fs_of fss (names ++ name ∷ []) ≡ fs_of fss names
fs_of_child fss [] name h = ap (λ o. option_map_or suc o 0) (position_from-zero (λ (s : FsSpec). same_bytes s.name name) (drop 1 fss) ∙ no_mount (drop 1 fss) name 0 h)
fs_of_child fss (x ∷ names) name h = refl

-- ---- with one line more
there_more : (p : ObjSpec → Bool) (before : List ObjSpec) (b : ObjSpec) → list_any p (before ++ b ∷ []) ≡ (list_any p before || p b)
there_more p before b = list_any-append p before _ ∙ ap (λ x. list_any p before || x) (or-false _)

-- what was there is there, and the new object is
pub still_there : (fss : List FsSpec) (before : List ObjSpec) (b : ObjSpec) (names : List (List ℕ)) → is_taken fss before names ≡ true → is_taken fss (before ++ b ∷ []) names ≡ true
still_there fss before b names h = elim (or_cases (is_mount fss names) (list_any (λ c. same_names c.path.names names) before) h) [
  | inl mount ↦ or_left _ _ mount
  | inr made ↦ or_right (is_mount fss names) _ (there_more (λ c. same_names c.path.names names) before b ∙ or_left _ _ made)
]

pub now_there : (fss : List FsSpec) (before : List ObjSpec) (b : ObjSpec) → is_taken fss (before ++ b ∷ []) b.path.names ≡ true
now_there fss before b = or_right (is_mount fss b.path.names) _ (there_more (λ c. same_names c.path.names b.path.names) before b
    ∙ or_right (list_any (λ c. same_names c.path.names b.path.names) before) _ (names_itself b.path.names))

-- a directory is one that was there, or the new object
pub dir_there : (fss : List FsSpec) (before : List ObjSpec) (b : ObjSpec) (names : List (List ℕ)) → has_directory fss (before ++ b ∷ []) names ≡ true
    → (has_directory fss before names ≡ true) ⊎ ((b.dir ≡ true) × (b.path.names ≡ names))
dir_there fss before b names h = elim (or_cases (same_names [] names || is_mount fss names) (list_any (λ c. c.dir && same_names c.path.names names) (before ++ b ∷ [])) h) [
  | inl root ↦ inl (or_left _ _ root)
  | inr made ↦ elim (or_cases (list_any (λ c. c.dir && same_names c.path.names names) before) _
      (sym (there_more (λ c. c.dir && same_names c.path.names names) before b) ∙ made)) [
        | inl old ↦ inl (or_right (same_names [] names || is_mount fss names) _ old)
        | inr new ↦
            let p = and_parts b.dir _ new in
            inr (p.0, names_are _ _ p.1)
      ]
]
