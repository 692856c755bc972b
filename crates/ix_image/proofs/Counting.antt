-- How the code finds the file system of a number, counts inodes, and compares the first bytes.
use Rattle.std.{proofs.Common.{◌≡◌, ℕ, zero, suc, ◌+◌, ◌-◌, ◌<◌, ◌≤◌, cond, eqb, List, [], ◌∷◌, length, get_or, take, drop, Err, refl, sym, ap, subst, ◌∙◌, arith}, specs.List.AllByRecursion}
use Rattle.std.proofs.lemmas.{Bool.{lt-ltb, le-ltb, eq-eqb, ne_eqb}, List.{drop_more, drop_all, take_all, length-drop, Sums.sum_by_more}}
use Rattle.ix_model.specs.declared.config.FsSpec.{FsSpec}
use Rattle.ix_image.{specs.{Trees.{inodes_in, home}, Image.{IsFileSystem, first_bytes}, Reading.{breaks, same_at, start_at}}, proofs.Objects.most_within}

-- ---- file systems
-- the element that a loop is at
pub rest_at : {A : Type 0} (xs : List A) (i : ℕ) (x : A) → i < length xs → x ≡ get_or xs i x → drop i xs ≡ x ∷ drop (i + 1) xs
rest_at xs i x low is = drop_more xs i x low ∙ ap (λ y. y ∷ drop (i + 1) xs) (sym is)

pub home_here : (fss : List FsSpec) (i n : ℕ) (s : FsSpec) → i < length fss → s ≡ get_or fss i s → n < s.inodes → i + home (drop i fss) n ≡ i
unfolding home
home_here fss i n s low is inside = rw (rest_at fss i s low is, lt-ltb) (omega arith)

pub home_further : (fss : List FsSpec) (i n : ℕ) (s : FsSpec) → i < length fss → s ≡ get_or fss i s → s.inodes ≤ n → (i + 1) + home (drop (i + 1) fss) (n - s.inodes) ≡ i + home (drop i fss) n
unfolding home
home_further fss i n s low is past = rw (rest_at fss i s low is, le-ltb) (omega arith)

pub home_past : (fss : List FsSpec) (n : ℕ) → length fss + home (drop (length fss) fss) n ≡ length fss
unfolding home
home_past fss n = rw (drop_all (length fss) fss (omega arith)) (omega arith)

-- a file system has at most 65,536 inodes
pub inodes_at : (fss : List FsSpec) (i : ℕ) (s : FsSpec) → AllByRecursion IsFileSystem fss → i < length fss → s ≡ get_or fss i s → s.inodes ≤ 65536
inodes_at [] i s all low is = absurd (omega arith)
inodes_at (x ∷ fss) zero s all low is = subst (λ y. y.inodes ≤ 65536) (sym is) (most_within 1 _ _ all.0.inodes)
inodes_at (x ∷ fss) (suc i) s all low is = inodes_at fss i s all.1 (omega arith) is

pub inodes_more : (fss : List FsSpec) (i : ℕ) (s : FsSpec) → i < length fss → s ≡ get_or fss i s → inodes_in (take (i + 1) fss) ≡ inodes_in (take i fss) + s.inodes
inodes_more fss i s low is = sum_by_more (λ s. s.inodes) fss i s low ∙ ap (λ x. inodes_in (take i fss) + x.inodes) (sym is)

-- ---- the first bytes
same_here : (wanted bytes : List ℕ) (i : ℕ) → i < length wanted → i < length bytes → same_at (drop i wanted) (drop i bytes)
    ≡ cond (eqb (get_or bytes i 0) (get_or wanted i 0)) (same_at (drop (i + 1) wanted) (drop (i + 1) bytes)) (Err (breaks 2 (drop i bytes)))
same_here wanted bytes i low within =
    let b = drop_more bytes i 0 within in
    (λ j. same_at ((drop_more wanted i 0 low) j) (b j)) ∙ ap (λ r. cond (eqb (get_or bytes i 0) (get_or wanted i 0)) (same_at (drop (i + 1) wanted) (drop (i + 1) bytes)) (Err (breaks 2 r))) (sym b)

pub same_further : (wanted bytes : List ℕ) (i : ℕ) → i < length wanted → i < length bytes → get_or bytes i 0 ≡ get_or wanted i 0 → same_at (drop (i + 1) wanted) (drop (i + 1) bytes)
    ≡ same_at (drop i wanted) (drop i bytes)
same_further wanted bytes i low within same = sym (same_here _ _ i low within
    ∙ ap (λ b. cond b (same_at (drop (i + 1) wanted) (drop (i + 1) bytes)) (Err (breaks 2 (drop i bytes)))) (eq-eqb _ _ same))

pub same_differs : (wanted bytes : List ℕ) (i : ℕ) → i < length wanted → i < length bytes → (get_or bytes i 0 ≡ get_or wanted i 0 → ⊥) → same_at (drop i wanted) (drop i bytes)
    ≡ Err (breaks 2 (drop i bytes))
same_differs wanted bytes i low within other = same_here _ _ i low within
    ∙ ap (λ b. cond b (same_at (drop (i + 1) wanted) (drop (i + 1) bytes)) (Err (breaks 2 (drop i bytes)))) (ne_eqb _ _ other)

pub start_is : (bytes : List ℕ) → 8 ≤ length bytes → start_at bytes ≡ same_at first_bytes bytes
unfolding start_at
start_is bytes long = rw (le-ltb) refl

-- all that is behind a place
pub rest_whole : (bytes : List ℕ) (i : ℕ) → take (length bytes - i) (drop i bytes) ≡ drop i bytes
rest_whole bytes i = take_all _ _ (omega (arith, length-drop i bytes))
