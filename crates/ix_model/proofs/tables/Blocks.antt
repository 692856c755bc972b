-- The blocks of the holdings that a test picks out.
use Rattle.std.proofs.Common.{◌≡◌, ◌≢◌, ◌≤◌, ◌+◌, ◌==◌, ℕ, zero, suc, Bool, true, false, List, [], ◌∷◌, length, Option, Some, None, if◌then◌else◌, sym, ap, ◌∙◌, arith, refl, set}
use Rattle.std.{specs.Option.{option_map_or, option_and_then}, proofs.lemmas.Bool.eqb-true}
use Rattle.ix_model.specs.{world.World.{Frame, Object, Holding}, rows.Telling.{blocks_for, blocks_where, lies_on, fs_of_object}}

-- the sum looks at the test from n on
pub blocks_from : (p q : ℕ → Bool) (n : ℕ) (hs : List Holding) → ((m : ℕ) → n ≤ m → p m ≡ q m) → blocks_where p n hs ≡ blocks_where q n hs
blocks_from p q n [] same = refl
blocks_from p q n (h ∷ hs) same = λ i. (if same n (omega arith) i then blocks_for (length h.first) else 0) + blocks_from p q (suc n) hs (λ m low. same m (omega arith)) i

-- a holding that isn't counted
pub blocks_skip : (p : ℕ → Bool) (n : ℕ) (hs : List Holding) (o : ℕ) (x : Holding) → p (n + o) ≡ false → blocks_where p n (set hs o x) ≡ blocks_where p n hs
blocks_skip p n [] o x h = refl
blocks_skip p n (y ∷ hs) zero x h =
    let e = ap p (omega arith) ∙ h in
    λ i. (ap (λ b. if b then blocks_for (length x.first) else 0) e ∙ sym (ap (λ b. if b then blocks_for (length y.first) else 0) e)) i + blocks_where p (suc n) hs
blocks_skip p n (y ∷ hs) (suc o) x h = ap (λ k. (if p n then blocks_for (length y.first) else 0) + k) (blocks_skip p _ hs o x (ap p (omega arith) ∙ h))

at_most : (b : Bool) (n : ℕ) → (if b then n else 0) ≤ n
at_most true n = omega arith
at_most false n = omega arith

-- the blocks of the others and of the new holding
pub blocks_edit : (p q : ℕ → Bool) (n : ℕ) (hs : List Holding) (o : ℕ) (x : Holding) → ((m : ℕ) → m ≢ n + o → q m ≡ p m)
    → blocks_where p n (set hs o x) ≤ blocks_where q n hs + blocks_for (length x.first)
blocks_edit p q n [] o x same = omega arith
blocks_edit p q n (y ∷ hs) zero x same =
    let rest : blocks_where p (suc n) hs ≡ blocks_where q (suc n) hs = blocks_from p q (suc n) hs (λ m low. sym (same m (λ e. absurd (omega arith)))) in
    let first : (if p n then blocks_for (length x.first) else 0) ≤ blocks_for (length x.first) = at_most (p n) _ in
    omega arith
blocks_edit p q n (y ∷ hs) (suc o) x same =
    let first : (if q n then blocks_for (length y.first) else 0) ≡ (if p n then blocks_for (length y.first) else 0) =
    ap (λ b. if b then blocks_for (length y.first) else 0) (same n (λ e. absurd (omega arith))) in
    let rest = blocks_edit p q (suc n) hs o x (λ m other. same m (λ e. other (omega arith))) in
    omega arith

-- an object that lies on a file system
pub on_fs : (f : Frame) (k o : ℕ) → lies_on f (Some k) o ≡ true → fs_of_object f o ≡ Some k
on_fs f k o h = go _ h
  where
    in_fs : (fs : Option ℕ) → option_map_or (λ j. j == k) fs false ≡ true → fs ≡ Some k
    in_fs None h = cc
    in_fs (Some j) h = ap Some (eqb-true j k h)

    go : (x : Option Object) → option_map_or (λ y. option_map_or (λ j. j == k) y.fs false) x false ≡ true → option_and_then (λ y. y.fs) x ≡ Some k
    go None h = cc
    go (Some x) h = in_fs _ h
