-- The lines of a text, told one after the other.
use Rattle.std.proofs.Common.{◌≡◌, ℕ, suc, ◌+◌, ◌-◌, ◌<◌, ◌≤◌, List, ◌++◌, refl, sym, ap, ◌∙◌, arith, append_assoc}
use Rattle.std.{specs.List.{flat_map, range_with_len}, proofs.lemmas.List.append-nil}
use Rattle.ix_gen.specs.Generated.{beginning, line_at, generated}

-- all lines are left after the beginning
pub all_lines : (n : ℕ) → beginning ++ flat_map line_at (range_with_len 1 (n + 1 - 1)) ≡ generated n
unfolding generated
all_lines n = let e : n + 1 - 1 ≡ n = omega arith in rw e refl

-- one line is told, and the others are left
pub next_line : (out : List ℕ) (k n : ℕ) → k < n → (out ++ line_at k) ++ flat_map line_at (range_with_len (k + 1) (n - (k + 1))) ≡ out ++ flat_map line_at (range_with_len k (n - k))
next_line out k n h =
    let e : n - k ≡ suc (n - (k + 1)) = omega arith in
    append_assoc out (line_at k) (flat_map line_at (range_with_len (k + 1) (n - (k + 1)))) ∙ ap (λ m. out ++ flat_map line_at (range_with_len k m)) (sym e)

-- nothing is left
pub no_line : (out : List ℕ) (k n : ℕ) → n ≤ k → out ++ flat_map line_at (range_with_len k (n - k)) ≡ out
no_line out k n h = let e : n - k ≡ 0 = omega arith in rw e (append-nil out)
