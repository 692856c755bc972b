-- How long the text of the generator is.
use Rattle.std.proofs.Common.{◌≡◌, ℕ, zero, suc, ◌+◌, ◌*◌, ◌≤◌, ◌%◌, ◌==◌, List, length, refl, arith, inl, inr}
use Rattle.std.{specs.List.{flat_map, range_with_len}, proofs.lemmas.{Bool.cases_Bool, List.length-append}}
use Rattle.ix_gen.specs.Generated.{beginning, line_at, generated}

-- a length that is known is at most 15
within : (text : List ℕ) (n : ℕ) → length text ≡ n → n ≤ 15 → length text ≤ 15
within text n e h = omega (arith, e, h)

short_line : (k : ℕ) → length (line_at k) ≤ 15
unfolding line_at
short_line k = elim (cases_Bool (k % 6 == 1)) [
  | inl e ↦ within (line_at k) 11 (rw e refl) (omega arith)
  | inr n1 ↦ elim (cases_Bool (k % 6 == 2)) [
    | inl e ↦ within (line_at k) 15 (rw (n1, e) refl) (omega arith)
    | inr n2 ↦ elim (cases_Bool (k % 6 == 3)) [
      | inl e ↦ within (line_at k) 11 (rw (n1, n2, e) refl) (omega arith)
      | inr n3 ↦ elim (cases_Bool (k % 6 == 4)) [
        | inl e ↦ within (line_at k) 12 (rw (n1, n2, n3, e) refl) (omega arith)
        | inr n4 ↦ elim (cases_Bool (k % 6 == 5)) [
          | inl e ↦ within (line_at k) 11 (rw (n1, n2, n3, n4, e) refl) (omega arith)
          | inr n5 ↦ within (line_at k) 11 (rw (n1, n2, n3, n4, n5) refl) (omega arith)
        ]
      ]
    ]
  ]
]

short_lines : (k n : ℕ) → length (flat_map line_at (range_with_len k n)) ≤ 15 * n
short_lines k zero = omega arith
short_lines k (suc n) =
    let rest = short_lines (k + 1) n in
    let one = short_line k in
    omega (arith, rest, one, length-append (line_at k) (flat_map line_at (range_with_len (k + 1) n)))

length_beginning : length beginning ≡ 164
unfolding beginning
length_beginning = refl

pub short_text : (n : ℕ) → n ≤ 100000 → length (generated n) ≤ 16777216
unfolding generated
short_text n few = omega (arith, short_lines 1 n, length_beginning, length-append beginning (flat_map line_at (range_with_len 1 n)))
