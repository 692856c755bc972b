-- Loops that read so many of one kind: what was read so far, and what is still to be read, give the whole.
use Rattle.std.proofs.{Common.{◌≡◌, ℕ, zero, suc, ◌+◌, ◌-◌, ◌<◌, ◌≤◌, List, [], ◌∷◌, ◌++◌, Ok, Err, refl, sym, ap, ◌∙◌, append_assoc, arith}, lemmas.List.append-nil}
use Rattle.ix_image.specs.{declared.fault.Fault.Fault, Reading.{Read, ◌>>=◌}}

-- what is read, behind what was read before
abbrev pub with_front : {A : Type 0} → List A → Read (List A) → Read (List A)
with_front front read = read >>= λ x. Ok (front ++ x.0, x.1)

module _ {S A : Type 0} (read : S → List ℕ → Read A) (next : A → S) (many : S → ℕ → List ℕ → Read (List A))
    (none : (s : S) (bytes : List ℕ) → many s zero bytes ≡ Ok ([], bytes))
    (more : (s : S) (n : ℕ) (bytes : List ℕ) → many s (suc n) bytes ≡ (read s bytes >>= λ first. many (next first.0) n first.1 >>= λ others. Ok (first.0 ∷ others.0, others.1))) where
  regroup : (front : List A) (x : A) (r : Read (List A)) → with_front front (r >>= λ others. Ok (x ∷ others.0, others.1)) ≡ with_front (front ++ x ∷ []) r
  regroup front x (Ok o) = ap (λ xs. Ok (xs, o.1)) (sym (append_assoc front _ o.0))
  regroup front x (Err f) = refl

  -- one more was read
  pub goes_on : (front : List A) (n i : ℕ) (s : S) (bytes : List ℕ) (x : A) (after : List ℕ) (total : Read (List A)) → i < n → read s bytes ≡ Ok (x, after)
      → with_front front (many s (n - i) bytes) ≡ total → with_front (front ++ x ∷ []) (many (next x) (n - (i + 1)) after) ≡ total
  goes_on front n i s bytes x after total low h so_far =
      sym (ap (with_front front) (ap (λ m. many s m bytes) (omega arith) ∙ more s (n - (i + 1)) bytes
      ∙ ap (λ r. r >>= λ first. many (next first.0) (n - (i + 1)) first.1 >>= λ others. Ok (first.0 ∷ others.0, others.1)) h) ∙ regroup _ x (many _ _ _))
      ∙ so_far

  -- the next has a fault
  pub ends_at : (front : List A) (n i : ℕ) (s : S) (bytes : List ℕ) (f : Fault) (total : Read (List A)) → i < n → read s bytes ≡ Err f
      → with_front front (many s (n - i) bytes) ≡ total → total ≡ Err f
  ends_at front n i s bytes f total low h so_far =
      sym so_far ∙ ap (with_front front) (ap (λ m. many s m bytes) (omega arith) ∙ more s (n - (i + 1)) bytes
      ∙ ap (λ r. r >>= λ first. many (next first.0) (n - (i + 1)) first.1 >>= λ others. Ok (first.0 ∷ others.0, others.1)) h)

  -- all were read
  pub all_read : (front : List A) (n i : ℕ) (s : S) (bytes : List ℕ) (total : Read (List A)) → n ≤ i → with_front front (many s (n - i) bytes) ≡ total → total ≡ Ok (front, bytes)
  all_read front n i s bytes total high so_far =
      sym so_far ∙ ap (λ m. with_front front (many s m bytes)) (omega arith) ∙ ap (with_front front) (none s _) ∙ ap (λ xs. Ok (xs, bytes)) (append-nil front)

  -- none was read yet
  pub none_read_yet : (n : ℕ) (s : S) (bytes : List ℕ) → with_front [] (many s (n - 0) bytes) ≡ many s n bytes
  none_read_yet n s bytes = ap (λ m. with_front [] (many s m _)) zero_less ∙ same (many s n _)
    where
      zero_less : n - 0 ≡ n
      zero_less = omega arith

      same : (r : Read (List A)) → with_front [] r ≡ r
      same (Ok x) = refl
      same (Err f) = refl
