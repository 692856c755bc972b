-- A function that is changed at one number, and turns added up.
use Rattle.std.proofs.Common.{◌≡◌, ◌≢◌, ℕ, zero, suc, ◌+◌, ◌*◌, ◌%◌, ◌<◌, ◌≤◌, cond, eqb, refl, ap, sym, arith, eq-eqb, ne_eqb, subst}
use mathlib.Core.Logic.{dite}
use native.Mathlib.Decide.{ℕ_discrete}
use Rattle.ix_gate.specs.Rule.{total_turns, most_turns, most_seats}

-- f, with the value x at n
abbrev pub put : (ℕ → ℕ) → ℕ → ℕ → ℕ → ℕ
put f n x k = cond (eqb k n) x (f k)

pub put_here : (f : ℕ → ℕ) (n x : ℕ) → put f n x n ≡ x
put_here f n x = ap (λ b. cond b x (f n)) (eq-eqb n n refl)

pub put_else : (f : ℕ → ℕ) (n x k : ℕ) → k ≢ n → put f n x k ≡ f k
put_else f n x k ne = ap (λ b. cond b x (f k)) (ne_eqb k n ne)

-- what holds of f and of x holds of f with x
pub put_holds : (P : ℕ → Type 0) (f : ℕ → ℕ) (n x : ℕ) → P x → ((k : ℕ) → P (f k)) → (k : ℕ) → P (put f n x k)
put_holds P f n x here all k = dite (ℕ_discrete k n) (λ e. subst (λ (z : ℕ). P (put f n x z)) (sym e) (subst P (sym (put_here f n x)) here)) (λ ne. subst P (sym (put_else f n x k ne)) (all k))

pub total_turns-same : (f g : ℕ → ℕ) (m : ℕ) → ((k : ℕ) → k < m → f k ≡ g k) → total_turns f m ≡ total_turns g m
total_turns-same f g zero same = refl
total_turns-same f g (suc m) same = let a = total_turns-same f g m (λ k l. same k (omega arith)) in let b = same m (omega arith) in omega arith

-- one turn more under one number is one turn more in all
pub total_turns-put : (f : ℕ → ℕ) (n m : ℕ) → n < m → total_turns (put f n (f n + 1)) m ≡ total_turns f m + 1
total_turns-put f n zero l = absurd (omega arith)
total_turns-put f n (suc m) l = dite (ℕ_discrete m n)
    (λ e. let a = total_turns-same (put f n (f n + 1)) f m (λ k h. put_else f n (f n + 1) k (λ x. omega arith)) in
    let b : put f n (f n + 1) m ≡ f m + 1 = subst (λ (z : ℕ). put f n (f n + 1) z ≡ f z + 1) (sym e) (put_here f n (f n + 1)) in omega arith)
    (λ ne. let a = total_turns-put f n m (omega arith) in let b = put_else f n (f n + 1) m ne in omega arith)

total_turns-le : (f : ℕ → ℕ) (m c : ℕ) → ((k : ℕ) → f k ≤ c) → total_turns f m ≤ m * c
total_turns-le f zero c few = omega arith
total_turns-le f (suc m) c few = let a = total_turns-le f m c few in let b = few m in omega arith

-- with so few seats the turns stay below the end of a word
pub total_turns_fit : (f : ℕ → ℕ) (m : ℕ) → ((k : ℕ) → f k ≤ most_turns) → m ≤ most_seats → total_turns f m + 1 < 18446744073709551616
total_turns_fit f m few small = let a : total_turns f m ≤ m * 144115188075855872 = total_turns-le f m most_turns few in omega arith

pub mod_fits : (x : ℕ) → x < 18446744073709551616 → x % 18446744073709551616 ≡ x
mod_fits x l = omega arith
