-- What stands at one number in two tables, and the descriptors of processes that live in both.
use Rattle.std.proofs.Common.{◌≡◌, ◌≢◌, ℕ, List, [], ◌∷◌, ◌++◌, Option, Some, None, option_map, sym, ap, ◌∙◌, subst, inl, inr}
use Rattle.std.proofs.lemmas.{Bool.Decides.eqb_tells, List.{get_or-set_other, get_or_append_left}}
use Rattle.ix_model.specs.world.World.{Process, at, put, change, living}
use Rattle.ix_model.proofs.{tables.{Tables.at_changed, Finds.{at_put, at_change, in_table}}, words.Living.{is_living, not_ended, lives_as}}

-- ---- what stands in both
-- S of what stands at one number in the one table and in the other
pub record Both {A : Type 0} (S : ℕ → A → A → Type 0) (t u : List (Option A)) : Type 0 where
  pub same : (n : ℕ) (x y : A) → at t n ≡ Some x → at u n ≡ Some y → S n x y

module _ {A : Type 0} (S : ℕ → A → A → Type 0) where
  pub both_itself : ((n : ℕ) (x : A) → S n x x) → (t : List (Option A)) → Both S t t
  both_itself h t = record { same = λ n x y is here. let one : x ≡ y = cc (sym is ∙ here) in subst (λ z. S n x z) one (h n x) }

  pub both_change : (t u : List (Option A)) (n : ℕ) (h : A → A) → ((x was : A) → at t n ≡ Some x → S n x was → S n x (h was)) → Both S t u → Both S t (change u n h)
  both_change t u n h on r = record {
    same = λ m x y is here. elim (at_change u n h m y here) [
      | inl c ↦
          let there = ap (at t) (sym c.here) ∙ is in
          subst (λ k. S k x y) (sym c.here) (subst (λ z. S n x z) (sym c.same) (on x c.was there (r.same n x c.was there c.is_was)))
      | inr other ↦ r.same m x y is other.1
    ];
  }

  pub both_gone : (t u : List (Option A)) (n : ℕ) → Both S t u → Both S t (put u n None)
  both_gone t u n r = record {
    same = λ m x y is here. elim (at_put u n m _ y here) [
      | inl gone ↦ let h = gone.1 in cc
      | inr other ↦ r.same m x y is other.1
    ];
  }

  pub both_new : (t u : List (Option A)) (n : ℕ) (z : Option A) → at t n ≡ None → Both S t u → Both S t (put u n z)
  both_new t u n z free r = record {
    same = λ m x y is here. elim (at_put u n m z y here) [
      | inl new ↦ let h = sym free ∙ ap (at t) (sym new.0) ∙ is in cc
      | inr other ↦ r.same m x y is other.1
    ];
  }

-- ---- descriptors
-- a living process has that open entry under that descriptor
pub record HasFd (t : List (Option Process)) (n fd d : ℕ) : Type 0 where
  pub process : Process
  pub lives : living (at t n) ≡ Some process
  pub descriptor : at process.fds fd ≡ Some d

pub has_elsewhere : (t : List (Option Process)) (p : ℕ) (x : Option Process) (n fd d : ℕ) → n ≢ p → HasFd t n fd d → HasFd (put t p x) n fd d
has_elsewhere t p x n fd d apart r = let lives = ap living (get_or-set_other t p n x None apart) ∙ r.lives in search

pub has_changed : (t : List (Option Process)) (p : ℕ) (h : Process → Process) (n fd d : ℕ) → ((q : Process) → (h q).ended ≡ q.ended)
    → (n ≡ p → (q : Process) → at q.fds fd ≡ Some d → at (h q).fds fd ≡ Some d) → HasFd t n fd d → HasFd (change t p h) n fd d
has_changed t p h n fd d ended keeps r = elim (eqb_tells n p) [
  | inl same ↦
      let is = ap (at t) (sym same.1) ∙ is_living _ _ r.lives in
      record {
        process = h r.process;
        lives = lives_as _ _ (ap (at _) same.1 ∙ at_changed t p h ∙ ap (option_map h) is) (ended _ ∙ not_ended _ r.process r.lives);
        descriptor = keeps same.1 r.process r.descriptor;
      }
  | inr apart ↦ has_elsewhere t p _ n fd d apart.1 r
]

pub has_pushed : (t : List (Option Process)) (p : Process) (n fd d : ℕ) → HasFd t n fd d → HasFd (t ++ Some p ∷ []) n fd d
has_pushed t p n fd d r =
    let lives = ap living (get_or_append_left t (Some p ∷ []) None n (in_table t n r.process (is_living _ r.process r.lives))) ∙ r.lives in search
