-- Names that are known break no rule where they have to be.
use Rattle.std.proofs.{Common.{◌≡◌, ℕ, true, false, List, [], ◌∷◌, None, inl, inr, arith, refl}, lemmas.Bool.{cases_Bool, false≢true, Decides.nat_tests}}
use Rattle.ix_text.specs.{Bytes.{is_digit, is_letter}, Names.is_script_name}
use Rattle.ix_script.{specs.lines.Kinds.{is_number_of_fd, first_broken, places_fault}, proofs.lines.Readings.least_fault}
use Rattle.ix_script.specs.lines.Kinds as kind

no_digit : (b : ℕ) → is_letter b ≡ true → is_digit b ≡ false
no_digit b h = grind (arith, nat_tests)

no_number : (word : List ℕ) → is_script_name word ≡ true → is_number_of_fd word ≡ false
unfolding is_script_name
no_number [] h = refl
no_number (b ∷ bytes) h = elim (cases_Bool _) [
  | inl letter ↦ no_digit b letter
  | inr other ↦ absurd (false≢true (rw other at h))
]

pub proc_right : (word : List ℕ) → is_script_name word ≡ true → places_fault ((kind.Proc, word) ∷ []) ≡ None
unfolding places_fault first_broken
proc_right word h = rw h refl

fd_right : (word : List ℕ) → is_script_name word ≡ true → places_fault ((kind.Fd, word) ∷ []) ≡ None
unfolding places_fault first_broken
fd_right word h = rw (h, no_number) refl

pub both_right : (proc fd : List ℕ) → is_script_name proc ≡ true → is_script_name fd ≡ true → places_fault ((kind.Proc, proc) ∷ (kind.Fd, fd) ∷ []) ≡ None
both_right proc fd h k = rw (least_fault, proc_right) (fd_right fd k)
