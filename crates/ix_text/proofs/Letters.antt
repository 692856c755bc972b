-- What is left of a word after the letters of a set.
use Rattle.std.{proofs.{Common.{◌≡◌, ℕ, suc, ◌==◌, Bool, List, [], ◌∷◌, length, ap, ◌∙◌}, lemmas.Bool.ne_eqb}, specs.Bool.then_some}
use Rattle.ix_text.specs.Privs.{bits_from}

pub letters_left : (bits : ℕ) (word : List ℕ) (b : Bool) → b ≡ (length word == 0) → then_some b bits ≡ bits_from bits [] word
letters_left bits [] b h = ap (λ x. then_some x bits) h
letters_left bits (c ∷ word) b h = ap (λ x. then_some x bits) (h ∙ ne_eqb (suc (length word)) 0 (λ e. cc))
