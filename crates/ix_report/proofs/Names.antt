-- The names of a path are written byte by byte.
use Rattle.std.proofs.Common.{◌≡◌, ℕ, ◌<◌, ◌==◌, List, [], ◌∷◌, ◌++◌, length, map, inl, inr, refl, sym, ap, ◌∙◌, append_assoc, arith}
use Rattle.std.proofs.lemmas.Bool.{cases_Bool, eqb-true}
use Rattle.ix_model.{specs.world.Texts.{with_front, between_slashes, names_in}, proofs.texts.Joining.some_piece}
use Rattle.ix_text.specs.Spellings.{further}
use Rattle.ix_report.specs.Names.{name_byte, name_text, names_text, relative_text}

-- one byte more at the front
written_front : (b : ℕ) (ps : List (List ℕ)) (p : List ℕ) (more : List (List ℕ)) → ps ≡ p ∷ more → names_text (with_front b ps) ≡ name_byte b ++ names_text ps
written_front b ps p more h = rw h (append_assoc (name_byte b) (name_text p) (further 47 (map name_text more)))

-- a slash more
written_slash : (ps : List (List ℕ)) (p : List ℕ) (more : List (List ℕ)) → ps ≡ p ∷ more → names_text ([] ∷ ps) ≡ name_byte 47 ++ names_text ps
written_slash ps p more h = rw h refl

split_written : (text : List ℕ) → names_text (between_slashes text) ≡ name_text text
unfolding between_slashes
split_written [] = refl
split_written (b ∷ text) = let k = some_piece text in elim (cases_Bool (b == 47)) [
  | inl e ↦
      let slash : name_byte 47 ≡ name_byte b = ap name_byte (sym (eqb-true b 47 e)) in
      rw e (written_slash (between_slashes text) k.0 k.1 k.2 ∙ (λ i. slash i ++ split_written text i))
  | inr e ↦ rw e (written_front b (between_slashes text) k.0 k.1 k.2 ∙ ap (λ t. name_byte b ++ t) (split_written text))
]

-- a slash stands as it is
pub names_written : (text : List ℕ) → names_text (names_in text) ≡ name_text text
names_written [] = refl
names_written (b ∷ text) = split_written (b ∷ text)

-- a path with a text has names
pub some_names : (text : List ℕ) → 0 < length text → relative_text (names_in text) ≡ names_text (names_in text)
some_names [] h = absurd (omega arith)
some_names (b ∷ text) h = let k = some_piece (b ∷ text) in rw k.2 refl
