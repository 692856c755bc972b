-- What the readers of payloads tell.
use Rattle.std.specs.Prelude.{◌≡◌, ℕ, nat_lt, false, List, [], ◌∷◌, length, Option, Some, is_none, Result, Ok, Err}
use Rattle.std.specs.Option.{option_map_or}
use Rattle.ix_script.specs.lines.Rules.{first_of}
use Rattle.ix_script.specs.reader.Readers.{Refuses}
use Rattle.ix_script.specs.texts.PayloadBytes.{spelled_by}
use Rattle.ix_script.specs.declared.fail.Rule.{Rule}
use Rattle.ix_script.specs.declared.payload.Spelling.{Spelling}

-- the rule that a payload of these bytes breaks where at most so many may stand: 18 for none, 19 for too many
unfoldable pub spelling_fault : ℕ → Option (List ℕ) → Option ℕ
spelling_fault most meaning = first_of ((18, is_none meaning) ∷ (19, option_map_or (λ bytes. nat_lt most (length bytes)) meaning false) ∷ [])

-- so many bytes are spelled
pub record HasCount (n : ℕ) (meaning : Option (List ℕ)) : Type 0 where
  pub bytes : List ℕ
  pub spelled : meaning ≡ Some bytes
  pub count : n ≡ length bytes

-- what is read is how these bytes are spelled, and how many they are
pub record SpellsRight (s : Spelling) (n : ℕ) (meaning : Option (List ℕ)) : Type 0 where
  pub bytes : List ℕ
  pub meant : meaning ≡ Some bytes
  pub spelled : spelled_by s ≡ Some bytes
  pub count : n ≡ length bytes

-- the same, where a rule may be broken
abbrev pub Spells : ℕ → Result (Spelling × ℕ) Rule → Option (List ℕ) → Type 0
Spells most (Ok p) meaning = SpellsRight p.0 p.1 meaning
Spells most (Err e) meaning = Refuses e (spelling_fault most meaning)
