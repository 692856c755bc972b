-- The set of privileges that a word spells.
use Rattle.std.specs.Prelude.{ℕ, ◌+◌, List, [], ◌∷◌, drop, Option, Some, None, if◌then◌else◌, codes}
use Rattle.std.proofs.Common.{option_map}
use Rattle.ix_model.specs.world.Naming.{same_bytes}
use Rattle.ix_model.specs.declared.privs.PrivSet.{PrivSet}
use Rattle.ix_text.specs.Bytes.{begins, is_empty}
use Rattle.ix_text.specs.Spellings.{letters}

-- these bits and those of a word's letters, each of which stands at most once, and in this order
abbrev pub bits_from : ℕ → List (ℕ × ℕ) → List ℕ → Option ℕ
bits_from bits [] word = if is_empty word then Some bits else None
bits_from bits ((letter, bit) ∷ letters) word = if begins letter word then bits_from (bits + bit) letters (drop 1 word) else bits_from bits letters word

-- a set without privileges is `-`, another is its letters
unfoldable pub privs_of : List ℕ → Option PrivSet
privs_of word =
    if same_bytes word (codes "-") then Some (record { 0 = 0 })
    else if is_empty word then None
    else option_map (λ bits. record { 0 = bits }) (bits_from 0 letters word)
