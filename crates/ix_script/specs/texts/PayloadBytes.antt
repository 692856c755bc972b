-- The bytes of a payload, by how they are spelled.
use Rattle.std.specs.Prelude.{◌≡◌, ℕ, ◌≤◌, List, [], length, replicate, Option, Some, unwrap_or}
use Rattle.ix_script.specs.texts.Payloads.{pairs_of, quoted_from}
use Rattle.ix_script.specs.declared.payload.Escape.TheVariants as escape
use Rattle.ix_script.specs.declared.payload.Spelling.{Spelling}
use Rattle.ix_script.specs.declared.payload.Spelling.TheVariants as spelling

-- what is spelled
abbrev pub spelled_by : Spelling → Option (List ℕ)
spelled_by (spelling.Pairs text) = pairs_of text.now
spelled_by (spelling.Quoted text) = quoted_from escape.Plain text.now
spelled_by (spelling.Times n byte) = Some (replicate n byte)

abbrev pub bytes_in : Spelling → List ℕ
bytes_in s = unwrap_or (spelled_by s) []

-- it spells so many bytes, and no more than may stand
pub record IsPayload (most : ℕ) (s : Spelling) (n : ℕ) : Type 0 where
  pub spelled : spelled_by s ≡ Some (bytes_in s)
  pub count : n ≡ length (bytes_in s)
  pub few : n ≤ most
