-- Bytes in hexadecimal digits.
use Rattle.std.specs.Prelude.{ℕ, List}
use Rattle.std.specs.List.{flat_map}
use Rattle.ix_text.specs.Spellings.{hex_pair}

-- each byte as two small digits
abbrev pub hex : List ℕ → List ℕ
hex bytes = flat_map hex_pair bytes
