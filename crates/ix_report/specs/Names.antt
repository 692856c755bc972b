-- Names and paths as a report writes them.
use Rattle.std.specs.Prelude.{ℕ, Bool, ◌&&◌, not, List, [], ◌∷◌, ◌++◌, codes, ◌==◌, nat_le, if◌then◌else◌, map}
use Rattle.std.specs.List.{flat_map}
use Rattle.ix_model.specs.world.Naming.{PathOf}
use Rattle.ix_text.specs.Spellings.{hex_pair, joined}

-- the bytes '"' and '\'
abbrev pub quote : ℕ
quote = 34

abbrev pub backslash : ℕ
backslash = 92

-- a byte that is printed as it is: a visible character, and neither a quote nor a backslash
abbrev pub stands : ℕ → Bool
stands b = nat_le 0x21 b && nat_le b 0x7e && not (b == quote) && not (b == backslash)

-- a byte of a name; one that doesn't stand is escaped
abbrev pub name_byte : ℕ → List ℕ
name_byte b = if stands b then b ∷ [] else codes "\\x" ++ hex_pair b

-- a name's bytes
abbrev pub name_text : List ℕ → List ℕ
name_text name = flat_map name_byte name

-- names with a slash between each two
abbrev pub names_text : List (List ℕ) → List ℕ
names_text names = joined 47 (map name_text names)

-- a path that begins at a working directory: a dot where it has no names
abbrev pub relative_text : List (List ℕ) → List ℕ
relative_text [] = codes "."
relative_text (name ∷ names) = names_text (name ∷ names)

-- an absolute path begins with a slash
unfoldable pub path_text : PathOf → List ℕ
path_text p = if p.absolute then codes "/" ++ names_text p.names else relative_text p.names
