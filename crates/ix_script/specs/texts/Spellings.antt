-- How the words of a line are spelled.
use Rattle.std.specs.Prelude.{ℕ, ◌==◌, nat_lt, Bool, not, ◌&&◌, ◌||◌, List, [], ◌∷◌, ◌++◌, length, Option, Some, None, if◌then◌else◌, codes}
use Rattle.std.specs.List.{list_all, flat_map}
use Rattle.std.specs.Option.{option_map_or}
use Rattle.std.specs.Fmt.{decimal}
use Rattle.ix_model.specs.world.Naming.{PathOf}
use Rattle.ix_model.specs.opening.Valid.{is_within}
use Rattle.ix_text.specs.Spellings.{hex_pair, joined}
use Rattle.ix_script.specs.declared.line.FdWord.{FdWord}
use Rattle.ix_script.specs.declared.line.FdWord.TheVariants as fd
use Rattle.ix_script.specs.declared.line.KeepWord.{KeepWord}
use Rattle.ix_script.specs.declared.line.KeepWord.TheVariants as keep

-- ---- paths
-- names joined by slashes, after one where the path is absolute
unfoldable pub path_text : PathOf → List ℕ
path_text path = (if path.absolute then codes "/" else []) ++ joined 47 path.names

-- ---- descriptors
abbrev pub fd_text : FdWord → List ℕ
fd_text (fd.Number n) = decimal n
fd_text (fd.Named name) = name

abbrev pub keep_text : KeepWord → List ℕ
keep_text keep.All = codes "all"
keep_text keep.Nothing = codes "none"
keep_text (keep.One one) = fd_text one

-- `as` and the names after it, where there are names
abbrev pub as_name : Option (List ℕ) → List (List ℕ)
as_name None = []
as_name (Some name) = codes "as" ∷ name ∷ []

abbrev pub as_names : Option (List ℕ × List ℕ) → List (List ℕ)
as_names None = []
as_names (Some names) = codes "as" ∷ names.0 ∷ names.1 ∷ []

-- ---- payloads
-- `x` and the pair of each byte
abbrev pub pairs_text : List ℕ → List ℕ
pairs_text bytes = codes "x" ++ flat_map hex_pair bytes

-- n*HH, the byte n times
abbrev pub times_text : ℕ → ℕ → List ℕ
times_text n byte = decimal n ++ (codes "*" ++ hex_pair byte)

-- a byte that stands in quotes as it is: printable, and neither the quote nor the backslash
abbrev pub stands_quoted : ℕ → Bool
stands_quoted b = is_within 32 126 b && not (b == 34) && not (b == 92)

-- a byte in quotes, where it must be escaped as short as can be
unfoldable pub quoted_byte : ℕ → List ℕ
quoted_byte b =
    if stands_quoted b then b ∷ []
    else if b == 34 || b == 92 then 92 ∷ b ∷ []
    else if b == 10 then codes "\\n"
    else codes "\\x" ++ hex_pair b

-- the bytes in quotes
abbrev pub quoted_text : List ℕ → List ℕ
quoted_text bytes = codes "\"" ++ flat_map quoted_byte bytes ++ codes "\""

-- the byte that these are over and over, where there are some
abbrev pub once : List ℕ → Option ℕ
once [] = None
once (b ∷ bytes) = if list_all (λ c. c == b) bytes then Some b else None

-- n*HH, where the bytes are one byte over and over
abbrev pub times_texts : List ℕ → List (List ℕ)
times_texts bytes = option_map_or (λ b. times_text (length bytes) b ∷ []) (once bytes) []

-- the first of the shortest: of two that are equally short the one that comes first
abbrev pub shortest : List ℕ → List (List ℕ) → List ℕ
shortest text [] = text
shortest text (other ∷ others) = if nat_lt (length other) (length text) then shortest other others else shortest text others

-- the shortest spelling of a payload; of equally short ones `x` comes first, then n*HH, then the quotes
unfoldable pub payload_text : List ℕ → List ℕ
payload_text bytes = shortest (pairs_text bytes) (times_texts bytes ++ quoted_text bytes ∷ [])
