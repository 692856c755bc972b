-- The words of a script: numbers, paths, modes, states and descriptors.
use Rattle.std.specs.Prelude.{ℕ, ◌+◌, ◌*◌, ◌-◌, ◌==◌, Bool, true, false, not, ◌&&◌, ◌||◌, List, [], ◌∷◌, length, drop, Option, Some, None, if◌then◌else◌, unwrap_or, codes}
use Rattle.std.specs.List.{list_all}
use Rattle.std.proofs.Common.{option_map}
use Rattle.ix_label.specs.Category.{Categories, bottom}
use Rattle.ix_label.specs.declared.form.Form.{Form}
use Rattle.ix_model.specs.world.Naming.{PathOf, same_bytes}
use Rattle.ix_model.specs.world.Paths.{path_from}
use Rattle.ix_model.specs.world.Texts.{is_path_text}
use Rattle.ix_model.specs.opening.Valid.{is_within}
use Rattle.ix_model.specs.declared.call.Mode.{Mode}
use Rattle.ix_model.specs.declared.call.Mode.TheVariants as mode
use Rattle.ix_text.specs.Labels.{label_in}
use Rattle.ix_text.specs.Names.{name_of}
use Rattle.ix_text.specs.Bytes.{begins, begins_with, is_digit, is_empty}
use Rattle.ix_script.specs.declared.line.What.{What}
use Rattle.ix_script.specs.declared.line.What.TheVariants as what
use Rattle.ix_script.specs.declared.line.FdWord.{FdWord}
use Rattle.ix_script.specs.declared.line.FdWord.TheVariants as fd
use Rattle.ix_script.specs.declared.line.KeepWord.{KeepWord}
use Rattle.ix_script.specs.declared.line.KeepWord.TheVariants as keep

-- ---- numbers
-- the number of these digits after the digits of n
abbrev pub value_from : ℕ → List ℕ → ℕ
value_from n [] = n
value_from n (digit ∷ digits) = value_from (n * 10 + (digit - 48)) digits

-- the number of these digits
unfoldable pub value : List ℕ → ℕ
value word = value_from 0 word

-- decimal digits, of which the first isn't 0 unless it is the only one
unfoldable pub is_numeral : List ℕ → Bool
is_numeral word = begins_with is_digit word && list_all is_digit word && (length word == 1 || not (begins 48 word))

-- a decimal number within bounds
unfoldable pub number_of : ℕ → ℕ → List ℕ → Option ℕ
number_of low high word = if is_numeral word && is_within low high (value word) then Some (value word) else None

-- ---- paths
-- printable and no space, quote or backslash
abbrev pub may_stand_in_path : ℕ → Bool
may_stand_in_path b = is_within 33 126 b && not (b == 34) && not (b == 92)

-- the text of a word's names: what stands behind a slash at its front
abbrev pub names_text : List ℕ → List ℕ
names_text word = if begins 47 word then drop 1 word else word

-- `/`, or 1 to 16 names joined by slashes, with or without one slash before them
unfoldable pub is_path_word : List ℕ → Bool
is_path_word word = list_all may_stand_in_path word && not (is_empty word) && is_path_text (names_text word)

-- the path that a word spells
abbrev pub path_in : List ℕ → PathOf
path_in word = path_from (begins 47 word) (names_text word)

-- and the path, where it spells one
unfoldable pub path_of : List ℕ → Option PathOf
path_of word = if is_path_word word then Some (path_in word) else None

-- an absolute path with a name
unfoldable pub made_path_of : List ℕ → Option PathOf
made_path_of word = if begins 47 word && not (is_empty (drop 1 word)) then path_of word else None

-- ---- labels
-- the label that a word spells in the form
abbrev pub spelled_label : Form → List ℕ → Categories
spelled_label form word = unwrap_or (label_in form word) bottom

-- ---- words of a few spellings
-- `r`, `w` or `rw`
unfoldable pub mode_of : List ℕ → Option Mode
mode_of word =
    if same_bytes word (codes "r") then Some mode.Read
    else if same_bytes word (codes "w") then Some mode.Write
    else if same_bytes word (codes "rw") then Some mode.Both
    else None

-- whether a state is frozen
unfoldable pub state_of : List ℕ → Option Bool
state_of word =
    if same_bytes word (codes "free") then Some false
    else if same_bytes word (codes "frozen") then Some true
    else None

-- what a `limit` line limits
unfoldable pub what_of : List ℕ → Option What
what_of word =
    if same_bytes word (codes "procs") then Some what.Procs
    else if same_bytes word (codes "opens") then Some what.Opens
    else if same_bytes word (codes "pipes") then Some what.Pipes
    else if same_bytes word (codes "names") then Some what.Names
    else if same_bytes word (codes "log") then Some what.Log
    else None

-- ---- descriptors
abbrev pub numbered : List ℕ → Option FdWord
numbered word = option_map (λ n. fd.Number n) (number_of 0 255 word)

abbrev pub named : List ℕ → Option FdWord
named word = option_map (λ name. fd.Named name) (name_of word)

-- a word that begins with a digit is a number up to 255, any other is a name
unfoldable pub fd_of : List ℕ → Option FdWord
fd_of word = if begins_with is_digit word then numbered word else named word

-- all descriptors, none, or one
unfoldable pub keep_of : List ℕ → Option KeepWord
keep_of word =
    if same_bytes word (codes "all") then Some keep.All
    else if same_bytes word (codes "none") then Some keep.Nothing
    else option_map (λ one. keep.One one) (fd_of word)
