-- The names that scripts and policies give.
use Rattle.std.specs.Prelude.{ℕ, ◌==◌, nat_le, Bool, not, ◌&&◌, ◌||◌, List, length, Option, Some, None, if◌then◌else◌, codes}
use Rattle.std.specs.List.{list_all}
use Rattle.ix_model.specs.world.Naming.{same_bytes}
use Rattle.ix_text.specs.Bytes.{is_letter, is_digit, begins_with}

-- a small letter, a digit or `_`
abbrev pub may_stand_in_script_name : ℕ → Bool
may_stand_in_script_name b = is_letter b || is_digit b || b == 95

-- words with another meaning in a name's place
abbrev pub is_reserved : List ℕ → Bool
is_reserved word = same_bytes word (codes "all") || same_bytes word (codes "none") || same_bytes word (codes "as")

-- a small letter, then at most 15 small letters, digits or `_`
unfoldable pub is_script_name : List ℕ → Bool
is_script_name word = begins_with is_letter word && nat_le (length word) 16 && list_all may_stand_in_script_name word && not (is_reserved word)

-- the name of a file system, a process, a lane, a descriptor or a user
unfoldable pub name_of : List ℕ → Option (List ℕ)
name_of word = if is_script_name word then Some word else None
