-- What may stand at the places of a line, and the rules that a word can break by itself.
use Rattle.std.specs.Prelude.{ℕ, nat_lt, Bool, false, not, ◌&&◌, ◌||◌, List, [], ◌∷◌, length, Option, Some, None, is_none, if◌then◌else◌, codes}
use Rattle.std.specs.Option.{option_map_or}
use Rattle.std.specs.List.{list_any}
use Rattle.ix_model.specs.world.Naming.{same_bytes}
use Rattle.ix_model.specs.opening.Valid.{is_within}
use Rattle.ix_label.specs.declared.form.Form as spelled
use Rattle.ix_text.specs.Labels.{label_in}
use Rattle.ix_script.specs.texts.Words.{is_numeral, value, path_of, made_path_of, mode_of, state_of, what_of}
use Rattle.ix_text.specs.Bytes.{is_digit, begins_with}
use Rattle.ix_text.specs.Names.{is_script_name}
use Rattle.ix_text.specs.Privs.{privs_of}
use Rattle.ix_script.specs.texts.Payloads.{payload_of}
use Rattle.ix_script.specs.declared.line.What.{What}
use Rattle.ix_script.specs.declared.line.What.TheVariants as what

-- What may stand at a place: the name of a file system, process or lane that the line makes; a process; a name that
-- stands after `as` for a process or for a descriptor; a number within bounds; a number within those of that WHAT; a
-- label, in that form; a set of privileges; a path; an absolute path with a name; a mode; a state; a WHAT; at most so many bytes;
-- a descriptor; which descriptors are kept.
pub data Kind : Type 0 where
  Own : Kind
  Proc : Kind
  NewProc : Kind
  NewFd : Kind
  Number : ℕ → ℕ → Kind
  Bound : List ℕ → Kind
  Label : spelled.Form → Kind
  Privs : Kind
  AnyPath : Kind
  MadePath : Kind
  Mode : Kind
  State : Kind
  Limited : Kind
  Payload : ℕ → Kind
  Fd : Kind
  Keep : Kind

-- ---- a number's bounds
-- what may be limited to how much
abbrev pub bounds_of : What → ℕ × ℕ
bounds_of what.Procs = (1, 1024)
bounds_of what.Opens = (1, 4096)
bounds_of what.Pipes = (0, 1024)
bounds_of what.Names = (16, 65536)
bounds_of what.Log = (0, 65536)

-- the bounds of a `limit` line's number, and those of every number where the WHAT is unknown
unfoldable pub bounds : List ℕ → ℕ × ℕ
bounds word = option_map_or bounds_of (what_of word) (0, 4294967295)

-- ---- rules that a word breaks by what may stand at its place
-- a descriptor by its number
abbrev pub is_number_of_fd : List ℕ → Bool
is_number_of_fd word = begins_with is_digit word

-- not a descriptor, but all of them or none
abbrev pub is_all_or_none : List ℕ → Bool
is_all_or_none word = same_bytes word (codes "all") || same_bytes word (codes "none")

-- a name is not well formed
abbrev pub is_bad_name : Kind → List ℕ → Bool
is_bad_name Own word = not (is_script_name word)
is_bad_name Proc word = not (is_script_name word)
is_bad_name NewProc word = not (is_script_name word)
is_bad_name NewFd word = not (is_script_name word)
is_bad_name Fd word = not (is_number_of_fd word) && not (is_script_name word)
is_bad_name Keep word = not (is_all_or_none word) && not (is_number_of_fd word) && not (is_script_name word)
is_bad_name _ word = false

-- a number is not well formed
abbrev pub is_bad_number : Kind → List ℕ → Bool
is_bad_number (Number low high) word = not (is_numeral word)
is_bad_number (Bound of_what) word = not (is_numeral word)
is_bad_number Fd word = is_number_of_fd word && not (is_numeral word)
is_bad_number Keep word = is_number_of_fd word && not (is_numeral word)
is_bad_number _ word = false

-- a number is out of range
abbrev pub is_out_of_range : Kind → List ℕ → Bool
is_out_of_range (Number low high) word = not (is_within low high (value word))
is_out_of_range (Bound of_what) word = not (is_within (bounds of_what).0 (bounds of_what).1 (value word))
is_out_of_range Fd word = is_number_of_fd word && not (is_within 0 255 (value word))
is_out_of_range Keep word = is_number_of_fd word && not (is_within 0 255 (value word))
is_out_of_range _ word = false

-- a label is not well formed
abbrev pub is_bad_label : Kind → List ℕ → Bool
is_bad_label (Label form) word = is_none (label_in form word)
is_bad_label _ word = false

-- a set of privileges is not well formed
abbrev pub is_bad_set : Kind → List ℕ → Bool
is_bad_set Privs word = is_none (privs_of word)
is_bad_set _ word = false

-- a path is not well formed
abbrev pub is_bad_path : Kind → List ℕ → Bool
is_bad_path AnyPath word = is_none (path_of word)
is_bad_path MadePath word = is_none (made_path_of word)
is_bad_path _ word = false

-- a mode, a state or a WHAT is unknown
abbrev pub is_unknown_word : Kind → List ℕ → Bool
is_unknown_word Mode word = is_none (mode_of word)
is_unknown_word State word = is_none (state_of word)
is_unknown_word Limited word = is_none (what_of word)
is_unknown_word _ word = false

-- a payload is not well formed
abbrev pub is_bad_payload : Kind → List ℕ → Bool
is_bad_payload (Payload most) word = is_none (payload_of word)
is_bad_payload _ word = false

-- a payload is too long
abbrev pub is_long_payload : Kind → List ℕ → Bool
is_long_payload (Payload most) word = option_map_or (λ bytes. nat_lt most (length bytes)) (payload_of word) false
is_long_payload _ word = false

-- ---- the rules over all places of a line
-- a place: what may stand there, and the word that does
abbrev pub Place : Type 0
Place = Kind × List ℕ

-- the rules with their numbers
abbrev pub place_rules : List (ℕ × (Kind → List ℕ → Bool))
place_rules =
    (11, is_bad_name) ∷ (12, is_bad_number) ∷ (13, is_out_of_range) ∷ (14, is_bad_label) ∷ (15, is_bad_set) ∷ (16, is_bad_path)
    ∷ (17, is_unknown_word) ∷ (18, is_bad_payload) ∷ (19, is_long_payload) ∷ []

-- the first of the rules that the word at some place breaks
unfoldable pub first_broken : List (ℕ × (Kind → List ℕ → Bool)) → List Place → Option ℕ
first_broken [] places = None
first_broken ((n, test) ∷ rules) places = if list_any (λ p. test p.0 p.1) places then Some n else first_broken rules places

unfoldable pub places_fault : List Place → Option ℕ
places_fault places = first_broken place_rules places
