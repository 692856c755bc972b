-- The rules that a line can break by what the lines before it tell.
use Rattle.std.specs.Prelude.{ℕ, ◌-◌, nat_le, nat_lt, Bool, false, not, ◌&&◌, ◌||◌, List, [], ◌∷◌, length, map, take, Option, Some, None, is_none, if◌then◌else◌}
use Rattle.std.specs.List.{list_any, list_all}
use Rattle.ix_label.specs.Category.{leq}
use Rattle.ix_model.specs.world.World.{fs_at}
use Rattle.ix_model.specs.world.Naming.{same_bytes}
use Rattle.ix_model.specs.opening.Valid.{is_within, fs_of, is_taken, has_directory, has_room}
use Rattle.ix_model.specs.declared.config.ObjSpec.{ObjSpec}
use Rattle.ix_script.specs.texts.Cutting.{is_open, word_at}
use Rattle.ix_text.specs.Bytes.{is_empty}
use Rattle.ix_script.specs.lines.Kinds.{Place, is_number_of_fd, is_all_or_none}
use Rattle.ix_script.specs.lines.Kinds as kind
use Rattle.ix_script.specs.lines.Forms.{own_places, is_header, is_command_form}
use Rattle.ix_script.specs.lines.Before.{form_told, is_known, fss_told, fss_of, whats_told, what_text, limits_of, proc_names, dir_spec, file_spec}
use Rattle.ix_script.specs.lines.Before.{objects_of, has_policy, group, in_body, lane_now, phase_lanes, lanes_of, is_command, commands, knows_fd}
use Rattle.ix_script.specs.lines.Before.{knows_proc}
use Rattle.ix_script.specs.declared.form.Form.{Form}
use Rattle.ix_script.specs.declared.form.Form.TheVariants as form
use Rattle.ix_script.specs.declared.line.Line.{Line}
use Rattle.ix_script.specs.declared.line.Line.TheVariants as line

-- the number of the first rule that is broken
abbrev pub first_of : List (ℕ × Bool) → Option ℕ
first_of [] = None
first_of ((n, broken) ∷ rules) = if broken then Some n else first_of rules

-- ---- 2 to 5: bytes and words
-- a line is too long
unfoldable pub is_too_long : List ℕ → Bool
is_too_long text = nat_lt 65536 (length text)

-- a byte is not printable
unfoldable pub is_unprintable : List ℕ → Bool
is_unprintable text = not (list_all (is_within 32 126) text)

-- a word is empty
unfoldable pub has_empty_word : List (List ℕ) → Bool
has_empty_word words = list_any is_empty words

-- a quote is not closed
unfoldable pub has_open_quote : List (List ℕ) → Bool
has_open_quote words = list_any is_open words

-- ---- 8 and 9: where a line stands
-- a header line stands after a phase
abbrev pub is_late : List Line → Form → Bool
is_late before f = is_header f && in_body before

-- a command stands outside a lane, or a lane outside a phase
abbrev pub is_outside : List Line → Form → Bool
is_outside before form.Lane = not (in_body before)
is_outside before f = is_command_form f && is_none (lane_now before)

-- ---- 20 and 21: names
-- a name is given twice: one of a file system, a process, a WHAT or a lane of the phase; behind `as` two names that are
-- alike, or a process's that one of the header has
abbrev pub is_given_twice : List Line → Form → List (List ℕ) → Bool
is_given_twice before form.Fs words = is_known (word_at words 1) (map (λ s. s.name) (fss_told before))
is_given_twice before form.Proc words = is_known (word_at words 1) (proc_names before)
is_given_twice before form.Limit words = is_known (word_at words 1) (map what_text (whats_told before))
is_given_twice before form.Lane words = is_known (word_at words 1) (phase_lanes before)
is_given_twice before form.Pipe words = nat_lt 2 (length words) && same_bytes (word_at words 3) (word_at words 4)
is_given_twice before form.Fork words = nat_lt 3 (length words) && is_known (word_at words 4) (proc_names before)
is_given_twice before form.Login words = nat_lt 4 (length words) && is_known (word_at words 5) (proc_names before)
is_given_twice before _ words = false

-- a process or a descriptor is unknown
abbrev pub is_unknown : List Line → Place → Bool
is_unknown before (kind.Proc, word) = not (knows_proc before word)
is_unknown before (kind.Fd, word) = not (is_number_of_fd word) && not (knows_fd before word)
is_unknown before (kind.Keep, word) = not (is_all_or_none word) && not (is_number_of_fd word) && not (knows_fd before word)
is_unknown before _ = false

abbrev pub names_unknown : List Line → Form → List (List ℕ) → Bool
names_unknown before f words = list_any (is_unknown before) (own_places (form_told before) f words)

-- ---- 22 to 26, and 28: what fits
-- a label is not below its ceiling
abbrev pub object_above : List Line → ObjSpec → Bool
object_above before o = not (leq o.label ((fs_at (fss_of before) (fs_of (fss_of before) o.path.names)).ceiling))

abbrev pub is_above : List Line → Line → Bool
is_above before (line.Proc name label ceiling cap lic) = not (leq label ceiling)
is_above before (line.Dir path label frozen) = object_above before (dir_spec path label frozen)
is_above before (line.File path label frozen cap lic bytes) = object_above before (file_spec path label frozen cap lic bytes)
is_above before _ = false

-- a path does not fit the tree: it is there, or its directory isn't
abbrev pub object_is_misplaced : List Line → ObjSpec → Bool
object_is_misplaced before o =
    is_taken (fss_of before) (objects_of before) o.path.names
    || not (has_directory (fss_of before) (objects_of before) (take (length o.path.names - 1) o.path.names))

abbrev pub is_misplaced : List Line → Line → Bool
is_misplaced before (line.Dir path label frozen) = object_is_misplaced before (dir_spec path label frozen)
is_misplaced before (line.File path label frozen cap lic bytes) = object_is_misplaced before (file_spec path label frozen cap lic bytes)
is_misplaced before _ = false

-- there is no room
abbrev pub object_exceeds_limits : List Line → ObjSpec → Bool
object_exceeds_limits before o = not (has_room (fss_of before) (limits_of before) (objects_of before) o)

abbrev pub exceeds_limits : List Line → Line → Bool
exceeds_limits before (line.Proc name label ceiling cap lic) = nat_le (limits_of before).procs (length (proc_names before))
exceeds_limits before (line.Dir path label frozen) = object_exceeds_limits before (dir_spec path label frozen)
exceeds_limits before (line.File path label frozen cap lic bytes) = object_exceeds_limits before (file_spec path label frozen cap lic bytes)
exceeds_limits before _ = false

-- whether a line of a later group stands before
abbrev pub has_later : ℕ → List Line → Bool
has_later g before = list_any (λ b. nat_lt g (group b)) before

-- a header line is out of order: a `limit` or an `fs` line after a later group; the other lines of the header are the last group
abbrev pub is_out_of_order : List Line → Line → Bool
is_out_of_order before (line.Limit w n) = has_later 2 before
is_out_of_order before (line.Fs name ceiling blocks inodes) = has_later 3 before
is_out_of_order before _ = false

-- there are too many: 16 file systems, 64 lanes, 200,000 commands stand before
abbrev pub is_one_too_many : List Line → Line → Bool
is_one_too_many before (line.Fs name ceiling blocks inodes) = nat_le 16 (length (fss_told before))
is_one_too_many before (line.Lane name) = not (is_known name (lanes_of before)) && nat_le 64 (length (lanes_of before))
is_one_too_many before l = is_command l && nat_le 200000 (commands before)

-- there is no policy
abbrev pub lacks_policy : List Line → Line → Bool
lacks_policy before (line.Priv proc fd) = not (has_policy before)
lacks_policy before (line.Login proc fd hand named) = not (has_policy before)
lacks_policy before l = false
