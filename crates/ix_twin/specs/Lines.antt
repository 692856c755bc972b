-- Two scripts that are compared at a label, and what is written of them.
use Rattle.std.specs.Prelude.{◌≡◌, ◌⊎◌, ◌-◌, ℕ, Bool, true, false, ◌&&◌, List, [], ◌++◌, length, Option, Some, None, slice_index_or, codes, if◌then◌else◌}
use Rattle.std.specs.List.{flat_map}
use Rattle.std.specs.Fmt.{decimal}
use Rattle.ix_label.specs.Category.{Categories}
use Rattle.ix_label.specs.declared.form.Form.{Form}
use Rattle.ix_label.specs.declared.form.Form.TheVariants as form
use Rattle.ix_model.specs.opening.Opening.{opening_world}
use Rattle.ix_model.specs.world.Naming.{same_names}
use Rattle.ix_model.specs.world.World.{World}
use Rattle.ix_iso.specs.Configs.{DifferAbove}
use Rattle.ix_script.specs.lines.Before.{form_told, lanes_of}
use Rattle.ix_script.specs.scripts.Scripts.{config_of}
use Rattle.ix_script.specs.declared.line.Line.{Line}
use Rattle.ix_lanes.specs.histories.Serial.{serial}
use Rattle.ix_replay.specs.report.Report.{entry_lines}
use Rattle.ix_twin.specs.Configs.{differ_above}
use Rattle.ix_twin.specs.Parting.{IsLeastPart, parting, shown_from}

-- the world that a script opens
abbrev pub world_opened : List Line → World
world_opened s = opening_world (config_of s)

-- ---- where two scripts part
-- Two scripts begin alike at a label: they have one form and lanes of the same names, and their configs differ in nothing but the journal's size and the
-- bytes of files that aren't at or below the label.
pub record BeginAlike (l : Categories) (s t : List Line) : Type 0 where
  pub form : form_told s ≡ form_told t
  pub lanes : lanes_of s ≡ lanes_of t
  pub configs : DifferAbove l (config_of s) (config_of t)

-- They part at 0, where they don't begin alike, and else at the least place at which their serial histories part, if any.
abbrev pub IsParting : Categories → List Line → List Line → Option ℕ → Type 0
IsParting l s t n = ((n ≡ Some 0) × (BeginAlike l s t → ⊥)) ⊎ (BeginAlike l s t × IsLeastPart l (world_opened s) (world_opened t) (serial s) (serial t) n)

-- ---- how it is found
abbrev pub same_form : Form → Form → Bool
same_form form.One form.One = true
same_form form.Two form.Two = true
same_form _ _ = false

-- whether two scripts have one form and lanes of the same names
unfoldable pub have_same_lanes : List Line → List Line → Bool
have_same_lanes s t = same_form (form_told s) (form_told t) && same_names (lanes_of s) (lanes_of t)

unfoldable pub begin_alike : Categories → List Line → List Line → Bool
begin_alike l s t = have_same_lanes s t && differ_above l (config_of s) (config_of t)

-- where they part
unfoldable pub parting_of : Categories → List Line → List Line → Option ℕ
parting_of l s t = if begin_alike l s t then parting l (world_opened s) (world_opened t) 1 (serial s) (serial t) else Some 0

-- the places of which lines are shown
unfoldable pub shown_of : Categories → List Line → List Line → List ℕ
shown_of l s t = if begin_alike l s t then shown_from l true (world_opened s) (world_opened t) 1 (serial s) (serial t) else []

-- ---- the text
-- the line of an entry of a script's serial report, by its place from 1
abbrev pub line_at : List Line → ℕ → List ℕ
line_at s place = slice_index_or (entry_lines (form_told s) (lanes_of s) 1 (world_opened s) (serial s)) (place - 1) []

-- the two lines of a place
abbrev pub pair_of : List ℕ → List ℕ → List ℕ
pair_of one two = codes "1 " ++ one ++ codes "2 " ++ two

-- the first line: that the runs agree, with how many entries they have, or where they differ
unfoldable pub verdict_line : ℕ → Option ℕ → List ℕ
verdict_line entries None = codes "agree " ++ decimal entries ++ codes "\n"
verdict_line entries (Some n) = codes "differ " ++ decimal n ++ codes "\n"

-- the last line: of how many places there are lines
unfoldable pub end_line : ℕ → List ℕ
end_line count = codes "end " ++ decimal count ++ codes "\n"

-- the text of two scripts that part there, with the lines of these places
abbrev pub text_of : List Line → List Line → Option ℕ → List ℕ → List ℕ
text_of s t n places = verdict_line (length (serial s)) n ++ flat_map (λ place. pair_of (line_at s place) (line_at t place)) places ++ end_line (length places)

-- what is written of two scripts that are compared at a label
unfoldable pub twin_text : Categories → List Line → List Line → List ℕ
twin_text l s t = text_of s t (parting_of l s t) (shown_of l s t)
