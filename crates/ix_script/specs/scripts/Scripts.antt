-- Scripts, and what they describe.
use Rattle.std.specs.Prelude.{ℕ, ◌+◌, List, [], ◌∷◌, position, Option, Some, None, is_none, if◌then◌else◌, slice_get, unwrap_or}
use Rattle.std.proofs.Common.{option_map}
use Rattle.ix_label.specs.declared.form.Form.{Form}
use Rattle.ix_label.specs.declared.form.Form.TheVariants.{One}
use Rattle.ix_model.specs.declared.config.Config.{Config}
use Rattle.ix_script.specs.texts.Lines.{lines_of}
use Rattle.ix_script.specs.texts.Payloads.{◌>>=◌}
use Rattle.ix_script.specs.lines.Before.{fss_of, limits_of, procs_of, objects_of, is_policy}
use Rattle.ix_script.specs.lines.Said.{both, version_of, line_of}
use Rattle.ix_script.specs.lines.Faults.{fault_of}
use Rattle.ix_script.specs.scripts.Need.{need}
use Rattle.ix_script.specs.declared.line.Line.{Line}
use Rattle.ix_script.specs.declared.line.Line.TheVariants as line

-- what lines say, where each says something
unfoldable pub lines_said : Form → List (List ℕ) → Option (List Line)
lines_said form [] = Some []
lines_said form (text ∷ texts) = option_map (λ (x : Line × List Line). x.0 ∷ x.1) (both (line_of form text) (lines_said form texts))

-- the form that the first of these lines tells
unfoldable pub form_in : List (List ℕ) → Form
form_in [] = One
form_in (text ∷ texts) = unwrap_or (version_of text) One

-- the script that an input is: what its lines say, where it has no fault
unfoldable pub script_of : List ℕ → Option (List Line)
script_of bytes = if is_none (fault_of bytes) then lines_said (form_in (lines_of bytes)) (lines_of bytes) else None

-- what a machine starts from
unfoldable pub config_of : List Line → Config
config_of lines = record { fss = fss_of lines; limits = limits_of lines; procs = procs_of lines; objects = objects_of lines; journal = need lines }

-- the policy's text, where a line is one
abbrev pub policy_told : Line → Option (List ℕ)
policy_told (line.Policy text) = Some text
policy_told _ = None

-- the number of the policy's line, and its text
unfoldable pub policy_of : List Line → Option (ℕ × List ℕ)
policy_of lines = position is_policy lines >>= λ i. slice_get lines i >>= λ l. option_map (λ text. (i + 1, text)) (policy_told l)
