-- What is said to a script, and of an image, that breaks a rule.
use Rattle.std.specs.Prelude.{ℕ, List, ◌++◌, codes}
use Rattle.std.specs.Fmt.{decimal}
use Rattle.ix_script.specs.lines.RuleTexts.{rule_text}
use Rattle.ix_image.specs.Rules as image

-- the one line that is written for the refusal of a script
unfoldable pub refusal_line : ℕ → ℕ → List ℕ
refusal_line line rule = codes "script:" ++ decimal line ++ codes ": " ++ rule_text rule ++ codes "\n"

-- the one line that is written for an image that breaks a rule at a place
unfoldable pub image_line : ℕ → ℕ → List ℕ
image_line at rule = codes "image:" ++ decimal at ++ codes ": " ++ image.rule_text rule ++ codes "\n"
