-- What is printed of one policy.
use Rattle.std.specs.Prelude.{ℕ, List, [], length, ◌++◌, codes}
use Rattle.std.specs.Fmt.{decimal}
use Rattle.std.specs.List.{flat_map, range_with_len}
use Rattle.std.specs.Option.{option_map_or}
use Rattle.ix_label.specs.declared.form.Form.{Form}
use Rattle.ix_model.specs.declared.privs.PrivSet.{PrivSet}
use Rattle.ix_policy.specs.declared.request.Request.{Request}
use Rattle.ix_policy.specs.declared.request.Request.TheVariants as request
use Rattle.ix_policy.specs.declared.rule.Rule.{Rule}
use Rattle.ix_policing.specs.{Granting.{widest_grant}, Outcomes.{ruling}, Reaching.{reach_at}, Unnamed.{unnamed_user}}
use Rattle.ix_policing.specs.declared.reach.Reach.{Reach}
use Rattle.ix_policing.specs.declared.reach.Reach.TheVariants as reach
use Rattle.ix_policy_texts.specs.Requests.{request_text, ruling_text}

-- ---- which rules ever decide
-- the words before the number of a rule that shadows one
unfoldable pub shadowed_by : List ℕ
shadowed_by = codes " shadowed by "

-- that the rule of a number shadows one
abbrev pub shadowed_text : ℕ → List ℕ
shadowed_text by = shadowed_by ++ decimal by ++ codes "\n"

-- a request that the rule decides, the rule that shadows it, or that it grants nothing
abbrev pub reach_text : Form → Reach → List ℕ
reach_text form (reach.Decides q) = codes " live " ++ request_text form q ++ codes "\n"
reach_text form (reach.Shadowed by) = shadowed_text by
reach_text form reach.GrantsNothing = codes " grants nothing\n"

-- the line of the rule of a number, where no rule names the other user
unfoldable pub reach_line : Form → List Rule → List ℕ → ℕ → List ℕ
reach_line form rules other n = decimal n ++ reach_text form (reach_at rules other n)

-- a line for each rule, and the last line
unfoldable pub policy_text : Form → List Rule → List ℕ
policy_text form rules = flat_map (reach_line form rules (unnamed_user rules rules)) (range_with_len 1 (length rules)) ++ codes "end\n"

-- ---- who is granted what
-- the line of the rule of a number, if it grants these privileges: its greatest request for them
unfoldable pub can_line : Form → List Rule → PrivSet → ℕ → List ℕ
can_line form rules want n = option_map_or (λ label. decimal n ++ codes " allows " ++ request_text form (request.Grant label want) ++ codes "\n") (widest_grant rules n want) []

-- the lines of all rules, and the last line
unfoldable pub can_text : Form → List Rule → PrivSet → List ℕ
can_text form rules want = flat_map (can_line form rules want) (range_with_len 1 (length rules)) ++ codes "end\n"

-- ---- one request
unfoldable pub decide_text : Form → List Rule → Request → List ℕ
decide_text form rules q = ruling_text form q (ruling rules q) ++ codes "\n"
