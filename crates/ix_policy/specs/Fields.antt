-- The fields of a rule in a JSON value. A field is `None` where it is wrong, and where its key is missing.
use Rattle.std.specs.Prelude.{ℕ, Bool, List, Option, Some, None, option_map, option_and_then, if◌then◌else◌, codes}
use Rattle.std.specs.Option.{option_map_or}
use Rattle.serde_json.specs.Data.{Data}
use Rattle.serde_json.specs.Find.{get, as_str, as_bool, as_object}
use Rattle.serde_json.specs.Events.{members_len}
use Rattle.ix_label.specs.declared.form.Form.{Form}
use Rattle.ix_label.specs.Category.{Categories}
use Rattle.ix_model.specs.world.Naming.{same_bytes}
use Rattle.ix_model.specs.declared.privs.PrivSet.{PrivSet}
use Rattle.ix_text.specs.Labels.{label_in}
use Rattle.ix_text.specs.Names.{name_of}
use Rattle.ix_text.specs.Privs.{privs_of}
use Rattle.ix_policy.specs.declared.rule.Act.{Act}
use Rattle.ix_policy.specs.declared.rule.Act.TheVariants as act

-- the text under a key
abbrev pub text_at : List ℕ → Data → Option (List ℕ)
text_at key d = option_and_then as_str (get key d)

-- a rule is on grants or on sessions
abbrev pub act_of : List ℕ → Option Act
act_of text =
    if same_bytes text (codes "grant") then Some act.Grant
    else if same_bytes text (codes "session") then Some act.Session
    else None

-- a rule on sessions may name a user, and one on grants none
abbrev pub named_user : Act → List ℕ → Option (List ℕ)
named_user act.Grant text = None
named_user act.Session text = name_of text

-- `*` stands for all users, which is the inner `None`
abbrev pub user_of : Act → List ℕ → Option (Option (List ℕ))
user_of a text = if same_bytes text (codes "*") then Some None else option_map Some (named_user a text)

-- ---- the five fields
unfoldable pub act_at : Data → Option Act
act_at d = option_and_then act_of (text_at (codes "act") d)

unfoldable pub user_at : Act → Data → Option (Option (List ℕ))
user_at a d = option_and_then (user_of a) (text_at (codes "user") d)

unfoldable pub clear_at : Form → Data → Option Categories
clear_at form d = option_and_then (label_in form) (text_at (codes "clear") d)

unfoldable pub privs_at : Data → Option PrivSet
privs_at d = option_and_then privs_of (text_at (codes "privs") d)

unfoldable pub allow_at : Data → Option Bool
allow_at d = option_and_then as_bool (get (codes "allow") d)

-- how many keys an object has; what is no object has none
unfoldable pub key_count : Data → ℕ
key_count d = option_map_or members_len (as_object d) 0
