-- How requests, and what comes of them, are spelled.
use Rattle.std.specs.Prelude.{ℕ, List, ◌++◌, codes}
use Rattle.std.specs.Fmt.{decimal}
use Rattle.ix_label.specs.declared.form.Form.{Form}
use Rattle.ix_label.specs.Spelling.{spelling}
use Rattle.ix_model.specs.declared.privs.PrivSet.{PrivSet}
use Rattle.ix_text.specs.Spellings.{privs_text}
use Rattle.ix_policy.specs.declared.request.Request.{Request}
use Rattle.ix_policy.specs.declared.request.Request.TheVariants as request
use Rattle.ix_policing.specs.declared.outcome.Outcome.{Outcome}
use Rattle.ix_policing.specs.declared.outcome.Outcome.TheVariants as outcomes
use Rattle.ix_policing.specs.declared.outcome.Ruling.{Ruling}

-- a request, as a command takes it: a grant with its label and privileges, a session with its user and label
abbrev pub request_text : Form → Request → List ℕ
request_text form (request.Grant label want) = codes "grant " ++ spelling form label ++ codes " " ++ privs_text want
request_text form (request.Session user label) = codes "session " ++ user ++ codes " " ++ spelling form label

-- the privileges that a request wants
abbrev pub wanted : Request → PrivSet
wanted (request.Grant label want) = want
wanted (request.Session user label) = record { 0 = 0 }

-- what is given where these privileges are wanted: a session gets its ceiling and its licences
abbrev pub given_text : Form → PrivSet → Outcome → List ℕ
given_text form want outcomes.Denied = codes "deny"
given_text form want outcomes.Granted = codes "allow " ++ privs_text want
given_text form want (outcomes.Opened ceiling licences) = codes "allow " ++ spelling form ceiling ++ codes " " ++ privs_text licences

-- the rule that decides a request, and what is given
unfoldable pub ruling_text : Form → Request → Ruling → List ℕ
ruling_text form q r = decimal r.rule ++ codes " " ++ given_text form (wanted q) r.outcome
