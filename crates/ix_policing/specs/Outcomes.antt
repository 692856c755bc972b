-- What a client can ask a policy, and what comes of it.
use Rattle.std.specs.Prelude.{◌==◌, Bool, true, false, not, ◌&&◌, List, Option, None, Some, if◌then◌else◌}
use Rattle.ix_label.specs.Category.{same}
use Rattle.ix_model.specs.world.Privs.{is_empty}
use Rattle.ix_policy.specs.Deciding.{decide, is_session, numbered}
use Rattle.ix_policy.specs.declared.request.Request.{Request}
use Rattle.ix_policy.specs.declared.request.Request.TheVariants as request
use Rattle.ix_policy.specs.declared.rule.Rule.{Rule}
use Rattle.ix_policing.specs.declared.outcome.Outcome.{Outcome}
use Rattle.ix_policing.specs.declared.outcome.Outcome.TheVariants as outcomes
use Rattle.ix_policing.specs.declared.outcome.Ruling.{Ruling}

-- whether a client can ask it: nobody asks for a grant of no privilege
abbrev pub is_asked : Request → Bool
is_asked (request.Grant label want) = not (is_empty want)
is_asked (request.Session name label) = true

-- what a rule allows: a session that it opens has its label as the ceiling and its privileges as licences
abbrev pub allowed_by : Rule → Outcome
allowed_by r = if is_session r.act then outcomes.Opened r.clear r.privs else outcomes.Granted

-- what comes of a request that this rule decides; where there is none, denial
abbrev pub outcome_of : Option Rule → Outcome
outcome_of None = outcomes.Denied
outcome_of (Some r) = if r.allow then allowed_by r else outcomes.Denied

-- what comes of a request under these rules
unfoldable pub outcome : List Rule → Request → Outcome
outcome rules q = outcome_of (numbered rules (decide rules q).rule)

-- the rule that decides a request, and what comes of the request
abbrev pub ruling : List Rule → Request → Ruling
ruling rules q = record { rule = (decide rules q).rule; outcome = outcome rules q }

abbrev pub is_denied : Outcome → Bool
is_denied outcomes.Denied = true
is_denied outcomes.Granted = false
is_denied (outcomes.Opened ceiling licences) = false

-- whether the two are the same
abbrev pub same_outcome : Outcome → Outcome → Bool
same_outcome outcomes.Denied outcomes.Denied = true
same_outcome outcomes.Granted outcomes.Granted = true
same_outcome (outcomes.Opened ceiling licences) (outcomes.Opened other more) = (licences.0 == more.0) && same ceiling other
same_outcome _ _ = false
