-- What lines ask for.
use Rattle.std.specs.Prelude.{◌≡◌, ℕ, Bool, true, false, List, [], ◌∷◌, Option, Some, None}
use Rattle.ix_model.specs.history.Events.{Event}
use Rattle.ix_policy.specs.declared.rule.Rule.{Rule}
use Rattle.ix_asking.specs.Asking.{Asked, Asking, Done, Ask, followed, mapped}
use Rattle.ix_asking.specs.Copies.{copies}
use Rattle.ix_asking.specs.serving.Serving.{Server}
use Rattle.ix_privserv.specs.Serving as privileges
use Rattle.ix_sessserv.specs.Serving as sessions
use Rattle.ix_script.specs.scripts.Schedule.{Numbered}
use Rattle.ix_script.specs.declared.line.Line.{Line}
use Rattle.ix_script.specs.declared.line.Line.TheVariants as line
use Rattle.ix_script.specs.declared.line.FdWord.{FdWord}
use Rattle.ix_lanes.specs.asking.Asked.{Names, Numbers, asked, fd_of, named, pid_of}
use Rattle.ix_lanes.specs.asking.Handing.{handed_in, who_in}
use Rattle.ix_lanes.specs.declared.asking.handed.Handed.{Handed}
use Rattle.ix_lanes.specs.declared.asking.handed.Handed.TheVariants as handed

-- what an entry asks for
abbrev pub asked_by : Event → Asked
asked_by e = record { line = e.line; pid = e.pid; op = e.op }

-- one call, and what its reply gives; nothing where none is asked for
abbrev pub one_call : Option Asked → Asking Handed
one_call None = Done handed.Nothing
one_call (Some a) = Ask a (λ answer. Done (handed_in answer.reply))

-- calls that give nothing
abbrev pub gives_nothing : {R : Type 0} → Asking R → Asking Handed
gives_nothing p = mapped (λ r. handed.Nothing) p

-- a server serves by the rules of a policy; where there is none, it asks for nothing
abbrev pub by_rules : Option (List Rule) → (List Rule → Asking Handed) → Asking Handed
by_rules None serves = Done handed.Nothing
by_rules (Some rules) serves = serves rules

-- the server of the line n
abbrev pub server_of : Numbers → Names → ℕ → List ℕ → FdWord → Server
server_of header names n proc fd = record { line = n; pid = pid_of header names proc; fd = fd_of names fd }

-- What the line n asks for, and what comes of it for its names: `copy` reads and writes, `priv` and `login` serve, and others make one call at most.
unfoldable pub line_asks : Option (List Rule) → Numbers → Names → ℕ → Line → Asking Handed
line_asks rules header names n (line.Copy proc from to count) =
    gives_nothing (copies n (record { 0 = pid_of header names proc }) (record { 0 = fd_of names from }) (record { 0 = fd_of names to }) count)
line_asks rules header names n (line.Priv proc fd) = by_rules rules (λ r. gives_nothing (privileges.serves r (server_of header names n proc fd)))
line_asks rules header names n (line.Login proc fd hand named) =
    by_rules rules (λ r. mapped who_in (sessions.serves r (server_of header names n proc fd) (record { 0 = fd_of names hand })))
line_asks rules header names n l = one_call (asked header names n l)

-- whether a line may ask for several calls
abbrev pub asks_several : Line → Bool
asks_several (line.Copy proc from to count) = true
asks_several (line.Priv proc fd) = true
asks_several (line.Login proc fd hand named) = true
asks_several _ = false

-- what lines ask for, one after the other, and what the lane's names stand for then
abbrev pub lines_ask : Option (List Rule) → Numbers → Names → List Numbered → Asking Names
lines_ask rules header names [] = Done names
lines_ask rules header names (l ∷ lines) = followed (line_asks rules header names l.number l.said) (λ g. lines_ask rules header (named names l.said g) lines)

-- the call is of the line n
abbrev pub OfLine : ℕ → Asked → Type 0
OfLine n a = a.line ≡ n
