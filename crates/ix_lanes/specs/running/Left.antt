-- What is left of what a lane asks for.
use Rattle.std.specs.Prelude.{◌≡◌, ℕ, ◌+◌, ◌*◌, ◌-◌, ◌<◌, ◌≤◌, Bool, true, false, List, take, length, Option, Some, None, if◌then◌else◌}
use Rattle.ix_asking.specs.Asking.{Answered, Asking, Done, Ask, Next, Came, Due, IsDue, first, followed, heard, mapped}
use Rattle.ix_asking.specs.Copying.{copying_asks, copying_most}
use Rattle.ix_asking.specs.declared.copying.Copying.{Copying}
use Rattle.ix_asking.proofs.Every.{AllOf}
use Rattle.ix_privserv.specs.Places as privileges
use Rattle.ix_sessserv.specs.Places as sessions
use Rattle.ix_script.specs.declared.line.Line.{Line}
use Rattle.ix_lanes.specs.asking.Asked.{Names, Numbers, asked, named, no_names, written}
use Rattle.ix_lanes.specs.asking.Handing.{who_in}
use Rattle.ix_lanes.specs.asking.LineAsks.{OfLine, gives_nothing, lines_ask, one_call}
use Rattle.ix_lanes.specs.asking.Ruled.{rules_told}
use Rattle.ix_lanes.specs.declared.asking.handed.Handed.{Handed}
use Rattle.ix_lanes.specs.declared.asking.handed.Handed.TheVariants as handed
use Rattle.ix_lanes.specs.declared.running.part.Part.{Part}
use Rattle.ix_lanes.specs.declared.running.part.Part.TheVariants as part
use Rattle.ix_lanes.specs.histories.History.{phase_of}
use Rattle.ix_lanes.specs.histories.Indexed.{line_in}
use Rattle.ix_script.specs.declared.schedule.Stretch.{Stretch}
use Rattle.ix_lanes.specs.histories.Serial.{header_of}
use Rattle.ix_script.specs.lines.Before.{is_phase}
use Rattle.ix_lanes.specs.running.Phases.{lane_between}
use Rattle.ix_lanes.specs.running.Stretches.{IsAmong}

-- ---- in a line
-- whether a lane stands in no line
abbrev pub is_over : Part → Bool
is_over part.Over = true
is_over _ = false

-- what the line n has still to ask for
abbrev pub part_left : Numbers → Names → ℕ → Line → Copying → Part → Asking Handed
part_left header names n l copying part.Over = Done handed.Nothing
part_left header names n l copying (part.Command count) = one_call (asked header names n l)
part_left header names n l copying part.Copy = gives_nothing (copying_asks copying)
part_left header names n l copying (part.Priv s) = gives_nothing (privileges.asks_at s.policy.now (record { line = s.line; pid = s.server.0; fd = s.fd.0 }) s.at)
part_left header names n l copying (part.Login s) = mapped who_in (sessions.asks_at s.policy.now (record { line = s.line; pid = s.server.0; fd = s.fd.0 }) s.hand s.at)

-- how many calls it asks for at most
abbrev pub part_most : Copying → Part → ℕ
part_most copying part.Over = 0
part_most copying (part.Command count) = 1
part_most copying part.Copy = copying_most copying
part_most copying (part.Priv s) = privileges.most_at s.at
part_most copying (part.Login s) = sessions.most_at s.at

-- where a lane stands in a line, the line asks for a call next
abbrev pub IsPending : Part → Asking Handed → Type 0
IsPending part.Over p = Unit {0}
IsPending _ p = IsDue (first p)

-- a command's buffer begins with the bytes that it writes
abbrev pub Holds : Line → List ℕ → Part → Type 0
Holds l buf (part.Command count) = (count ≤ 4096) × (take count buf ≡ written l)
Holds l buf _ = Unit {0}

-- A line heard the answer to its next call: it asks for fewer calls from then on, or it comes out so and asks for nothing.
abbrev pub IsHeard : Numbers → Names → ℕ → Line → Copying → Part → Copying → Part → Answered → Option Handed → Type 0
IsHeard header names n l copying p c q a None =
    (part_left header names n l c q ≡ heard (part_left header names n l copying p) a) × IsDue (first (part_left header names n l c q))
    × (part_most c q < part_most copying p) × ((buf : List ℕ) → Holds l buf q)
IsHeard header names n l copying p c q a (Some g) = (heard (part_left header names n l copying p) a ≡ Done g) × (0 < part_most copying p)

-- ---- in a lane
-- What is left up to an end, where a lane stands in a line: what the line has still to ask for, and the lane's lines behind it.
abbrev pub left_from : List Line → ℕ → ℕ → ℕ → Names → Line → Copying → Part → Asking Names
left_from s seat end at names l copying p =
    if is_over p then Done names
    else followed (part_left (header_of s) names (at + 1) l copying p)
    (λ g. lines_ask (rules_told s) (header_of s) (named names l g) (lane_between s seat (at + 1) end))

-- whether nothing more is asked for, and what names stand for then
abbrev pub is_done : Asking Names → Bool
is_done (Done names) = true
is_done (Ask a later) = false

abbrev pub names_done : Asking Names → Names
names_done (Done names) = names
names_done (Ask a later) = no_names

-- how many calls that is at most
abbrev pub most_from : ℕ → ℕ → Copying → Part → ℕ
most_from end at copying p = if is_over p then 0 else part_most copying p + 9 * (end - (at + 1))

-- A lane stands at its end, or in a line of its own before it, which asks for a call next.
pub record IsHere (s : List Line) (seat end at : ℕ) (t : Stretch) (come : ℕ) (names : Names) (l : Line) (buf : List ℕ) (copying : Copying) (p : Part) : Type 0 where
  pub within : (at ≤ end) × (end ≤ length s)
  pub among : IsAmong s seat at t come
  pub over : is_over p ≡ true → at ≡ end
  pub mine : is_over p ≡ false → (at < end) × (at < t.end)
  pub line : is_over p ≡ false → l ≡ line_in s at
  pub apart : is_over p ≡ false → is_phase l ≡ false
  pub numbered : AllOf (OfLine (at + 1)) (part_left (header_of s) names (at + 1) l copying p)
  pub pending : IsPending p (part_left (header_of s) names (at + 1) l copying p)
  pub holds : Holds l buf p

-- A lane of a script that asks for one call at a time: its seat, what its names stand for, where it stands and up to where it asks.
pub record LaneLeft : Type 0 where
  pub script : List Line
  pub seat : ℕ
  pub names : Names
  pub at : ℕ
  pub end : ℕ
  pub copying : Copying
  pub part : Part

-- its script and seat, and the end up to which it asks
pub record LanePlace : Type 0 where
  pub script : List Line
  pub seat : ℕ
  pub end : ℕ

abbrev pub place_of : LaneLeft → LanePlace
place_of l = record { script = l.script; seat = l.seat; end = l.end }

abbrev pub asks_left : LaneLeft → Asking Names
asks_left l = left_from l.script l.seat l.end l.at l.names (line_in l.script l.at) l.copying l.part

abbrev pub most_left : LaneLeft → ℕ
most_left l = most_from l.end l.at l.copying l.part

-- the phase of the call that stands next, if any
abbrev pub next_phase : List Line → Next Names → Option ℕ
next_phase s (Came names) = None
next_phase s (Due a) = Some (phase_of s a.line)
