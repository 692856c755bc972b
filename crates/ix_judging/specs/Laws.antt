-- The laws of judging, where all that a script says is coded by numbers.
use Rattle.std.specs.Prelude.{◌≡◌, ℕ, ◌-◌, ◌*◌, List, ◌∷◌, ◌++◌, take, length, ◌↔◌}
use Rattle.ix_judging.specs.Plan.{Plan, Lawful}
use Rattle.ix_judging.specs.Lanes.{State, IsGood}
use Rattle.ix_judging.specs.Runs.{HoldsSoFar, IsWholeRun, IsRun}
use Rattle.ix_judging.specs.Judge.{BeginsIn, IsJudged, IsReport, Text, Verdict, lines_of, report_of}
use Rattle.ix_judging.specs.Walk.{judge}
use Rattle.ix_judging.specs.Bytes.{JudgesBytes, PrintsLines, judge_bytes}
use Rattle.ix_judging.specs.Phases.{IsPhasedRun}
use Rattle.ix_judging.specs.Asking.{IsHistory, IsLane, IsScript, Script, opened, plan_of}
use Rattle.ix_judging.specs.Lines.{Asking, AsksFew, LinesRise, lines_from}

-- plans whose worlds, entries, answers and lanes are numbers, and whose lines are bytes
abbrev pub Numbered : Type 0
Numbered = Plan ℕ ℕ ℕ ℕ (List ℕ)

-- their lanes, with a world and a place
abbrev pub Here : Type 0
Here = State ℕ ℕ

-- the good histories are those that runs come to
abbrev pub RunsAreGood : Type 0
RunsAreGood = (p : Numbered) (at : Here) → Lawful p (length at.lanes) → (events : List ℕ) → IsWholeRun p at events ↔ IsGood p at events

-- each run can be brought to an end, so the lines of its entries begin a good report
abbrev pub RunsEnd : Type 0
RunsEnd = (p : Numbered) (at : Here) → Lawful p (length at.lanes) → (events : List ℕ) → IsRun p at events
    → ((more : List ℕ) × IsGood p at (events ++ more)) × BeginsIn (IsReport p at) (p.head ∷ lines_of p at events)

-- what was run so far holds the calls of the lanes so far
abbrev pub RunsHold : Type 0
RunsHold = (p : Numbered) (at : Here) (events : List ℕ) → IsRun p at events → HoldsSoFar p at events

-- good histories whose reports have the same first lines have the same first entries
abbrev pub LinesTell : Type 0
LinesTell = (p : Numbered) (at : Here) → Lawful p (length at.lanes) → (n : ℕ) (g h : List ℕ) → IsGood p at g → IsGood p at h
    → take n (report_of p at g) ≡ take n (report_of p at h) → take (n - 1) g ≡ take (n - 1) h

-- what is found line by line judges a text, and nothing else does
abbrev pub JudgeIsRight : Type 0
JudgeIsRight = (p : Numbered) (at : Here) → Lawful p (length at.lanes) → (text : Text (List ℕ)) (found : Verdict)
    → IsJudged p at text found ↔ (found ≡ judge p at text)

-- the same of bytes
abbrev pub BytesAreJudged : Type 0
BytesAreJudged = (p : Numbered) (at : Here) → Lawful p (length at.lanes) → PrintsLines p → (bytes : List ℕ) (found : Verdict)
    → JudgesBytes p at bytes found ↔ (found ≡ judge_bytes p at bytes)

-- the good histories are those to which runs come that go phase by phase
abbrev pub PhasesGo : Type 0
PhasesGo = (p : Numbered) (at : Here) → Lawful p (length at.lanes) → (events : List ℕ) → IsPhasedRun p 0 at events ↔ IsGood p at events

-- scripts are plans, whose good histories are the scripts' histories
abbrev pub ScriptsArePlans : Type 0
ScriptsArePlans = (s : Script ℕ ℕ ℕ (List ℕ)) (count : ℕ) → IsScript s count → Lawful (plan_of s) count
    × ((w : ℕ) (events : List ℕ) → IsHistory s count w events ↔ IsGood (plan_of s) (opened s count w) events)

-- lines that make at most so many calls each are a lane
abbrev pub LinesAreLanes : Type 0
LinesAreLanes = (seat phase : ℕ → ℕ) (line_asks : ℕ → ℕ → Asking ℕ ℕ ℕ) (within : ℕ → ℕ) (k most : ℕ)
    → ((names l : ℕ) → AsksFew seat phase k (within l) most (line_asks names l)) → (lines : List ℕ) (names : ℕ) → LinesRise within 0 lines
    → IsLane seat phase k 0 (length lines * most) (lines_from line_asks names lines)
