-- What is answered of a text that claims to be a report of a script.
use Rattle.std.specs.Prelude.{◌≡◌, ℕ, ◌≤◌, ◌<◌, List, ◌++◌, length, codes, ◌⊎◌}
use Rattle.std.specs.Fmt.{decimal}
use Rattle.ix_model.specs.history.Events.{Event}
use Rattle.ix_script.specs.declared.line.Line.{Line}
use Rattle.ix_lanes.specs.histories.History.{IsHistory}
use Rattle.ix_replay.specs.report.Report.{report_of}
use Rattle.ix_judging.specs.Bytes.{feeds, first_lines}
use Rattle.ix_judging.specs.Judge.{No, Verdict, Yes}

-- a good report of a script is that of one of its histories
abbrev pub IsGoodReport : List Line → List ℕ → Type 0
IsGoodReport s text = (events : List Event) × IsHistory s events × (text ≡ report_of s events)

-- a good report begins so
abbrev pub BeginsGood : List Line → List ℕ → Type 0
BeginsGood s front = (rest : List ℕ) × IsGoodReport s (front ++ rest)

-- a text has fewer than n line feeds, or no good report begins with its first n lines, each taken with its line feed
abbrev pub IsWrongAt : List Line → List ℕ → ℕ → Type 0
IsWrongAt s text n = (feeds text < n) ⊎ (BeginsGood s (first_lines n text) → ⊥)

-- the least such number, from 1, of a text that is no good report
pub record IsLeastWrong (s : List Line) (text : List ℕ) (n : ℕ) : Type 0 where
  pub not_good : IsGoodReport s text → ⊥
  pub from : 1 ≤ n
  pub wrong : IsWrongAt s text n
  pub least : (m : ℕ) → 1 ≤ m → IsWrongAt s text m → n ≤ m

-- What is answered of a text: yes, with the number of entries, where it is a good report, else no, with that number.
abbrev pub IsVerdict : List Line → List ℕ → Verdict → Type 0
IsVerdict s text (Yes entries) = (events : List Event) × IsHistory s events × (text ≡ report_of s events) × (length events ≡ entries)
IsVerdict s text (No n) = IsLeastWrong s text n

-- an answer's line
unfoldable pub verdict_line : Verdict → List ℕ
verdict_line (Yes entries) = codes "yes " ++ decimal entries ++ codes "\n"
verdict_line (No n) = codes "no " ++ decimal n ++ codes "\n"
