-- Reports of good histories, and what judges a text: that it is one, or the first line at which no such report goes on.
use Rattle.std.specs.Prelude.{◌≡◌, ℕ, ◌≤◌, ◌<◌, Bool, true, List, [], ◌∷◌, ◌++◌, take, length, ◌⊎◌}
use Rattle.ix_judging.specs.Plan.{Plan}
use Rattle.ix_judging.specs.Lanes.{State, IsGood}
use Rattle.ix_judging.specs.Runs.{entered}

-- a text: the lines that end by a line feed, and whether nothing stands behind the last of them
pub record Text (T : Type 0) : Type 0 where
  pub lines : List T
  pub whole : Bool

-- one of these texts begins with these lines
abbrev pub BeginsIn : {T : Type 0} → (List T → Type 0) → List T → Type 0
BeginsIn {T} good front = (lines rest : List T) × good lines × (lines ≡ front ++ rest)

-- what is answered of a text: that it is a good report, of so many entries, or the number of a line
pub data Verdict : Type 0 where
  Yes : ℕ → Verdict
  No : ℕ → Verdict

module _ {W E A L T : Type 0} (p : Plan W E A L T) where
  -- ---- reports
  -- the lines of entries
  abbrev pub lines_of : State W L → List E → List T
  lines_of at [] = []
  lines_of at (e ∷ events) = p.line at.world at.place e ∷ lines_of (entered p at e) events

  -- the lines of entries, and those behind them
  abbrev pub report_from : State W L → List E → List T
  report_from at [] = p.closing at.world at.place
  report_from at (e ∷ events) = p.line at.world at.place e ∷ report_from (entered p at e) events

  -- the lines of a report
  abbrev pub report_of : State W L → List E → List T
  report_of at events = p.head ∷ report_from at events

  -- these are the lines of the report of a good history
  abbrev pub IsReport : State W L → List T → Type 0
  IsReport at lines = (events : List E) × IsGood p at events × (lines ≡ report_of at events)

  -- the same, of a history of so many entries
  abbrev pub IsReportWith : State W L → ℕ → List T → Type 0
  IsReportWith at count lines = (events : List E) × IsGood p at events × (lines ≡ report_of at events) × (length events ≡ count)

  -- a text is a good report
  abbrev pub IsGoodText : State W L → Text T → Type 0
  IsGoodText at text = IsReport at text.lines × (text.whole ≡ true)

  -- a text has fewer lines, or no good report begins with its first lines
  abbrev pub IsWrongAt : State W L → Text T → ℕ → Type 0
  IsWrongAt at text n = (length text.lines < n) ⊎ (BeginsIn (IsReport at) (take n text.lines) → ⊥)

  -- the least such number, from 1, of a text that is no good report
  pub record IsLeastWrong (at : State W L) (text : Text T) (n : ℕ) : Type 0 where
    pub not_good : IsGoodText at text → ⊥
    pub from : 1 ≤ n
    pub wrong : IsWrongAt at text n
    pub least : (m : ℕ) → 1 ≤ m → IsWrongAt at text m → n ≤ m

  -- what judges a text: that it is a good report of so many entries, or that number
  abbrev pub IsJudged : State W L → Text T → Verdict → Type 0
  IsJudged at text (Yes count) = IsReportWith at count text.lines × (text.whole ≡ true)
  IsJudged at text (No n) = IsLeastWrong at text n
