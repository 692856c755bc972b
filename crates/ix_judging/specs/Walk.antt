-- How a text is judged, one line after the other.
use Rattle.std.specs.Prelude.{ℕ, zero, suc, nat_le, Bool, true, ◌&&◌, is_none, List, [], ◌∷◌, length, fold, Option, Some, None, if◌then◌else◌}
use Rattle.ix_judging.specs.Plan.{Plan}
use Rattle.ix_judging.specs.Lanes.{State}
use Rattle.ix_judging.specs.Runs.{asks, entered}
use Rattle.ix_judging.specs.Judge.{No, Text, Verdict, Yes}

-- Where a walk over a text stands: before the first line; among the entries, of which so many were made; among the closing lines, before a line of that
-- number, behind so many entries, where these are left; or a line of that number can stand in no good report.
pub data Walk (W L T : Type 0) : Type 0 where
  Begins : Walk W L T
  Entries : ℕ → State W L → Walk W L T
  Closing : ℕ → ℕ → List T → Walk W L T
  Fails : ℕ → Walk W L T

-- the number of the line behind so many entries
abbrev pub line_after : ℕ → ℕ
line_after made = suc (suc made)

-- what is found where the text ends before a line of that number, behind so many entries, and these closing lines are left
abbrev pub closed : {T : Type 0} → ℕ → ℕ → List T → Bool → Verdict
closed n count [] whole = if whole then Yes count else No n
closed n count (c ∷ closing) whole = No n

module _ {W E A L T : Type 0} (p : Plan W E A L T) where
  -- ---- whose turn it is
  -- no lane of these first ones makes a further call
  abbrev pub over_to : ℕ → List L → Bool
  over_to zero lanes = true
  over_to (suc m) lanes = is_none (asks p lanes m) && over_to m lanes

  -- no lane makes a further call
  abbrev pub is_over : List L → Bool
  is_over lanes = over_to (length lanes) lanes

  -- a call, if any, is of no earlier phase than an entry
  abbrev pub is_not_before : E → Option E → Bool
  is_not_before e None = true
  is_not_before e (Some f) = nat_le (p.phase e) (p.phase f)

  -- no lane of these first ones has a call left in an earlier phase
  abbrev pub least_to : ℕ → List L → E → Bool
  least_to zero lanes e = true
  least_to (suc m) lanes e = is_not_before e (asks p lanes m) && least_to m lanes e

  -- a call whose turn it is
  abbrev pub on_turn : List L → Option E → Option E
  on_turn lanes None = None
  on_turn lanes (Some e) = if least_to (length lanes) lanes e then Some e else None

  -- the call of the lane of a seat, if any, whose turn it is
  abbrev pub called_by : List L → Option ℕ → Option E
  called_by lanes None = None
  called_by lanes (Some k) = on_turn lanes (asks p lanes k)

  -- the call that is next where a line tells of one: that of the lane that it names
  abbrev pub told_call : State W L → T → Option E
  told_call at l = called_by at.lanes (p.told at.place l)

  -- ---- one line more
  -- a closing line is the first of those that are left
  abbrev pub closes : ℕ → ℕ → List T → T → Walk W L T
  closes n count [] l = Fails n
  closes n count (c ∷ closing) l = if p.same c l then Closing (suc n) count closing else Fails n

  -- an entry's line is that of the call of the lane that it names
  abbrev pub makes : ℕ → State W L → T → Option E → Walk W L T
  makes made at l None = Fails (line_after made)
  makes made at l (Some e) = if p.same (p.line at.world at.place e) l then Entries (suc made) (entered p at e) else Fails (line_after made)

  -- where the walk stands after a line; the lanes begin so
  abbrev pub walked : State W L → Walk W L T → T → Walk W L T
  walked first Begins l = if p.same p.head l then Entries 0 first else Fails 1
  walked first (Entries made at) l =
      if is_over at.lanes then closes (line_after made) made (p.closing at.world at.place) l else makes made at l (told_call at l)
  walked first (Closing n count closing) l = closes n count closing l
  walked first (Fails n) l = Fails n

  -- ---- the end
  -- what is found where the lines end, by whether nothing stands behind them
  abbrev pub ended : Walk W L T → Bool → Verdict
  ended Begins whole = No 1
  ended (Entries made at) whole = if is_over at.lanes then closed (line_after made) made (p.closing at.world at.place) whole else No (line_after made)
  ended (Closing n count closing) whole = closed n count closing whole
  ended (Fails n) whole = No n

  -- what is found of a text
  abbrev pub judge : State W L → Text T → Verdict
  judge first text = ended (fold (walked first) Begins text.lines) text.whole
