-- The same of texts of bytes, whose lines end by a line feed.
use Rattle.std.specs.Prelude.{◌≡◌, ℕ, suc, ◌≤◌, ◌<◌, ◌==◌, Bool, true, false, List, [], ◌∷◌, ◌++◌, take, length, if◌then◌else◌, ◌⊎◌}
use Rattle.std.specs.List.{flat_map, list_all}
use Rattle.ix_judging.specs.Plan.{Plan}
use Rattle.ix_judging.specs.Lanes.{State, IsGood}
use Rattle.ix_judging.specs.Judge.{No, Text, Verdict, Yes, report_of}
use Rattle.ix_judging.specs.Walk.{judge}

-- ---- lines
-- a text with a byte more in front, which is no line feed
abbrev pub with_byte : ℕ → List (List ℕ) → Bool → Text (List ℕ)
with_byte b [] whole = record { lines = []; whole = false }
with_byte b (l ∷ lines) whole = record { lines = (b ∷ l) ∷ lines; whole = whole }

-- a text with a line feed more in front
abbrev pub with_feed : List (List ℕ) → Bool → Text (List ℕ)
with_feed lines whole = record { lines = (10 ∷ []) ∷ lines; whole = whole }

-- the lines that end by a line feed, each with it, and whether nothing stands behind the last of them
abbrev pub split : List ℕ → Text (List ℕ)
split [] = record { lines = []; whole = true }
split (b ∷ bytes) = if b == 10 then with_feed (split bytes).lines (split bytes).whole else with_byte b (split bytes).lines (split bytes).whole

-- lines, one after the other
abbrev pub joined : List (List ℕ) → List ℕ
joined lines = flat_map (λ l. l) lines

-- how many line feeds a text has
abbrev pub feeds : List ℕ → ℕ
feeds [] = 0
feeds (b ∷ bytes) = if b == 10 then suc (feeds bytes) else feeds bytes

-- the first lines of a text, each with its line feed
abbrev pub first_lines : ℕ → List ℕ → List ℕ
first_lines n bytes = joined (take n (split bytes).lines)

-- whether there is none
abbrev pub is_empty : List ℕ → Bool
is_empty [] = true
is_empty (b ∷ bytes) = false

-- a line has one line feed, at its end
abbrev pub is_line : List ℕ → Bool
is_line [] = false
is_line (b ∷ l) = if b == 10 then is_empty l else is_line l

module _ {W E A L : Type 0} (p : Plan W E A L (List ℕ)) where
  -- what a plan prints are lines
  pub record PrintsLines : Type 0 where
    pub head : is_line p.head ≡ true
    pub line : (w : W) (place : ℕ) (e : E) → is_line (p.line w place e) ≡ true
    pub closing : (w : W) (place : ℕ) → list_all is_line (p.closing w place) ≡ true

  -- a text is the report of a good history
  abbrev pub IsGoodBytes : State W L → List ℕ → Type 0
  IsGoodBytes at bytes = (events : List E) × IsGood p at events × (bytes ≡ joined (report_of p at events))

  -- a good report begins so
  abbrev pub BeginsGood : State W L → List ℕ → Type 0
  BeginsGood at front = (bytes rest : List ℕ) × IsGoodBytes at bytes × (bytes ≡ front ++ rest)

  -- a text has fewer line feeds, or no good report begins with its first lines
  abbrev pub IsWrongIn : State W L → List ℕ → ℕ → Type 0
  IsWrongIn at bytes n = (feeds bytes < n) ⊎ (BeginsGood at (first_lines n bytes) → ⊥)

  -- the least such number, from 1, of a text that is no good report
  pub record IsLeastIn (at : State W L) (bytes : List ℕ) (n : ℕ) : Type 0 where
    pub not_good : IsGoodBytes at bytes → ⊥
    pub from : 1 ≤ n
    pub wrong : IsWrongIn at bytes n
    pub least : (m : ℕ) → 1 ≤ m → IsWrongIn at bytes m → n ≤ m

  -- the report of a good history of so many entries
  abbrev pub IsGoodWith : State W L → ℕ → List ℕ → Type 0
  IsGoodWith at count bytes = (events : List E) × IsGood p at events × (bytes ≡ joined (report_of p at events)) × (length events ≡ count)

  -- what judges a text of bytes: that it is a good report of so many entries, or that number
  abbrev pub JudgesBytes : State W L → List ℕ → Verdict → Type 0
  JudgesBytes at bytes (Yes count) = IsGoodWith at count bytes
  JudgesBytes at bytes (No n) = IsLeastIn at bytes n

  -- what is found of it line by line
  abbrev pub judge_bytes : State W L → List ℕ → Verdict
  judge_bytes at bytes = judge p at (split bytes)
