-- What judges a text of bytes.
use Rattle.std.{proofs.{Common.{◌≡◌, ℕ, ◌<◌, true, List, [], ◌∷◌, length, refl, sym, ap, ◌∙◌, subst, inl, inr}, lemmas.Bool.and_from}, specs.List.list_all}
use Rattle.ix_judging.specs.{Plan.{Plan, Lawful}, Lanes.State, Runs.entered}
use Rattle.ix_judging.proofs.{Split.{count_feeds, first_are_lines, joined-append, joined-split, split-all, split-joined}, Judged.judge_is_right}
use Rattle.ix_judging.specs.Judge.{BeginsIn, IsGoodText, IsJudged, IsReport, IsReportWith, IsWrongAt, No, Verdict, Yes, report_from, report_of}
use Rattle.ix_judging.specs.Bytes.{BeginsGood, IsGoodBytes, IsGoodWith, IsWrongIn, JudgesBytes, PrintsLines, is_line, joined, judge_bytes, split}

module _ {W E A L : Type 0} (p : Plan W E A L (List ℕ)) (prints : PrintsLines p) where
  from_lines : (at : State W L) (events : List E) → list_all is_line (report_from p at events) ≡ true
  from_lines at [] = prints.closing at.world at.place
  from_lines at (e ∷ events) =
      and_from (is_line (p.line at.world at.place e)) (list_all is_line (report_from p (entered p at e) events))
      (prints.line at.world at.place e) (from_lines (entered p at e) events)

  report_lines : (at : State W L) (events : List E) → list_all is_line (report_of p at events) ≡ true
  report_lines at events = and_from _ _ prints.head (from_lines at _)

  -- ---- a good text, by lines and by bytes
  good_bytes : (at : State W L) (bytes : List ℕ) → IsGoodText p at (split bytes) → IsGoodBytes p at bytes
  good_bytes at bytes g = (g.0.0, g.0.1, sym (joined-split _ g.1) ∙ ap joined g.0.2)

  good_lines : (at : State W L) (bytes : List ℕ) → IsGoodBytes p at bytes → IsGoodText p at (split bytes)
  good_lines at bytes g =
      let both = ap split g.2 ∙ split-all _ (report_lines at _) in
      ((g.0, g.1, ap (λ t. t.lines) both), ap (λ t. t.whole) both)

  good_bytes_with : (at : State W L) (count : ℕ) (bytes : List ℕ) → IsReportWith p at count (split bytes).lines → (split bytes).whole ≡ true
      → IsGoodWith p at count bytes
  good_bytes_with at count bytes g whole = (g.0, g.1, sym (joined-split _ whole) ∙ ap joined g.2, g.3)

  good_lines_with : (at : State W L) (count : ℕ) (bytes : List ℕ) → IsGoodWith p at count bytes
      → IsReportWith p at count (split bytes).lines × ((split bytes).whole ≡ true)
  unfolding good_lines
  good_lines_with at count bytes g = let lines = good_lines at _ (g.0, g.1, g.2) in ((g.0, g.1, lines.0.2, g.3), lines.1)

  -- ---- the front of one
  begins_bytes : (at : State W L) (front : List (List ℕ)) → BeginsIn (IsReport p at) front → BeginsGood p at (joined front)
  begins_bytes at front b = (joined b.0, joined b.1, (b.2.0, b.2.1, ap joined b.2.2), ap joined b.3 ∙ joined-append front b.1)

  begins_lines : (at : State W L) (front : List (List ℕ)) → list_all is_line front ≡ true → BeginsGood p at (joined front)
      → BeginsIn (IsReport p at) front
  begins_lines at front lines b =
      let text = sym b.2.2 ∙ b.3 in
      let same =
      ap (λ t. t.lines) (sym (split-all _ (report_lines at _)) ∙ ap split text ∙ split-joined front b.1 lines) in
      (report_of p at b.2.0, (split b.1).lines, (b.2.0, b.2.1, refl), same)

  -- ---- a wrong line
  wrong_bytes : (at : State W L) (bytes : List ℕ) (n : ℕ) → IsWrongAt p at (split bytes) n → IsWrongIn p at bytes n
  wrong_bytes at bytes n (inl short) = inl (subst (λ k. k < n) (count_feeds bytes) short)
  wrong_bytes at bytes n (inr none) = inr (λ b. none (begins_lines at _ (first_are_lines n bytes) b))

  wrong_lines : (at : State W L) (bytes : List ℕ) (n : ℕ) → IsWrongIn p at bytes n → IsWrongAt p at (split bytes) n
  wrong_lines at bytes n (inl short) = inl (subst (λ k. k < n) (sym (count_feeds bytes)) short)
  wrong_lines at bytes n (inr none) = inr (λ b. none (begins_bytes at _ b))

  -- ---- what judges
  judges_lines : (at : State W L) (bytes : List ℕ) (found : Verdict) → JudgesBytes p at bytes found → IsJudged p at (split bytes) found
  judges_lines at bytes (Yes count) j = good_lines_with at _ _ j
  judges_lines at bytes (No n) j = record {
    not_good = λ g. j.not_good (good_bytes at _ g);
    from = j.from;
    wrong = wrong_lines at bytes n j.wrong;
    least = λ m from w. j.least m from (wrong_bytes at bytes m w);
  }

  judges_bytes : (at : State W L) (bytes : List ℕ) (found : Verdict) → IsJudged p at (split bytes) found → JudgesBytes p at bytes found
  judges_bytes at bytes (Yes count) j = good_bytes_with at count bytes j.0 j.1
  judges_bytes at bytes (No n) j = record {
    not_good = λ g. j.not_good (good_lines at bytes g);
    from = j.from;
    wrong = wrong_bytes at bytes n j.wrong;
    least = λ m from w. j.least m from (wrong_lines at bytes m w);
  }

  pub bytes_are_judged : (count : ℕ) → Lawful p count → (at : State W L) (bytes : List ℕ) (found : Verdict) → length at.lanes ≡ count
      → (JudgesBytes p at bytes found → found ≡ judge_bytes p at bytes) × (found ≡ judge_bytes p at bytes → JudgesBytes p at bytes found)
  bytes_are_judged count lawful at bytes found all =
      let both = judge_is_right p count lawful at (split bytes) found all in
      (λ j. both.0 (judges_lines at bytes found j), λ same. judges_bytes at bytes found (both.1 same))
