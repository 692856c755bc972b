-- What a run stands for, phase by phase.
use Rattle.std.proofs.Common.{◌≡◌, ℕ, suc, Bool, true, List, [], ◌++◌, length, None, refl, sym, ap, ◌∙◌, subst}
use Rattle.ix_model.specs.history.Made.{Made}
use Rattle.ix_script.specs.{lines.Before.lanes_of, declared.line.Line.Line}
use Rattle.ix_asking.{specs.declared.stop.Stop.Stop, specs.Asking.{Asking, Next, Came, Due, all_heard, first, followed, next}}
use Rattle.ix_asking.{specs.Runs.{answer_at, answers_of, AsAsked, StopsAt}, proofs.OneMore.{asked_after, heard_after}}
use Rattle.ix_lanes.specs.{asking.{Asked.{Names, no_names}, LineAsks.lines_ask, Ruled.rules_told}, histories.{Serial.header_of, Lanes.lines_of_seat}}
use Rattle.ix_lanes.specs.running.{Phases.{asks_before, lane_before, lane_between, lines_before}, Runs.{CutOff, IsStoppedBy, Ran, StandsFor}}
use Rattle.ix_lanes.proofs.{phased.Between.{asks_append, between_split}, phased.Making.{asked_followed, heard_followed}}
use Rattle.ix_lanes.proofs.phased.PhaseLines.{before-few, before-grows, before-taken}

pub stands_first : (s : List Line) (lane : ℕ) (names : Names) → names ≡ no_names → StandsFor (record { script = s; lane = lane; done = 0; between = true; names = names }) []
unfolding asks_before
stands_first s lane names is = record { between = refl; asked = tt; came = ap Came (sym is) }

-- ---- one phase more
-- what the lane asks for in the next phase, with these names at its beginning
abbrev pub next_asks : List Line → ℕ → ℕ → Names → Asking Names
next_asks s lane k names = lines_ask (rules_told s) (header_of s) names (lane_between s lane (length (lines_before k s)) (length (lines_before (suc k) s)))

module _ (s : List Line) (lane k : ℕ) where
  -- in one phase more it asks for that besides
  phase_asks : asks_before s lane (suc k) ≡ followed (asks_before s lane k) (next_asks s lane k)
  unfolding asks_before
  phase_asks =
      let i = length (lines_before k s) in
      let j = length (lines_before (suc k) s) in
      ap (λ ls. lines_ask (rules_told s) (header_of s) no_names (lines_of_seat (lanes_of s) lane 1 None ls)) (before-taken s (suc k))
      ∙ ap (lines_ask (rules_told s) (header_of s) no_names) (between_split s lane i j (before-grows s k) (before-few s (suc k)))
      ∙ ap (λ ls. lines_ask (rules_told s) (header_of s) no_names (lines_of_seat (lanes_of s) lane 1 None ls ++ lane_between s lane i j)) (sym (before-taken s k))
      ∙ asks_append (rules_told s) (header_of s) (lane_before s lane k) (lane_between s lane i j) no_names

  module _ (names : Names) (made more : List Made) (h : StandsFor (record { script = s; lane = lane; done = k; between = true; names = names }) made)
      (asked : AsAsked lane (next_asks s lane k names) more) where
    left : all_heard (asks_before s lane (suc k)) (answers_of made) ≡ next_asks s lane k names
    left = ap (λ p. all_heard p (answers_of made)) phase_asks ∙ heard_followed (next_asks s lane k) lane (asks_before s lane k) made names h.asked h.came

    asked_both : AsAsked lane (asks_before s lane (suc k)) (made ++ more)
    asked_both =
        asked_after lane (asks_before s lane (suc k)) made more
        (subst (λ (p : Asking Names). AsAsked lane p made) (sym phase_asks) (asked_followed (next_asks s lane k) lane (asks_before s lane k) made h.asked))
        (subst (λ (p : Asking Names). AsAsked lane p more) (sym left) asked)

    next_both : next (asks_before s lane (suc k)) (answers_of (made ++ more)) ≡ next (next_asks s lane k names) (answers_of more)
    next_both = ap first (heard_after (asks_before s lane (suc k)) made more ∙ ap (λ p. all_heard p (answers_of more)) left)

    pub stands_next : (after : Names) → next (next_asks s lane k names) (answers_of more) ≡ Came after
        → StandsFor (record { script = s; lane = lane; done = suc k; between = true; names = after }) (made ++ more)
    stands_next after is = record { between = refl; asked = asked_both; came = next_both ∙ is }

    pub cut_next : (stop : Stop) → StopsAt (next (next_asks s lane k names) (answers_of more)) stop
        → CutOff (record { script = s; lane = lane; done = k; between = true; names = names }) (made ++ more) (answer_at stop)
    cut_next stop is = record {
      asked = asked_both;
      stopped =
          subst (λ (n : Next Names). IsStoppedBy n (answer_at stop)) (sym next_both) (stopped_by (next (next_asks s lane k names) (answers_of more)) stop is);
    }
      where
        stopped_by : (n : Next Names) (stop : Stop) → StopsAt n stop → IsStoppedBy n (answer_at stop)
        stopped_by (Came r) stop h = absurd h
        stopped_by (Due a) stop h = h

-- the lines between the indices of two phases
pub asks_between : (s : List Line) (lane k i j : ℕ) (names : Names) → i ≡ length (lines_before k s) → j ≡ length (lines_before (suc k) s)
    → lines_ask (rules_told s) (header_of s) names (lane_between s lane i j) ≡ next_asks s lane k names
asks_between s lane k i j names from to = λ x. lines_ask (rules_told s) (header_of s) names (lane_between s lane (from x) (to x))

-- ---- a run that is asked to go on
abbrev pub ran : List Line → ℕ → ℕ → Bool → Names → Ran
ran s lane k between names = record { script = s; lane = lane; done = k; between = between; names = names }

-- A run of these parts stands between two phases: it is to do this phase, and it asks for what the phase has for it.
pub record GoesOn (s : List Line) (lane k : ℕ) (between : Bool) (names : Names) (old : List Made) (phase seat : ℕ) (asks : Asking Names) : Type 0 where
  pub is : between ≡ true
  pub at : phase ≡ k
  pub stands : StandsFor (ran s lane k true names) old
  pub asked : asks ≡ next_asks s lane k names
  pub made : (more : List Made) → AsAsked seat asks more → AsAsked lane (next_asks s lane k names) more

pub goes_on : (r : Ran) (s t : List Line) (lane k : ℕ) (between : Bool) (names : Names) (old : List Made) (phase seat i j : ℕ) (asks : Asking Names)
    → ran s lane k between names ≡ r → StandsFor r old → phase ≡ r.done → seat ≡ r.lane → (between ≡ true → i ≡ length (lines_before k s)) → j ≡ length (lines_before (suc phase) r.script)
    → t ≡ s → asks ≡ lines_ask (rules_told t) (header_of t) names (lane_between t lane i j) → GoesOn s lane k between names old phase seat asks
goes_on r s t lane k between names old phase seat i j asks view stands next mine from to script asked =
    let is : between ≡ true = ap (λ (x : Ran). x.between) view ∙ stands.between in
    let at : phase ≡ k = next ∙ sym (ap (λ (x : Ran). x.done) view) in
    let end : j ≡ length (lines_before (suc k) s) = to ∙ (λ x. length (lines_before (suc (at x)) (sym view x).script)) in
    let all : asks ≡ next_asks s lane k names =
    asked ∙ ap (λ ls. lines_ask (rules_told ls) (header_of ls) names (lane_between ls lane i j)) script ∙ asks_between s lane k i j names (from is) end in
    record {
      is = is;
      at = at;
      stands = subst (λ (b : Bool). StandsFor (ran s lane k b names) old) is (subst (λ (x : Ran). StandsFor x old) (sym view) stands);
      asked = all;
      made = λ more h. subst (λ (p : Asking Names). AsAsked lane p more) all (subst (λ (n : ℕ). AsAsked n asks more) (mine ∙ sym (ap (λ (x : Ran). x.lane) view)) h);
    }
