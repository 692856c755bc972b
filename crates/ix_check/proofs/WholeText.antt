-- A text, judged to its end.
use Rattle.std.proofs.{Common.{◌≡◌, ℕ, ◌==◌, true, List, [], ◌∷◌, ◌++◌, fold, length, refl, sym, ap, ◌∙◌, arith}, lemmas.Bool.ne_eqb}
use Rattle.ix_model.specs.history.History.{History}
use Rattle.ix_script.specs.declared.line.Line.{Line}
use Rattle.ix_replay.specs.report.Fixed.{LanesNamed}
use Rattle.ix_judging.{specs.{Bytes.{is_empty, is_line, split}, Judge.Text, Walk.{Begins, ended, walked}}, proofs.Split.split-line}
use Rattle.ix_check.{specs.{Judging.{Stands, Walked}, Plans.{begun, found_in, judged_plan}, Stepping.LaneAt, Verdicts.IsVerdict, declared.stage.Stage.Stage}, proofs.Judged.judged}
use Rattle.ix_judging.specs.Judge as theory
use Rattle.ix_check.specs.declared.stage.Stage.TheVariants as stage

-- what is found where a walk goes on over the lines of a text
abbrev pub found_after : List Line → Walked → Text (List ℕ) → theory.Verdict
found_after s walk text = ended (judged_plan s) (fold (walked (judged_plan s) (begun s)) walk text.lines) text.whole

-- Of a text of a script that is judged, this is left, before which the judge stands.
pub record IsLeft {L : Type 0} (at_of : L → LaneAt) (s : List Line) (text rest : List ℕ) (now : List Line) (h : History) (lanes : List L) (at : Stage) : Type 0 where
  pub script : now ≡ s
  pub named : LanesNamed s
  pub walk : Walked
  pub stands : Stands at_of s h lanes at walk
  pub found : found_after s walk (split rest) ≡ found_in s text

-- whether there is none
pub empty_is : (text : List ℕ) → (length text == 0) ≡ is_empty text
empty_is [] = refl
empty_is (b ∷ text) = ne_eqb _ 0 (λ none. absurd (omega (arith, none)))

-- the lanes of a script whose text is judged have names
pub named_of : {L : Type 0} (at_of : L → LaneAt) (s : List Line) (h : History) (lanes : List L) (at : Stage)
    → Stands at_of s h lanes at Begins → LanesNamed s
named_of at_of s h lanes stage.Begins stands = stands.2.named
named_of at_of s h lanes stage.Entries stands = cc
named_of at_of s h lanes (stage.Closing next n) stands = cc
named_of at_of s h lanes (stage.Fails n) stands = cc

module _ (s : List Line) where
  pub at_first : (text : List ℕ) → found_after s Begins (split text) ≡ found_in s text
  unfolding found_in
  at_first text = refl

  -- a line more
  pub line_more : (walk : Walked) (line more rest : List ℕ) → is_line line ≡ true → rest ≡ line ++ more
      → found_after s walk (split rest) ≡ found_after s (walked (judged_plan s) (begun s) walk line) (split more)
  line_more walk line more rest is parts = ap (found_after s walk) (ap split parts ∙ split-line line more is)

  -- no line more
  pub at_end : (walk : Walked) (rest text : List ℕ) (verdict : theory.Verdict) → LanesNamed s
      → split rest ≡ record { lines = []; whole = is_empty rest }
      → found_after s walk (split rest) ≡ found_in s text → verdict ≡ ended (judged_plan s) walk (is_empty rest) → IsVerdict s text verdict
  at_end walk rest text verdict named none found is =
      (judged s named _ _).1 (is ∙ sym (ap (found_after s walk) none) ∙ found)
