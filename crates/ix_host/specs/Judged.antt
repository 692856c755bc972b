-- What `check` answers of a text that claims to be the report of a script.
use Rattle.std.specs.Prelude.{◌≡◌, ℕ, List, ◌++◌, Option, Some}
use Rattle.ix_script.specs.declared.line.Line.{Line}
use Rattle.ix_judging.specs.Judge.{Verdict}
use Rattle.ix_check.specs.Verdicts.{IsVerdict, verdict_line}

-- What was taken is what was taken before, and after it the line of the answer. That is yes, with the number of entries, where the text is the report of
-- one of the histories of the script, and else no, with the least number of a line at which no such report goes on.
pub record TakesVerdict (s : List Line) (claimed taken : List ℕ) (after : Option (List ℕ)) : Type 0 where
  pub verdict : Verdict
  pub is : IsVerdict s claimed verdict
  pub went_out : after ≡ Some (taken ++ verdict_line verdict)
