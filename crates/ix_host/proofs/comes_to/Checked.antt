-- What `check` answers where it is done.
use Rattle.std.proofs.Common.{◌≡◌, ℕ, List, [], ◌++◌, Option, Some, None, refl, ap, ◌∙◌, unwrap_or}
use Rattle.ix_script.specs.{declared.line.Line.Line, lines.Before.lanes_of, scripts.Scripts.script_of}
use Rattle.ix_lanes.specs.histories.Serial.{serial}
use Rattle.ix_replay.specs.report.Fixed.{LanesNamed, ScriptsNamed}
use Rattle.ix_check.specs.{Laws.TextsAreJudged, Parts.{report_part, script_part}, Plans.found_in}
use Rattle.ix_host.{specs.{Judged.TakesVerdict, run.Inputs.script_in}, proofs.comes_to.{Done.{Takes, Tells, takes_done}, Outcomes.done_answer}}
use Rattle.ix_host.specs.declared.arguments.command.Command.TheVariants as command

-- the lanes of a script that bytes are have names
named_in : ScriptsNamed → (bytes : List ℕ) → LanesNamed (script_in bytes)
unfolding lanes_of
named_in names bytes = go (script_of bytes) refl
  where
    go : (o : Option (List Line)) → script_of bytes ≡ o → LanesNamed (unwrap_or o [])
    go None is = refl
    go (Some s) is = names bytes s is

-- What went out is the answer's line.
abbrev pub Answered : List ℕ → List ℕ → Option (List ℕ) → Type 0
Answered bytes t after = TakesVerdict (script_in (script_part bytes)) (report_part bytes) t after

answer_told : ScriptsNamed → TextsAreJudged → Tells command.Check Answered
answer_told names judged bytes t after done went =
    let s = script_in (script_part bytes) in
    let claimed = report_part bytes in
    record {
      verdict = found_in s claimed;
      is = (judged s (named_in names (script_part bytes)) claimed (found_in s claimed)).1 refl;
      went_out = went ∙ ap (λ text. Some (t ++ text)) (done_answer bytes (serial s) done);
    }

pub takes_verdict : ScriptsNamed → TextsAreJudged → Takes command.Check Answered
takes_verdict names judged = takes_done command.Check Answered (answer_told names judged)
