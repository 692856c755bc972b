-- What `twin` tells where it is done.
use Rattle.std.proofs.Common.{◌≡◌, ℕ, List, ◌++◌, Option, Some, ap, ◌∙◌}
use Rattle.ix_label.specs.Category.{Categories}
use Rattle.ix_script.specs.declared.line.Line.{Line}
use Rattle.ix_lanes.specs.histories.Serial.{serial}
use Rattle.ix_twin.specs.{Laws.{TwinLines, TwinsAreCompared}, Lines.{parting_of, shown_of, twin_text}, Parts.first_part}
use Rattle.ix_host.specs.{Compared.TakesTwins, Seconds.second_in, run.Inputs.script_in}
use Rattle.ix_host.proofs.comes_to.{Done.{Takes, Tells, takes_done}, Outcomes.done_twins}
use Rattle.ix_host.specs.declared.arguments.command.Command.TheVariants as command

-- What went out is what is found of two scripts.
takes : TwinsAreCompared → TwinLines → (l : Categories) (s t : List Line) (taken : List ℕ) (after : Option (List ℕ)) → after ≡ Some (taken ++ twin_text l s t)
    → TakesTwins l s t taken after
unfolding twin_text
takes found lines l s t taken after went = record {
  parting = parting_of l s t;
  is = found.parting l s t;
  places = shown_of l s t;
  are = found.shown l s t;
  went_out = went;
  equal = λ place shown. lines l s t (parting_of l s t) place (found.parting l s t) shown;
}

-- and where both stand in one input
abbrev pub Twins : Categories → List ℕ → List ℕ → Option (List ℕ) → Type 0
Twins l bytes t after = TakesTwins l (script_in (first_part bytes)) (second_in bytes) t after

twins_told : TwinsAreCompared → TwinLines → (l : Categories) → Tells (command.Twin l) (Twins l)
twins_told found lines l bytes t after done went =
    let s = script_in (first_part bytes) in
    takes found lines l s (second_in bytes) t after (went ∙ ap (λ text. Some (t ++ text)) (done_twins l bytes (serial s) done))

pub takes_twins : TwinsAreCompared → TwinLines → (l : Categories) → Takes (command.Twin l) (Twins l)
takes_twins found lines l = takes_done (command.Twin l) (Twins l) (twins_told found lines l)
