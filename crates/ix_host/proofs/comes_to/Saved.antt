-- What `save` writes where it is done.
use Rattle.std.proofs.Common.{ℕ, List, ◌++◌, Option, Some, ap, ◌∙◌}
use Rattle.ix_lanes.specs.histories.Serial.{serial}
use Rattle.ix_host.{specs.{Saved.TakesImage, run.Inputs.script_in}, proofs.comes_to.{Done.{Takes, Tells, takes_done}, Outcomes.done_image}}
use Rattle.ix_host.specs.declared.arguments.command.Command.TheVariants as command

-- What went out is the image of the tree that is left.
abbrev pub Image : List ℕ → List ℕ → Option (List ℕ) → Type 0
Image bytes t after = TakesImage (script_in bytes) t after

image_told : Tells command.Save Image
image_told bytes t after done went = record { went_out = went ∙ ap (λ text. Some (t ++ text)) (done_image bytes (serial (script_in bytes)) done) }

pub takes_image : Takes command.Save Image
takes_image = takes_done command.Save Image image_told
