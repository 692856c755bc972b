use Rattle.std.proofs.Common.{◌∙◌, sym}
use Rattle.ix_host.proofs.comes_to.{Outcomes.outcome_image, Preparing.{ends_as, loaded_as}}
use Rattle.ix_host.proofs.preparing.input_task.Goals as goal

pub returns-then-reads_image-clause-leads : goal.returns-then-reads_image-clause-leads
returns-then-reads_image-clause-leads g c = λ history. ends_as (outcome_image c.args.command c.args.bytes.now history (sym c.reads_image.ensures ∙ c.if-reads_image.true)) c.load.ensures.ends

pub returns-then-reads_image-clause-image : goal.returns-then-reads_image-clause-image
returns-then-reads_image-clause-image g c = λ _. loaded_as c.load.result c.args.bytes.now c.load.ensures.image
