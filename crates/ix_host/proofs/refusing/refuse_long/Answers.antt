use Rattle.std.proofs.Common.{Bool, ◌∙◌, if◌then◌else◌, refl, sym, ap}
use Rattle.ix_image.specs.Image.{longest}
use Rattle.ix_host.specs.run.Outcome as outcome
use Rattle.ix_host.proofs.comes_to.Preparing.{ends_as}
use Rattle.ix_host.proofs.refusing.refuse_long.Goals as goal

pub returns-then-reads_image : goal.returns-then-reads_image
returns-then-reads_image g c =
    ends_as (ap (λ (b : Bool). if b then outcome.Faulty longest 9 else outcome.Refused 1 1) (sym (sym c.reads_image.ensures ∙ c.if-reads_image.true))) c.refuse_image.ensures

pub returns : goal.returns
returns g c =
    ends_as (ap (λ (b : Bool). if b then outcome.Faulty longest 9 else outcome.Refused 1 1) (sym (sym c.reads_image.ensures ∙ c.if-reads_image.false)))
    (c.tell.ensures (outcome.Refused 1 1) (sym c.too_long_line.ensures) refl)
