use Rattle.std.proofs.Common.{◌∙◌, Some, sym, ap}
use Rattle.ix_flow.proofs.Opened.{opened_file, opened_none}
use Rattle.ix_flow.proofs.tracks.Tracks.open.Goals as goal

pub returns-in_default : goal.returns-in_default
returns-in_default c = λ are. opened_none _ c.requires.first c.requires.sound _ _ are (λ x there. sym c.size.ensures ∙ c.in_default.is)

pub returns : goal.returns
returns c = λ are.
    opened_file _ c.requires.first c.requires.sound _ _ are _ (sym c.object.ensures ∙ c.in-Some-object.is) _
    (sym c.size.ensures ∙ c.in-Some.is ∙ ap Some (sym c.in-Ok.ensures.1))
    _ _ c.in_ok-label.ensures.label c.in_ok-label.ensures.stays _ c.in_ok-fill.ensures.like c.in_ok-fill.ensures.sources c.fill.ensures.first
    _ c.in_ok-put.ensures.put c.in_ok-put.ensures.others
