use Rattle.std.{proofs.Common.{◌+◌, ◌++◌, codes, refl, ◌∙◌}, specs.Fmt.decimal}
use Rattle.ix_twin.{specs.Lines.end_line, proofs.{Alongside.if_ok, Comparing.{text_apart, text_over}}}
use Rattle.ix_twin.proofs.comparison.run_both.Goals as goal

pub turns-init : goal.turns-init
turns-init c = record { first = refl; second = refl; compares = rw c.new-lines.ensures.items c.requires.begun }

pub returns-in-Apart : goal.returns-in-Apart
returns-in-Apart c =
    let turns = rw c.in-Apart.is at c.in_ok-shown.ensures.turns in
    if_ok c.framed.result (λ text is. is
    ∙ (λ i. codes "differ " ++ decimal (c.turns.agreed + 1) ++ codes "\n" ++ (c.as_slice.ensures.value ∙ turns.1) i ++ end_line c.turns.places)
    ∙ text_apart _ _ _ c.requires.alike (record { twins = c.turns.twin; first = c.turns.first.calls; second = c.turns.second.calls }) _ _ _
    c.turns.invariant.compares turns.0) c.framed.ensures

pub returns-in-Over : goal.returns-in-Over
returns-in-Over c =
    let turns = rw c.in-Over.is at c.in_ok-shown.ensures.turns in
    if_ok c.framed-in-Over.result (λ text is. is
    ∙ (λ i. codes "agree " ++ decimal c.turns.agreed ++ codes "\n" ++ (c.as_slice-in-Over.ensures.value ∙ turns.2) i ++ end_line c.turns.places)
    ∙ text_over _ _ _ c.requires.alike (record { twins = c.turns.twin; first = c.turns.first.calls; second = c.turns.second.calls }) _ _ _
    c.turns.invariant.compares turns.0 turns.1) c.framed-in-Over.ensures
