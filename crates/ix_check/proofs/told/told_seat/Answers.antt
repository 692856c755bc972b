use Rattle.std.proofs.Common.{sym, ap, ◌∙◌}
use Rattle.ix_script.specs.lines.Before.{lanes_of}
use Rattle.ix_judging.specs.Names.{told_from}
use Rattle.ix_check.{specs.Plans.mark, proofs.LaneTold.{told-behind, told-not}}
use Rattle.ix_check.proofs.told.told_seat.Goals as goal

pub returns-in-Some : goal.returns-in-Some
returns-in-Some c =
    c.seat_named.ensures ∙ sym (told-behind 0 (mark c.args.place) c.in-Some.text.now (lanes_of c.args.script.now))
    ∙ ap (told_from 0 (mark c.args.place) (lanes_of c.args.script.now)) (sym c.in-Some.ensures)

pub returns-in-None : goal.returns-in-None
returns-in-None c = sym (told-not 0 _ _ _ c.in-None.ensures)
