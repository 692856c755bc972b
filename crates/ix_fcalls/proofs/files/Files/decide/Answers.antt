use Rattle.std.proofs.Common.{sym, ◌∙◌}
use Rattle.ix_model.specs.rows.Table.{verdict}
use Rattle.ix_fcalls.{specs.Around.frame_of, proofs.Deciding.{leaves_raised, leaves_all, set_back, counted_all}}
use Rattle.ix_fcalls.proofs.files.Files.decide.Goals as goal

pub returns-then-keeps_label-clause-content : goal.returns-then-keeps_label-clause-content
returns-then-keeps_label-clause-content g c = leaves_raised _ _ _ _ _ c.requires.sound c.in-Err.ensures.back _ _ _ _ c.in-Err.ensures.row

pub returns-else-keeps_label-clause-frame : goal.returns-else-keeps_label-clause-frame
unfolding verdict
returns-else-keeps_label-clause-frame g c =
    let same = set_back g.R.Others.rest c.caller.result.now c.args.self.now c.row.new.self _ _ _ _ _ _ c.caller.ensures.living c.in-Err.ensures.row c.set_label.ensures in
    rw (c.caller.ensures.lives, c.in-Err.ensures.row, sym c.keeps_label.ensures ∙ c.if-keeps_label.false) (λ i. frame_of g.R.Others.rest (c.in-Err.ensures.back i) (same i))

pub returns-else-keeps_label-clause-counted : goal.returns-else-keeps_label-clause-counted
returns-else-keeps_label-clause-counted g c =
    let same = set_back g.R.Others.rest c.caller.result.now c.args.self.now c.row.new.self _ _ _ _ _ _ c.caller.ensures.living c.in-Err.ensures.row c.set_label.ensures in
    counted_all _ _ _ _ c.in-Err.ensures.back same c.requires.counted

pub returns-else-keeps_label-clause-content : goal.returns-else-keeps_label-clause-content
returns-else-keeps_label-clause-content g c =
    let same = set_back g.R.Others.rest c.caller.result.now c.args.self.now c.row.new.self _ _ _ _ _ _ c.caller.ensures.living c.in-Err.ensures.row c.set_label.ensures in
    leaves_all _ _ _ _ _ c.requires.sound c.in-Err.ensures.back _ same
