use Rattle.std.proofs.Common.{◌∙◌, ap, length}
use Rattle.ix_core.proofs.{Standing.{stands_first, small_journal}, Keeping.marked_first}
use Rattle.ix_core.proofs.keeper.Core.boot.Goals as goal

pub invariant_of-result : goal.invariant_of-result
invariant_of-result c =
    let m = c.in_ok-marks.ensures in
    rw c.in_ok-journal.ensures (record {
      stands = stands_first _ _ c.requires c.in_ok-machine.ensures;
      marked = marked_first _ _ _ c.requires (c.objects.ensures ∙ ap (λ w. length w.frame.objects) c.in_ok-machine.ensures) m.fresh m.rows m.sizes m.raised;
    })

pub new-requires : goal.new-requires
new-requires c = small_journal _ c.requires
