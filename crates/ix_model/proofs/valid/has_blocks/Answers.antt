use Rattle.std.proofs.{Common.{◌≡◌, ◌+◌, ◌≤◌, length, take, sym, ap, ◌∙◌, arith}, lemmas.Bool.{eq-eqb, lt-leb}}
use Rattle.ix_model.{specs.{world.{World.fs_at, Naming.PathOf}, rows.Telling.blocks_for, opening.Valid.{blocks_taken, fs_of}}, proofs.opening.Fitting.taken_more}
use Rattle.ix_model.proofs.valid.has_blocks.Goals as goal

pub returns-then-needed-left : goal.returns-then-needed-left
returns-then-needed-left c =
    let fss = c.args.fss.now in
    let before = c.args.before.now in
    let here : blocks_taken fss c.args.k (take c.loop-b.b-index before) + blocks_for (length c.b-item.result.bytes) ≤ blocks_taken fss c.args.k before =
    taken_more fss c.args.k before c.loop-b.b-index c.b-item.result c.loop-b-test.true c.b-item.is
    (eq-eqb _ _ (ap (λ (p : PathOf). fs_of fss p.names) (sym c.as_path.ensures) ∙ sym c.fs_of.ensures.fs ∙ c.if-fs_of-k.true)) in
    let so_far : c.loop-b.left + blocks_taken fss c.args.k (take c.loop-b.b-index before) ≡ (fs_at fss c.args.k).blocks = c.loop-b.invariant in
    let needed = c.blocks_for-needed.ensures ∙ ap blocks_for c.len.ensures in
    sym (lt-leb _ _ (omega (arith, here, so_far, needed)))
