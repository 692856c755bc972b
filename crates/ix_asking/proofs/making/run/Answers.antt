use Rattle.std.proofs.Common.{◌++◌, sym, ◌∙◌, ap, arith, length-append}
use Rattle.ix_asking.{specs.{Asking.all_heard, Runs.answers_of}, proofs.OneMore.{heard_after, makes-after}}
use Rattle.ix_asking.proofs.making.run.Goals as goal

pub turns-preserved : goal.turns-preserved
turns-preserved g c =
    let made = c.turns.invariant in
    let one = rw c.in-None.is at c.in_ok-came.ensures in
    let p = g.A.Asks.asking c.args.asks.now in (
      made.0 ++ one.0,
      makes-after g.S.Sys.seat g.S.Sys.made g.S.Sys.follows g.S.Sys.transitive _ p (g.A.Asks.asking c.turns.asks) c.args.sys.now c.turns.sys c.make_next.new.sys made.0 one.0 made.1 made.2 one.1,
      one.2 ∙ ap (λ q. all_heard q (answers_of one.0)) made.2 ∙ sym (heard_after p made.0 one.0),
      simp length-append (omega (arith, made.3, one.3)),
      one.4 ∙ made.4,
      one.5.1 ∙ made.5,
    )
