use Rattle.std.proofs.Common.{refl, ◌∙◌}
use Rattle.ix_check.proofs.{LastLine.{line_made, none_yet}, OneCall.call_made}
use Rattle.ix_check.proofs.lane.print_call.Goals as goal

pub returns-then-printer-clause-script : goal.returns-then-printer-clause-script
returns-then-printer-clause-script g c =
    let waits = c.wait.new.self in
    (c.make_call.ensures.on.seen waits (refl, refl, λ going. none_yet waits.script.now _ _ _ c.wait.ensures.count)).0 ∙ c.wait.ensures.script

pub returns-clause-script : goal.returns-clause-script
returns-clause-script g c =
    let waits = c.wait.new.self in
    (c.make_call.ensures.on.seen waits (refl, refl, λ going. none_yet waits.script.now _ _ _ c.wait.ensures.count)).0 ∙ c.wait.ensures.script

pub returns-clause-made : goal.returns-clause-made
returns-clause-made g c e call =
    let waits = c.wait.new.self in
    let known = c.make_call.ensures.on.seen waits (refl, refl, λ going. none_yet waits.script.now _ _ _ c.wait.ensures.count) in
    let made = call_made _ _ _ c.make_call.ensures.on.on _ _ e c.make_call.ensures.made call in (
      made.0,
      made.1,
      line_made _ _ _ _ _ e
          _ (known.0 ∙ c.wait.ensures.script) (known.1 ∙ c.wait.ensures.count) made.0 (known.2 c.if-printer.false),
    )
