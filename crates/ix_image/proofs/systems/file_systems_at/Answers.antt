use Rattle.std.proofs.Common.{◌≡◌, ◌-◌, ◌+◌, sym, subst, arith}
use Rattle.ix_image.{specs.Reading.file_systems_at, proofs.{Looping.with_front, Objects.file_systems_field, Reread.{systems_go_on, systems_end, all_systems}}}
use Rattle.ix_image.proofs.systems.file_systems_at.Goals as goal

pub returns-in-Err-clause-read : goal.returns-in-Err-clause-read
returns-in-Err-clause-read c = systems_end _ _ _ _ _ (file_systems_at c.args.count c.args.bytes.now) (omega arith)
    c.in-Err.ensures c.loop.invariant

pub loop-preserved : goal.loop-preserved
loop-preserved c =
    subst (λ fss. with_front fss (file_systems_at (c.args.count - (c.loop.counter + 1)) c.in-Ok.after.now) ≡ file_systems_at c.args.count c.args.bytes.now)
    (sym c.in_ok-push-in-Ok.ensures.ok)
    (systems_go_on _ _ _ _ _ _ (file_systems_at c.args.count c.args.bytes.now) (omega arith) c.in-Ok.ensures
    c.loop.invariant)

pub returns-clause-read : goal.returns-clause-read
returns-clause-read c = all_systems _ _ _ _ (file_systems_at c.args.count c.args.bytes.now) (omega arith) c.loop.invariant

pub returns-clause-count : goal.returns-clause-count
returns-clause-count c =
    ((file_systems_field _).takes _ _ _ (λ i. omega (arith, c.type_inv.bytes i))
    (all_systems _ _ _ _ (file_systems_at c.args.count c.args.bytes.now) (omega arith) c.loop.invariant)).1.0

pub returns-clause-each : goal.returns-clause-each
returns-clause-each c =
    ((file_systems_field _).takes _ _ _ (λ i. omega (arith, c.type_inv.bytes i))
    (all_systems _ _ _ _ (file_systems_at c.args.count c.args.bytes.now) (omega arith) c.loop.invariant)).1.1
