use Rattle.std.proofs.Common.{rules, ◌≡◌, ◌≤◌, length, None, sym, ap, ◌∙◌}
use Rattle.std.specs.List.{slice_get}
use Rattle.ix_script.{specs.scripts.Held.own_of, proofs.reader.Scheduling.{item_is, own_here, own_past, stretch_at}}
use Rattle.ix_script.proofs.script.Script.stretch.Goals as goal

pub returns : goal.returns
returns c =
    let found = c.in_ok-stretches.ensures.lookup in
    let own = own_here c.deref.result.now c.args.seat c.in_ok-stretches.stretches.now found.3.0 found.1 in
    c.copied.ensures ∙ item_is c.deref-2.result.now c.args.n c.get-2.result c.get-2.ensures.lookup
    ∙ ap (λ ts. slice_get ts c.args.n) (c.deref-2.ensures.value ∙ own ∙ ap (λ all. own_of all c.args.seat) c.deref.ensures.value)
    ∙ stretch_at _ _ _ _ _ _ c.self.view_is c.self.invariant.0.lanes c.self.invariant.1

pub returns-in_err-stretches : goal.returns-in_err-stretches
returns-in_err-stretches c =
    let none : c.from_residual.result ≡ None = search rules in
    let past : length c.self.inside.schedule.stretches.items ≤ c.args.seat = search rules in
    none ∙ sym (ap (λ ts. slice_get ts c.args.n) (own_past c.self.inside.schedule.stretches.items c.args.seat past))
    ∙ stretch_at _ _ _ _ _ _ c.self.view_is c.self.invariant.0.lanes c.self.invariant.1
