use Rattle.std.proofs.Common.{◌≡◌, ◌<◌, ◌≤◌, ◌++◌, List, ℕ, None, length, refl, sym, ap, ◌∙◌, subst, arith}
use Rattle.std.proofs.lemmas.List.{drop_all}
use Rattle.ix_script.specs.{lines.Before.form_told, scripts.Canonical.{canonical, canonical_from, canonical_in}}
use Rattle.ix_host.{specs.run.Outlet.StandsAt, proofs.piecewise.{Outlets.sent_none, Stands.{ends_out, none_is, stands_end, stands_front, stands_silent}}}
use Rattle.ix_host.proofs.preparing.print.Goals as goal

pub parts-init : goal.parts-init
parts-init g c =
    let first = g.K.Sink.taken c.args.sink.now in
    let n = g.K.Sink.faults c.args.sink.now in
    let text = canonical c.args.script.now in
    let all : c.in-Ok.waiting.items ++ canonical_from c.args.script.now 0 ≡ text = ap (λ t. t ++ text) c.in-Ok.ensures in
    record {
      within = omega arith;
      stands = subst (λ (w : List ℕ). StandsAt None first first w text n n) (sym all) (sent_none first text, refl);
    }

pub returns-in_default-write_part : goal.returns-in_default-write_part
returns-in_default-write_part g c =
    let now = c.parts.sink in
    ends_out (g.K.Sink.taken c.args.sink.now) (g.K.Sink.taken now) (canonical c.args.script.now) (g.K.Sink.finished now) (g.K.Sink.faults c.args.sink.now) (g.K.Sink.faults now)
    (stands_front _ (g.K.Sink.taken now) (g.K.Sink.faults c.args.sink.now) (g.K.Sink.faults now) _ _ c.parts.invariant.stands)

pub returns-then-is_some : goal.returns-then-is_some
returns-then-is_some g c =
    let first = g.K.Sink.taken c.args.sink.now in
    let before = g.K.Sink.faults c.args.sink.now in
    let text = canonical c.args.script.now in
    let rest = canonical_from c.args.script.now c.in-Ok-write_part.next in
    let stands = subst (λ (w : List ℕ). StandsAt None first (g.K.Sink.taken c.parts.sink) w text before (g.K.Sink.faults c.parts.sink))
    (sym c.in-Ok-write_part.ensures.text) c.parts.invariant.stands in
    let after = c.write_full-failure.new.sink in
    let waiting = c.write_full-failure.new.waiting.items in
    c.finish.ensures first text before
    (rw c.as_slice.ensures.value (stands_silent first (g.K.Sink.taken after) before (g.K.Sink.faults after) c.write_full-failure.result (waiting ++ rest) waiting text
    (sym c.is_some.ensures ∙ c.if-is_some.true) (c.write_full-failure.ensures first rest text before stands)))

pub parts-smaller : goal.parts-smaller
parts-smaller g c =
    let some : c.parts.first < length c.args.script.now = omega (arith, c.parts-test.true, c.len.ensures.len) in
    omega (arith, c.in-Ok-write_part.ensures.more some, c.in-Ok-write_part.ensures.within, some)

pub parts-preserved : goal.parts-preserved
parts-preserved g c =
    let first = g.K.Sink.taken c.args.sink.now in
    let before = g.K.Sink.faults c.args.sink.now in
    let text = canonical c.args.script.now in
    let none : c.write_full-failure.result ≡ None = none_is c.write_full-failure.result (sym c.is_some.ensures ∙ c.if-is_some.false) in
    let stands = subst (λ (w : List ℕ). StandsAt None first (g.K.Sink.taken c.parts.sink) w text before (g.K.Sink.faults c.parts.sink))
    (sym c.in-Ok-write_part.ensures.text) c.parts.invariant.stands in
    record {
      within = c.in-Ok-write_part.ensures.within;
      stands = rw none at (c.write_full-failure.ensures first (canonical_from c.args.script.now c.in-Ok-write_part.next) text before stands);
    }

pub returns : goal.returns
returns g c =
    let first = g.K.Sink.taken c.args.sink.now in
    let before = g.K.Sink.faults c.args.sink.now in
    let text = canonical c.args.script.now in
    let lines = c.args.script.now in
    let now = c.parts.sink in
    let end : length lines ≤ c.parts.first = omega (arith, c.parts-test.false, c.len.ensures.len) in
    let none = ap (canonical_in (form_told lines)) (drop_all c.parts.first lines end) in
    c.finish-2.ensures first text before
    (rw c.as_slice-2.ensures.value (stands_end first (g.K.Sink.taken now) before (g.K.Sink.faults now) None c.parts.waiting.items (canonical_from lines c.parts.first) text
    none c.parts.invariant.stands))
