use Rattle.std.proofs.Common.{◌≡◌, ◌++◌, ℕ, List, None, true, is_ok, is_some, not, refl, sym, ap, ◌∙◌, subst}
use Rattle.ix_lanes.proofs.found.Oks.{from_ok}
use Rattle.ix_flow.specs.{Lines.{Counts, end_line}, Tracking.counts_of}
use Rattle.ix_host.{specs.run.Outlet.StandsAt, proofs.piecewise.Stands.{ends_out, line_comes, line_missed, none_is, stands_front}}
use Rattle.ix_host.proofs.streams.tracer.Tracer.close.Goals as goal

pub returns-then-is_some-clause-ends : goal.returns-then-is_some-clause-ends
returns-then-is_some-clause-ends g c first told before h follows stands =
    let old = c.args.self.now in
    let failed : is_some old.failure ≡ true = sym c.is_some.ensures ∙ c.if-is_some.true in
    let last = end_line (counts_of h) in
    c.finish.ensures first (told ++ last) before
    (rw c.as_slice.ensures.value (line_missed first (g.K.Sink.taken old.sink.now) before (g.K.Sink.faults old.sink.now) told last (told ++ last) refl old.failure old.waiting.now.items failed stands))

pub returns-then-is_err-clause-ends : goal.returns-then-is_err-clause-ends
returns-then-is_err-clause-ends g c first told before h follows stands =
    let old = c.args.self.now in
    let none : old.failure ≡ None = none_is old.failure (sym c.is_some.ensures ∙ c.if-is_some.false) in
    let last = end_line (counts_of h) in
    let comes = line_comes first (g.K.Sink.taken old.sink.now) before (g.K.Sink.faults old.sink.now) told last (told ++ last) refl old.waiting.now.items (rw none at stands) in
    ends_out first (g.K.Sink.taken old.sink.now) (told ++ last) (g.K.Sink.finished old.sink.now) before (g.K.Sink.faults old.sink.now)
    (stands_front first (g.K.Sink.taken old.sink.now) before (g.K.Sink.faults old.sink.now) (old.waiting.now.items ++ last) (told ++ last) comes)

pub returns-clause-ends : goal.returns-clause-ends
returns-clause-ends g c first told before h follows stands =
    let old = c.args.self.now in
    let none : old.failure ≡ None = none_is old.failure (sym c.is_some.ensures ∙ c.if-is_some.false) in
    let last = end_line (counts_of h) in
    let went : is_ok c.end.result ≡ true = c.is_err.ensures.negation ∙ ap not c.if-is_err.false in
    let written = from_ok c.end.result went c.end.ensures.text ∙ ap (λ (n : Counts). old.waiting.now.items ++ end_line n) (follows none).counts in
    let comes = line_comes first (g.K.Sink.taken old.sink.now) before (g.K.Sink.faults old.sink.now) told last (told ++ last) refl old.waiting.now.items (rw none at stands) in
    c.finish-2.ensures first (told ++ last) before
    (rw (c.as_slice-2.ensures.value, none) (subst (λ (w : List ℕ). StandsAt None first (g.K.Sink.taken old.sink.now) w (told ++ last) before (g.K.Sink.faults old.sink.now)) (sym written) comes))
