use Rattle.std.{proofs.Common.{◌≡◌, ap, ◌∙◌}, specs.FinMap.empty}
use Rattle.ix_lanes.{specs.asking.Places.given, proofs.found.Placing.given-empty}
use Rattle.ix_lanes.proofs.asking.places.Places.new.Goals as goal

pub returns : goal.returns
returns c =
    let procs : given c.new.result ≡ empty = ap given c.new.ensures ∙ given-empty in
    let fds : given c.new-2.result ≡ empty = ap given c.new-2.ensures ∙ given-empty in
    λ i. record { procs = procs i; fds = fds i }
