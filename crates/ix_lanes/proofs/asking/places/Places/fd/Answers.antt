use Rattle.std.{proofs.Common.{sym, ap, ◌∙◌, unwrap_or}, specs.Option.option_flatten}
use Rattle.ix_lanes.proofs.found.Placing.{get-given}
use Rattle.ix_lanes.proofs.asking.places.Places.fd.Goals as goal

pub returns-in-Named : goal.returns-in-Named
returns-in-Named c =
    let stands = c.flatten.ensures ∙ ap option_flatten c.get.ensures ∙ sym (get-given c.args.self.now.fds c.in-Named.name) in
    rw c.in-Named.is (c.unwrap_or.ensures ∙ ap (λ o. unwrap_or o 255) stands)
