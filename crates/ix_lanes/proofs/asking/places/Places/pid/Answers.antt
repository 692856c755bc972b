use Rattle.std.{proofs.Common.{sym, ap, ◌∙◌, unwrap_or}, specs.{FinMap.get, Option.option_flatten}}
use Rattle.ix_lanes.proofs.found.Placing.{get-given}
use Rattle.ix_lanes.proofs.asking.places.Places.pid.Goals as goal

pub returns-in-Some : goal.returns-in-Some
returns-in-Some c =
    let stands = sym c.in-Some.is ∙ c.flatten.ensures ∙ ap option_flatten c.get.ensures ∙ sym (get-given c.args.self.now.procs c.args.name.now) in
    ap (λ o. unwrap_or o (unwrap_or (get c.args.header.now c.args.name.now) 0)) stands

pub returns-in-None : goal.returns-in-None
returns-in-None c =
    let stands = sym c.in-None.is ∙ c.flatten.ensures ∙ ap option_flatten c.get.ensures ∙ sym (get-given c.args.self.now.procs c.args.name.now) in
    c.unwrap_or.ensures ∙ ap (λ o. unwrap_or o 0) c.get-in-None.ensures ∙ ap (λ o. unwrap_or o (unwrap_or (get c.args.header.now c.args.name.now) 0)) stands
