use Rattle.std.proofs.Common.{◌≡◌, List, Some, map, sym, ap, ◌∙◌, arith}
use Rattle.ix_script.specs.declared.line.Line.{Line}
use Rattle.ix_lanes.specs.declared.running.part.Part.TheVariants as part
use Rattle.ix_lanes.specs.{asking.Places.standing, histories.Indexed.line_in, running.{Left.is_over, Serially.{SerialLeft, next_entry}}}
use Rattle.ix_lanes.proofs.phased.InOrder.{command_next, indexed, lane_within}
use Rattle.ix_lanes.proofs.running.serial_calls.SerialCalls.command.Goals as goal

pub index-places-requires : goal.index-places-requires
index-places-requires c =
    let i = c.self.inside in
    let seat : i.here.seat ≡ Some c.args.seat = ap (λ (v : SerialLeft). v.seat) c.self.view_is ∙ c.requires.seat in
    let low = lane_within i.script.now i.places.items i.here.at c.args.seat c.self.invariant.0.placed (sym c.self.invariant.1.in_lane ∙ seat) in
    omega (arith, low, i.places.ok)

pub returns : goal.returns
returns c =
    let i = c.self.inside in
    let s : List Line = i.script.now in
    let seat : i.here.seat ≡ Some c.args.seat = ap (λ (v : SerialLeft). v.seat) c.self.view_is ∙ c.requires.seat in
    let stands : i.part ≡ part.Command c.args.count = ap (λ (v : SerialLeft). v.part) c.self.view_is ∙ c.requires.stands in
    let low = lane_within s i.places.items i.here.at c.args.seat c.self.invariant.0.placed (sym c.self.invariant.1.in_lane ∙ seat) in
    let there = indexed i.places.items c.args.seat c.index-places.result.now low (sym c.index-places.ensures) in
    let line : c.in-Some.line ≡ line_in s i.here.at = let e = sym c.in-Some.is ∙ c.self.invariant.1.line (ap is_over stands) in cc in
    c.call_of.ensures
    ∙ sym (command_next s i.places.items i.here.at c.args.seat c.index-places.result.now there i.here.seat seat i.header c.self.invariant.0.header c.in-Some.line line i.copying c.args.count)
    ∙ ap (λ p. next_entry (record { script = s; names = map standing i.places.items; at = i.here.at; seat = i.here.seat; copying = i.copying; part = p })) (sym stands)
    ∙ ap next_entry c.self.view_is
