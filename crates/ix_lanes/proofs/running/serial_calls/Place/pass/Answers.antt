use Rattle.std.proofs.Common.{sym, ap, ◌∙◌}
use Rattle.ix_script.specs.{lines.Before.lanes_of, scripts.Schedule.seat_begun}
use Rattle.ix_lanes.specs.{declared.running.serial_calls.Place.Place, histories.Indexed.line_in}
use Rattle.ix_lanes.proofs.{found.{Indexed.counted_from_one, Roles.{line-there, seat-begun, seat-left, seat-named}}, running.serial_calls.Place.pass.Goals.{in-Phase, in-Lane, in_default}}
use Rattle.ix_lanes.proofs.running.serial_calls.Place.pass.Goals as goal

pub returns-clause-seat : goal.returns-clause-seat
returns-clause-seat c = elim c.match-role.branch [
  | in-Phase w ↦ ap (λ (h : Place). h.seat) w.self-is
      ∙ sym (seat-begun (lanes_of c.args.script.now) c.args.self.now.seat (line_in c.args.script.now c.args.self.now.at) (sym c.requires.role ∙ w.in-Phase.is))
  | in-Lane w ↦ ap (λ (h : Place). h.seat) w.self-is ∙ w.seat-self.ensures
      ∙ ap (seat_begun (lanes_of c.args.script.now)) (counted_from_one c.args.script.now c.args.self.now.at ∙ line-there c.args.script.now c.args.self.now.at c.requires.within)
      ∙ sym (seat-named (lanes_of c.args.script.now) c.args.self.now.seat (line_in c.args.script.now c.args.self.now.at) (sym c.requires.role ∙ w.in-Lane.is))
  | in_default w ↦ ap (λ (h : Place). h.seat) w.self-is
      ∙ sym (seat-left (lanes_of c.args.script.now) c.args.self.now.seat (line_in c.args.script.now c.args.self.now.at)
      (λ is. w.in_default.not-Phase (c.requires.role ∙ is)) (λ is. w.in_default.not-Lane (c.requires.role ∙ is)))
]
