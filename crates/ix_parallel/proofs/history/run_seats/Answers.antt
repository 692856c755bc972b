use Rattle.std.proofs.Common.{◌++◌, List, length, take, drop}
use Rattle.ix_script.specs.scripts.Schedule.{phases}
use Rattle.ix_parallel.{specs.Seats.Seated, proofs.together.Ending.{lanes_ran, one_is_left, see_one}}
use Rattle.ix_parallel.proofs.history.run_seats.Goals as goal

pub join_all-requires : goal.join_all-requires
join_all-requires g c =
    let new : List Seated = c.run_phases-stop.new.lanes in
    let lanes : List Seated = take c.in_ok-lanes.lanes.len (new ++ drop (length new) c.in_ok-lanes.lanes.items) in
    let ran = lanes_ran c.args.script.now c.args.kernel.now c.in_ok-lanes.lanes.items c.as_mut_slice.result.now new c.in_ok-lanes.lanes.len
    c.run_phases-stop.result c.in_ok-lanes.ensures c.as_mut_slice.ensures.value
    c.in_ok-lanes.lanes.ok.0 c.run_phases-stop.auto.lanes c.run_phases-stop.ensures in
    let see = see_one c.args.script.now c.args.kernel.now (phases c.args.script.now) lanes c.run_phases-stop.result ran in
    (c.args.script.now, see.0, see.1)

pub returns : goal.returns
returns g c =
    let new : List Seated = c.run_phases-stop.new.lanes in
    let lanes : List Seated = take c.in_ok-lanes.lanes.len (new ++ drop (length new) c.in_ok-lanes.lanes.items) in
    let ran = lanes_ran c.args.script.now c.args.kernel.now c.in_ok-lanes.lanes.items c.as_mut_slice.result.now new c.in_ok-lanes.lanes.len
    c.run_phases-stop.result c.in_ok-lanes.ensures c.as_mut_slice.ensures.value
    c.in_ok-lanes.lanes.ok.0 c.run_phases-stop.auto.lanes c.run_phases-stop.ensures in
    one_is_left c.args.script.now c.args.kernel.now lanes c.in-Some.seat c.in-Some.ensures.joined c.in-Some.ensures.last c.requires.kernel c.run_phases-stop.result ran
