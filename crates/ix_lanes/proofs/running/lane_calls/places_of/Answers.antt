use Rattle.std.{proofs.{Common.{◌≤◌, List, length, sym, ap, ◌∙◌, arith}, lemmas.List.take_all}, specs.List.flat_map}
use Rattle.ix_script.specs.{scripts.Schedule.{stretch_lines, stretches_of}, declared.line.Line.Line}
use Rattle.ix_lanes.{specs.running.Fields.all_placed, proofs.phased.Stretching.{all_stretches, few_stretches, stretch_more, stretches_past}}
use Rattle.ix_lanes.proofs.running.lane_calls.places_of.Goals as goal

pub returns-in_default-clause-all : goal.returns-in_default-clause-all
returns-in_default-clause-all c =
    let s : List Line = c.args.script.now in
    let past : length (stretches_of s c.args.lane) ≤ c.loop-n.n = stretches_past (stretches_of s c.args.lane) c.loop-n.n (sym c.in_default.ensures) in
    all_stretches c.lanes_are_stretches.ensures.lines c.loop-n.places s c.args.lane
    (ap (λ ts. all_placed c.loop-n.places (flat_map (stretch_lines s) ts)) (sym (take_all c.loop-n.n (stretches_of s c.args.lane) past)) ∙ c.loop-n.invariant.all)

pub loop-n-preserved : goal.loop-n-preserved
loop-n-preserved c =
    let s : List Line = c.args.script.now in
    record {
      none = c.in_ok-add_stretch.ensures.same ∙ c.loop-n.invariant.none;
      all = stretch_more c.loop-n.places c.add_stretch.new.places s (stretches_of s c.args.lane) c.loop-n.n c.in-Some.stretch (sym c.in-Some.ensures)
          c.in_ok-add_stretch.ensures.keeps c.loop-n.invariant.all c.in_ok-add_stretch.ensures.all;
      within = omega (arith, c.loop-n-test.true, c.len-n-end.ensures.len);
    }

pub returns-clause-all : goal.returns-clause-all
returns-clause-all c =
    let s : List Line = c.args.script.now in
    let past : length (stretches_of s c.args.lane) ≤ c.loop-n.n = omega (arith, few_stretches s c.args.lane, c.loop-n-test.false, c.len-n-end.ensures.len) in
    all_stretches c.lanes_are_stretches.ensures.lines c.loop-n.places s c.args.lane
    (ap (λ ts. all_placed c.loop-n.places (flat_map (stretch_lines s) ts)) (sym (take_all c.loop-n.n (stretches_of s c.args.lane) past)) ∙ c.loop-n.invariant.all)
