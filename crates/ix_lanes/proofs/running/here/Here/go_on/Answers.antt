use Rattle.std.proofs.Common.{sym, arith}
use Rattle.ix_lanes.proofs.phased.Among.{last_among, last_idle, next_among, next_few, next_idle, next_later, past_among, past_idle}
use Rattle.ix_lanes.proofs.phased.Stretching.{few_stretches}
use Rattle.ix_lanes.proofs.running.here.Here.go_on.Goals as goal

pub returns-in_default-clause-idle : goal.returns-in_default-clause-idle
returns-in_default-clause-idle c =
    last_idle c.args.script.now c.args.lane c.args.self.now.at c.args.self.now.stretch c.args.self.now.come c.requires.among c.args.end c.requires.behind c.requires.within.0 c.requires.within.1
    (sym c.in_default.ensures)

pub returns-in_default-clause-among : goal.returns-in_default-clause-among
returns-in_default-clause-among c =
    last_among c.args.script.now c.args.lane c.args.self.now.at c.args.self.now.stretch c.args.self.now.come c.requires.among c.args.end c.requires.behind c.requires.within.0 c.requires.within.1
    (sym c.in_default.ensures)

pub returns-then-end-stretch-clause-idle : goal.returns-then-end-stretch-clause-idle
returns-then-end-stretch-clause-idle c =
    past_idle c.args.script.now c.args.lane c.args.self.now.at c.args.self.now.stretch c.args.self.now.come c.requires.among c.args.end c.requires.behind c.requires.within.0 c.requires.within.1
    c.in-Some.stretch (sym c.in-Some.ensures) (omega (arith, c.if-end-stretch.true))

pub returns-then-end-stretch-clause-among : goal.returns-then-end-stretch-clause-among
returns-then-end-stretch-clause-among c =
    past_among c.args.script.now c.args.lane c.args.self.now.at c.args.self.now.stretch c.args.self.now.come c.requires.among c.args.end c.requires.behind c.requires.within.0 c.requires.within.1
    c.in-Some.stretch (sym c.in-Some.ensures) (omega (arith, c.if-end-stretch.true))

pub overflow_add-self : goal.overflow_add-self
overflow_add-self c =
    let few = next_few c.args.script.now c.args.lane c.args.self.now.at c.args.self.now.stretch c.args.self.now.come c.requires.among c.args.end c.requires.behind c.requires.within.0
    c.requires.within.1 c.in-Some.stretch (sym c.in-Some.ensures) in
    omega (arith, few, few_stretches c.args.script.now c.args.lane, c.len-count.ensures.len)

pub returns-clause-within : goal.returns-clause-within
returns-clause-within c =
    let later = next_later c.args.script.now c.args.lane c.args.self.now.at c.args.self.now.stretch c.args.self.now.come c.requires.among c.args.end c.requires.behind c.requires.within.0
    c.requires.within.1 c.in-Some.stretch (sym c.in-Some.ensures) in
    (later, omega (arith, c.if-end-stretch.false))

pub returns-clause-idle : goal.returns-clause-idle
returns-clause-idle c =
    next_idle c.args.script.now c.args.lane c.args.self.now.at c.args.self.now.stretch c.args.self.now.come c.requires.among c.args.end c.requires.behind c.requires.within.0 c.requires.within.1
    c.in-Some.stretch (sym c.in-Some.ensures)

pub returns-clause-among : goal.returns-clause-among
returns-clause-among c =
    next_among c.args.script.now c.args.lane c.args.self.now.at c.args.self.now.stretch c.args.self.now.come c.requires.among c.args.end c.requires.behind c.requires.within.0 c.requires.within.1
    c.in-Some.stretch (sym c.in-Some.ensures) c.lanes_are_stretches.ensures.phases

pub returns-clause-fewer : goal.returns-clause-fewer
returns-clause-fewer c =
    let few = next_few c.args.script.now c.args.lane c.args.self.now.at c.args.self.now.stretch c.args.self.now.come c.requires.among c.args.end c.requires.behind c.requires.within.0
    c.requires.within.1 c.in-Some.stretch (sym c.in-Some.ensures) in
    let later = next_later c.args.script.now c.args.lane c.args.self.now.at c.args.self.now.stretch c.args.self.now.come c.requires.among c.args.end c.requires.behind c.requires.within.0
    c.requires.within.1 c.in-Some.stretch (sym c.in-Some.ensures) in
    omega (arith, few, later, c.if-end-stretch.false)
