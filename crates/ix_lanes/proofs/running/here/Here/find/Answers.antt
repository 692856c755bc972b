use Rattle.std.proofs.Common.{◌≡◌, ◌+◌, ◌-◌, ◌<◌, ℕ, false, List, Some, option_map, sym, ap, ◌∙◌, subst, true≢false, arith}
use Rattle.ix_script.specs.declared.{line.Line.Line, schedule.Stretch.Stretch}
use Rattle.ix_asking.specs.Asking as asking
use Rattle.ix_lanes.specs.{asking.{LineAsks.{line_asks, lines_ask}, Places.standing, Ruled.rules_told}, histories.Serial.header_of}
use Rattle.ix_lanes.specs.running.{Left.{is_over, part_left}, Phases.{lane_among, lane_between}, Stretches.IsAmong}
use Rattle.ix_lanes.specs.declared.asking.handed.Handed.TheVariants as handed
use Rattle.ix_lanes.proofs.{found.Roles.line-there, phased.Among.{among_mine, among_more, idle_passed}, phased.Placed.{keeps-lines, placed-line}}
use Rattle.ix_lanes.proofs.{phased.Lefts.{here_begun, line_begun, line_skipped, not_over}, running.here.Here.find.Goals.{Then-not-matches, in-Over, in_default}}
use Rattle.ix_lanes.proofs.running.here.Here.find.Goals as goal

pub lines-preserved-then-self : goal.lines-preserved-then-self
lines-preserved-then-self c =
    let s : List Line = c.args.script.now in
    let lane : ℕ = c.args.lane in
    let i : ℕ = c.lines.self.at in
    let j : ℕ = c.go_on.new.self.at in
    let sum : i + (j - i) ≡ j = omega (arith, c.go_on.ensures.within.0) in
    record {
      within = c.go_on.ensures.within.1;
      later = omega (arith, c.go_on.ensures.within.0, c.lines.invariant.later);
      among = c.go_on.ensures.among;
      left = ap (λ m. lines_ask (rules_told s) (header_of s) (standing c.lines.places) (lane_between s lane m c.args.end)) (sym sum)
          ∙ sym (idle_passed s lane c.args.end i (j - i) (standing c.lines.places) (rules_told s) (header_of s) (omega (arith, sum, c.go_on.ensures.within.1)) c.requires.within.1
          (λ k from to. c.go_on.ensures.idle k from (omega (arith, to, sum))))
          ∙ c.lines.invariant.left;
      keeps = c.lines.invariant.keeps;
    }

-- the line asks for something
begun : (c : Then-not-matches) → is_over c.begin.new.begun ≡ false
begun c = elim c.match-matches.branch [
  | in-Over w ↦ absurd (true≢false (sym w.matches-is ∙ c.if-not-matches.true))
  | in_default w ↦ not_over c.begin.new.begun w.in_default.not-Over
]

pub returns-then-not-matches-clause-left : goal.returns-then-not-matches-clause-left
returns-then-not-matches-clause-left c =
    let there = line-there c.args.script.now c.lines.self.at (omega (arith, c.lines-test.true, c.requires.within.1)) ∙ ap Some (sym c.line_at-self.ensures) in
    let mine = among_mine _ _ _ c.lines.self.stretch _ c.lines.invariant.among (omega (arith, c.if-self.false)) in
    line_begun _ _ _ _ _ _ (standing c.lines.places) _ c.requires.policy c.requires.header c.lines-test.true c.requires.within.1 there mine c.begin.new.written c.begin.new.copying c.begin.new.begun
    c.begin.ensures.asks c.begin.ensures.pending c.begin.ensures.holds c.begin.ensures.apart (begun (goal.at.returns-then-not-matches-clause-left c).Then-not-matches)
    ∙ c.lines.invariant.left

pub returns-then-not-matches-clause-here : goal.returns-then-not-matches-clause-here
returns-then-not-matches-clause-here c =
    let inside : c.lines.self.at < c.lines.self.stretch.end = omega (arith, c.if-self.false) in
    let there = line-there c.args.script.now c.lines.self.at (omega (arith, c.lines-test.true, c.requires.within.1)) ∙ ap Some (sym c.line_at-self.ensures) in
    here_begun _ _ _ _ _ _ (standing c.lines.places) _ c.requires.policy c.requires.header c.lines-test.true c.requires.within.1 there (among_mine _ _ _ _ _ c.lines.invariant.among inside)
    c.begin.new.written c.begin.new.copying c.begin.new.begun c.begin.ensures.asks c.begin.ensures.pending c.begin.ensures.holds c.begin.ensures.apart
    (begun (goal.at.returns-then-not-matches-clause-here c).Then-not-matches) _ _ c.lines.invariant.among inside

pub bind-requires : goal.bind-requires
bind-requires c =
    let s : List Line = c.args.script.now in
    let there = line-there s c.lines.self.at (omega (arith, c.lines-test.true, c.requires.within.1)) ∙ ap Some (sym c.line_at-self.ensures) in
    let mine = among_mine s c.args.lane c.lines.self.at c.lines.self.stretch c.lines.self.come c.lines.invariant.among (omega (arith, c.if-self.false)) in
    placed-line s c.args.lane c.lines.self.at c.line_at-self.result there c.lines.places mine
    (keeps-lines c.args.places.now c.lines.places c.lines.invariant.keeps (lane_among s c.args.lane s) c.requires.places)

pub lines-preserved : goal.lines-preserved
lines-preserved c =
    let s : List Line = c.args.script.now in
    let lane : ℕ = c.args.lane in
    let i : ℕ = c.lines.self.at in
    let there = line-there s i (omega (arith, c.lines-test.true, c.requires.within.1)) ∙ ap Some (sym c.line_at-self.ensures) in
    let mine = among_mine s lane i c.lines.self.stretch c.lines.self.come c.lines.invariant.among (omega (arith, c.if-self.false)) in
    let next : c.pass.new.self.at ≡ i + 1 = c.pass.ensures.at in
    let asks : line_asks (option_map (λ p. p.now) c.args.policy) c.args.header.now (standing c.lines.places) (i + 1) c.line_at-self.result
    ≡ part_left c.args.header.now (standing c.lines.places) (i + 1) c.line_at-self.result c.begin.new.copying c.begin.new.begun = sym c.begin.ensures.asks in
    let over : line_asks (option_map (λ p. p.now) c.args.policy) c.args.header.now (standing c.lines.places) (i + 1) c.line_at-self.result ≡ asking.Done handed.Nothing = elim c.match-matches.branch [
      | in-Over v ↦ asks ∙ ap (part_left c.args.header.now (standing c.lines.places) (i + 1) c.line_at-self.result c.begin.new.copying) v.in-Over.is
      | in_default v ↦ absurd (true≢false (sym c.if-not-matches.false ∙ v.matches-is))
    ] in
    record {
      within = omega (arith, next, c.lines-test.true);
      later = omega (arith, next, c.lines.invariant.later);
      among = subst (λ (n : ℕ). IsAmong s lane c.pass.new.self.at c.pass.new.self.stretch n) (sym c.pass.ensures.same.1)
          (subst (λ (t : Stretch). IsAmong s lane c.pass.new.self.at t c.lines.self.come) (sym c.pass.ensures.same.0)
          (among_more s lane i c.lines.self.stretch c.lines.self.come c.lines.invariant.among (omega (arith, c.if-self.false)) c.pass.new.self.at next));
      left = ap (λ n. lines_ask (rules_told s) (header_of s) (standing c.bind.new.places) (lane_between s lane n c.args.end)) next
          ∙ ap (λ n. lines_ask (rules_told s) (header_of s) n (lane_between s lane (i + 1) c.args.end)) c.bind.ensures.set
          ∙ sym (line_skipped s lane c.args.end i (option_map (λ p. p.now) c.args.policy) c.args.header.now (standing c.lines.places) c.line_at-self.result c.requires.policy c.requires.header
          c.lines-test.true c.requires.within.1 there mine over)
          ∙ c.lines.invariant.left;
      keeps = λ m h. c.bind.ensures.keeps m (c.lines.invariant.keeps m h);
    }
