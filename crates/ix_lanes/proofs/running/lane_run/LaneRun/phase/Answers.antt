use Rattle.std.proofs.Common.{◌≡◌, ℕ, ◌+◌, ◌<◌, suc, true, not, is_some, Bool, List, length, refl, sym, ap, ◌∙◌, subst, arith, add-one}
use Rattle.ix_model.specs.{history.Made.Made, declared.reply.Answer.Answer}
use Rattle.ix_script.specs.{declared.line.Line.Line, scripts.Schedule.phases}
use Rattle.ix_asking.specs.{Asking.{Asking, Next, came_as, first, next}, Runs.{answers_of, StopsAt}}
use Rattle.ix_lanes.specs.{asking.Asked.Names, running.Left.{LanePlace, asks_left, is_done, names_done}, running.Phases.lines_before, running.Stretches.HasNone}
use Rattle.ix_lanes.specs.running.Runs.{CutOff, Ran, StandsFor}
use Rattle.ix_lanes.proofs.{phased.Lefts.{came_done, stops_due}, phased.PhaseLines.{before-few, before-grows, phases-few}}
use Rattle.ix_lanes.proofs.{phased.PhaseRuns.{cut_next, goes_on, ran, stands_next}, phased.TakingPart.{none_idle, none_next, stands_over}}
use Rattle.ix_lanes.proofs.running.lane_run.LaneRun.phase.Goals as goal

-- the phase is done, whatever its numbers are spelled as
later : (s : List Line) (names : Names) {lane seat k phase : ℕ} {b d : Bool} {made all : List Made} → seat ≡ lane → phase ≡ k → d ≡ b → all ≡ made
    → StandsFor (ran s lane (suc k) b names) made → StandsFor (ran s seat (phase + 1) d names) all
later s names {phase = phase} stays at is whole = subst (λ (p : Ran × List Made). StandsFor p.0 p.1)
    (λ x. (ran s (sym stays x) ((ap suc (sym at) ∙ sym (add-one phase)) x) (sym is x) names, sym whole x))

pub ask_to-requires-clause-within : goal.ask_to-requires-clause-within
ask_to-requires-clause-within g c =
    let s : List Line = c.self.inside.script.now in
    let view = sym c.self.view_is in
    let k : ℕ = c.self.inside.done in
    let done : is_done (asks_left c.self.inside.calls) ≡ true = ap (λ (r : Ran). r.between) c.self.view_is ∙ c.requires.stands.between in
    let phase : c.args.phase ≡ k = c.requires.next ∙ sym (ap (λ (r : Ran). r.done) c.self.view_is) in
    let from : c.self.inside.calls.end ≡ length (lines_before k s) = c.self.invariant.end done in
    let to : c.args.end ≡ length (lines_before (suc k) s) = c.requires.end ∙ (λ x. length (lines_before (suc (phase x)) (view x).script)) in
    let long : length c.self.inside.calls.script ≡ length s = ap length c.self.invariant.script in
    (omega (arith, from, to, before-grows s k), omega (arith, to, long, before-few s (suc k)))

pub overflow_add-self : goal.overflow_add-self
overflow_add-self g c =
    let s : List Line = c.self.inside.script.now in
    let within : c.args.phase < phases s = rw (ap (λ (r : Ran). r.script) c.self.view_is) c.requires.phase in
    omega (arith, within, phases-few s, c.len-count.ensures.len)

pub overflow_add-self-in-Ok : goal.overflow_add-self-in-Ok
overflow_add-self-in-Ok g c =
    let s : List Line = c.self.inside.script.now in
    let within : c.args.phase < phases s = rw (ap (λ (r : Ran). r.script) c.self.view_is) c.requires.phase in
    omega (arith, within, phases-few s, c.len-count.ensures.len)

pub returns-in-Ok-clause-done : goal.returns-in-Ok-clause-done
returns-in-Ok-clause-done g c =
    let here = goes_on _ _ _ _ _ _ _ _ _ _ _ _ _ c.self.view_is c.requires.stands c.requires.next c.requires.seat c.self.invariant.end c.requires.end c.self.invariant.script c.ask_to.ensures.asks in
    let one = c.in-Ok.ensures in
    let end = came_done (asks_left c.run.new.asks) (ap (λ q. came_as (λ n. tt) (first q)) one.2 ∙ one.5.0) in
    let came = ap (λ p. next p (answers_of one.0)) (sym here.asked) ∙ sym (ap first one.2) ∙ end.0 in (
      add-one c.args.phase ∙ ap suc c.requires.next,
      later _ _ (ap (λ (p : LanePlace). p.seat) (one.4 ∙ c.ask_to.ensures.place)) here.at end.1 one.1.made
          (stands_next _ _ _ _ _ _ here.stands (here.made _ one.1.asked) _ came),
    )

pub returns-in-Err-clause-cut : goal.returns-in-Err-clause-cut
returns-in-Err-clause-cut g c =
    let i = c.self.inside in
    let here = goes_on _ _ _ _ _ _ _ _ _ _ _ _ _ c.self.view_is c.requires.stands c.requires.next c.requires.seat c.self.invariant.end c.requires.end c.self.invariant.script c.ask_to.ensures.asks in
    let one = c.in-Err.ensures in
    let due = stops_due (asks_left c.run.new.asks) c.in-Err.stop (subst (λ (q : Asking Names). StopsAt (came_as (λ n. tt) (first q)) c.in-Err.stop) (sym one.2) one.5.0) in
    let stopped = subst (λ (n : Next Names). StopsAt n c.in-Err.stop) (ap first one.2 ∙ ap (λ p. next p (answers_of one.0)) here.asked) due.0 in
    subst (λ (p : Ran × List Made × Answer). CutOff p.0 p.1 p.2)
    (λ x. (
      ((λ y. ran i.script.now i.calls.seat i.done (sym here.is y) (names_done (asks_left i.calls))) ∙ c.self.view_is) x,
      sym one.1.made x,
      sym c.answer.ensures x,
    ))
    (cut_next _ _ _ _ _ _ here.stands (here.made _ one.1.asked) c.in-Err.stop stopped)

pub returns-then-is_none-clause-done : goal.returns-then-is_none-clause-done
returns-then-is_none-clause-done g c =
    let here = goes_on _ _ _ _ _ _ _ _ _ _ _ _ _ c.self.view_is c.requires.stands c.requires.next c.requires.seat c.self.invariant.end c.requires.end c.self.invariant.script c.ask_to.ensures.asks in
    let over = none_next _ (asks_left c.ask_to.new.self) (ap is_some (sym c.next_phase.ensures) ∙ c.is_none.ensures ∙ ap not c.if-is_none.true) in (
      add-one c.args.phase ∙ ap suc c.requires.next,
      later _ _ (ap (λ (p : LanePlace). p.seat) c.ask_to.ensures.place) here.at refl refl (stands_over _ _ _ _ _ _ here.stands here.asked over),
    )

pub returns-in-Ok-clause-idle : goal.returns-in-Ok-clause-idle
returns-in-Ok-clause-idle g c = λ none.
    let here = goes_on _ _ _ _ _ _ _ _ _ _ _ _ _ c.self.view_is c.requires.stands c.requires.next c.requires.seat c.self.invariant.end c.requires.end c.self.invariant.script c.ask_to.ensures.asks in
    absurd (none_idle _ _ _ _ _ _ here.asked (subst (λ (r : Ran). HasNone r.script r.lane r.done) (sym c.self.view_is) none)
    (ap is_some (sym c.next_phase.ensures) ∙ c.is_none.ensures ∙ ap not c.if-is_none.false))

pub returns-in-Err-clause-idle : goal.returns-in-Err-clause-idle
returns-in-Err-clause-idle g c = λ none.
    let here = goes_on _ _ _ _ _ _ _ _ _ _ _ _ _ c.self.view_is c.requires.stands c.requires.next c.requires.seat c.self.invariant.end c.requires.end c.self.invariant.script c.ask_to.ensures.asks in
    absurd (none_idle _ _ _ _ _ _ here.asked (subst (λ (r : Ran). HasNone r.script r.lane r.done) (sym c.self.view_is) none)
    (ap is_some (sym c.next_phase.ensures) ∙ c.is_none.ensures ∙ ap not c.if-is_none.false))
