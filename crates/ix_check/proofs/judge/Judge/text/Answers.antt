use Rattle.std.proofs.Common.{◌≡◌, refl, sym, ap, ◌∙◌, subst}
use Rattle.ix_judging.specs.Walk.{Begins, ended, walked}
use Rattle.ix_check.{specs.{Judging.{Stands, verdict_of}, Plans.{begun, judged_plan}}, proofs.WholeText.{at_end, at_first, empty_is, line_more, named_of}}
use Rattle.ix_check.proofs.judge.Judge.text.Goals as goal

pub lines-init : goal.lines-init
lines-init g c = record {
  script = refl;
  named = named_of _ _ _ _ _ c.requires;
  walk = Begins;
  stands = c.requires;
  found = at_first _ _;
}

pub end-requires : goal.end-requires
end-requires g c =
    let is = c.lines.invariant in
    (is.walk, subst (λ t. Stands g.L.LaneSteps.at t c.lines.self.core c.lines.self.lanes.items c.lines.self.stage is.walk) (sym is.script) is.stands)

pub returns-in_default : goal.returns-in_default
returns-in_default g c =
    let is = c.lines.invariant in
    let s = c.args.self.now.printer.script.now in
    let found =
    subst (λ t. verdict_of c.end.result ≡ ended (judged_plan t) is.walk c.is_empty.result) is.script
    (c.end.ensures is.walk (subst (λ t. Stands g.L.LaneSteps.at t c.lines.self.core c.lines.self.lanes.items c.lines.self.stage is.walk) (sym is.script)
    is.stands)) in
    at_end s _ _ _ _ is.named (c.in_default.ensures.none refl) is.found
    (found ∙ ap (ended (judged_plan s) is.walk) (c.is_empty.ensures ∙ empty_is _))

pub line-requires : goal.line-requires
line-requires g c =
    let is = c.lines.invariant in
    (is.walk, subst (λ t. Stands g.L.LaneSteps.at t c.lines.self.core c.lines.self.lanes.items c.lines.self.stage is.walk) (sym is.script) is.stands)

pub lines-smaller : goal.lines-smaller
lines-smaller g c = c.in-Some.ensures.fewer

pub lines-preserved : goal.lines-preserved
lines-preserved g c =
    let is = c.lines.invariant in
    let s = c.args.self.now.printer.script.now in
    let line = c.in-Some.line.now in
    let more = c.in-Some.more.now in
    let new = c.line.new.self in
    let stands = subst (λ t. Stands g.L.LaneSteps.at t c.lines.self.core c.lines.self.lanes.items c.lines.self.stage is.walk) (sym is.script) is.stands in
    record {
      script = c.in_ok-line.ensures.script ∙ is.script;
      named = is.named;
      walk = walked (judged_plan s) (begun s) is.walk line;
      stands = subst (λ t. Stands g.L.LaneSteps.at t new.core new.lanes.items new.stage (walked (judged_plan t) (begun t) is.walk line)) is.script (c.in_ok-line.ensures.walks is.walk stands);
      found = sym (line_more s _ line more _ c.in-Some.ensures.line c.in-Some.ensures.parts) ∙ is.found;
    }
