use Rattle.std.proofs.Common.{ℕ, ◌+◌, List, Some, sym, ap, ◌∙◌, subst, arith}
use Rattle.ix_asking.specs.Asking.{IsDue, first, heard}
use Rattle.ix_script.specs.declared.{line.Line.Line, schedule.Stretch.Stretch}
use Rattle.ix_lanes.specs.{asking.Places.standing, histories.{Indexed.line_in, Serial.header_of}}
use Rattle.ix_lanes.specs.running.{Left.{IsHeard, LaneLeft, asks_left}, Stretches.IsAmong}
use Rattle.ix_lanes.proofs.found.Roles.{line-there}
use Rattle.ix_lanes.proofs.phased.{Among.{among_mine, among_more}, Lefts.{asks_on, due_left, here_pending, line_left}, Placed.{keeps-lines, placed-line}}
use Rattle.ix_lanes.proofs.running.lane_calls.LaneCallsAsks.hear.Goals as goal

pub heard-requires-clause-due : goal.heard-requires-clause-due
heard-requires-clause-due c =
    let i = c.self.inside in
    let due = subst (λ (v : LaneLeft). IsDue (first (asks_left v))) (sym c.self.view_is) c.requires.call in
    let is = due_left i.script.now i.lane i.end i.here.at (standing i.places) (line_in i.script.now i.here.at) i.copying i.part due in
    (header_of i.script.now, standing i.places, i.here.at + 1, i.here.line, here_pending _ _ _ _ _ _ _ _ _ _ _ c.self.invariant.1 is)

pub invariant_of-self : goal.invariant_of-self
invariant_of-self c =
    let i = c.self.inside in
    let due = subst (λ (v : LaneLeft). IsDue (first (asks_left v))) (sym c.self.view_is) c.requires.call in
    let is = due_left i.script.now i.lane i.end i.here.at (standing i.places) (line_in i.script.now i.here.at) i.copying i.part due in
    let told = c.heard.ensures (header_of i.script.now) (standing i.places) (i.here.at + 1) i.here.line (here_pending _ _ _ _ _ _ _ _ _ _ _ c.self.invariant.1 is) in (
      c.self.invariant.0,
      (asks_on _ _ _ _ _ _ _ _ _ _ _ c.self.invariant.1 c.heard.new.copying c.heard.new.part (record { reply = c.args.reply.now; bytes = c.args.bytes.now }) is
          (subst (IsHeard (header_of i.script.now) (standing i.places) (i.here.at + 1) i.here.line i.copying i.part c.heard.new.copying c.heard.new.part
          (record { reply = c.args.reply.now; bytes = c.args.bytes.now })) c.in_default.is told)).1,
    )

pub returns-in_default-clause-asking : goal.returns-in_default-clause-asking
returns-in_default-clause-asking c =
    let i = c.self.inside in
    let due = subst (λ (v : LaneLeft). IsDue (first (asks_left v))) (sym c.self.view_is) c.requires.call in
    let is = due_left i.script.now i.lane i.end i.here.at (standing i.places) (line_in i.script.now i.here.at) i.copying i.part due in
    let told = c.heard.ensures (header_of i.script.now) (standing i.places) (i.here.at + 1) i.here.line (here_pending _ _ _ _ _ _ _ _ _ _ _ c.self.invariant.1 is) in
    let on = asks_on _ _ _ _ _ _ _ _ _ _ _ c.self.invariant.1 c.heard.new.copying c.heard.new.part (record { reply = c.args.reply.now; bytes = c.args.bytes.now }) is
    (subst (IsHeard (header_of i.script.now) (standing i.places) (i.here.at + 1) i.here.line i.copying i.part c.heard.new.copying c.heard.new.part
    (record { reply = c.args.reply.now; bytes = c.args.bytes.now })) c.in_default.is told) in
    line_left _ _ _ _ _ _ _ _ _ _ _ on.1 ∙ on.0
    ∙ ap (λ x. heard x (record { reply = c.args.reply.now; bytes = c.args.bytes.now })) (sym (line_left _ _ _ _ _ _ _ _ _ _ _ c.self.invariant.1))
    ∙ ap (λ (v : LaneLeft). heard (asks_left v) (record { reply = c.args.reply.now; bytes = c.args.bytes.now })) c.self.view_is

pub bind-requires : goal.bind-requires
bind-requires c =
    let i = c.self.inside in
    let s : List Line = i.script.now in
    let due = subst (λ (v : LaneLeft). IsDue (first (asks_left v))) (sym c.self.view_is) c.requires.call in
    let is = due_left s i.lane i.end i.here.at (standing i.places) (line_in s i.here.at) i.copying i.part due in
    let mine = c.self.invariant.1.mine is in
    let low = mine.0 in
    let within = c.self.invariant.1.within in
    let here = among_mine s i.lane i.here.at i.here.stretch i.here.come c.self.invariant.1.among mine.1 in
    placed-line s i.lane i.here.at i.here.line (line-there s i.here.at (omega (arith, low, within.1)) ∙ ap Some (sym (c.self.invariant.1.line is))) i.places
    here c.self.invariant.0.places

pub find-requires-clause-places : goal.find-requires-clause-places
find-requires-clause-places c = keeps-lines c.self.inside.places c.bind.new.places c.bind.ensures.keeps _ c.self.invariant.0.places

pub invariant_of-self-2 : goal.invariant_of-self-2
invariant_of-self-2 c = (
  record {
    header = c.self.invariant.0.header;
    places = keeps-lines c.bind.new.places c.find.new.places c.find.ensures.keeps _
        (keeps-lines c.self.inside.places c.bind.new.places c.bind.ensures.keeps _ c.self.invariant.0.places);
    ruled = c.self.invariant.0.ruled;
  },
  c.find.ensures.here,
)

pub pass-requires : goal.pass-requires
pass-requires c =
    let i = c.self.inside in
    let due = subst (λ (v : LaneLeft). IsDue (first (asks_left v))) (sym c.self.view_is) c.requires.call in
    let is = due_left i.script.now i.lane i.end i.here.at (standing i.places) (line_in i.script.now i.here.at) i.copying i.part due in
    record { within = (c.self.invariant.1.mine is).1 }

pub find-requires-clause-among : goal.find-requires-clause-among
find-requires-clause-among c =
    let i = c.self.inside in
    let s : List Line = i.script.now in
    let due = subst (λ (v : LaneLeft). IsDue (first (asks_left v))) (sym c.self.view_is) c.requires.call in
    let is = due_left s i.lane i.end i.here.at (standing i.places) (line_in s i.here.at) i.copying i.part due in
    let more = among_more s i.lane i.here.at i.here.stretch i.here.come c.self.invariant.1.among (c.self.invariant.1.mine is).1 c.pass.new.self.at c.pass.ensures.at in
    subst (λ (n : ℕ). IsAmong s i.lane c.pass.new.self.at c.pass.new.self.stretch n) (sym c.pass.ensures.same.1)
    (subst (λ (t : Stretch). IsAmong s i.lane c.pass.new.self.at t i.here.come) (sym c.pass.ensures.same.0) more)
