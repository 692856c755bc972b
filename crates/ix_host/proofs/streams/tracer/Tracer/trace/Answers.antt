use Rattle.std.proofs.Common.{◌≡◌, [], ℕ, ◌++◌, List, refl, sym, ap, ◌∙◌, subst}
use Rattle.ix_flow.{specs.{Lines.{end_line, flow_text}, Tracking.{counts_of, lines_after, lines_so_far}}, proofs.FlowTexts.lines_and_end}
use Rattle.ix_host.{specs.{Traces.traces, run.{Outlet.StandsAt, Run.Ends}}, proofs.piecewise.Stands.{ends_out, front_none, stands_first}}
use Rattle.ix_host.specs.run.Outcome as outcome
use Rattle.ix_host.proofs.streams.tracer.Tracer.trace.Goals as goal

pub returns-in-Ok : goal.returns-in-Ok
unfolding lines_after
returns-in-Ok g c =
    let old = c.args.self.now in
    let new = c.close.new.self in
    let first = g.K.Sink.taken old.sink.now in
    let n = g.K.Sink.faults old.sink.now in
    let begun : StandsAt old.failure first first old.waiting.now.items [] n n =
    rw (c.requires.begun.0, c.requires.begun.1) (stands_first first [] n) in
    let bare : lines_so_far c.args.core.now ≡ [] = ap lines_so_far c.requires.core in
    let known = c.in-Ok.ensures.seen old (refl, record { follows = λ _. c.requires.tracks; stands = rw bare begun }) in
    let h = c.run_on.new.core in
    let all : lines_so_far h ++ end_line (counts_of h) ≡ traces c.args.script.now = sym (lines_and_end h) ∙ ap flow_text c.in-Ok.ensures.serial in
    record {
      same = c.close.ensures.same ∙ known.0;
      ends = subst (λ (t : List ℕ). Ends (outcome.Whole t) c.close.result first (g.K.Sink.taken new.sink.now) (g.K.Sink.finished new.sink.now) n (g.K.Sink.faults new.sink.now)) all
          (c.close.ensures.ends first (lines_so_far h) n h known.1.follows known.1.stands);
    }

pub returns-in-Err : goal.returns-in-Err
returns-in-Err g c =
    let old = c.args.self.now in
    let first = g.K.Sink.taken old.sink.now in
    let text = traces c.args.script.now in
    rw c.in-Err.ensures.unseen
    (record { same = refl; ends = ends_out first first text (g.K.Sink.finished old.sink.now) (g.K.Sink.faults old.sink.now) (g.K.Sink.faults old.sink.now) (front_none first text) })
