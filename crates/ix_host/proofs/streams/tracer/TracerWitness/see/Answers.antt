use Rattle.std.proofs.{Common.{◌≡◌, ◌++◌, [], None, is_some, true, refl, sym, ap, ◌∙◌}, lemmas.List.append-nil}
use Rattle.ix_model.specs.history.{Calls.op_of, Made.entry}
use Rattle.ix_lanes.proofs.found.Oks.{from_ok}
use Rattle.ix_flow.{specs.{Following.IsStep, Lines.lines_of_entry, Tracking.lines_so_far}, proofs.FlowTexts.lines_more}
use Rattle.ix_host.proofs.piecewise.Stands.{line_comes, line_missed, no_failure, none_is, on_ok, stands_end}
use Rattle.ix_host.proofs.streams.tracer.TracerWitness.see.Goals as goal

pub returns-then-is_some : goal.returns-then-is_some
returns-then-is_some g c = record {
  knows = λ first before is known.
      let old = c.args.self.now in
      let e = entry c.args._seat c.args._line c.args.pid (op_of c.args.call.now) in
      let failed : is_some old.failure ≡ true = sym c.is_some.ensures ∙ c.if-is_some.true in
      let next : lines_so_far before ++ lines_of_entry before e ≡ lines_so_far c.args.core.now = sym (lines_more before e) ∙ ap lines_so_far (sym is.history) in
      let stands = line_missed (g.K.Sink.taken first.sink.now) (g.K.Sink.taken old.sink.now) (g.K.Sink.faults first.sink.now) (g.K.Sink.faults old.sink.now)
      (lines_so_far before) (lines_of_entry before e) (lines_so_far c.args.core.now) next old.failure old.waiting.now.items failed known.1.stands in
      (known.0, record { follows = λ none. absurd (no_failure old.failure failed none); stands = stands });
}

pub returns : goal.returns
returns g c = record {
  knows = λ first before is known.
      let old = c.args.self.now in
      let sink = c.told-self.new.sink in
      let e = entry c.args._seat c.args._line c.args.pid (op_of c.args.call.now) in
      let none : old.failure ≡ None = none_is old.failure (sym c.is_some.ensures ∙ c.if-is_some.false) in
      let line = lines_of_entry before e in
      let text = lines_so_far c.args.core.now in
      let next : lines_so_far before ++ line ≡ text = sym (lines_more before e) ∙ ap lines_so_far (sym is.history) in
      let step : IsStep before c.args.core.now c.args.reply.now e = record { history = is.history; reply = is.reply } in
      let comes = line_comes (g.K.Sink.taken first.sink.now) (g.K.Sink.taken old.sink.now) (g.K.Sink.faults first.sink.now) (g.K.Sink.faults old.sink.now)
      (lines_so_far before) line text next old.waiting.now.items (rw none at known.1.stands) in
      let fits = on_ok c.follow-line.result (λ f. append-nil c.follow-line.new.out.items ∙ (f c.args._seat c.args._line before step (known.1.follows none)).1) c.follow-line.ensures.follows in (
        known.0,
        record {
          follows = λ still. (from_ok c.follow-line.result (c.told-self.ensures.ok still) c.follow-line.ensures.follows c.args._seat c.args._line before step (known.1.follows none)).0;
          stands = stands_end (g.K.Sink.taken first.sink.now) (g.K.Sink.taken sink) (g.K.Sink.faults first.sink.now) (g.K.Sink.faults sink) c.told-self.result
              c.told-self.new.waiting.items [] text refl
              (c.told-self.ensures.stands (g.K.Sink.taken first.sink.now) (old.waiting.now.items ++ line) [] text (g.K.Sink.faults first.sink.now) comes fits);
        },
      );
}
