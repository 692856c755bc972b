use Rattle.std.proofs.{Common.{◌≡◌, ◌+◌, ◌++◌, [], List, None, is_some, true, length, refl, sym, ap, ◌∙◌}, lemmas.List.append-nil}
use Rattle.ix_model.specs.history.{Calls.op_of, History.world_of, Made.entry}
use Rattle.ix_script.specs.{lines.Before.{form_told, lanes_of}, declared.line.Line.Line}
use Rattle.ix_replay.specs.report.Report.{entry_text}
use Rattle.ix_host.{specs.run.Teller.told_of, proofs.piecewise.Stands.{line_comes, line_missed, none_is, on_ok, stands_end, told_next}}
use Rattle.ix_host.proofs.streams.teller.TellerWitness.see.Goals as goal

pub returns-then-is_some : goal.returns-then-is_some
returns-then-is_some g c = record {
  knows = λ first before is known.
      let old = c.args.self.now in
      let begun = first.waiting.now.items in
      let s = first.script.now in
      let e = entry c.args.seat c.args.line c.args.pid (op_of c.args.call.now) in
      let failed : is_some old.failure ≡ true = sym c.is_some.ensures ∙ c.if-is_some.true in
      let line = entry_text (form_told s) (lanes_of s) (length before.events + 1) (world_of before) e in
      let stands = line_missed (g.K.Sink.taken first.sink.now) (g.K.Sink.taken old.sink.now) (g.K.Sink.faults first.sink.now) (g.K.Sink.faults old.sink.now)
      (told_of s begun before) line (told_of s begun c.args.core.now) (told_next s begun before c.args.core.now e is.history) old.failure old.waiting.now.items failed known.2.stands in
      (known.0, known.1, record { stands = stands });
}

pub returns : goal.returns
returns g c = record {
  knows = λ first before is known.
      let old = c.args.self.now in
      let sink = c.told-self.new.sink in
      let begun = first.waiting.now.items in
      let s = first.script.now in
      let e = entry c.args.seat c.args.line c.args.pid (op_of c.args.call.now) in
      let none : old.failure ≡ None = none_is old.failure (sym c.is_some.ensures ∙ c.if-is_some.false) in
      let line = entry_text (form_told s) (lanes_of s) (length before.events + 1) (world_of before) e in
      let text = told_of s begun c.args.core.now in
      let comes = line_comes (g.K.Sink.taken first.sink.now) (g.K.Sink.taken old.sink.now) (g.K.Sink.faults first.sink.now) (g.K.Sink.faults old.sink.now)
      (told_of s begun before) line text (told_next s begun before c.args.core.now e is.history) old.waiting.now.items (rw none at known.2.stands) in
      let fits = on_ok c.push_entry-line.result (λ grown. append-nil c.push_entry-line.new.out.items ∙ grown
      ∙ ap (λ (ls : List Line). old.waiting.now.items ++ entry_text (form_told ls) (lanes_of ls) (length before.events + 1) (world_of before) e) known.1) (c.push_entry-line.ensures before is) in (
        known.0,
        known.1,
        record {
          stands = stands_end (g.K.Sink.taken first.sink.now) (g.K.Sink.taken sink) (g.K.Sink.faults first.sink.now) (g.K.Sink.faults sink) c.told-self.result
              c.told-self.new.waiting.items [] text refl
              (c.told-self.ensures.stands (g.K.Sink.taken first.sink.now) (old.waiting.now.items ++ line) [] text (g.K.Sink.faults first.sink.now) comes fits);
        },
      );
}
