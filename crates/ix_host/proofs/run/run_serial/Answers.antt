use Rattle.std.{proofs.Common.{◌≡◌, ◌∙◌, refl, subst, sym, ap}, specs.Prelude.IfSome}
use Rattle.ix_lanes.specs.histories.Serial.{serial}
use Rattle.ix_host.specs.{Noninterference.TakesNoninterferentReport, command.Command.{IsCounted, command_of, usage_line}, run.Outcome.{outcome_of, text_of}}
use Rattle.ix_host.specs.{run.Inputs.{input_max, input_of, reads_source, script_for, script_in}, run.Run.{ReadsOut, WritesFor}, run.Whole.TakesFew}
use Rattle.ix_host.specs.run.Tasks.{text_told}
use Rattle.ix_host.specs.declared.status.Status.TheVariants as status
use Rattle.ix_host.specs.declared.task.Task.TheVariants as task
use Rattle.ix_host.proofs.{comes_to.Preparing.run_is_no_end, comes_to.Checked.takes_verdict, comes_to.Both.takes_twins, comes_to.Followed.takes_traces}
use Rattle.ix_host.proofs.{comes_to.Saved.takes_image, comes_to.Listed.{fault_is, loaded_image, never_run, takes_list}, words_in.Counts.command_counted}
use Rattle.ix_host.proofs.comes_to.Verdicts.{Verdict, answer_read, at_serial, told_read, told_read_out, verdict_ended, verdict_told}
use Rattle.ix_host.proofs.run.run_serial.Goals as goal

pub prepare-requires : goal.prepare-requires
prepare-requires g c = subst (λ a. IfSome a IsCounted) (sym c.in-Ok.ensures) (command_counted c.args.words.now)

pub returns-in-Ended : goal.returns-in-Ended
returns-in-Ended g c =
    let e = c.in-Ended.ensures in
    let left = g.S.Source.left c.args.source.now in
    let taken = g.K.Sink.taken c.args.sink.now in
    let v = subst (λ a. Verdict (λ s history. history ≡ serial s) usage_line a left c.in-Ended.status taken (g.K.Sink.taken c.prepare.new.sink)
    (g.K.Sink.finished c.prepare.new.sink) (g.K.Sink.faults c.args.sink.now) (g.K.Sink.faults c.prepare.new.sink)) c.in-Ok.ensures
    (verdict_ended (λ s history. history ≡ serial s) (λ s. refl) usage_line c.in-Ok.asked left c.in-Ended.status taken (g.K.Sink.taken c.prepare.new.sink)
    (g.K.Sink.finished c.prepare.new.sink) (g.K.Sink.faults c.args.sink.now) (g.K.Sink.faults c.prepare.new.sink)
    (λ is. (e.fault (ap task.Ended is)).1) (λ is. ap g.K.Sink.taken (e.fault (ap task.Ended is)).2) (λ other. e.prepared (λ is. other cc))) in
    let went = at_serial (script_for (command_of c.args.words.now)) (input_of (command_of c.args.words.now) left) taken
    (λ bytes t history. WritesFor c.in-Ended.status (text_of (outcome_of usage_line (command_of c.args.words.now) bytes history)) t
    (g.K.Sink.taken c.prepare.new.sink)) v.written in
    record {
      bounded = subst (λ a. IfSome left (λ bytes. TakesFew (input_max a) bytes (g.S.Source.left c.prepare.new.source))) c.in-Ok.ensures e.bounded;
      read_out = λ reads. subst (λ a. IfSome left (λ bytes. ReadsOut (input_max a) c.in-Ended.status bytes (g.S.Source.left c.prepare.new.source)))
          c.in-Ok.ensures (e.read_out (ap reads_source c.in-Ok.ensures ∙ reads));
      not_read = λ reads. e.not_read (ap reads_source c.in-Ok.ensures ∙ reads);
      written = went;
      line = v.line;
      finished = v.finished;
      noninterference = λ is run. at_serial script_in left taken (λ bytes t history. TakesNoninterferentReport (script_in bytes) history t
          (g.K.Sink.taken c.prepare.new.sink)) (v.noninterference is run);
      judged = λ is asked. takes_verdict c.texts_are_judged.ensures.names c.texts_are_judged.ensures.judged (command_of c.args.words.now) left c.in-Ended.status
          taken (g.K.Sink.taken c.prepare.new.sink) is asked v.answer went;
      traced = λ is asked. takes_traces c.lines_are_accounted_for.ensures.law (command_of c.args.words.now) left c.in-Ended.status taken (g.K.Sink.taken c.prepare.new.sink) is asked v.answer went;
      saved = λ is asked. takes_image (command_of c.args.words.now) left c.in-Ended.status taken (g.K.Sink.taken c.prepare.new.sink) is asked v.answer went;
      loaded = λ is asked. takes_list c.written_is_read.ensures.read (command_of c.args.words.now) left c.in-Ended.status taken
          (g.K.Sink.taken c.prepare.new.sink) is asked (loaded_image left c.in-Ended.status is (e.image (c.in-Ok.ensures ∙ asked))) went;
      compared = λ l is asked. takes_twins c.twins_are_compared.ensures.compared c.twin_lines.ensures.lines l (command_of c.args.words.now) left
          c.in-Ended.status taken (g.K.Sink.taken c.prepare.new.sink) is asked v.answer went;
      not_written = λ is. (e.fault (ap task.Ended is)).2;
      command = v.fits;
      answer = v.answer;
      quiet = λ a. (e.kept (answer_read c.in-Ended.status a), v.kept a);
      too_long = v.too_long;
      image = λ at rule is. fault_is (command_of c.args.words.now) left c.in-Ended.status at rule is v.fits v.answer;
      read_fault = λ is. (e.fault (ap task.Ended is)).0;
      write_fault = v.write_fault;
      usage = v.usage_only;
      made = v.made;
      complete = λ read wrote. v.complete (λ is. read (e.fault (ap task.Ended is)).0) wrote;
    }

pub returns : goal.returns
returns g c =
    let p = c.in-Run.ensures in
    let left = g.S.Source.left c.args.source.now in
    let taken = g.K.Sink.taken c.args.sink.now in
    let text = text_told c.in-Run.telling c.in-Run.script (serial c.in-Run.script) in
    let e = rw p.untouched at c.tell_serial.ensures in
    let v = subst (λ a. Verdict (λ s history. history ≡ serial s) usage_line a left c.tell_serial.result taken (g.K.Sink.taken c.tell_serial.new.sink)
    (g.K.Sink.finished c.tell_serial.new.sink) (g.K.Sink.faults c.args.sink.now) (g.K.Sink.faults c.tell_serial.new.sink)) c.in-Ok.ensures
    (verdict_told {Comes = λ s history. history ≡ serial s} (serial c.in-Run.script)
    (p.prepared (run_is_no_end (task.Run c.in-Run.telling c.in-Run.script c.in-Run.policy) status.ReadFault)) refl e) in
    let went = at_serial (script_for (command_of c.args.words.now)) (input_of (command_of c.args.words.now) left) taken
    (λ bytes t history. WritesFor c.tell_serial.result (text_of (outcome_of usage_line (command_of c.args.words.now) bytes history)) t
    (g.K.Sink.taken c.tell_serial.new.sink)) v.written in
    record {
      bounded = subst (λ a. IfSome left (λ bytes. TakesFew (input_max a) bytes (g.S.Source.left c.prepare.new.source))) c.in-Ok.ensures p.bounded;
      read_out = λ reads. told_read_out (input_max (command_of c.args.words.now)) text c.tell_serial.result left (g.S.Source.left c.prepare.new.source) e.fits
          (p.read_out (ap reads_source c.in-Ok.ensures ∙ reads));
      not_read = λ reads. p.not_read (ap reads_source c.in-Ok.ensures ∙ reads);
      written = went;
      line = v.line;
      finished = v.finished;
      noninterference = λ is run. at_serial script_in left taken (λ bytes t history. TakesNoninterferentReport (script_in bytes) history t
          (g.K.Sink.taken c.tell_serial.new.sink)) (v.noninterference is run);
      judged = λ is asked. takes_verdict c.texts_are_judged.ensures.names c.texts_are_judged.ensures.judged (command_of c.args.words.now) left
          c.tell_serial.result taken (g.K.Sink.taken c.tell_serial.new.sink) is asked v.answer went;
      traced = λ is asked. takes_traces c.lines_are_accounted_for.ensures.law (command_of c.args.words.now) left c.tell_serial.result taken
          (g.K.Sink.taken c.tell_serial.new.sink) is asked v.answer went;
      saved = λ is asked. takes_image (command_of c.args.words.now) left c.tell_serial.result taken (g.K.Sink.taken c.tell_serial.new.sink) is asked v.answer went;
      loaded = λ is asked. takes_list c.written_is_read.ensures.read (command_of c.args.words.now) left c.tell_serial.result taken
          (g.K.Sink.taken c.tell_serial.new.sink) is asked (never_run left (p.image (c.in-Ok.ensures ∙ asked))) went;
      compared = λ l is asked. takes_twins c.twins_are_compared.ensures.compared c.twin_lines.ensures.lines l (command_of c.args.words.now) left
          c.tell_serial.result taken (g.K.Sink.taken c.tell_serial.new.sink) is asked v.answer went;
      not_written = λ is. absurd (told_read text c.tell_serial.result e.fits is);
      command = v.fits;
      answer = v.answer;
      quiet = λ a. (p.kept (run_is_no_end (task.Run c.in-Run.telling c.in-Run.script c.in-Run.policy) status.ReadFault), v.kept a);
      too_long = v.too_long;
      image = λ at rule is. fault_is (command_of c.args.words.now) left c.tell_serial.result at rule is v.fits v.answer;
      read_fault = λ is. absurd (told_read text c.tell_serial.result e.fits is);
      write_fault = v.write_fault;
      usage = v.usage_only;
      made = v.made;
      complete = λ read wrote. v.complete (told_read text c.tell_serial.result e.fits) wrote;
    }
