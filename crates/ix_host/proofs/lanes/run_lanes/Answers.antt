use Rattle.std.{proofs.Common.{◌∙◌, subst, sym, ap}, specs.Prelude.IfSome}
use Rattle.ix_lanes.specs.histories.History.{IsHistory}
use Rattle.ix_parallel.proofs.together.Whole.{serial_history}
use Rattle.ix_host.specs.{command.Command.{IsCounted, lanes_command_of, lanes_usage_line}, run.Inputs.{input_max, reads_source}, run.Whole.TakesFew}
use Rattle.ix_host.specs.{run.Outcome.{outcome_of, text_of}, run.Run.{FitsCommand, ReadsOut, WritesFor}, run.Tasks.text_told}
use Rattle.ix_host.specs.declared.status.Status.TheVariants as status
use Rattle.ix_host.specs.declared.task.Task.TheVariants as task
use Rattle.ix_host.proofs.{comes_to.Preparing.run_is_no_end, words_in.Counts.lanes_counted}
use Rattle.ix_host.proofs.comes_to.OnlyRun.{lanes_input, lanes_long, lanes_max, lanes_read_out, lanes_run, lanes_written, none_reads}
use Rattle.ix_host.proofs.comes_to.Verdicts.{Verdict, answer_read, memory_written, told_read, told_read_out, verdict_ended, verdict_told}
use Rattle.ix_host.proofs.lanes.run_lanes.Goals as goal

pub prepare-requires : goal.prepare-requires
prepare-requires g c = subst (λ a. IfSome a IsCounted) (sym c.in-Ok.ensures) (lanes_counted c.args.words.now)

pub returns-in_default-clause-written : goal.returns-in_default-clause-written
returns-in_default-clause-written g c =
    memory_written IsHistory serial_history (λ bytes history. text_of (outcome_of lanes_usage_line (lanes_command_of c.args.words.now) bytes history))
    (g.S.Source.left c.args.source.now) (g.K.Sink.taken c.args.sink.now)

pub returns-in-Ended : goal.returns-in-Ended
returns-in-Ended g c =
    let e = c.in-Ended.ensures in
    let words = c.args.words.now in
    let left = g.S.Source.left c.args.source.now in
    let taken = g.K.Sink.taken c.args.sink.now in
    let v = subst (λ a. Verdict IsHistory lanes_usage_line a left c.in-Ended.status taken (g.K.Sink.taken c.prepare.new.sink)
    (g.K.Sink.finished c.prepare.new.sink) (g.K.Sink.faults c.args.sink.now) (g.K.Sink.faults c.prepare.new.sink)) c.in-Ok.ensures
    (verdict_ended IsHistory serial_history lanes_usage_line c.in-Ok.asked left c.in-Ended.status taken (g.K.Sink.taken c.prepare.new.sink)
    (g.K.Sink.finished c.prepare.new.sink) (g.K.Sink.faults c.args.sink.now) (g.K.Sink.faults c.prepare.new.sink)
    (λ is. (e.fault (ap task.Ended is)).1) (λ is. ap g.K.Sink.taken (e.fault (ap task.Ended is)).2) (λ other. e.prepared (λ is. other cc))) in
    record {
      bounded = subst (λ most. IfSome left (λ bytes. TakesFew most bytes (g.S.Source.left c.prepare.new.source))) (ap input_max c.in-Ok.ensures ∙ lanes_max words) e.bounded;
      read_out = lanes_read_out words c.in-Ended.status left (g.S.Source.left c.prepare.new.source) v.fits
          (λ reads. subst (λ a. IfSome left (λ bytes. ReadsOut (input_max a) c.in-Ended.status bytes (g.S.Source.left c.prepare.new.source))) c.in-Ok.ensures
          (e.read_out (ap reads_source c.in-Ok.ensures ∙ reads)));
      not_read = λ none. e.not_read (ap reads_source c.in-Ok.ensures ∙ none_reads (lanes_command_of words) none);
      written = lanes_written words left taken
          (λ bytes t history. WritesFor c.in-Ended.status (text_of (outcome_of lanes_usage_line (lanes_command_of words) bytes history)) t
          (g.K.Sink.taken c.prepare.new.sink))
          (rw (lanes_input words left) at v.written);
      line = v.line;
      finished = v.finished;
      noninterference = λ is. v.noninterference is (lanes_run words (subst (λ x. FitsCommand x (lanes_command_of words)) is v.fits));
      not_written = λ is. (e.fault (ap task.Ended is)).2;
      command = v.fits;
      answer = rw (lanes_input words left) at v.answer;
      quiet = λ a. (e.kept (answer_read c.in-Ended.status a), v.kept a);
      too_long = λ is. lanes_long words left (v.too_long is);
      read_fault = λ is. (e.fault (ap task.Ended is)).0;
      write_fault = v.write_fault;
      usage = v.usage_only;
      complete = λ read wrote. rw (lanes_input words left) at (v.complete (λ is. read (e.fault (ap task.Ended is)).0) wrote);
    }

pub returns : goal.returns
returns g c =
    let p = c.in-Run.ensures in
    let words = c.args.words.now in
    let left = g.S.Source.left c.args.source.now in
    let taken = g.K.Sink.taken c.args.sink.now in
    let history = c.tell_lanes.ensures.history in
    let text = text_told c.in-Run.telling c.in-Run.script history in
    let e = rw p.untouched at c.tell_lanes.ensures.holds in
    let v = subst (λ a. Verdict IsHistory lanes_usage_line a left c.tell_lanes.result taken (g.K.Sink.taken c.tell_lanes.new.sink)
    (g.K.Sink.finished c.tell_lanes.new.sink) (g.K.Sink.faults c.args.sink.now) (g.K.Sink.faults c.tell_lanes.new.sink)) c.in-Ok.ensures
    (verdict_told {Comes = IsHistory} history
    (p.prepared (run_is_no_end (task.Run c.in-Run.telling c.in-Run.script c.in-Run.policy) status.ReadFault)) c.tell_lanes.ensures.is e) in
    record {
      bounded = subst (λ most. IfSome left (λ bytes. TakesFew most bytes (g.S.Source.left c.prepare.new.source))) (ap input_max c.in-Ok.ensures ∙ lanes_max words) p.bounded;
      read_out = lanes_read_out words c.tell_lanes.result left (g.S.Source.left c.prepare.new.source) v.fits
          (λ reads. told_read_out (input_max (lanes_command_of words)) text c.tell_lanes.result left (g.S.Source.left c.prepare.new.source) e.fits
          (p.read_out (ap reads_source c.in-Ok.ensures ∙ reads)));
      not_read = λ none. p.not_read (ap reads_source c.in-Ok.ensures ∙ none_reads (lanes_command_of words) none);
      written = lanes_written words left taken
          (λ bytes t history. WritesFor c.tell_lanes.result (text_of (outcome_of lanes_usage_line (lanes_command_of words) bytes history)) t
          (g.K.Sink.taken c.tell_lanes.new.sink))
          (rw (lanes_input words left) at v.written);
      line = v.line;
      finished = v.finished;
      noninterference = λ is. v.noninterference is (lanes_run words (subst (λ x. FitsCommand x (lanes_command_of words)) is v.fits));
      not_written = λ is. absurd (told_read text c.tell_lanes.result e.fits is);
      command = v.fits;
      answer = rw (lanes_input words left) at v.answer;
      quiet = λ a. (p.kept (run_is_no_end (task.Run c.in-Run.telling c.in-Run.script c.in-Run.policy) status.ReadFault), v.kept a);
      too_long = λ is. lanes_long words left (v.too_long is);
      read_fault = λ is. absurd (told_read text c.tell_lanes.result e.fits is);
      write_fault = v.write_fault;
      usage = v.usage_only;
      complete = λ read wrote. rw (lanes_input words left) at (v.complete (told_read text c.tell_lanes.result e.fits) wrote);
    }
