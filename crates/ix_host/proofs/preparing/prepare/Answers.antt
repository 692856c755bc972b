use Rattle.std.{proofs.Common.{◌≡◌, ◌∙◌, Some, true, refl, subst, sym, ap}, specs.Prelude.IfSome}
use Rattle.ix_host.specs.declared.streams.stream.Input.TheVariants as input
use Rattle.ix_host.specs.{run.Inputs.{input_max, input_of, reads_image, reads_source, script_bytes, script_in}, run.Whole.Gathers, run.Outcome.outcome_in}
use Rattle.ix_host.specs.{run.Tasks.IsLoaded, declared.arguments.command.Command.Command}
use Rattle.ix_host.specs.run.Outcome as outcome
use Rattle.ix_host.specs.declared.arguments.command.Command.TheVariants as command
use Rattle.ix_host.proofs.comes_to.Verdicts.{of_any, of_input}
use Rattle.ix_host.proofs.comes_to.Preparing.{ends_somewhere, leads_somewhere, long_not_loaded, long_prepared, long_read_out, memory_prepared, usage_prepared}
use Rattle.ix_host.proofs.comes_to.Preparing.{whole_prepared, whole_read_out}
use Rattle.ix_host.proofs.preparing.prepare.Goals as goal

pub returns-in_default-clause-fault : goal.returns-in_default-clause-fault
returns-in_default-clause-fault g c = λ is. absurd (ends_somewhere (c.tell.ensures (outcome.Usage c.args.usage.now) refl refl) is)

pub returns-in_default-clause-prepared : goal.returns-in_default-clause-prepared
returns-in_default-clause-prepared g c = λ _.
    usage_prepared c.args.usage.now c.args.asked (g.S.Source.left c.args.source.now) (g.K.Sink.taken c.args.sink.now) c.tell.result _ _ _ _ c.in_default.is
    (c.tell.ensures (outcome.Usage c.args.usage.now) refl refl)

pub returns-in-Whole-clause-read_out : goal.returns-in-Whole-clause-read_out
returns-in-Whole-clause-read_out g c = λ reads.
    whole_read_out (input_max c.args.asked) c.input_task.result (g.S.Source.left c.args.source.now) (g.S.Source.left c.input_for.new.source) c.in-Whole.bytes.items
    (subst (λ a. IfSome (g.S.Source.left c.args.source.now) (λ bytes. Gathers (input_max a) bytes (g.S.Source.left c.input_for.new.source)
    (input.Whole c.in-Whole.bytes))) (sym c.in-Some.is) (c.in-Whole.ensures.gathers (subst (λ a. reads_source a ≡ true) c.in-Some.is reads)))

pub returns-in-Whole-clause-fault : goal.returns-in-Whole-clause-fault
returns-in-Whole-clause-fault g c = λ is. let leads = rw c.as_slice.ensures.value at c.input_task.ensures.leads in
    absurd (leads_somewhere (λ history. outcome_in c.in-Some.command c.in-Whole.bytes.items history)
    (script_in (script_bytes c.in-Some.command c.in-Whole.bytes.items)) c.input_task.result _ _ _ _ _ leads is)

pub returns-in-Whole-clause-prepared : goal.returns-in-Whole-clause-prepared
returns-in-Whole-clause-prepared g c = λ _. let leads = rw c.as_slice.ensures.value at c.input_task.ensures.leads in
    whole_prepared c.args.usage.now c.args.asked (g.S.Source.left c.args.source.now) (g.K.Sink.taken c.args.sink.now) c.in-Some.command c.input_task.result _ _
    _ _ c.in-Whole.bytes.items c.in-Some.is c.in-Whole.ensures.told leads

pub returns-in-Whole-clause-image : goal.returns-in-Whole-clause-image
returns-in-Whole-clause-image g c = λ load.
    let left = g.S.Source.left c.args.source.now in
    let asks : Some c.in-Some.command ≡ Some command.Load = sym c.in-Some.is ∙ load in
    let is : c.in-Some.command ≡ command.Load = cc in
    let loaded = rw c.as_slice.ensures.value at (c.input_task.ensures.image (ap reads_image is)) in
    of_input left c.in-Whole.bytes.items (λ bytes. IsLoaded bytes c.input_task.result)
    (subst (λ (k : Command). IfSome (input_of (Some k) left) (λ input. c.in-Whole.bytes.items ≡ input)) is c.in-Whole.ensures.told) loaded

pub returns-in-TooLong-clause-read_out : goal.returns-in-TooLong-clause-read_out
returns-in-TooLong-clause-read_out g c = λ reads.
    long_read_out (input_max c.args.asked) (reads_image c.in-Some.command) c.refuse_long.result (g.S.Source.left c.args.source.now) (g.S.Source.left c.input_for.new.source) c.refuse_long.ensures.fits
    (subst (λ a. IfSome (g.S.Source.left c.args.source.now) (λ bytes. Gathers (input_max a) bytes (g.S.Source.left c.input_for.new.source) input.TooLong))
    (sym c.in-Some.is) (c.in-TooLong.ensures.gathers (subst (λ a. reads_source a ≡ true) c.in-Some.is reads)))

pub returns-in-TooLong-clause-fault : goal.returns-in-TooLong-clause-fault
returns-in-TooLong-clause-fault g c = λ is. absurd (ends_somewhere c.refuse_long.ensures is)

pub returns-in-TooLong-clause-prepared : goal.returns-in-TooLong-clause-prepared
returns-in-TooLong-clause-prepared g c = λ _.
    long_prepared c.args.usage.now c.args.asked (g.S.Source.left c.args.source.now) (g.K.Sink.taken c.args.sink.now) c.in-Some.command c.refuse_long.result _ _
    _ _ c.in-Some.is c.in-TooLong.ensures.readable c.in-TooLong.ensures.told
    c.refuse_long.ensures

pub returns-in-TooLong-clause-image : goal.returns-in-TooLong-clause-image
returns-in-TooLong-clause-image g c = λ _. of_any (g.S.Source.left c.args.source.now) _ (λ bytes. long_not_loaded c.in-Some.command c.refuse_long.result bytes c.refuse_long.ensures.fits)

pub returns-in-NoMemory-clause-prepared : goal.returns-in-NoMemory-clause-prepared
returns-in-NoMemory-clause-prepared g c = λ _. memory_prepared c.args.usage.now c.args.asked (g.S.Source.left c.args.source.now) (g.K.Sink.taken c.args.sink.now) _ _
