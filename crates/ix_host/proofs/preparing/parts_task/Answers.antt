use Rattle.std.proofs.Common.{◌≡◌, ◌∙◌, ap, sym, Some}
use Rattle.ix_script.specs.{lines.Faults.fault_of, scripts.Scripts.script_of}
use Rattle.ix_host.specs.run.{Inputs.{beside_bytes, script_bytes, script_in}, Outcome.{outcome_for, outcome_in}}
use Rattle.ix_host.proofs.comes_to.{Outcomes.{short_for, in_script, outcome_fault, outcome_script}, Preparing.{ends_as, leads_as}}
use Rattle.ix_host.proofs.preparing.parts_task.Goals as goal

pub script_task-requires-clause-runnable : goal.script_task-requires-clause-runnable
script_task-requires-clause-runnable g c = record {
  named = c.texts_are_judged.ensures.names c.parts_for.result.0.now c.in-Ok.script c.in-Ok.ensures.script;
}

pub returns-in-Ok-clause-leads : goal.returns-in-Ok-clause-leads
returns-in-Ok-clause-leads g c =
    let bytes = c.args.bytes.now in
    let read : script_of (script_bytes c.args.command bytes) ≡ Some c.in-Ok.script = ap script_of (sym c.parts_for.ensures.script) ∙ c.in-Ok.ensures.script in
    let leads = rw c.parts_for.ensures.beside at c.script_task.ensures.leads in
    leads_as (λ history. outcome_for c.args.command c.in-Ok.script (beside_bytes c.args.command bytes) history) (λ history. outcome_in c.args.command bytes history)
    c.in-Ok.script (script_in (script_bytes c.args.command bytes)) c.script_task.result _ _ _ _ _
    (λ history. outcome_script c.args.command bytes c.in-Ok.script history c.requires.scripted c.requires.readable read) (in_script (script_bytes c.args.command bytes) c.in-Ok.script read) leads

pub returns-in-Err-Fault-clause-leads : goal.returns-in-Err-Fault-clause-leads
returns-in-Err-Fault-clause-leads g c = λ history.
    let fault = rw c.in-Err-Fault.field-0-is at c.in-Err-Fault.ensures.fail in
    ends_as (outcome_fault c.args.command c.args.bytes.now _ _ history c.requires.scripted c.requires.readable (ap fault_of (sym c.parts_for.ensures.script)
    ∙ fault)) (rw c.in-Err-Fault.field-0-is at c.refuse.ensures)

pub script_task-requires-clause-short : goal.script_task-requires-clause-short
script_task-requires-clause-short g c = rw c.parts_for.ensures.beside (short_for c.args.command c.args.bytes.now c.requires.readable)
