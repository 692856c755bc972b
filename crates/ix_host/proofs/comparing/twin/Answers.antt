use Rattle.std.{proofs.Common.{◌≡◌, ◌+◌, ◌∙◌, ℕ, List, Option, Some, sym, ap, subst, arith}, specs.Option.option_map}
use Rattle.ix_script.specs.{lines.Faults.fault_of, scripts.Scripts.script_of, declared.line.Line.Line}
use Rattle.ix_twin.specs.{Lines.twin_text, Parts.second_part}
use Rattle.ix_host.specs.{Policies.policy_refusal, Seconds.{further_down, second_in, second_refusal}, run.{Outcome.unless_refused, Run.Ends}}
use Rattle.ix_host.proofs.comes_to.Seconds.{Within, accepted_second, fault_within, refused_second, script_short}
use Rattle.ix_host.proofs.comparing.twin.Goals as goal

pub overflow_add-lines : goal.overflow_add-lines
overflow_add-lines g c =
    let fault = rw c.in-Err-Fault.field-0-is at c.in-Err-Fault.ensures.fail in
    let within = subst (Within 0 16777217) fault (fault_within c.divide-parts.result.second.now) in
    omega (arith, c.requires.short, c.divide-parts.ensures.few, within.1)

pub returns-in-Ok : goal.returns-in-Ok
returns-in-Ok g c =
    let input : List ℕ = c.args.input.now in
    let read : script_of (second_part input) ≡ Some c.in-Ok.second = ap script_of (sym c.divide-parts.ensures.second) ∙ c.in-Ok.ensures.script in
    let both = accepted_second input c.in-Ok.second read in
    let refusal : option_map (further_down c.divide-parts.result.lines) (policy_refusal c.in-Ok.second) ≡ second_refusal input =
    ap (λ (n : ℕ). option_map (further_down n) (policy_refusal c.in-Ok.second)) c.divide-parts.ensures.lines ∙ sym both.0 in
    subst (λ (s : List Line). Ends (unless_refused (second_refusal input) (twin_text c.args.at.now c.args.one.0.now s)) c.compare_with.result (g.K.Sink.taken c.args.sink.now)
    (g.K.Sink.taken c.compare_with.new.sink) (g.K.Sink.finished c.compare_with.new.sink) (g.K.Sink.faults c.args.sink.now) (g.K.Sink.faults c.compare_with.new.sink)) (sym both.1)
    (subst (λ (o : Option (ℕ × ℕ)). Ends (unless_refused o (twin_text c.args.at.now c.args.one.0.now c.in-Ok.second)) c.compare_with.result (g.K.Sink.taken c.args.sink.now)
    (g.K.Sink.taken c.compare_with.new.sink) (g.K.Sink.finished c.compare_with.new.sink) (g.K.Sink.faults c.args.sink.now) (g.K.Sink.faults c.compare_with.new.sink)) refusal c.compare_with.ensures)

pub returns-in-Err-Fault : goal.returns-in-Err-Fault
returns-in-Err-Fault g c =
    let input : List ℕ = c.args.input.now in
    let line = c.in-Err-Fault.fault.line in
    let rule = c.in-Err-Fault.fault.rule in
    let fault = rw c.in-Err-Fault.field-0-is at c.in-Err-Fault.ensures.fail in
    let is : second_refusal input ≡ Some (c.divide-parts.result.lines + line, rule) =
    refused_second input line rule (ap fault_of (sym c.divide-parts.ensures.second) ∙ fault) ∙ ap (λ (n : ℕ). Some (n + line, rule)) (sym c.divide-parts.ensures.lines) in
    subst (λ (o : Option (ℕ × ℕ)). Ends (unless_refused o (twin_text c.args.at.now c.args.one.0.now (second_in input))) c.refuse.result (g.K.Sink.taken c.args.sink.now)
    (g.K.Sink.taken c.refuse.new.sink) (g.K.Sink.finished c.refuse.new.sink) (g.K.Sink.faults c.args.sink.now) (g.K.Sink.faults c.refuse.new.sink)) (sym is) c.refuse.ensures

pub compare_with-requires-clause-short : goal.compare_with-requires-clause-short
compare_with-requires-clause-short g c = script_short c.one_byte_more.ensures c.divide-parts.result.second.now c.in-Ok.second c.in-Ok.ensures.script
