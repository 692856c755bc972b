use Rattle.std.{proofs.Common.{refl, sym, ap, ◌∙◌}, specs.Option.option_or}
use Rattle.ix_host.specs.{Seconds.second_refusal, run.Outcome.{outcome_for, script_refusal, text_for}}
use Rattle.ix_host.proofs.comes_to.{Outcomes.{outcome_accepted, outcome_refused}, Preparing.ends_as}
use Rattle.ix_host.specs.run.Outcome as outcome
use Rattle.ix_host.proofs.preparing.refused_task.Goals as goal

pub returns-in-Run-clause-leads : goal.returns-in-Run-clause-leads
unfolding script_refusal
returns-in-Run-clause-leads g c = λ beside history.
    ends_as (outcome_refused c.args.command c.args.script c.args.line 27 beside history (ap (λ k. script_refusal k c.args.script beside) c.in-Run.is ∙ c.requires.refusal)) c.refuse.ensures

pub returns-in-Print-clause-leads : goal.returns-in-Print-clause-leads
unfolding script_refusal
returns-in-Print-clause-leads g c = λ beside history.
    ends_as (outcome_refused c.args.command c.args.script c.args.line 27 beside history (ap (λ k. script_refusal k c.args.script beside) c.in-Print.is ∙ c.requires.refusal)) c.refuse-in-Print.ensures

pub returns-in-Gen-clause-leads : goal.returns-in-Gen-clause-leads
unfolding script_refusal text_for
returns-in-Gen-clause-leads g c = λ beside. (
  refl,
  c.requires.runnable,
  sym c.requires.policy,
  λ history.
      sym (outcome_accepted c.args.command c.args.script beside history (ap (λ k. script_refusal k c.args.script beside) c.in-Gen.is))
      ∙ ap (λ k. outcome.Whole (text_for k c.args.script beside history)) c.in-Gen.is,
)

pub returns-in-Check-clause-leads : goal.returns-in-Check-clause-leads
unfolding script_refusal
returns-in-Check-clause-leads g c = λ beside history.
    ends_as (outcome_refused c.args.command c.args.script c.args.line 27 beside history (ap (λ k. script_refusal k c.args.script beside) c.in-Check.is ∙ c.requires.refusal)) c.refuse-in-Check.ensures

pub returns-in-Flow-clause-leads : goal.returns-in-Flow-clause-leads
unfolding script_refusal
returns-in-Flow-clause-leads g c = λ beside history.
    ends_as (outcome_refused c.args.command c.args.script c.args.line 27 beside history (ap (λ k. script_refusal k c.args.script beside) c.in-Flow.is ∙ c.requires.refusal)) c.refuse-in-Flow.ensures

pub returns-in-Save-clause-leads : goal.returns-in-Save-clause-leads
unfolding script_refusal
returns-in-Save-clause-leads g c = λ beside history.
    ends_as (outcome_refused c.args.command c.args.script c.args.line 27 beside history (ap (λ k. script_refusal k c.args.script beside) c.in-Save.is ∙ c.requires.refusal)) c.refuse-in-Save.ensures

pub returns-clause-leads : goal.returns-clause-leads
unfolding script_refusal
returns-clause-leads g c = λ beside history.
    ends_as (outcome_refused c.args.command c.args.script c.args.line 27 beside history (ap (λ k. script_refusal k c.args.script beside) c.in-Twin.is
    ∙ ap (λ o. option_or o (second_refusal beside)) c.requires.refusal)) c.refuse-in-Twin.ensures
