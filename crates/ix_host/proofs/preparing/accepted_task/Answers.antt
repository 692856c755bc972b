use Rattle.std.proofs.Common.{refl, ap, sym, ◌∙◌}
use Rattle.ix_host.{specs.run.Outcome.{outcome_for, text_for}, proofs.comes_to.{Outcomes.{outcome_alone, outcome_twin}, Preparing.ends_as}}
use Rattle.ix_host.specs.declared.arguments.command.Command.TheVariants as command
use Rattle.ix_host.proofs.preparing.accepted_task.Goals as goal

pub returns-in-Run-clause-leads : goal.returns-in-Run-clause-leads
unfolding text_for
returns-in-Run-clause-leads g c = (
  refl,
  c.requires.runnable,
  c.requires.policy,
  λ history. sym (outcome_alone command.Run c.args.script c.args.beside.now history c.requires.accepted tt c.in-Run.is),
)

pub returns-in-Print-clause-leads : goal.returns-in-Print-clause-leads
unfolding text_for
returns-in-Print-clause-leads g c =
    λ history. ends_as (outcome_alone command.Print c.args.script c.args.beside.now history c.requires.accepted tt c.in-Print.is) c.print.ensures

pub returns-in-Gen-clause-leads : goal.returns-in-Gen-clause-leads
unfolding text_for
returns-in-Gen-clause-leads g c = (
  refl,
  c.requires.runnable,
  c.requires.policy,
  λ history. sym (outcome_alone (command.Gen c.in-Gen.count) c.args.script c.args.beside.now history c.requires.accepted tt c.in-Gen.is),
)

pub returns-in-Check-clause-leads : goal.returns-in-Check-clause-leads
unfolding text_for
returns-in-Check-clause-leads g c =
    λ history. ends_as (outcome_alone command.Check c.args.script c.args.beside.now history c.requires.accepted tt c.in-Check.is) c.check.ensures

pub returns-in-Flow-clause-leads : goal.returns-in-Flow-clause-leads
unfolding text_for
returns-in-Flow-clause-leads g c =
    λ history. ends_as (outcome_alone command.Flow c.args.script c.args.beside.now history c.requires.accepted tt c.in-Flow.is) c.flow.ensures

pub returns-in-Save-clause-leads : goal.returns-in-Save-clause-leads
unfolding text_for
returns-in-Save-clause-leads g c =
    λ history. ends_as (outcome_alone command.Save c.args.script c.args.beside.now history c.requires.accepted tt c.in-Save.is) c.save.ensures

pub returns-clause-leads : goal.returns-clause-leads
returns-clause-leads g c = λ history. ends_as (outcome_twin c.in-Twin.at c.args.script c.args.beside.now history c.requires.accepted
    ∙ ap (λ k. outcome_for k c.args.script c.args.beside.now history) (sym c.in-Twin.is)) c.twin.ensures
