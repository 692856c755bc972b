use Rattle.std.proofs.Common.{sym, ◌∙◌}
use Rattle.ix_twin.{specs.Running.Aside, proofs.{Alongside.{few_shown, heard_shown, goes_on, turns_end}, turn.take_turn.Goals.{in-Agree, in_default}}}
use Rattle.ix_twin.proofs.turn.take_turn.Goals as goal

pub read_by-requires : goal.read_by-requires
read_by-requires c =
    let m = rw c.in-Agree.is at c.in_ok-turn.ensures in
    heard_shown _ m.one _ _ m.were.first_answer

pub hear-requires-clause-few : goal.hear-requires-clause-few
hear-requires-clause-few c =
    let m = rw c.in-Agree.is at c.in_ok-turn.ensures in
    rw c.read_by.ensures (few_shown _ _
    (heard_shown _ m.one _ _ m.were.first_answer))

pub read_by-requires-in-Agree : goal.read_by-requires-in-Agree
read_by-requires-in-Agree c =
    let m = rw c.in-Agree.is at c.in_ok-turn.ensures in
    heard_shown _ m.two _ _ m.were.second_answer

pub hear-requires-in-Agree-clause-few : goal.hear-requires-in-Agree-clause-few
hear-requires-in-Agree-clause-few c =
    let m = rw c.in-Agree.is at c.in_ok-turn.ensures in
    rw c.read_by-in-Agree.ensures (few_shown _ _
    (heard_shown _ m.two _ _ m.were.second_answer))

pub returns-clause-turns : goal.returns-clause-turns
returns-clause-turns c = elim c.match-turn.branch [
  | in-Agree w ↦
      let a : Aside = record { twins = c.args.twin.now; first = c.args.first.now.calls; second = c.args.second.now.calls } in
      let s = c.args.first.now.script.now in
      let t = c.args.second.now.script.now in
      let m = rw w.in-Agree.is at c.in_ok-turn.ensures in
      let first_on = w.hear.ensures.on _ _ m.one m.first_next
      (m.were.first_answer ∙ (λ i. record { reply = w.in-Agree.one; bytes = sym w.read_by.ensures i })) in
      let second_on = w.hear-in-Agree.ensures.on _ _ m.two m.second_next
      (m.were.second_answer ∙ (λ i. record { reply = w.in-Agree.two; bytes = sym w.read_by-in-Agree.ensures i })) in
      rw (w.in-Agree.is, w.first-is, w.second-is)
      (goes_on c.args.twin.now.at s t a c.requires.aside _ _ _ _ _ _
      _ _ _ _ m w.hear.ensures.script
      w.hear-in-Agree.ensures.script w.hear.ensures.fewer first_on second_on)
  | in_default w ↦
      turns_end _ _ _ (record { twins = c.args.twin.now; first = c.args.first.now.calls; second = c.args.second.now.calls }) _ _ _
      _ _ _ _ w.in_default.not-Agree c.in_ok-turn.ensures
]
