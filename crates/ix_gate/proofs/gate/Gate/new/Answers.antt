use Rattle.std.proofs.Common.{rules, ◌≡◌, ◌+◌, [], ◌∷◌, Some, ap, sym, ◌∙◌, subst}
use Rattle.atomic_table.specs.Table.{opening}
use Rattle.ix_gate.specs.{declared.view.Role.TheVariants.Next, View.{fresh, first_view}, Rule.Obeys, Seat.new_seat}
use Rattle.ix_gate.proofs.{Numbering.opening_obeys, Filled.filled}
use Rattle.ix_gate.proofs.gate.Gate.new.Goals as goal

pub new-requires : goal.new-requires
new-requires g c =
    let b = g.M.Machine.base c.of.result.value in
    let home : c.push_reserved.new.self.items ≡ Some c.args.machine ∷ [] = search rules in
    subst (λ l. Obeys g.M.Machine.base g.M.Machine.history g.M.Machine.seat b c.args.seats (opening (0 ∷ 0 ∷ 0 ∷ []) l (first_view c.args.seats b))) (sym home)
    (opening_obeys _ _ _ _ _ _ c.requires.empty (ap g.M.Machine.base (sym c.of.ensures)) c.requires.seats.1)

pub loop-number-preserved : goal.loop-number-preserved
loop-number-preserved g c = (
  search rules,
  c.make_seat.ensures.maker ∙ ap (λ m. (fresh m.0.seats m.0.base (Next (c.loop-number.number + 1)), [])) c.loop-number.invariant.1,
  search rules,
  search rules,
  filled _ _ (new_seat c.in-Ok.table.shared.table_id c.args.seats (Some (g.M.Machine.base c.args.machine))) _ _ c.push_reserved-in-loop-number.ensures.items
      (search rules) c.loop-number.invariant.4
      (c.make_seat.ensures.seat ∙ ap (λ m. new_seat c.in-Ok.table.shared.table_id m.0.seats m.0.base c.loop-number.number) c.loop-number.invariant.1),
)

pub make_seat-requires-clause-base : goal.make_seat-requires-clause-base
make_seat-requires-clause-base g c κs within = (g.M.Machine.base c.args.machine, ap (λ m. m.0.base) c.loop-number.invariant.1)
