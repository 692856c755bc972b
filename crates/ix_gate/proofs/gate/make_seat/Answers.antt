use Rattle.std.proofs.Common.{rules, ap, sym, subst, arith}
use Rattle.atomic_table.specs.Table.{Splits}
use Rattle.ix_gate.{specs.{View.{numbered_view, next_view}, Rule.Obeys, Gate.GateState}, proofs.Numbering.{number_allowed, hand_on_allowed}}
use Rattle.ix_gate.proofs.gate.make_seat.Goals as goal

pub fetch_add-requires : goal.fetch_add-requires
fetch_add-requires g c = (
  search rules,
  search rules,
  number_allowed _ _ _ _ _ _ _ _ c.args.number (ap (λ m. m.0.role) c.requires.maker) (ap (λ m. m.0.stage) c.requires.maker) (let v = ap (λ (x : GateState). x.seats) c.gate.view_is in omega arith),
)

pub split_seat-next-requires : goal.split_seat-next-requires
split_seat-next-requires g c =
    let made = (c.fetch_add.ensures.2 c.args.number (ap (λ m. m.0.role) c.requires.maker)).1 in (
      search rules,
      search rules,
      subst
          (λ m. Splits (Obeys g.M.Machine.base g.M.Machine.history g.M.Machine.seat (g.M.Machine.base c.gate.inside.table.shared.key.machine.value)
          c.gate.inside.table.shared.key.seats) c.fetch_add.new.seat.id m.0 (numbered_view m.0) (next_view m.0))
          (sym made)
          (hand_on_allowed _ _ _ _ _ _ c.args.number _ _),
    )
