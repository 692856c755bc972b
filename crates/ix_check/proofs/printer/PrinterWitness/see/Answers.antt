use Rattle.std.proofs.Common.{sym, ◌∙◌}
use Rattle.ix_check.proofs.LastLine.{of_ok, printed_last}
use Rattle.ix_check.proofs.printer.PrinterWitness.see.Goals as goal

pub returns-else-is_err : goal.returns-else-is_err
returns-else-is_err c = record {
  knows = λ first before is known. (
    known.0,
    known.1,
    λ going. printed_last c.args.self.now.script.now _ _ _ _ _ _ is.history
        c.clear.ensures.items (of_ok _ _ (sym c.is_err.ensures.value ∙ c.if-is_err.false) (c.push_entry-printed.ensures before is)),
  );
}
