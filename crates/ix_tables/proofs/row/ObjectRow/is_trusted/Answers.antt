use Rattle.std.proofs.Common.{◌≡◌, ◌&&◌, not, ap, sym, ◌∙◌}
use Rattle.ix_model.specs.world.Privs.{is_empty}
use Rattle.ix_tables.proofs.row.ObjectRow.is_trusted.Goals as goal
use Rattle.ix_tables.proofs.row.ObjectRow.is_trusted.Goals.{then-is_empty, else-is_empty}

pub returns-after-is_empty : goal.returns-after-is_empty
returns-after-is_empty c =
    let x = c.args.self.now in
    let both : c.if-is_empty.result ≡ (is_empty x.cap && is_empty x.lic) = elim c.if-is_empty.branch [
      | then-is_empty w ↦ w.result-is ∙ w.is_empty-then-is_empty.ensures tt ∙ ap (λ b. b && is_empty x.lic) (sym w.if-is_empty.true ∙ c.is_empty.ensures tt)
      | else-is_empty w ↦ w.result-is ∙ w.if-is_empty.false ∙ ap (λ b. b && is_empty x.lic) (sym w.if-is_empty.false ∙ c.is_empty.ensures tt)
    ] in
    ap not both ∙ ap (λ b. b && not (is_empty x.cap && is_empty x.lic)) (sym c.if-is_file.true ∙ c.is_file.ensures)
