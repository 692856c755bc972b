use Rattle.std.proofs.Common.{◌+◌, ℕ, Option, option_map, ap, ◌∙◌}
use Rattle.ix_tables.proofs.FreePipes.{vacant_is}
use Rattle.ix_tables.proofs.tables.Tables.vacant_pipe.Goals as goal

pub returns-in_err-vacant : goal.returns-in_err-vacant
returns-in_err-vacant c =
    record {
      vacant = c.from_residual.ensures ∙ ap (λ (r : Option ℕ). option_map (λ n. c.self.inside.first_pipe + n) r) c.in_err-vacant.ensures
          ∙ vacant_is _ _ _ _ _ _ _ _ c.self.invariant c.self.view_is;
    }

pub returns : goal.returns
returns c = record {
  vacant = ap (λ (r : Option ℕ). option_map (λ n. c.self.inside.first_pipe + n) r) c.in_ok-vacant.ensures
      ∙ vacant_is _ _ _ _ _ _ _ _ c.self.invariant c.self.view_is;
}
