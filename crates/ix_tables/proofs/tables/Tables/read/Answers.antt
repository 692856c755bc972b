use Rattle.std.proofs.Common.{◌++◌, ◌∙◌, List, ℕ, length, min, take, drop, ap}
use Rattle.ix_tables.proofs.Holding.{is_file_there, bytes_there}
use Rattle.ix_tables.proofs.tables.Tables.read.Goals as goal

pub read-requires : goal.read-requires
read-requires c = is_file_there _ _ _ _ _ _ _ _ c.self.invariant c.self.view_is c.args.n c.requires

pub returns-clause-count : goal.returns-clause-count
returns-clause-count c = c.read.ensures.count ∙ ap (λ (bs : List ℕ). min (length c.args.out.now) (length (drop c.args.offset bs)))
    (bytes_there _ _ _ _ _ _ _ _ c.self.invariant c.self.view_is c.args.n c.requires)

pub returns-clause-out : goal.returns-clause-out
returns-clause-out c = c.read.ensures.out ∙ ap (λ (bs : List ℕ). take c.read.result (drop c.args.offset bs) ++ drop c.read.result c.args.out.now)
    (bytes_there _ _ _ _ _ _ _ _ c.self.invariant c.self.view_is c.args.n c.requires)
