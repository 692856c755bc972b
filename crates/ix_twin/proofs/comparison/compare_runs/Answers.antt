use Rattle.std.{proofs.Common.{◌≡◌, ℕ, List, sym, ◌∙◌, subst}, specs.Prelude.IfOk}
use Rattle.ix_twin.proofs.Comparing.{text_unlike}
use Rattle.ix_twin.proofs.comparison.compare_runs.Goals as goal

pub returns-then-not-begin_alike : goal.returns-then-not-begin_alike
returns-then-not-begin_alike c =
    subst (λ (x : List ℕ). IfOk c.framed.result (λ text. text.items ≡ x)) (text_unlike c.args.twin.now.at c.args.one.now c.args.two.now
    (sym c.begin_alike.ensures ∙ c.if-not-begin_alike.true)) c.framed.ensures
