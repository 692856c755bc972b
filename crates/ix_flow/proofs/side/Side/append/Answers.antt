use Rattle.std.proofs.Common.{◌≡◌, ◌≤◌, ◌<◌, ◌∙◌, ℕ, ap, max, subst}
use Rattle.ix_flow.{specs.Sides.source_in, proofs.Likeness.{appended_like, none_appended, appended_sources}}
use Rattle.ix_flow.specs.declared.source.Source.TheVariants as source
use Rattle.ix_flow.proofs.side.Side.append.Goals as goal

pub returns-then-count-eq0-clause-like : goal.returns-then-count-eq0-clause-like
returns-then-count-eq0-clause-like c = λ origins like. none_appended _ _ _ _ c.if-count-eq0.true like

pub returns-clause-like : goal.returns-clause-like
returns-clause-like c = λ origins like.
    let sum = c.in-Some.ensures.1 in
    appended_like _ _ _ _ c.args.label _ c.lay.ensures.front
    c.in_ok-lay.ensures.before
    (subst (λ m. (n : ℕ) → c.args.self.now.end ≤ n → n < m → source_in c.lay.new.self.runs.entries n ≡ source.Write c.args.place c.args.self.now.end c.args.label) sum c.in_ok-lay.ensures.there)
    (c.in_ok-lay.ensures.end ∙ ap (max _) sum) like

pub returns-clause-sources : goal.returns-clause-sources
returns-clause-sources c = appended_sources _ _ _
    _ c.lay.ensures.front c.in_ok-lay.ensures.before c.in_ok-lay.ensures.there c.in_ok-lay.ensures.end
