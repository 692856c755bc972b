use Rattle.std.proofs.Common.{◌≡◌, ◌≤◌, ◌<◌, ◌∙◌, ℕ, ap, max, subst}
use Rattle.ix_flow.{specs.Sides.source_in, proofs.Likeness.{none_written, some, written_like, written_sources}}
use Rattle.ix_flow.specs.declared.source.Source.TheVariants as source
use Rattle.ix_flow.proofs.side.Side.write.Goals as goal

pub returns-then-count-eq0-clause-like : goal.returns-then-count-eq0-clause-like
returns-then-count-eq0-clause-like c = λ origins first like. none_written _ _ _ _ _ c.if-count-eq0.true like

pub returns-clause-like : goal.returns-clause-like
returns-clause-like c = λ origins first like.
    let sum = c.in-Some.ensures.1 in
    let old = c.grow.new.self in
    let new = c.lay.new.self in
    written_like _ old _ _ _ _ c.args.label _ first (c.lay.ensures.front ∙ c.grow.ensures.front ∙ first)
    (some _ c.if-count-eq0.false)
    c.in_ok-grow.ensures.before c.in_ok-grow.ensures.gap c.in_ok-grow.ensures.end c.in_ok-lay.ensures.before
    (subst (λ m. (n : ℕ) → c.args.offset ≤ n → n < m → source_in new.runs.entries n ≡ source.Write c.args.place c.args.offset c.args.label) sum c.in_ok-lay.ensures.there)
    (subst (λ m. (n : ℕ) → m ≤ n → n < old.end → source_in new.runs.entries n ≡ source_in old.runs.entries n) sum c.in_ok-lay.ensures.behind)
    (c.in_ok-lay.ensures.end ∙ ap (max old.end) sum) like

pub returns-clause-sources : goal.returns-clause-sources
returns-clause-sources c = written_sources _ c.grow.new.self _ _ _
    _ c.grow.ensures.front c.lay.ensures.front
    c.in_ok-grow.ensures.before c.in_ok-grow.ensures.gap c.in_ok-grow.ensures.end c.in_ok-lay.ensures.before c.in_ok-lay.ensures.there c.in_ok-lay.ensures.behind c.in_ok-lay.ensures.end
