use Rattle.std.proofs.{Common.{◌≡◌, ◌++◌, ℕ, List, map, sym, ap, ◌∙◌, arith, Bor}, lemmas.List.{append-nil, Sorted.IsPermutation-map}}
use Rattle.ix_model.specs.opening.Valid.{all_differ}
use Rattle.ix_image.{specs.{Trees.LinkOf, Meant.links_in}, proofs.Distinct.{order_differ, same_differ, rising_on, all_rise}}
use Rattle.ix_image.proofs.fitting.differ.Goals as goal

abbrev seen : Bor (List ℕ) → List ℕ
seen x = x.now

pub returns-then-eq : goal.returns-then-eq
returns-then-eq c =
    let names : map seen c.links.names.items ≡ map (λ k. k.0) (links_in c.args.links.now) =
    sym (append-nil (map seen c.links.names.items)) ∙ ap (λ (ls : List LinkOf). map seen c.links.names.items ++ map (λ k. k.0) ls) (sym c.in_default.ensures) ∙ c.links.invariant in
    sym (same_differ seen c.sort_unstable.new.self.items c.loop-i.i c.index.result.now c.index-in-loop-i.result.now (omega arith) (omega arith) c.index.ensures c.index-in-loop-i.ensures
    (sym c.eq.ensures ∙ c.if-eq.true)) ∙ sym (order_differ (map seen c.links.names.items) (map seen c.sort_unstable.new.self.items)
    (IsPermutation-map seen c.links.names.items c.sort_unstable.new.self.items c.sort_unstable.ensures.permutation))
    ∙ ap (λ (ns : List (List ℕ)). all_differ ns) names

pub loop-i-preserved : goal.loop-i-preserved
loop-i-preserved c = rising_on _ _ _ _ _ (omega arith) (omega arith) c.index.ensures c.index-in-loop-i.ensures
    (sym c.eq.ensures ∙ c.if-eq.false)
    c.sort_unstable.ensures.sorted c.loop-i.invariant

pub returns : goal.returns
returns c =
    let names : map seen c.links.names.items ≡ map (λ k. k.0) (links_in c.args.links.now) =
    sym (append-nil (map seen c.links.names.items)) ∙ ap (λ (ls : List LinkOf). map seen c.links.names.items ++ map (λ k. k.0) ls) (sym c.in_default.ensures) ∙ c.links.invariant in
    sym (all_rise seen c.sort_unstable.new.self.items c.loop-i.i (omega arith) c.loop-i.invariant) ∙ sym (order_differ (map seen c.links.names.items) (map seen c.sort_unstable.new.self.items)
    (IsPermutation-map seen c.links.names.items c.sort_unstable.new.self.items c.sort_unstable.ensures.permutation))
    ∙ ap (λ (ns : List (List ℕ)). all_differ ns) names
