use Rattle.std.{proofs.Common.{rules, ◌≡◌, ℕ, true, Some, refl, ap, ◌∙◌}, specs.FinMap.{contains_key, insert}}
use Rattle.ix_model.specs.declared.ids.Fd.{Fd}
use Rattle.ix_lanes.specs.{declared.asking.handed.Handed.Handed, asking.Asked.{first_in, second_in}}
use Rattle.ix_lanes.proofs.{found.Placing.{given-filled, keeps-inserted}, asking.calls.bind_both.Goals.{in-Two, in_default-handed}}
use Rattle.ix_lanes.specs.declared.asking.handed.Handed.TheVariants as handed
use Rattle.ix_lanes.proofs.asking.calls.bind_both.Goals as goal

not-two : (g : Handed) → ((f s : Fd) → g ≡ handed.Two f s → ⊥) → ◌≡◌ {A = ℕ × ℕ} (255, 255) (first_in g, second_in g)
not-two (handed.Two f s) not = absurd (not f s refl)
not-two _ not = refl

pub put-requires-in-Some : goal.put-requires-in-Some
put-requires-in-Some c =
    let there : contains_key c.args.fds.now c.in-Some.second_name ≡ true = search rules in
    rw c.put.ensures (keeps-inserted c.args.fds.now c.in-Some.first_name (Some c.match-handed.first.0) c.in-Some.second_name there)

pub returns-after-handed-clause-set : goal.returns-after-handed-clause-set
returns-after-handed-clause-set c =
    let ends : ◌≡◌ {A = ℕ × ℕ} c.match-handed.first (first_in c.args.handed.now, second_in c.args.handed.now) = elim c.match-handed.branch [
      | in-Two w ↦ rw (w.first-is, w.in-Two.is) refl
      | in_default-handed w ↦ w.first-is ∙ not-two c.args.handed.now w.in_default-handed.not-Two
    ] in
    rw (c.in-Some.is, c.put-in-Some.ensures, c.put.ensures, ← ap (λ (p : ℕ × ℕ). p.0) ends, ← ap (λ (p : ℕ × ℕ). p.1) ends)
    (given-filled _ c.in-Some.second_name c.match-handed.first.1
    ∙ ap (λ m. insert m c.in-Some.second_name c.match-handed.first.1) (given-filled c.args.fds.now c.in-Some.first_name c.match-handed.first.0))

pub returns-after-handed-clause-keeps : goal.returns-after-handed-clause-keeps
returns-after-handed-clause-keeps c =
    λ q h. rw (c.put-in-Some.ensures, c.put.ensures)
    (keeps-inserted _ c.in-Some.second_name (Some c.match-handed.first.1) q
    (keeps-inserted c.args.fds.now c.in-Some.first_name (Some c.match-handed.first.0) q h))
