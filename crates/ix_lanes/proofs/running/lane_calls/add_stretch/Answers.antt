use Rattle.std.proofs.Common.{◌≡◌, ◌+◌, ◌-◌, ◌<◌, ◌≤◌, ℕ, List, Some, drop, length, min, slice_get, sym, ap, ◌∙◌, arith, take, true≢false}
use Rattle.ix_script.specs.declared.line.Line.{Line}
use Rattle.ix_lanes.specs.{asking.Places.{has_places, standing}, histories.Indexed.line_in}
use Rattle.ix_lanes.proofs.{found.Roles.{line-there, no-places}, phased.Stretching.{behind_others, line_more, placed, stretch_done}}
use Rattle.ix_lanes.proofs.running.lane_calls.add_stretch.Goals.{in-Naming, in_default, then-matches+in_ok-add, else-matches}
use Rattle.ix_lanes.proofs.running.lane_calls.add_stretch.Goals as goal

pub loop-index-preserved : goal.loop-index-preserved
loop-index-preserved c =
    let s : List Line = c.args.script.now in
    let first = c.args.stretch.first in
    let i = c.loop-index.index in
    let k : ℕ = i - first in
    let l : Line = line_in s i in
    let old = c.loop-index.places in
    let within : i < length s = omega (arith, c.loop-index-test.true, c.min-index-end.ensures, c.len.ensures.len) in
    let there : first + k ≡ i = omega (arith, c.loop-index.invariant.from) in
    let at : slice_get (drop first s) k ≡ Some l = behind_others s first k i there ∙ line-there s i within in
    let next : i + 1 - first ≡ k + 1 = omega (arith, c.loop-index.invariant.from) in
    record {
      same = elim c.if-matches.branch [
        | then-matches+in_ok-add w ↦ ap standing w.places-is ∙ w.add.ensures.same ∙ c.loop-index.invariant.same
        | else-matches w ↦ ap standing w.places-is ∙ c.loop-index.invariant.same
      ];
      keeps = elim c.if-matches.branch [
        | then-matches+in_ok-add w ↦ rw w.places-is (λ m h. w.add.ensures.keeps m (c.loop-index.invariant.keeps m h))
        | else-matches w ↦ rw w.places-is c.loop-index.invariant.keeps
      ];
      all = ap (λ n. placed c.if-matches.places (take n (drop first s))) next ∙ elim c.if-matches.branch [
        | then-matches+in_ok-add w ↦ rw w.places-is
            (line_more old w.add.new.self (drop first s) k l at w.add.ensures.keeps c.loop-index.invariant.all
            (sym (ap (has_places w.add.new.self) w.line_at.ensures) ∙ w.in_ok-add.ensures.places))
        | else-matches w ↦ rw w.places-is
            (line_more old old (drop first s) k l at (λ m h. h) c.loop-index.invariant.all (elim c.match-matches.branch [
              | in-Naming u ↦ absurd (true≢false (sym u.matches-is ∙ w.if-matches.false))
              | in_default u ↦ no-places old l (λ is. u.in_default.not-Naming (c.role_at.ensures ∙ is)) (λ is. u.in_default.not-Server (c.role_at.ensures ∙ is))
            ]))
      ];
      from = omega (arith, c.loop-index.invariant.from);
    }

pub returns-clause-all : goal.returns-clause-all
returns-clause-all c =
    let s : List Line = c.args.script.now in
    let far : min c.args.stretch.end (length s) ≤ c.loop-index.index = omega (arith, c.loop-index-test.false, c.min-index-end.ensures, c.len.ensures.len) in
    stretch_done c.loop-index.places s c.args.stretch c.loop-index.index far c.loop-index.invariant.all
