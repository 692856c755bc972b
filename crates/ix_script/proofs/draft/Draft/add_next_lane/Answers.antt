use Rattle.std.proofs.Common.{◌≡◌, ℕ, List, Some, refl, sym, ap, ◌∙◌, drop}
use Rattle.ix_script.specs.{lines.{Before.{lanes_after}, Roles.role_of}}
use Rattle.ix_script.specs.{scripts.{Need.cost_of_line, Packed.{with_line}}, declared.{draft.Draft.Draft, line.Line.Line}}
use Rattle.ix_script.specs.declared.line.Line.TheVariants as line
use Rattle.ix_script.proofs.{reader.Commands.{begun_body, header_quiet, lane_behind, lane_added, on_ok}, reader.Packing.right_later}
use Rattle.ix_script.proofs.{reader.PhaseLanes.{ComesNext, comes_next, next_more}, back.NextLane.{next_right, next_known}}
use Rattle.ix_script.proofs.draft.Draft.add_next_lane.Goals as goal

pub push-requires-clause-faultless : goal.push-requires-clause-faultless
push-requires-clause-faultless c =
    (right_later _ _ _ c.requires.later c.form.ensures (next_right c.args.self.now c.args.text.now c.requires.grows.told c.requires.text c.requires.later c.requires.next)).0

pub push-requires-clause-role : goal.push-requires-clause-role
unfolding role_of
push-requires-clause-role c =
    ap role_of (right_later _ _ _ c.requires.later c.form.ensures (next_right c.args.self.now c.args.text.now c.requires.grows.told c.requires.text c.requires.later c.requires.next)).1

pub push-requires-clause-cost : goal.push-requires-clause-cost
unfolding cost_of_line
push-requires-clause-cost c =
    ap cost_of_line (right_later _ _ _ c.requires.later c.form.ensures (next_right c.args.self.now c.args.text.now c.requires.grows.told c.requires.text c.requires.later c.requires.next)).1

pub returns-clause-line : goal.returns-clause-line
returns-clause-line c =
    let d : Draft = c.args.self.now in
    let right = next_right d c.args.text.now c.requires.grows.told c.requires.text c.requires.later c.requires.next in
    let is = (right_later _ _ _ c.requires.later c.form.ensures right).1 in
    on_ok c.push.result (λ pushed. record { line = line.Lane (drop 5 c.args.text.now); right = right; added = pushed ∙ ap (λ (l : Line). with_line d.lines l c.args.text.now) is }) c.push.ensures

pub returns-clause-told : goal.returns-clause-told
returns-clause-told c =
    let d : Draft = c.args.self.now in
    let name : List ℕ = drop 5 c.args.text.now in
    let lane : Line = line.Lane name in
    let right = next_right d c.args.text.now c.requires.grows.told c.requires.text c.requires.later c.requires.next in
    let is = (right_later _ _ _ c.requires.later c.form.ensures right).1 in
    let same : d.body.lanes ≡ lanes_after d.body.lanes lane = next_known d c.args.text.now c.requires.next in
    let next : ComesNext d.body.in_order d.body.others d.body.lanes name = comes_next d.body.in_order d.body.others d.body.lanes name c.requires.next.next in
    on_ok c.push.result (λ pushed.
    let lines : c.push.new.self ≡ with_line d.lines lane c.args.text.now = pushed ∙ ap (λ (l : Line). with_line d.lines l c.args.text.now) is in
    rw lines record {
      header = header_quiet d.header d.lines.said lane (lane_behind name) (begun_body d.lines.said c.requires.later (sym c.requires.grows.told.body.started ∙ c.requires.next.started))
          c.requires.grows.told.header c.requires.grows.valid right.fits;
      body = lane_added d.body _ name d.lines.said c.requires.grows.told.body refl (ap (λ (n : List ℕ). Some n) c.split_at.ensures.back) same c.requires.grows.told.body.named
          (next_more d.body.in_order d.body.lanes d.body.others d.body.lanes name same c.requires.grows.told.body.within next) refl refl refl;
    }) c.push.ensures
