use Rattle.std.proofs.Common.{[], ◌∷◌, ◌++◌, option_map, Some, sym, ap, ◌∙◌, refl, subst, arith}
use Rattle.ix_script.specs.{lines.Before.{is_command, in_lane}, reader.{Told.phase_lanes_in, Indexed.AreIndexed}}
use Rattle.ix_script.proofs.reader.{Commands.{still, on_ok, one_counted, or_true, or_false, body_next, lane_added, none_in}, Indexing.two_in_lane}
use Rattle.ix_script.proofs.reader.PhaseLanes.{OneMore, comes_next, next_more, other_more}
use Rattle.ix_script.specs.declared.line.Line.TheVariants as line
use Rattle.ix_script.proofs.body.Body.add.Goals as goal

pub returns-in-Phase : goal.returns-in-Phase
returns-in-Phase c = λ lines told.
    let x = c.args.line.now in
    let b = c.args.self.now in
    body_next b _ _ x told (rw c.in-Phase.is (sym (or_true _))) (rw c.in-Phase.is refl) (omega arith) told.named (rw c.in-Phase.is c.new.ensures) (rw c.in-Phase.is refl)
    (none_in b.fds _ (rw c.in-Phase.is refl))
    (none_in b.procs _ (rw c.in-Phase.is refl))
    (one_counted _ _ _ _ c.from.ensures c.is_command.ensures)

pub returns-in-Open : goal.returns-in-Open
returns-in-Open c =
    let x = c.args.line.now in
    let b = c.args.self.now in
    on_ok c.add.result (λ given lines told. body_next b _ lines x told (rw c.in-Open.is (sym (or_false b.started))) (rw c.in-Open.is refl) told.within
    told.named (rw c.in-Open.is refl) (rw c.in-Open.is refl)
    (λ items h. rw c.in-Open.is (rw c.as_ref.ensures.value at (given items h))) (none_in b.procs _ (rw c.in-Open.is refl))
    (one_counted _ _ _ _ c.from.ensures c.is_command.ensures)) c.add.ensures

pub returns-in-Dup : goal.returns-in-Dup
returns-in-Dup c =
    let x = c.args.line.now in
    let b = c.args.self.now in
    on_ok c.add-in-Dup.result (λ given lines told. body_next b _ lines x told (rw c.in-Dup.is (sym (or_false b.started))) (rw c.in-Dup.is refl) told.within told.named
    (rw c.in-Dup.is refl) (rw c.in-Dup.is refl)
    (λ items h. rw c.in-Dup.is (rw c.as_ref-in-Dup.ensures.value at (given items h))) (none_in b.procs _ (rw c.in-Dup.is refl))
    (one_counted _ _ _ _ c.from.ensures c.is_command.ensures)) c.add-in-Dup.ensures

pub returns-in_ok-add-in-Some : goal.returns-in_ok-add-in-Some
returns-in_ok-add-in-Some c =
    let x = c.args.line.now in
    let b = c.args.self.now in
    let at = option_map (λ s. s.now) b.lane in
    let first = c.in-Some.first in
    let second = c.in-Some.second in
    let is = c.in-Pipe.is ∙ ap (line.Pipe c.in-Pipe.proc) c.in-Some.is in
    on_ok c.add-in-Some-2.result (λ given lines told. body_next b _ lines x told (rw is (sym (or_false b.started))) (rw is refl) told.within told.named (rw is refl) (rw is refl)
    (λ items h. rw is (subst (λ xs. AreIndexed c.add-in-Some-2.new.self xs) (two_in_lane _ at _ _)
    (given (items ++ in_lane at (first ∷ [])) (c.in_ok-add-in-Some.ensures items h))))
    (none_in b.procs _ (rw is refl))
    (one_counted _ _ _ _ c.from.ensures c.is_command.ensures)) c.add-in-Some-2.ensures

pub returns-in-None : goal.returns-in-None
returns-in-None c = λ lines told.
    let x = c.args.line.now in
    let b = c.args.self.now in
    let is = c.in-Pipe.is ∙ ap (line.Pipe c.in-Pipe.proc) c.in-None.is in
    body_next b _ _ x told (rw is (sym (or_false _))) (rw is refl) told.within told.named (rw is refl) (rw is refl)
    (none_in b.fds _ (rw is refl))
    (none_in b.procs _ (rw is refl))
    (one_counted _ _ _ _ c.from.ensures c.is_command.ensures)

pub returns-in-Fork : goal.returns-in-Fork
returns-in-Fork c =
    let x = c.args.line.now in
    let b = c.args.self.now in
    on_ok c.add-in-Fork.result (λ given lines told. body_next b _ lines x told (rw c.in-Fork.is (sym (or_false b.started))) (rw c.in-Fork.is refl) told.within told.named
    (rw c.in-Fork.is refl) (rw c.in-Fork.is refl)
    (none_in b.fds _ (rw c.in-Fork.is refl)) (λ items h. rw c.in-Fork.is (rw c.as_ref-in-Fork.ensures.value at (given items h)))
    (one_counted _ _ _ _ c.from.ensures c.is_command.ensures)) c.add-in-Fork.ensures

pub returns-in-Login : goal.returns-in-Login
returns-in-Login c =
    let x = c.args.line.now in
    let b = c.args.self.now in
    on_ok c.add-in-Login.result (λ given lines told. body_next b _ lines x told (rw c.in-Login.is (sym (or_false b.started)))
    (rw c.in-Login.is refl) told.within told.named (rw c.in-Login.is refl) (rw c.in-Login.is refl)
    (none_in b.fds _ (rw c.in-Login.is refl)) (λ items h. rw c.in-Login.is (rw c.as_ref-in-Login.ensures.value at (given items h)))
    (one_counted _ _ _ _ c.from.ensures c.is_command.ensures)) c.add-in-Login.ensures

pub returns-then-is_next : goal.returns-then-is_next
returns-then-is_next c = λ lines told.
    let b = c.args.self.now in
    let name = c.in-Lane.name in
    let known = c.in_ok-add_name-in-Lane.ensures.lanes in
    let next =
    comes_next _ _ _ _ (rw c.as_bytes-in-Lane.ensures.bytes at (sym c.is_next.ensures.next ∙ c.if-is_next.true)) in
    rw c.in-Lane.is (lane_added b _ _ _ told refl (ap (λ n. Some n) c.as_bytes.ensures.bytes) known (c.in_ok-add_name-in-Lane.ensures.named told.named)
    (next_more _ _ _ _ _ known told.within next) refl refl
    (one_counted _ _ _ _ c.from.ensures (c.is_command.ensures ∙ ap is_command c.in-Lane.is)))

pub returns-else-is_next : goal.returns-else-is_next
returns-else-is_next c =
    let b = c.args.self.now in
    let name = c.in-Lane.name in
    let known = c.in_ok-add_name-in-Lane.ensures.lanes in
    on_ok c.push.result (λ pushed lines told.
    let others = pushed ∙ ap (λ n. b.others ++ n ∷ []) c.name.ensures in
    let more =
    subst (λ os. OneMore b.in_order c.add_name.new.lanes os (phase_lanes_in b) name) (sym others) (other_more _ _ _ _ _ known told.within) in
    rw c.in-Lane.is (lane_added b _ _ _ told refl (ap (λ n. Some n) c.as_bytes.ensures.bytes) known (c.in_ok-add_name-in-Lane.ensures.named told.named) more refl refl
    (one_counted _ _ _ _ c.from.ensures (c.is_command.ensures ∙ ap is_command c.in-Lane.is)))) c.push.ensures.ok

pub returns-in_default : goal.returns-in_default
returns-in_default c = λ lines told.
    let x = c.args.line.now in
    let b = c.args.self.now in
    let at = option_map (λ s. s.now) b.lane in
    let s = still x c.in_default.not-Phase c.in_default.not-Lane c.in_default.not-Open c.in_default.not-Dup c.in_default.not-Pipe c.in_default.not-Fork c.in_default.not-Login in
    body_next b _ _ x told (rw s.phase (sym (or_false _))) (sym (s.lane at)) told.within told.named (sym (s.phase_lanes _)) (sym (s.lanes b.lanes))
    (none_in b.fds at s.fds) (none_in b.procs at s.procs)
    (one_counted _ _ _ _ c.from.ensures c.is_command.ensures)
