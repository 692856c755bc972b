use Rattle.std.proofs.Common.{◌≡◌, ◌<◌, ℕ, List, Some, true, true≢false, length, take, sym, ap, ◌∙◌, arith, slice_get, ⊎_elim}
use Rattle.std.proofs.Math.Seq.{map-set_same}
use Rattle.ix_script.specs.{lines.Roles.role_of, declared.line.Line.Line}
use Rattle.ix_lanes.specs.{asking.Places.{has_places, standing}, declared.asking.places.Places.Places, histories.Indexed.line_in}
use Rattle.ix_lanes.specs.running.{Phases.seat_at, Serially.role_begins}
use Rattle.ix_lanes.proofs.{found.Roles.{begins-not, line-there, no-places}, phased.InOrder.indexed}
use Rattle.ix_lanes.proofs.phased.Seated.{lane-there, names-added, none-given, none-seated, seat-apart, seat-begins, seat_by}
use Rattle.ix_lanes.proofs.running.serial_calls.all_places.Goals.{in-Phase, in-Naming+in-Some+in_ok-add-in-Naming, in-Naming+in_default-seat, in_default}
use Rattle.ix_lanes.proofs.running.serial_calls.all_places.Goals as goal

pub index_mut-requires : goal.index_mut-requires
index_mut-requires c =
    let is = sym c.loop-index.invariant.seat ∙ sym c.seat.ensures ∙ c.in-Some.is in
    let low = lane-there c.args.script.now c.loop-index.all.items c.loop-index.index c.in-Some.seat c.loop-index.invariant.names is in
    omega (arith, low, c.loop-index.all.ok)

pub loop-index-preserved : goal.loop-index-preserved
loop-index-preserved c =
    let s : List Line = c.args.script.now in
    let i : ℕ = c.loop-index.index in
    let l : Line = line_in s i in
    let all : List Places = c.loop-index.all.items in
    let low : i < length s = omega (arith, c.loop-index-test.true, c.len-index-end.ensures.len) in
    let there : slice_get s i ≡ Some l = line-there s i low in
    let role = sym c.role_at.ensures in
    let h = c.loop-index.invariant in
    record {
      within = omega (arith, low);
      seat = elim c.match-role_at.branch [
        | in-Phase w ↦ ap (seat_by s) w.begun-is ∙ seat-begins s i l there (⊎_elim (λ e. ap role_begins (role ∙ e)) (λ e. ap role_begins (role ∙ e)) w.in-Phase.is)
        | in-Naming+in-Some+in_ok-add-in-Naming w ↦ ap (seat_by s) w.begun-is
            ∙ seat-apart s i l there c.loop-index.begun (⊎_elim (λ e. ap role_begins (role ∙ e)) (λ e. ap role_begins (role ∙ e)) w.in-Naming.is) h.seat
        | in-Naming+in_default-seat w ↦ ap (seat_by s) w.begun-is
            ∙ seat-apart s i l there c.loop-index.begun (⊎_elim (λ e. ap role_begins (role ∙ e)) (λ e. ap role_begins (role ∙ e)) w.in-Naming.is) h.seat
        | in_default w ↦ ap (seat_by s) w.begun-is
            ∙ seat-apart s i l there c.loop-index.begun (ap role_begins role ∙ begins-not c.role_at.result w.in_default.not-Phase w.in_default.not-Lane) h.seat
      ];
      placed = elim c.match-role_at.branch [
        | in-Phase w ↦
            let begins : role_begins (role_of l) ≡ true = ⊎_elim (λ e. ap role_begins (role ∙ e)) (λ e. ap role_begins (role ∙ e)) w.in-Phase.is in
            rw w.all-is (none-given s i l there all h.placed
            (λ p. no-places p l (λ is. true≢false (sym begins ∙ ap role_begins is)) (λ is. true≢false (sym begins ∙ ap role_begins is))))
        | in-Naming+in-Some+in_ok-add-in-Naming w ↦
            let k : ℕ = w.in-Some.seat in
            let p : Places = w.index_mut.result.now in
            let is : seat_at s (take i s) ≡ Some k = sym h.seat ∙ sym w.seat.ensures ∙ w.in-Some.is in
            let found = indexed all k p (lane-there s all i k h.names is) (sym w.index_mut.ensures.value) in
            rw w.all-is (names-added s i l there all h.placed k p w.add.new.self is found w.add.ensures.keeps
            (sym (ap (has_places w.add.new.self) w.line_at.ensures) ∙ w.in_ok-add-in-Naming.ensures.places))
        | in-Naming+in_default-seat w ↦ rw w.all-is (none-seated s i l there all h.placed (sym h.seat ∙ sym w.seat.ensures ∙ w.in_default-seat.is))
        | in_default w ↦ rw w.all-is (none-given s i l there all h.placed
            (λ p. no-places p l (λ is. w.in_default.not-Naming (c.role_at.ensures ∙ is)) (λ is. w.in_default.not-Server (c.role_at.ensures ∙ is))))
      ];
      names = elim c.match-role_at.branch [
        | in-Phase w ↦ rw w.all-is h.names
        | in-Naming+in-Some+in_ok-add-in-Naming w ↦ rw w.all-is
            (map-set_same standing all w.in-Some.seat w.add.new.self w.index_mut.result.now (w.add.ensures.same ∙ ap standing w.index_mut.ensures.value) ∙ h.names)
        | in-Naming+in_default-seat w ↦ rw w.all-is h.names
        | in_default w ↦ rw w.all-is h.names
      ];
    }
