use Rattle.std.proofs.Common.{◌≡◌, ◌++◌, ℕ, List, Option, None, true, is_ok, not, length, refl, sym, ap, ◌∙◌, subst}
use Rattle.ix_lanes.proofs.found.Oks.{from_ok}
use Rattle.ix_model.specs.history.History.{world_of}
use Rattle.ix_label.specs.declared.form.Form.{Form}
use Rattle.ix_script.specs.lines.Before.{form_told}
use Rattle.ix_replay.specs.report.{Report.closing_text, Telling.left_of}
use Rattle.ix_host.specs.{declared.streams.outlet.Failure.Failure, run.Outlet.StandsAt}
use Rattle.ix_host.proofs.piecewise.Stands.{ends_out, none_is, stands_end, stands_front, stands_more, stands_silent}
use Rattle.ix_host.proofs.streams.teller.Teller.close.Goals as goal

pub pieces-init : goal.pieces-init
pieces-init g c = record {
  same = refl;
  stands = λ first told before s.
      let old = c.args.self.now in
      let after = g.K.Sink.taken old.sink.now in
      let now = g.K.Sink.faults old.sink.now in
      let left = left_of c.new-closing.result in
      subst (λ (t : List ℕ). StandsAt old.failure first after (old.waiting.now.items ++ left) (told ++ t) before now) (c.new-closing.ensures
      ∙ ap (λ (f : Form). closing_text f (world_of c.args.history.now) (length c.args.history.now.events)) c.form.ensures)
      (stands_more first after before now old.failure old.waiting.now.items told left s);
}

pub pieces-preserved : goal.pieces-preserved
pieces-preserved g c =
    let went : is_ok c.tell.result ≡ true = c.is_err.ensures.negation ∙ ap not c.if-is_err.false in
    let told = from_ok c.tell.result went c.tell.ensures in
    let none : c.pieces.self.failure ≡ None = none_is c.pieces.self.failure (sym c.is_some.ensures ∙ c.if-is_some.false) in
    record {
      same = c.pieces.invariant.same;
      stands = λ first before_told before s.
          let whole = before_told ++ closing_text (form_told c.args.self.now.script.now) (world_of c.args.history.now) (length c.args.history.now.events) in
          let stands = c.pieces.invariant.stands first before_told before s in
          let going = subst (λ (f : Option Failure). StandsAt f first (g.K.Sink.taken c.pieces.self.sink.now) (c.pieces.self.waiting.now.items
          ++ left_of c.pieces.closing) whole before (g.K.Sink.faults c.pieces.self.sink.now)) none stands in
          c.write_full-self.ensures first (left_of c.tell.new.self) whole before
          (subst (λ (w : List ℕ). StandsAt None first (g.K.Sink.taken c.pieces.self.sink.now) w whole before (g.K.Sink.faults c.pieces.self.sink.now)) (sym told.text) going);
    }

pub returns-then-is_some-clause-ends : goal.returns-then-is_some-clause-ends
returns-then-is_some-clause-ends g c first told before s =
    let whole = told ++ closing_text (form_told c.args.self.now.script.now) (world_of c.args.history.now) (length c.args.history.now.events) in
    let at = c.pieces.self in
    c.finish.ensures first whole before
    (rw c.as_slice.ensures.value (stands_silent first (g.K.Sink.taken at.sink.now) before (g.K.Sink.faults at.sink.now) at.failure (at.waiting.now.items
    ++ left_of c.pieces.closing) at.waiting.now.items whole (sym c.is_some.ensures ∙ c.if-is_some.true) (c.pieces.invariant.stands first told before s)))

pub returns-then-is_err-clause-ends : goal.returns-then-is_err-clause-ends
returns-then-is_err-clause-ends g c first told before s =
    let whole = told ++ closing_text (form_told c.args.self.now.script.now) (world_of c.args.history.now) (length c.args.history.now.events) in
    let at = c.pieces.self in
    let none : at.failure ≡ None = none_is at.failure (sym c.is_some.ensures ∙ c.if-is_some.false) in
    let stands = rw none at (c.pieces.invariant.stands first told before s) in
    ends_out first (g.K.Sink.taken at.sink.now) whole (g.K.Sink.finished at.sink.now) before (g.K.Sink.faults at.sink.now)
    (stands_front first (g.K.Sink.taken at.sink.now) before (g.K.Sink.faults at.sink.now) (at.waiting.now.items ++ left_of c.pieces.closing) whole stands)

pub returns-clause-ends : goal.returns-clause-ends
returns-clause-ends g c first told before s =
    let whole = told ++ closing_text (form_told c.args.self.now.script.now) (world_of c.args.history.now) (length c.args.history.now.events) in
    let at = c.pieces.self in
    c.finish-2.ensures first whole before
    (rw c.as_slice-2.ensures.value (stands_end first (g.K.Sink.taken at.sink.now) before (g.K.Sink.faults at.sink.now) at.failure at.waiting.now.items
    (left_of c.pieces.closing) whole (c.is_told.ensures.told c.pieces-test.false) (c.pieces.invariant.stands first told before s)))
