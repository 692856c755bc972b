use Rattle.std.proofs.Common.{sym, ◌∙◌, ⊎_elim, option_map, inl, inr, subst, arith}
use Rattle.ix_asking.specs.Asking.{Asking, IsDue, first}
use Rattle.ix_lanes.specs.{asking.{Places.standing}, declared.asking.handed.Handed.Handed}
use Rattle.ix_lanes.proofs.phased.{Lefts.{due_apart, none_asked, one_due}, Served.{one_asks}}
use Rattle.ix_lanes.proofs.running.beginning.begin.Goals as goal

pub returns-in-Command : goal.returns-in-Command
returns-in-Command c =
    let same = one_asks (option_map (λ q. q.now) c.args.policy) c.args.header.now (standing c.args.places.now) c.args.number c.args.line.now
    c.in_default.not-Copy c.in_default.not-Priv c.in_default.not-Login in
    let due = one_due c.args.header.now (standing c.args.places.now) c.args.number c.args.line.now
    (⊎_elim (λ h. inl (sym c.requires.role ∙ h)) (λ h. inr (sym c.requires.role ∙ h)) c.in-Command.is) c.in_default.not-Copy in
    record {
      asks = sym same;
      pending = due;
      holds = (c.put_written.ensures.few, c.put_written.ensures.bytes);
      most = omega arith;
      apart = λ f. due_apart (option_map (λ q. q.now) c.args.policy) c.args.header.now (standing c.args.places.now) c.args.number c.args.line.now
          (subst (λ (p : Asking Handed). IsDue (first p)) (sym same) due);
    }

pub returns-in_default-role : goal.returns-in_default-role
returns-in_default-role c = record {
  asks = sym (none_asked (option_map (λ q. q.now) c.args.policy) c.args.header.now (standing c.args.places.now) c.args.number c.args.line.now
      (λ h. c.in_default-role.not-Command (c.requires.role ∙ h)) (λ h. c.in_default-role.not-Naming (c.requires.role ∙ h)) c.in_default.not-Priv c.in_default.not-Login);
  pending = tt;
  holds = tt;
  most = omega arith;
  apart = λ f. cc;
}

pub returns-in-Copy-clause-holds : goal.returns-in-Copy-clause-holds
returns-in-Copy-clause-holds c = c.begin_several.ensures.holds c.args.written.now
