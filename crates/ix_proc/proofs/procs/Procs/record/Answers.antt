use Rattle.std.{proofs.{Common.{◌≡◌, Some, None, sym, ap, ◌∙◌, subst, arith}, lemmas.List.get_or_read}, specs.Option.{option_copied, IfSome}}
use Rattle.ix_proc.{specs.Slots.{lookup, Finds, process_of, process_in, status_in, nobody}, proofs.Found.{slot_of, absent, no_status, process_is, status_is}}
use Rattle.ix_proc.proofs.procs.Procs.record.Goals as goal

pub returns-in_err-k : goal.returns-in_err-k
returns-in_err-k c =
    let none = subst (λ t. lookup t c.args.pid.0 ≡ None) c.as_slice.ensures.value c.in_err-k.ensures in
    let no_record = absent _ _ _ _ c.self.invariant.0 _ c.self.view_is _ none in
    record {
      process = ap (λ r. process_in (option_copied r)) c.from_residual.ensures ∙ sym no_record;
      status = ap (λ r. status_in (option_copied r)) c.from_residual.ensures ∙ sym (no_status _ _ _ _ c.self.invariant.0 _ c.self.view_is _ none);
      named = subst (λ r. IfSome r (λ b. b.now.who.pid.0 ≡ c.args.pid.0)) (sym c.from_residual.ensures) tt;
    }

pub index-requires-2 : goal.index-requires-2
index-requires-2 c =
    let there = subst (λ t. Finds (Some c.in_ok-k.k) t c.args.pid.0) c.as_slice.ensures.value c.in_ok-k.ensures in
    let slot = slot_of _ _ _ c.self.invariant.0 _ _ _ there c.index.ensures in
    omega (arith, c.self.invariant.0.inside c.args.pid.0 c.index.result.now slot, c.self.inside.records.ok)

pub returns : goal.returns
returns c =
    let there = subst (λ t. Finds (Some c.in_ok-k.k) t c.args.pid.0) c.as_slice.ensures.value c.in_ok-k.ensures in
    let slot = slot_of _ _ _ c.self.invariant.0 _ _ _ there c.index.ensures in
    let read =
    get_or_read c.self.inside.records.items c.index.result.now.link _ (c.self.invariant.0.inside _ _ slot) c.index-2.ensures
    nobody in
    record {
      process = ap (λ r. Some (process_of r)) read ∙ sym (process_is _ _ _ _ c.self.invariant.0 _ c.self.view_is _ _ slot);
      status = ap (λ r. status_in (Some r)) read ∙ sym (status_is _ _ _ _ c.self.invariant.0 _ c.self.view_is _ _ slot);
      named = ap (λ r. r.who.pid.0) read ∙ c.self.invariant.0.named _ _ slot;
    }
