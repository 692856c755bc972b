use Rattle.std.proofs.{Common.{◌∙◌, Some, length, sym, ap, get_or}, lemmas.Option.slice_get_read}
use Rattle.ix_flow.proofs.Labelled.{same_is}
use Rattle.ix_flow.proofs.labels.Labels.last_of.Goals as goal

pub returns-in-Some : goal.returns-in-Some
returns-in-Some c =
    let number = c.in_ok-number.field-0.now in
    let last = c.in-Some.last.now in
    let found = c.in-Some.ensures.lookup in
    let value = c.deref.ensures.value in
    slice_get_read _ _ number last (ap length value) found.3.0 (found.1 ∙ ap (λ xs. get_or xs number last) value) ∙ ap Some (same_is _ _ (sym c.same.ensures ∙ c.if-same.true))
