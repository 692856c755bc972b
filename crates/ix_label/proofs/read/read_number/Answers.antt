use Rattle.std.proofs.Common.{◌≡◌, sym, ◌∙◌, ap, List, ℕ}
use Rattle.ix_label.{specs.Faults.digits, proofs.{Places.are_digits, Reading.{number_bad, number_great, number_at}}}
use Rattle.ix_label.proofs.read.read_number.Goals as goal

digits_are : (ahead ds rest : List ℕ) → ds ≡ digits rest → rest ≡ ahead → ds ≡ digits ahead
digits_are ahead ds rest e back = e ∙ ap (λ bytes. digits bytes) back

pub returns-then-is_bad : goal.returns-then-is_bad
returns-then-is_bad c =
    let are = digits_are _ _ _ c.leading_digits-digits.ensures c.split_at.ensures.back in
    number_bad c.args.form c.args.text.now _ c.args.at are (sym c.is_bad.ensures ∙ c.if-is_bad.true)

pub value_of-requires : goal.value_of-requires
value_of-requires c = rw c.leading_digits-digits.ensures (are_digits c.split_at.result.1.now)

pub returns-in-Some : goal.returns-in-Some
returns-in-Some c =
    let are = digits_are _ _ _ c.leading_digits-digits.ensures c.split_at.ensures.back in
    number_at c.args.form c.args.text.now _ c.args.at are c.in-Some.value c.requires (sym c.is_bad.ensures ∙ c.if-is_bad.false) c.in-Some.ensures

pub returns-in-None : goal.returns-in-None
returns-in-None c =
    let are = digits_are _ _ _ c.leading_digits-digits.ensures c.split_at.ensures.back in
    number_great c.args.form c.args.text.now _ c.args.at are (sym c.is_bad.ensures ∙ c.if-is_bad.false) c.in-None.ensures
