use Rattle.std.proofs.Common.{◌≡◌, ◌++◌, OnOk, refl, sym, ◌∙◌, subst, arith}
use Rattle.ix_script.proofs.back.Shortest.{quotes_of_two, pairs_of_two, quotes_of_three, times_of_three, quotes_not_times, pairs_of_three}
use Rattle.ix_script.proofs.writing.shortest_text.Goals.{in-Some+else-by_times-by_pairs, in_default}
use Rattle.ix_script.proofs.writing.shortest_text.Goals.{else-by_times-by_pairs-via-then-by_times-by_pairs+else-by_times-in_quotes, else-by_times-by_pairs-via-else-by_times-by_pairs}
use Rattle.ix_script.proofs.writing.shortest_text.Goals as goal

pub returns-then-by_times-in_quotes : goal.returns-then-by_times-in_quotes
returns-then-by_times-in_quotes c = subst (λ t. OnOk c.times.result (c.times.new.out.items ≡ c.args.out.now.items ++ t))
    (times_of_three _ _ _ refl c.quoted_len-in_quotes.ensures _ _ (sym c.repeated.ensures
    ∙ c.in-Some.is) c.times_len-by_times.ensures c.if-by_times-by_pairs.true c.if-by_times-in_quotes.true) c.times.ensures

pub returns-then-in_quotes-by_pairs : goal.returns-then-in_quotes-by_pairs
returns-then-in_quotes-by_pairs c = elim c.match-repeated.branch [
  | in-Some+else-by_times-by_pairs w ↦ subst (λ t. OnOk c.quoted.result (c.quoted.new.out.items ≡ c.args.out.now.items ++ t)) (elim w.else-by_times-by_pairs.branch [
    | else-by_times-by_pairs-via-then-by_times-by_pairs+else-by_times-in_quotes v ↦ quotes_of_three _ _ _ refl c.quoted_len-in_quotes.ensures _ _
        (sym c.repeated.ensures ∙ w.in-Some.is) w.times_len-by_times.ensures v.if-by_times-by_pairs.true v.if-by_times-in_quotes.false
    | else-by_times-by_pairs-via-else-by_times-by_pairs v ↦ quotes_not_times _ _ _ refl c.quoted_len-in_quotes.ensures _ _
        (sym c.repeated.ensures ∙ w.in-Some.is) w.times_len-by_times.ensures v.if-by_times-by_pairs.false c.if-in_quotes-by_pairs.true
  ]) c.quoted.ensures
  | in_default w ↦
      subst (λ t. OnOk c.quoted.result (c.quoted.new.out.items ≡ c.args.out.now.items ++ t))
      (quotes_of_two _ _ _ refl c.quoted_len-in_quotes.ensures (sym c.repeated.ensures ∙ w.in_default.is) c.if-in_quotes-by_pairs.true) c.quoted.ensures
]

pub returns : goal.returns
returns c = elim c.match-repeated.branch [
  | in-Some+else-by_times-by_pairs w ↦ subst (λ t. OnOk c.pairs.result (c.pairs.new.out.items ≡ c.args.out.now.items ++ t)) (elim w.else-by_times-by_pairs.branch [
    | else-by_times-by_pairs-via-then-by_times-by_pairs+else-by_times-in_quotes v ↦
        absurd (omega (arith, v.if-by_times-by_pairs.true, v.if-by_times-in_quotes.false, c.if-in_quotes-by_pairs.false))
    | else-by_times-by_pairs-via-else-by_times-by_pairs v ↦ pairs_of_three _ _ _ refl c.quoted_len-in_quotes.ensures _ _
        (sym c.repeated.ensures ∙ w.in-Some.is) w.times_len-by_times.ensures v.if-by_times-by_pairs.false c.if-in_quotes-by_pairs.false
  ]) c.pairs.ensures
  | in_default w ↦
      subst (λ t. OnOk c.pairs.result (c.pairs.new.out.items ≡ c.args.out.now.items ++ t))
      (pairs_of_two _ _ _ refl c.quoted_len-in_quotes.ensures (sym c.repeated.ensures ∙ w.in_default.is) c.if-in_quotes-by_pairs.false) c.pairs.ensures
]
