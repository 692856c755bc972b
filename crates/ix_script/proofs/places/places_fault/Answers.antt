use Rattle.std.proofs.{Common.{◌≡◌, ℕ, List, Option, None, ◌+◌, length, map, take, drop, sym, ap, ◌∙◌, subst, arith}, lemmas.{List.{append-nil, drop-map}, Bool.{le-leb, lt-leb}}}
use Rattle.ix_script.{specs.{declared.{fail.Rule.Rule, form.Form.Form}, reader.{Placing.kind_in, Readers.IsFault}}, proofs.lines.Readings.{both_faults, known_first, no_tail, tail_there}}
use Rattle.ix_script.specs.lines.{Forms.{arity, kinds, own_places, places_from, tail_of}, Kinds.places_fault}
use Rattle.ix_label.specs.declared.form.Form as spelled
use Rattle.ix_script.specs.declared.form.Kind as made
use Rattle.ix_script.proofs.places.places_fault.Goals as goal

-- the fault at the places that are left is that of all own ones
of_all : (labels : spelled.Form) (f : Form) (words : List (List ℕ)) (ks left : List made.Kind) (n : ℕ) (r : Option Rule) → map (kind_in labels words) ks ≡ kinds labels f words
    → left ≡ drop n ks → places_fault (places_from 1 (take n (kinds labels f words)) words) ≡ None → IsFault r (places_from (1 + n) (map (kind_in labels words) left) words)
    → IsFault r (own_places labels f words)
of_all labels f words ks left n r are rest known fault =
    let same = ap (drop n) (sym are) ∙ drop-map _ n ks ∙ ap (map _) (sym rest) in
    known_first _ 1 n _ known ∙ ap (λ js. places_fault (places_from (1 + n) js words)) same ∙ fault

pub split_at-requires : goal.split_at-requires
split_at-requires c = omega (arith, c.requires.few, c.kinds-kinds.ensures.count c.args.words.now)

pub fault_from-requires : goal.fault_from-requires
fault_from-requires c = omega (arith, c.kinds-kinds.ensures.count c.args.words.now, c.tail.ensures.few c.args.words.now)

pub returns-then-len-kinds : goal.returns-then-len-kinds
returns-then-len-kinds c =
    let words = c.args.words.now in
    let labels = c.args.labels in
    let f = c.args.form in
    let own = of_all _ f _ _ _ _ _ (c.kinds-kinds.ensures.kinds labels words) c.split_at.ensures.back c.requires.right c.fault_from-own.ensures in
    let short = le-leb _ _ (omega (arith, c.kinds-kinds.ensures.count words, c.if-len-kinds.true, c.len.ensures)) in
    rw (no_tail (tail_of f) (1 + arity f words) words short) (ap places_fault (append-nil _) ∙ own)

pub returns : goal.returns
returns c =
    let words = c.args.words.now in
    let labels = c.args.labels in
    let f = c.args.form in
    let count = c.kinds-kinds.ensures.count words in
    let long = lt-leb _ _ (omega (arith, count, c.if-len-kinds.false, c.len.ensures)) in
    let at : 2 + length c.kinds-kinds.result.now ≡ 1 + arity f words + 1 = omega (arith, count) in
    let own = of_all _ f _ _ _ _ _ (c.kinds-kinds.ensures.kinds labels words) c.split_at.ensures.back c.requires.right c.fault_from-own.ensures in
    let more = subst (λ n. IsFault c.fault_from.result (places_from n (tail_of f) words)) at
    (subst (λ ks. IsFault c.fault_from.result (places_from (2 + length c.kinds-kinds.result.now) ks words))
    (c.tail.ensures.tail labels words) c.fault_from.ensures) in
    rw (c.least.ensures, tail_there (tail_of f) (1 + arity f words) words long) (both_faults _ _ _ _ own more)
