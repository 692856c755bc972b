use Rattle.std.{proofs.Common.{◌≡◌, ℕ, Bool, List, nat_eq, sym, ◌∙◌, ap}, specs.Cmp.Lexicographic.pointwise}
use Rattle.ix_label.{specs.Faults.is_text, proofs.Spelled.{Reads-none, Reads-bottom, Reads-star, Reads-all, Reads-items}}
use Rattle.ix_label.proofs.label.Label.read.Goals as goal

-- what `==` with a constant text tells
tested : (text slice wanted : List ℕ) (is told : Bool) → is ≡ pointwise nat_eq text slice → slice ≡ wanted → is ≡ told → is_text text wanted ≡ told
tested text slice wanted is told e s t = ap (pointwise nat_eq text) (sym s) ∙ sym e ∙ t

pub returns-then-is_empty : goal.returns-then-is_empty
returns-then-is_empty c =
    let h = Reads-none c.args.form c.args.text.now (sym c.is_empty.ensures ∙ c.if-is_empty.true) in
    record { fault = h.fault; fits = h.fits; ok = h.ok; spelled = h.spelled }

pub returns-then-eq : goal.returns-then-eq
returns-then-eq c =
    let h = Reads-bottom c.args.form c.args.text.now (tested _ _ _ _ _ c.eq.ensures c.as_slice.ensures c.if-eq.true) in
    rw c.bottom.ensures (record { fault = h.fault; fits = h.fits; ok = h.ok; spelled = h.spelled })

pub returns-then-eq-2 : goal.returns-then-eq-2
returns-then-eq-2 c =
    let h = Reads-star c.args.form c.args.text.now (tested _ _ _ _ _ c.eq-else-eq.ensures c.as_slice-else-eq.ensures c.if-eq-2.true) in
    rw c.all_of.ensures (record { fault = h.fault; fits = h.fits; ok = h.ok; spelled = h.spelled })

pub returns-then-is_whole_run : goal.returns-then-is_whole_run
returns-then-is_whole_run c =
    let h = Reads-all c.args.form c.args.text.now (sym c.is_whole_run.ensures ∙ c.if-is_whole_run.true) in
    record { fault = h.fault; fits = h.fits; ok = h.ok; spelled = h.spelled }

pub returns-else-is_whole_run : goal.returns-else-is_whole_run
returns-else-is_whole_run c =
    let h = Reads-items c.args.form c.args.text.now c.read_items.result
    (sym c.is_empty.ensures ∙ c.if-is_empty.false)
    (tested _ _ _ _ _ c.eq.ensures c.as_slice.ensures c.if-eq.false)
    (tested _ _ _ _ _ c.eq-else-eq.ensures c.as_slice-else-eq.ensures c.if-eq-2.false)
    (sym c.is_whole_run.ensures ∙ c.if-is_whole_run.false)
    c.read_items.ensures in
    record { fault = h.fault; fits = h.fits; ok = h.ok; spelled = h.spelled }
