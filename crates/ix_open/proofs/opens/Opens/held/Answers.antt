use Rattle.std.proofs.{Common.{◌≡◌, sym, ap, ◌∙◌, get_or, nat_lt}, lemmas.{Bool.{ltb-true, ltb-false, le-ltb}, List.get_or_past, Grind.get_or_default_zero}}
use Rattle.ix_open.{specs.Tally.place, proofs.Viewed.{held_shown, not_held_shown}}
use Rattle.ix_open.proofs.opens.Opens.held.Goals as goal

pub returns-in-Some : goal.returns-in-Some
returns-in-Some c =
    let low = ltb-true _ _ (sym c.in-Some.ensures.lookup.0) in
    let read : c.in-Some.count.now ≡ get_or c.self.inside.counts.items (place c.args.obj.0 c.args.end) 0 = c.in-Some.ensures.lookup.1
    ∙ get_or_default_zero c.deref.result.now c.place.result _ low ∙ (λ i. get_or (c.deref.ensures.value i) (c.place.ensures i) 0) in
    ap (nat_lt 0) read ∙ held_shown c.self.inside.entries c.self.inside.keys.items _ _ c.self.view_is _ c.self.invariant.1.1 c.args.obj.0 c.args.end c.if-end-lt2.true

pub returns-in-None : goal.returns-in-None
returns-in-None c =
    let past = ltb-false _ _ (sym c.in-None.ensures.lookup.0) in
    let read : get_or c.self.inside.counts.items (place c.args.obj.0 c.args.end) 0 ≡ 0 = sym (λ i. get_or (c.deref.ensures.value i) (c.place.ensures i) 0)
    ∙ get_or_past c.deref.result.now c.place.result 0 past in
    ap (nat_lt 0) (sym read) ∙ held_shown c.self.inside.entries c.self.inside.keys.items _ _ c.self.view_is _ c.self.invariant.1.1 c.args.obj.0 c.args.end c.if-end-lt2.true

pub returns-else-end-lt2 : goal.returns-else-end-lt2
returns-else-end-lt2 c =
    let past = le-ltb c.args.end 2 c.if-end-lt2.false in
    past ∙ sym (not_held_shown c.self.inside.entries c.self.inside.keys.items _ _ c.self.view_is _ c.self.invariant.1.1 c.args.obj.0 c.args.end past)
