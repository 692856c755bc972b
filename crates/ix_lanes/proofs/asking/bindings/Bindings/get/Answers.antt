use Rattle.std.{proofs.{Common.{◌≡◌, ◌++◌, false, Some, sym, ap, ◌∙◌}, lemmas.List.Quantifiers.position-Some}, specs.List.{list_any, position}}
use Rattle.ix_lanes.proofs.found.{Keyed.get-pairs, Near.{far_value, is_of, near_value, no_place}}
use Rattle.ix_lanes.proofs.asking.bindings.Bindings.get.Goals as goal

pub returns-in-Some : goal.returns-in-Some
returns-in-Some g c =
    let i = c.self.inside in
    let name = c.args.name.now in
    let d = c.index.result.now in
    let found : position (is_of name) i.near.items ≡ Some c.in-Some.place =
    sym (c.place_of.ensures ∙ (λ j. position (is_of (c.as_bytes.ensures.bytes j)) (c.as_slice.ensures.value j))) ∙ c.in-Some.is in
    let at = position-Some (is_of name) i.near.items c.in-Some.place d found in
    rw (← c.self.view_is) (ap (λ e. Some e.1) c.index.ensures ∙ sym (near_value name i.near.items i.numbers.entries c.in-Some.place d at.0 at.1 at.2)
    ∙ sym (get-pairs name (i.near.items ++ i.numbers.entries)))

pub returns-in-None : goal.returns-in-None
returns-in-None g c =
    let i = c.self.inside in
    let name = c.args.name.now in
    let none : list_any (is_of name) i.near.items ≡ false =
    no_place (is_of name) i.near.items (sym (c.place_of.ensures ∙ (λ j. position (is_of (c.as_bytes.ensures.bytes j)) (c.as_slice.ensures.value j))) ∙ c.in-None.is) in
    rw (c.beyond.ensures, c.as_bytes-in-None.ensures.bytes, ← c.self.view_is)
    (sym (get-pairs name (i.near.items ++ i.numbers.entries) ∙ far_value name i.near.items i.numbers.entries none))
