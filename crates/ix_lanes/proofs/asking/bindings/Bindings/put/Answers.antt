use Rattle.std.{proofs.{Common.{◌≡◌, ◌++◌, List, ℕ, true, false, Some, set, sym, ap, ◌∙◌, subst}, lemmas.List.Quantifiers.position-Some}}
use Rattle.std.specs.{List.{list_any, position}, Option.option_copied_mut, FinMap.contains_key}
use Rattle.ix_lanes.proofs.found.{Keyed.{map-put, not_there, with_value}, Near.{far_set, far_value, is_of, near_set, no_place}}
use Rattle.ix_lanes.proofs.asking.bindings.Bindings.put.Goals as goal

pub returns-in-Some : goal.returns-in-Some
returns-in-Some g c =
    let i = c.self.inside in
    let name = c.args.name.now in
    let d = c.index_mut.result.now in
    let there = subst (λ m. contains_key m name ≡ true) (sym c.self.view_is) c.requires in
    let found : position (is_of name) i.near.items ≡ Some c.in-Some.place =
    sym (c.place_of.ensures ∙ (λ j. position (is_of (c.as_bytes.ensures.bytes j)) (c.as_slice.ensures.value j))) ∙ c.in-Some.is in
    let at = position-Some (is_of name) i.near.items c.in-Some.place d found in
    rw (← c.self.view_is) (map-put name c.args.number (i.near.items ++ i.numbers.entries) _ there
    (ap (λ e. set i.near.items c.in-Some.place (e.0, c.args.number) ++ i.numbers.entries) c.index_mut.ensures.value
    ∙ near_set name c.args.number i.near.items i.numbers.entries c.in-Some.place d at.0 at.1 at.2))

pub returns-in-Some-get_mut : goal.returns-in-Some-get_mut
returns-in-Some-get_mut g c =
    let i = c.self.inside in
    let name = c.args.name.now in
    let there = subst (λ m. contains_key m name ≡ true) (sym c.self.view_is) c.requires in
    let none : list_any (is_of name) i.near.items ≡ false =
    no_place (is_of name) i.near.items (sym (c.place_of.ensures ∙ (λ j. position (is_of (c.as_bytes.ensures.bytes j)) (c.as_slice.ensures.value j))) ∙ c.in-None.is) in
    rw (← c.self.view_is) (map-put name c.args.number (i.near.items ++ i.numbers.entries) _ there
    (ap (λ xs. i.near.items ++ xs) ((c.get_mut.follows.holds c.args.number).0 ∙ ap (λ (q : List ℕ). with_value q i.numbers.entries c.args.number) c.as_bytes-in-None.ensures.bytes)
    ∙ far_set name c.args.number i.near.items i.numbers.entries none))

pub returns-in_default : goal.returns-in_default
returns-in_default g c =
    let i = c.self.inside in
    let name = c.args.name.now in
    let there = subst (λ m. contains_key m name ≡ true) (sym c.self.view_is) c.requires in
    let none : list_any (is_of name) i.near.items ≡ false =
    no_place (is_of name) i.near.items (sym (c.place_of.ensures ∙ (λ j. position (is_of (c.as_bytes.ensures.bytes j)) (c.as_slice.ensures.value j))) ∙ c.in-None.is) in
    absurd (not_there name (i.near.items ++ i.numbers.entries) (far_value name i.near.items i.numbers.entries none
    ∙ (rw c.as_bytes-in-None.ensures.bytes at (sym c.get_mut.ensures.value ∙ ap option_copied_mut c.in_default.is))) there)
