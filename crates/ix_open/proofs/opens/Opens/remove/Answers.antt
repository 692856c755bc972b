use Rattle.std.{proofs.{Common.{◌≡◌, ℕ, Bool, Option, None, Some, is_some, sym, ap, ◌∙◌, arith, List, get_or}, lemmas.List.get_or_read}, specs.List.slice_get}
use Rattle.ix_model.specs.world.World.{at}
use Rattle.ix_numbers.proofs.Tied.{stands_taken, changed}
use Rattle.ix_open.proofs.{Viewed.{key_there, entry_gone, count_stands, counted_gone}, Indexed.index_released}
use Rattle.ix_open.proofs.opens.Opens.remove.Goals as goal

pub key_of-key-requires : goal.key_of-key-requires
key_of-key-requires c = ap (λ (t : List (Option ℕ)). is_some (at t c.args.id)) c.as_slice.ensures.value
    ∙ key_there c.self.inside.entries c.self.inside.keys.items _ _ c.self.view_is c.args.id c.requires

pub index_mut-requires-2 : goal.index_mut-requires-2
index_mut-requires-2 c =
    let key : at c.self.inside.keys.items c.args.id ≡ Some c.key_of-key.result = ap (λ (t : List (Option ℕ)). at t c.args.id) (sym c.as_slice.ensures.value) ∙ c.key_of-key.ensures in
    let stands = count_stands c.self.inside.entries c.self.inside.keys.items _ _ c.self.invariant.0 c.self.invariant.1.1 c.args.id c.key_of-key.result
    c.remove-entry.result key c.remove-entry.ensures.value c.place.result c.place.ensures in
    omega (arith, stands.0, c.self.inside.counts.ok)

pub overflow_sub-index_mut : goal.overflow_sub-index_mut
overflow_sub-index_mut c =
    let key : at c.self.inside.keys.items c.args.id ≡ Some c.key_of-key.result = ap (λ (t : List (Option ℕ)). at t c.args.id) (sym c.as_slice.ensures.value) ∙ c.key_of-key.ensures in
    let stands = count_stands c.self.inside.entries c.self.inside.keys.items _ _ c.self.invariant.0 c.self.invariant.1.1 c.args.id c.key_of-key.result
    c.remove-entry.result key c.remove-entry.ensures.value c.place.result c.place.ensures in
    let read : c.index_mut-2.result.now ≡ get_or c.self.inside.counts.items c.place.result 0 = get_or_read c.self.inside.counts.items c.place.result _ stands.0 c.index_mut-2.ensures.value 0 in
    omega (arith, stands.1, read)

pub give-requires : goal.give-requires
give-requires c =
    let key : at c.self.inside.keys.items c.args.id ≡ Some c.key_of-key.result = ap (λ (t : List (Option ℕ)). at t c.args.id) (sym c.as_slice.ensures.value) ∙ c.key_of-key.ensures in
    ap (λ (marks : List Bool). slice_get marks c.args.id) c.self.invariant.1.0 ∙ stands_taken c.self.inside.keys.items c.args.id (ap is_some key)

pub invariant_of-self : goal.invariant_of-self
invariant_of-self c =
    let key : at c.self.inside.keys.items c.args.id ≡ Some c.key_of-key.result = ap (λ (t : List (Option ℕ)). at t c.args.id) (sym c.as_slice.ensures.value) ∙ c.key_of-key.ensures in
    let stands = count_stands c.self.inside.entries c.self.inside.keys.items _ _ c.self.invariant.0 c.self.invariant.1.1 c.args.id c.key_of-key.result
    c.remove-entry.result key c.remove-entry.ensures.value c.place.result c.place.ensures in
    let read : c.index_mut-2.result.now ≡ get_or c.self.inside.counts.items c.place.result 0 = get_or_read c.self.inside.counts.items c.place.result _ stands.0 c.index_mut-2.ensures.value 0 in (
      index_released c.self.inside.entries c.self.inside.keys.items c.self.invariant.0 c.remove-entry.new.self c.args.id c.key_of-key.result key
          c.remove-entry.ensures.updates c.remove-entry.ensures.len c.remove-entry.ensures.capacity,
      (
        c.give.ensures ∙ changed c.self.inside.keys.items _ c.args.id None c.self.invariant.1.0,
        counted_gone c.self.inside.entries c.self.inside.keys.items _ _ c.self.invariant.0 c.self.invariant.1.1 c.args.id c.key_of-key.result
            c.remove-entry.result key c.remove-entry.ensures.value c.place.result c.place.ensures c.remove-entry.new.self c.index_mut-2.result.now read
            c.remove-entry.ensures.updates,
      ),
    )

pub returns : goal.returns
returns c =
    let key : at c.self.inside.keys.items c.args.id ≡ Some c.key_of-key.result = ap (λ (t : List (Option ℕ)). at t c.args.id) (sym c.as_slice.ensures.value) ∙ c.key_of-key.ensures in
    entry_gone c.self.inside.entries c.self.inside.keys.items _ _ c.self.view_is c.self.invariant.0 _ c.args.id c.key_of-key.result key c.remove-entry.ensures.updates
