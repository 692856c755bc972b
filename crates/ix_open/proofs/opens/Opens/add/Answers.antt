use Rattle.std.proofs.{Common.{◌≡◌, ◌<◌, sym, ◌∙◌, arith, length, get_or, subst, Some}, lemmas.List.get_or_read}
use Rattle.ix_open.{specs.Table.OpenTable, proofs.{Viewed.{lowest_shown, entry_opened, count_below, counted_opened}, Indexed.{index_opened, room_for}}}
use Rattle.ix_numbers.proofs.Tied.{given_vacant, changed}
use Rattle.ix_open.proofs.opens.Opens.add.Goals as goal

pub returns-in_err-id-clause-id : goal.returns-in_err-id-clause-id
returns-in_err-id-clause-id c = c.from_residual.ensures ∙ c.in_err-id.ensures.number
    ∙ lowest_shown c.self.inside.entries c.self.inside.keys.items _ _ c.self.view_is c.self.invariant.0 _ c.self.invariant.1.0

pub insert_reserved-key-requires : goal.insert_reserved-key-requires
insert_reserved-key-requires c =
    let free = given_vacant _ _ _ c.self.invariant.1.0 c.in_ok-id.ensures.number in
    room_for c.self.inside.entries c.self.inside.keys.items c.self.invariant.0 c.in_ok-id.id free.0 free.1

pub index_mut-requires : goal.index_mut-requires
index_mut-requires c = omega (arith, (given_vacant _ _ _ c.self.invariant.1.0 c.in_ok-id.ensures.number).0, c.self.inside.keys.ok)

pub overflow_add-index_mut : goal.overflow_add-index_mut
overflow_add-index_mut c =
    let free = given_vacant _ _ _ c.self.invariant.1.0 c.in_ok-id.ensures.number in
    let within : c.args.entry.obj.0 < c.self.inside.objects = subst (λ (t : OpenTable). c.args.entry.obj.0 < t.objects) (sym c.self.view_is) c.requires.object in
    let low : c.place-count.result < length c.self.inside.counts.items = omega (arith, c.place-count.ensures, within, c.requires.end, c.self.invariant.1.1.places) in
    let read : c.index_mut-2.result.now ≡ get_or c.self.inside.counts.items c.place-count.result 0 = get_or_read c.self.inside.counts.items c.place-count.result _ low c.index_mut-2.ensures.value 0 in
    let below = count_below c.self.inside.entries c.self.inside.keys.items _ _ c.self.invariant.0 c.self.invariant.1.1 c.in_ok-id.id c.args.entry free.0 free.1
    c.place-count.result c.index_mut-2.result.now c.place-count.ensures read in
    omega (arith, below)

pub invariant_of-self-2 : goal.invariant_of-self-2
invariant_of-self-2 c =
    let free = given_vacant _ _ _ c.self.invariant.1.0 c.in_ok-id.ensures.number in
    let within : c.args.entry.obj.0 < c.self.inside.objects = subst (λ (t : OpenTable). c.args.entry.obj.0 < t.objects) (sym c.self.view_is) c.requires.object in
    let low : c.place-count.result < length c.self.inside.counts.items = omega (arith, c.place-count.ensures, within, c.requires.end, c.self.invariant.1.1.places) in
    let read : c.index_mut-2.result.now ≡ get_or c.self.inside.counts.items c.place-count.result 0 =
    get_or_read c.self.inside.counts.items c.place-count.result _ low c.index_mut-2.ensures.value 0 in (
      index_opened c.self.inside.entries c.self.inside.keys.items c.self.invariant.0 c.insert_reserved-key.new.self c.in_ok-id.id c.insert_reserved-key.result _
          free.0 free.1 c.insert_reserved-key.ensures.was_vacant c.insert_reserved-key.ensures.updates c.insert_reserved-key.ensures.len
          c.insert_reserved-key.ensures.capacity,
      (
        c.in_ok-id.ensures.taken ∙ changed c.self.inside.keys.items _ c.in_ok-id.id (Some c.insert_reserved-key.result) c.self.invariant.1.0,
        counted_opened c.self.inside.entries c.self.inside.keys.items _ _ c.self.invariant.0 c.self.invariant.1.1 c.in_ok-id.id _ free.0 free.1
            c.place-count.result c.index_mut-2.result.now c.place-count.ensures read _ c.insert_reserved-key.result c.insert_reserved-key.ensures.was_vacant
            c.insert_reserved-key.ensures.updates c.requires.owned c.requires.end within,
      ),
    )

pub returns-clause-id : goal.returns-clause-id
returns-clause-id c = c.in_ok-id.ensures.number ∙ lowest_shown c.self.inside.entries c.self.inside.keys.items _ _ c.self.view_is c.self.invariant.0 _ c.self.invariant.1.0

pub returns-clause-new : goal.returns-clause-new
returns-clause-new c =
    let free = given_vacant _ _ _ c.self.invariant.1.0 c.in_ok-id.ensures.number in
    entry_opened c.self.inside.entries c.self.inside.keys.items _ _ c.self.view_is c.self.invariant.0 _ c.in_ok-id.id c.insert_reserved-key.result _ free.0
    c.insert_reserved-key.ensures.was_vacant c.insert_reserved-key.ensures.updates
