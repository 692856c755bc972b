use Rattle.std.{proofs.Common.{◌≡◌, ◌≤◌, ◌∙◌, sym, ap, subst, true, false, length, slice_index_or, ℕ}, specs.Option.option_map_or}
use Rattle.ix_model.specs.world.{World.{at, is_file}, Contents.holds_nothing}
use Rattle.ix_tables.specs.{Parts.Parts, Views.has_room}
use Rattle.ix_fcalls.proofs.{Serving.serves_file, Lengths.{told_too_big, told_file_write, few_at, ends_at, then_low}}
use Rattle.ix_fcalls.proofs.files.Files.told_of_file_write.Goals as goal

pub returns-then-is_too_big : goal.returns-then-is_too_big
returns-then-is_too_big g c = told_too_big g.R.Others.rest _ c.args.who.now _ _ c.requires.serves c.requires.file (sym c.is_too_big.ensures ∙ c.if-is_too_big.true)

pub size-old-requires : goal.size-old-requires
size-old-requires g c = subst (λ (v : Parts). option_map_or is_file (at v.objects c.args.e.now.object) false ≡ true) (sym c.self.view_is) (serves_file _ _ c.requires.serves c.requires.file)

pub length_then-len-requires : goal.length_then-len-requires
length_then-len-requires g c = few_at _ _ (sym c.is_too_big.ensures ∙ c.if-is_too_big.false)

pub has_room-room-requires-clause-file : goal.has_room-room-requires-clause-file
has_room-room-requires-clause-file g c = subst (λ (v : Parts). option_map_or is_file (at v.objects c.args.e.now.object) false ≡ true) (sym c.self.view_is)
    (serves_file _ _ c.requires.serves c.requires.file)

pub has_room-room-requires-clause-most : goal.has_room-room-requires-clause-most
has_room-room-requires-clause-most g c =
    let old : c.size-old.result ≡ length (slice_index_or c.args.self.now.holdings c.args.e.now.object holds_nothing).first = c.size-old.ensures
    ∙ ap (λ (v : Parts). length (slice_index_or v.holdings c.args.e.now.object holds_nothing).first) c.self.view_is in
    subst (λ (k : ℕ). k ≤ 1048576) (sym c.length_then-len.ensures) (then_low _ _ _ (subst (λ (k : ℕ). k ≤ 1048576) (sym old) c.requires.serves.short)
    (ends_at _ _ (sym c.is_too_big.ensures ∙ c.if-is_too_big.false)))

pub returns : goal.returns
returns g c = told_file_write g.R.Others.rest _ c.args.who.now _ _ _ _ c.requires.serves c.requires.file (sym c.is_too_big.ensures ∙ c.if-is_too_big.false)
    (c.size-old.ensures ∙ ap (λ (v : Parts). length (slice_index_or v.holdings c.args.e.now.object holds_nothing).first) c.self.view_is)
    (c.has_room-room.ensures ∙ (λ i. has_room c.args.e.now.object (c.length_then-len.ensures i) (c.self.view_is i)))
