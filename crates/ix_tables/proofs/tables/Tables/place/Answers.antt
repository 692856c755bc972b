use Rattle.std.proofs.Common.{◌≡◌, ◌-◌, length, slice_get, Some, option_map, ap, sym, ◌∙◌}
use Rattle.ix_model.specs.world.{Naming.PathOf, NameRefs.name_of}
use Rattle.ix_tables.proofs.OpeningLines.{name_at, empty_line, made_empty, filled_line, bare_line, room_for_line}
use Rattle.ix_tables.proofs.tables.Tables.place.Goals.{After-set_as_said}
use Rattle.ix_tables.proofs.tables.Tables.place.Goals as goal

empty : (c : After-set_as_said) → c.set_as_said.new.self ≡ empty_line c.args.spec.now c.args.dir c.args.fs c.args.n c.args.self.now c.requires
empty c =
    let names = c.args.spec.now.path.names in
    let at : slice_get names (length names - 1) ≡ Some (name_of c.in-Some.name) =
    ap (λ (p : PathOf). slice_get p.names (length p.names - 1)) (sym c.as_path.ensures) ∙ sym c.last_name.ensures
    ∙ ap (option_map name_of) c.in-Some.is in
    made_empty _ _ _ _ _ c.requires c.make.new.self _ c.to_name.result c.kind_said.result (c.to_name.ensures
    ∙ name_at names (length names - 1) _ at) c.kind_said.ensures c.make.ensures c.set_as_said.ensures

pub fill-requires-clause-room : goal.fill-requires-clause-room
fill-requires-clause-room c = room_for_line _ _ _ _ _ c.requires _ (empty c.before.before)

pub returns-then-not-spec : goal.returns-then-not-spec
returns-then-not-spec c = filled_line _ _ _ _ _ c.requires _ _ (empty c.before.before.before) c.fill.ensures

pub returns-else-not-spec : goal.returns-else-not-spec
returns-else-not-spec c = bare_line _ _ _ _ _ c.requires _ (empty c.before) c.if-not-spec.false
