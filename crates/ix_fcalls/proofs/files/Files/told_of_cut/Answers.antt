use Rattle.std.{proofs.Common.{◌≡◌, ◌∙◌, sym, ap, subst, true, false}, specs.Option.option_map_or}
use Rattle.ix_model.specs.world.World.{at, is_file}
use Rattle.ix_tables.specs.{Parts.Parts, Views.has_room}
use Rattle.ix_fcalls.proofs.{Serving.serves_file, Lengths.told_cut}
use Rattle.ix_fcalls.proofs.files.Files.told_of_cut.Goals as goal

pub has_room-room-requires-clause-file : goal.has_room-room-requires-clause-file
has_room-room-requires-clause-file g c = subst (λ (v : Parts). option_map_or is_file (at v.objects c.args.e.now.object) false ≡ true) (sym c.self.view_is)
    (serves_file _ _ c.requires.serves c.requires.file)

pub returns : goal.returns
returns g c = told_cut g.R.Others.rest c.args.self.now _ c.args.e.now _ _ (c.has_room-room.ensures ∙ ap (λ (v : Parts). has_room c.args.e.now.object c.args.len v) c.self.view_is)
