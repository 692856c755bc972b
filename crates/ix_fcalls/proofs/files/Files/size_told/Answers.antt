use Rattle.std.{proofs.Common.{◌≡◌, ◌∙◌, sym, ap, subst, true, false, length, slice_index_or}, specs.Option.option_map_or}
use Rattle.ix_model.specs.{world.{World.{at, is_file}, Contents.holds_nothing}, declared.reply.Kind.Kind}
use Rattle.ix_tables.specs.Parts.{Parts}
use Rattle.ix_fcalls.{specs.Telling.{FileThere, size_told}, proofs.LookSteps.unsized_kind}
use Rattle.ix_fcalls.proofs.files.Files.size_told.Goals as goal

pub size-requires : goal.size-requires
size-requires c = subst (λ (v : Parts). option_map_or is_file (at v.objects c.args.obj.0) false ≡ true) (sym c.self.view_is)
    (subst (λ (k : Kind). FileThere c.args.self.now.objects c.args.obj.0 k) c.in-File.is c.requires)

pub returns-in-File : goal.returns-in-File
returns-in-File c = c.size.ensures ∙ ap (λ (v : Parts). length (slice_index_or v.holdings c.args.obj.0 holds_nothing).first) c.self.view_is
    ∙ ap (λ (k : Kind). size_told c.args.self.now.holdings c.args.obj.0 k c.args.size) (sym c.in-File.is)

pub returns-in_default : goal.returns-in_default
returns-in_default c = unsized_kind c.args.self.now.holdings c.args.obj.0 _ _ c.in_default.not-File
