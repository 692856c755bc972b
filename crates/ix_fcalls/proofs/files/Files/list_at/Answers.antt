use Rattle.std.proofs.Common.{◌∙◌, sym, ap, slice_get, arith}
use Rattle.ix_model.specs.{world.{World.{Object, is_dir}}, rows.Walks.{node, nothing}, declared.reply.Kind.Kind}
use Rattle.ix_tables.specs.{Parts.Parts, Views.object_by}
use Rattle.ix_fcalls.{proofs.Chaining.{list_ends, list_is}}
use Rattle.ix_fcalls.proofs.files.Files.list_at.Goals as goal

pub returns-in_default-name_at-clause-row : goal.returns-in_default-name_at-clause-row
returns-in_default-name_at-clause-row g c =
    let x : Object = object_by (node c.args.self.now.objects c.in_ok-object.object) c.in_ok-object.x in
    list_ends _ _ _ _ _ _ _ x c.in_ok-object.ensures.row c.in_ok-object.ensures.object (ap (λ (k : Kind). is_dir (record nothing { kind = k })) c.in-Dir.is) c.in_ok-observe.ensures.row
    (ap (λ (v : Parts). slice_get (node v.objects c.in_ok-object.object).names c.args.index) (sym c.self.view_is) ∙ sym c.name_at.ensures ∙ c.in_default-name_at.is)

pub returns-clause-row : goal.returns-clause-row
returns-clause-row g c =
    let x : Object = object_by (node c.args.self.now.objects c.in_ok-object.object) c.in_ok-object.x in
    let whole = list_is _ _ _ _ _ _ _ x _ c.in_ok-object.ensures.row c.in_ok-object.ensures.object (ap (λ (k : Kind). is_dir (record nothing { kind = k })) c.in-Dir.is)
    c.in_ok-observe.ensures.row
    (ap (λ (v : Parts). slice_get (node v.objects c.in_ok-object.object).names c.args.index) (sym c.self.view_is) ∙ sym c.name_at.ensures ∙ c.in-Some.is) in
    grind (arith, whole, c.in-Some.name-is, c.in-Some.obj-is)
