use Rattle.std.proofs.Common.{◌≡◌, List, [], ◌∷◌, ◌++◌, sym, ap, ◌∙◌, arith}
use Rattle.ix_script.specs.{lines.{Before.form_told, Roles.role_of}, scripts.{Need.cost_of_line, Packed.with_line}, declared.line.Line.Line}
use Rattle.ix_script.proofs.{reader.{Commands.on_ok, Counting.few_commands, Keeping.{few_names, few_objects}, Packing.right_line}, lines.Deciding.none_there}
use Rattle.ix_script.proofs.draft.Draft.add.Goals as goal

pub add-requires-clause-objects : goal.add-requires-clause-objects
add-requires-clause-objects c = omega (arith, c.requires.grows.told.header.objects, few_objects c.args.self.now.lines.said, c.requires.grows.few)

pub add-requires-clause-procs : goal.add-requires-clause-procs
add-requires-clause-procs c = omega (arith, c.requires.grows.told.header.proc_count, few_names c.args.self.now.lines.said, c.requires.grows.few)

pub add-requires-2 : goal.add-requires-2
add-requires-2 c = omega (arith, c.requires.grows.told.body.commands, few_commands c.args.self.now.lines.said, c.requires.grows.few)

pub push-requires-clause-faultless : goal.push-requires-clause-faultless
push-requires-clause-faultless c = (right_line _ _ c.args.text.now c.form_with-form.ensures c.requires.right).0

pub push-requires-clause-form : goal.push-requires-clause-form
push-requires-clause-form c =
    ap (λ (l : Line). form_told (c.args.self.now.lines.said ++ l ∷ [])) (right_line _ _ c.args.text.now c.form_with-form.ensures c.requires.right).1 ∙ sym c.form_with-form.ensures

pub push-requires-clause-role : goal.push-requires-clause-role
push-requires-clause-role c = ap role_of (right_line _ _ c.args.text.now c.form_with-form.ensures c.requires.right).1 ∙ sym c.role_of.ensures

pub push-requires-clause-cost : goal.push-requires-clause-cost
push-requires-clause-cost c = ap cost_of_line (right_line _ _ c.args.text.now c.form_with-form.ensures c.requires.right).1 ∙ sym c.cost_of_line.ensures

pub returns-clause-lines : goal.returns-clause-lines
returns-clause-lines c =
    let is = (right_line _ _ c.args.text.now c.form_with-form.ensures c.requires.right).1 in
    on_ok c.push.result (λ pushed. pushed ∙ ap (λ (l : Line). with_line c.args.self.now.lines l c.args.text.now) is) c.push.ensures

pub returns-clause-told : goal.returns-clause-told
returns-clause-told c =
    let before : List Line = c.args.self.now.lines.said in
    let is = (right_line _ _ c.args.text.now c.form_with-form.ensures c.requires.right).1 in
    on_ok c.push.result (λ pushed.
    let lines : c.push.new.self ≡ with_line c.args.self.now.lines c.args.line.now c.args.text.now = pushed ∙ ap (λ (l : Line). with_line c.args.self.now.lines l c.args.text.now) is in
    rw lines record {
      header = c.in_ok-add.ensures before (none_there c.len-first.result before c.len-first.ensures) c.requires.grows.told.header c.requires.grows.valid c.requires.right.fits;
      body = c.in_ok-add-2.ensures before c.requires.grows.told.body;
    }) c.push.ensures
