use Rattle.std.proofs.Common.{◌≡◌, ℕ, ◌+◌, ◌++◌, ◌∷◌, [], List, length, refl, sym, ap, ◌∙◌, subst, arith}
use Rattle.ix_label.specs.declared.form.Form.{Form}
use Rattle.ix_script.specs.{lines.{Before.form_told, Roles.{IsHeaderEnd, is_header, role_of}}, scripts.Packed.{FrontOf, IsNext, held, line_in}, declared.line.Line.Line}
use Rattle.ix_script.proofs.reader.{Planning.{end_more, end_same, other_role}, Packing.{length-held, one_more}, Summing.{costs_little, need_little, summed_after}}
use Rattle.ix_script.proofs.packed.Lines.push.Goals.{in-Header, in_default}
use Rattle.ix_script.proofs.packed.Lines.push.Goals as goal

pub overflow_add-end : goal.overflow_add-end
overflow_add-end c =
    let next = subst (λ (f : FrontOf). IsNext f c.args.text.now) (sym c.self.view_is) c.requires.next in omega (arith, next.within, c.self.invariant.2)

pub overflow_cast-end : goal.overflow_cast-end
overflow_cast-end c =
    let next = subst (λ (f : FrontOf). IsNext f c.args.text.now) (sym c.self.view_is) c.requires.next in omega (arith, next.within, c.self.invariant.2)

pub overflow_add-self : goal.overflow_add-self
overflow_add-self c =
    let old : Form = c.self.inside.form in
    let text : List ℕ = c.self.inside.text.now in
    let ends : List ℕ = c.self.inside.ends.items in
    omega (
      arith,
      c.self.invariant.0.1.total,
      need_little old 0 text ends c.self.invariant.0.0,
      length-held old 0 text ends,
      ap (λ (f : FrontOf). length f.said) c.self.view_is,
      c.requires.few,
      costs_little c.args.form c.args.text.now c.requires.faultless,
      c.requires.cost,
    )

pub invariant_of-self-2 : goal.invariant_of-self-2
invariant_of-self-2 c =
    let line : Line = line_in c.args.form c.args.text.now in
    let next = subst (λ (f : FrontOf). IsNext f c.args.text.now) (sym c.self.view_is) c.requires.next in
    let is : c.args.form ≡ form_told (held c.self.inside.form 0 c.self.inside.text.now c.self.inside.ends.items ++ line ∷ []) = sym c.requires.form
    ∙ ap (λ (f : FrontOf). form_told (f.said ++ line ∷ [])) (sym c.self.view_is) in
    let after = one_more line c.self.inside.ends.items c.in_ok-push.ensures.items c.self.invariant.1 refl next c.self.invariant.0.2 is c.self.invariant.0.0 in
    let role : c.push-2.new.self.items ≡ c.self.inside.roles.items ++ role_of line ∷ [] = rw (c.in-Ok.ensures.items, c.requires.role) refl in (
      (
        after.lines c.requires.faultless,
        summed_after _ _ line c.self.inside.roles.items _ c.self.inside.need _ after.held_is role (ap (λ (n : ℕ). c.self.inside.need + n) (sym c.requires.cost)) c.self.invariant.0.1,
        is ∙ ap form_told (sym after.held_is),
      ),
      omega (arith, after.begins),
      c.self.invariant.2,
      subst (IsHeaderEnd c.match-role.header) (sym after.held_is) (elim c.match-role.branch [
        | in-Header w ↦ rw (w.header-is, w.len.ensures, ap (λ (f : FrontOf). length f.said) (sym c.self.view_is)) (end_more _ line (ap is_header (c.requires.role ∙ w.in-Header.is)))
        | in_default w ↦ rw w.header-is (end_same _ line _ (ap is_header c.requires.role ∙ other_role _ w.in_default.not-Header) c.self.invariant.3)
      ]),
    )

pub returns : goal.returns
returns c =
    let line : Line = line_in c.args.form c.args.text.now in
    let next = subst (λ (f : FrontOf). IsNext f c.args.text.now) (sym c.self.view_is) c.requires.next in
    let is : c.args.form ≡ form_told (held c.self.inside.form 0 c.self.inside.text.now c.self.inside.ends.items ++ line ∷ []) = sym c.requires.form
    ∙ ap (λ (f : FrontOf). form_told (f.said ++ line ∷ [])) (sym c.self.view_is) in
    let after = one_more line c.self.inside.ends.items c.in_ok-push.ensures.items c.self.invariant.1 refl next c.self.invariant.0.2 is c.self.invariant.0.0 in
    let said = after.held_is ∙ ap (λ (f : FrontOf). f.said ++ line ∷ []) c.self.view_is in
    λ i. record { text = (c.self.view_is i).text; said = said i; at = (c.self.view_is i).at + length c.args.text.now + 1 }
