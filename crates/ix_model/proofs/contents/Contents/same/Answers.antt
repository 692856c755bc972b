use Rattle.std.proofs.Common.{◌≡◌, ◌&&◌, nat_eq, length, sym, ap, ◌∙◌, arith}
use Rattle.ix_model.{specs.world.Naming.same_bytes, proofs.{texts.Runs.{differ, by_byte}, contents.Contents.same.Goals.{then-eq, else-eq}}}
use Rattle.ix_model.proofs.contents.Contents.same.Goals as goal

pub returns-else-self-eq0 : goal.returns-else-self-eq0
returns-else-self-eq0 c =
    let a = c.self.inside in
    let b = c.other.inside in
    let even : length a.said.items ≡ length b.said.items = omega (arith, c.if-len.true, c.len.ensures, c.len-2.ensures) in
    let texts : c.eq.result ≡ same_bytes a.said.items b.said.items = c.eq.ensures ∙ (λ i. same_bytes (c.as_slice.ensures.value i) (c.as_slice-then-len.ensures.value i)) in
    let test : c.if-eq.value ≡ (same_bytes a.said.items b.said.items && nat_eq a.times b.times) = elim c.if-eq.branch [
      | then-eq w ↦ w.value-is ∙ ap (λ e. e && nat_eq a.times b.times) (sym w.if-eq.true ∙ texts)
      | else-eq w ↦ w.value-is ∙ w.if-eq.false ∙ ap (λ e. e && nat_eq a.times b.times) (sym w.if-eq.false ∙ texts)
    ] in
    by_byte a.said.items b.said.items c.args.self.now c.args.other.now a.times b.times a.byte b.byte c.self.view_is c.other.view_is even c.if-eq.value test
    c.if-self-other.true c.if-self-eq0.false

pub returns-else-self-other : goal.returns-else-self-other
returns-else-self-other c =
    let a = c.self.inside in
    let b = c.other.inside in
    let even : length a.said.items ≡ length b.said.items = omega (arith, c.if-len.true, c.len.ensures, c.len-2.ensures) in
    let texts : c.eq.result ≡ same_bytes a.said.items b.said.items = c.eq.ensures ∙ (λ i. same_bytes (c.as_slice.ensures.value i) (c.as_slice-then-len.ensures.value i)) in
    let test : c.if-eq.value ≡ (same_bytes a.said.items b.said.items && nat_eq a.times b.times) = elim c.if-eq.branch [
      | then-eq w ↦ w.value-is ∙ ap (λ e. e && nat_eq a.times b.times) (sym w.if-eq.true ∙ texts)
      | else-eq w ↦ w.value-is ∙ w.if-eq.false ∙ ap (λ e. e && nat_eq a.times b.times) (sym w.if-eq.false ∙ texts)
    ] in
    differ a.said.items b.said.items c.args.self.now c.args.other.now a.times b.times a.byte b.byte c.self.view_is c.other.view_is even c.if-eq.value test
    c.if-self-other.false
