use Rattle.std.{proofs.Common.{◌≡◌, true, ◌-◌, ap, sym, subst, ◌∙◌}, specs.Result.is_ok}
use Rattle.ix_image.{specs.{Reading.links_at, Meant.links_read}, proofs.Walking.{none_read, no_fault, one_less, splits}}
use Rattle.ix_image.proofs.naming.Links.split_first.Goals as goal

pub returns-then-self-eq0 : goal.returns-then-self-eq0
returns-then-self-eq0 c = ap (λ n. links_read (links_at n c.args.self.now.text.now)) c.if-self-eq0.true ∙ none_read _

pub unreachable-requires : goal.unreachable-requires
unreachable-requires c =
    no_fault (c.args.self.now.count - 1) _ _ (subst (λ n. is_ok (links_at n c.args.self.now.text.now) ≡ true) (sym (one_less _ c.if-self-eq0.false)) c.args.self.now.readable) c.in_default.ensures

pub invariant_of-rest : goal.invariant_of-rest
invariant_of-rest c =
    record { readable = (splits _ _ _ _ (subst (λ n. is_ok (links_at n c.args.self.now.text.now) ≡ true) (sym (one_less _ c.if-self-eq0.false)) c.args.self.now.readable) c.in-Ok.ensures).readable }

pub returns : goal.returns
returns c =
    let some = one_less _ c.if-self-eq0.false in
    ap (λ n. links_read (links_at n c.args.self.now.text.now)) (sym some)
    ∙ (splits _ _ _ _ (subst (λ n. is_ok (links_at n c.args.self.now.text.now) ≡ true) (sym some) c.args.self.now.readable) c.in-Ok.ensures).links
