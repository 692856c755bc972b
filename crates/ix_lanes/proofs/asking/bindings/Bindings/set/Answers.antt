use Rattle.std.{proofs.Common.{◌≡◌, ◌++◌, ◌∷◌, [], if◌then◌else◌, false, true, is_ok, is_some, not, sym, ap, ◌∙◌, subst}, specs.{FinMap.contains_key, List.list_any}}
use Rattle.ix_lanes.proofs.found.{Near.{is_of, map-far, map-pushed, new_name}, Oks.from_ok}
use Rattle.ix_lanes.proofs.asking.bindings.Bindings.set.Goals as goal

pub returns-then-len-lt-NEAR-clause-ok : goal.returns-then-len-lt-NEAR-clause-ok
returns-then-len-lt-NEAR-clause-ok g c =
    let i = c.self.inside in
    let name = c.args.name.now in
    let none : list_any (is_of name) i.near.items ≡ false = new_name name i.near.items i.numbers.entries
    (subst (λ m. contains_key m name ≡ false) (sym c.self.view_is) (sym (c.is_some.ensures ∙ ap is_some c.get.ensures) ∙ c.if-is_some.false)) in
    let went : is_ok c.push.result ≡ true = c.is_err.ensures.negation ∙ ap not c.if-is_err.false in
    rw (← c.self.view_is) (map-pushed c.in-Ok.bytes name c.args.number i.near.items c.push.new.self.items i.numbers.entries none (c.in-Ok.ensures.items ∙ c.as_bytes.ensures.bytes)
    (c.push.ensures.items ∙ ap (λ b. if b then i.near.items ++ (c.in-Ok.bytes, c.args.number) ∷ [] else i.near.items) went))

pub returns-clause-ok : goal.returns-clause-ok
returns-clause-ok g c =
    let i = c.self.inside in
    let name = c.args.name.now in
    let none : list_any (is_of name) i.near.items ≡ false = new_name name i.near.items i.numbers.entries
    (subst (λ m. contains_key m name ≡ false) (sym c.self.view_is) (sym (c.is_some.ensures ∙ ap is_some c.get.ensures) ∙ c.if-is_some.false)) in
    let went : is_ok c.insert.result ≡ true = c.is_err-2.ensures.negation ∙ ap not c.if-is_err-2.false in
    rw (← c.self.view_is) (map-far c.in-Ok.bytes name c.args.number i.near.items i.numbers.entries c.insert.new.self.entries none (c.in-Ok.ensures.items ∙ c.as_bytes.ensures.bytes)
    (from_ok c.insert.result went c.insert.ensures.entries))
