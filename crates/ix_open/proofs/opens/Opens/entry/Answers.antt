use Rattle.std.proofs.Common.{◌≡◌, ℕ, Option, Some, is_some, sym, ap, ◌∙◌, List}
use Rattle.ix_model.specs.world.World.{at}
use Rattle.ix_open.proofs.{Viewed.{key_there, opens_at, offset_at, owners_at}, Indexed.at_seen_key}
use Rattle.ix_open.proofs.opens.Opens.entry.Goals as goal

pub key_of-requires : goal.key_of-requires
key_of-requires c = ap (λ (t : List (Option ℕ)). is_some (at t c.args.id)) c.as_slice.ensures.value ∙ key_there c.self.inside.entries c.self.inside.keys.items _ _ c.self.view_is c.args.id c.requires

pub returns-clause-open : goal.returns-clause-open
returns-clause-open c =
    let key : at c.self.inside.keys.items c.args.id ≡ Some c.key_of.result = ap (λ (t : List (Option ℕ)). at t c.args.id) (sym c.as_slice.ensures.value)
    ∙ c.key_of.ensures in opens_at c.self.inside.entries c.self.inside.keys.items _ _ c.self.view_is c.args.id c.key_of.result _ key c.index.ensures

pub returns-clause-offset : goal.returns-clause-offset
returns-clause-offset c =
    let key : at c.self.inside.keys.items c.args.id ≡ Some c.key_of.result = ap (λ (t : List (Option ℕ)). at t c.args.id) (sym c.as_slice.ensures.value)
    ∙ c.key_of.ensures in offset_at c.self.inside.entries c.self.inside.keys.items _ _ c.self.view_is c.args.id c.key_of.result _ key c.index.ensures

pub returns-clause-owners : goal.returns-clause-owners
returns-clause-owners c =
    let key : at c.self.inside.keys.items c.args.id ≡ Some c.key_of.result = ap (λ (t : List (Option ℕ)). at t c.args.id) (sym c.as_slice.ensures.value)
    ∙ c.key_of.ensures in owners_at c.self.inside.entries c.self.inside.keys.items _ _ c.self.view_is c.args.id c.key_of.result _ key c.index.ensures

pub returns-clause-owned : goal.returns-clause-owned
returns-clause-owned c =
    let key : at c.self.inside.keys.items c.args.id ≡ Some c.key_of.result = ap (λ (t : List (Option ℕ)). at t c.args.id) (sym c.as_slice.ensures.value)
    ∙ c.key_of.ensures in c.self.invariant.1.1.owned c.args.id _ (at_seen_key c.self.inside.entries c.self.inside.keys.items c.args.id c.key_of.result _ key
    c.index.ensures)
