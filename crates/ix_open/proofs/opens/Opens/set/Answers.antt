use Rattle.std.proofs.Common.{◌≡◌, ℕ, Option, Some, is_some, sym, ap, ◌∙◌, List}
use Rattle.ix_model.specs.world.World.{at}
use Rattle.ix_open.proofs.{Viewed.{key_there, entry_edited, counted_edited, on_some}, Indexed.index_edited}
use Rattle.ix_open.proofs.opens.Opens.set.Goals as goal

pub key_of-key-requires : goal.key_of-key-requires
key_of-key-requires c = ap (λ (t : List (Option ℕ)). is_some (at t c.args.id)) c.as_slice.ensures.value
    ∙ key_there c.self.inside.entries c.self.inside.keys.items _ _ c.self.view_is c.args.id (on_some _ _ _ c.requires.there)

pub invariant_of-self : goal.invariant_of-self
invariant_of-self c =
    let key : at c.self.inside.keys.items c.args.id ≡ Some c.key_of-key.result = ap (λ (t : List (Option ℕ)). at t c.args.id) (sym c.as_slice.ensures.value) ∙ c.key_of-key.ensures in (
      index_edited c.self.inside.entries c.self.inside.keys.items c.self.invariant.0 c.args.id c.key_of-key.result c.args.entry key (ap is_some c.index_mut.ensures.value),
      (
        c.self.invariant.1.0,
        counted_edited c.self.inside.entries c.self.inside.keys.items _ _ c.self.view_is _ c.self.invariant.1.1 c.self.invariant.0 c.args.id c.key_of-key.result
            c.args.entry _ key c.index_mut.ensures.value c.requires.there c.requires.owned,
      ),
    )

pub returns : goal.returns
returns c =
    let key : at c.self.inside.keys.items c.args.id ≡ Some c.key_of-key.result = ap (λ (t : List (Option ℕ)). at t c.args.id) (sym c.as_slice.ensures.value) ∙ c.key_of-key.ensures in
    entry_edited c.self.inside.entries c.self.inside.keys.items _ _ c.self.view_is c.self.invariant.0 c.args.id c.key_of-key.result c.args.entry key (ap is_some c.index_mut.ensures.value)
