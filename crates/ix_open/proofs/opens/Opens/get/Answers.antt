use Rattle.std.proofs.Common.{ℕ, Option, ap, ◌∙◌, List}
use Rattle.ix_model.specs.world.World.{at}
use Rattle.ix_open.{specs.Indexed.entry_in, proofs.Viewed.{entry_shown, end_shown}}
use Rattle.ix_open.proofs.opens.Opens.get.Goals as goal

pub returns-clause-entry : goal.returns-clause-entry
returns-clause-entry c = c.entry_at.ensures ∙ ap (λ (t : List (Option ℕ)). entry_in c.self.inside.entries (at t c.args.id)) c.as_slice.ensures.value
    ∙ entry_shown c.self.inside.entries c.self.inside.keys.items _ _ c.self.view_is c.args.id

pub returns-clause-end : goal.returns-clause-end
returns-clause-end c = end_shown c.self.inside.entries c.self.inside.keys.items _ _ c.self.view_is _ c.self.invariant.1.1 c.args.id c.entry_at.result
    (c.entry_at.ensures ∙ ap (λ (t : List (Option ℕ)). entry_in c.self.inside.entries (at t c.args.id)) c.as_slice.ensures.value)
