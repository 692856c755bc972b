use Rattle.std.{proofs.Common.{◌≡◌, ◌∙◌, sym, ap, subst, true, false, length, slice_index_or}, specs.Option.option_map_or}
use Rattle.ix_model.specs.{world.{World.{at, is_pipe, is_file}, Contents.{holds_nothing, side}}, rows.Walks.node}
use Rattle.ix_tables.specs.Parts.{Parts}
use Rattle.ix_fcalls.proofs.{Serving.{serves_pipe, serves_file}, Lengths.{told_read_pipe, told_read_file}}
use Rattle.ix_fcalls.proofs.files.Files.told_of_read.Goals as goal

pub left-there-requires-clause-pipe : goal.left-there-requires-clause-pipe
left-there-requires-clause-pipe g c = subst (λ v. is_pipe (node v.objects c.args.e.now.object) ≡ true) (sym c.self.view_is)
    (serves_pipe _ _ c.requires (sym c.is_on_pipe.ensures ∙ c.if-is_on_pipe.true))

pub left-there-requires-clause-end : goal.left-there-requires-clause-end
left-there-requires-clause-end g c = c.requires.end

pub returns-then-is_on_pipe : goal.returns-then-is_on_pipe
returns-then-is_on_pipe g c = told_read_pipe g.R.Others.rest c.args.self.now _ c.args.e.now _ (sym c.is_on_pipe.ensures ∙ c.if-is_on_pipe.true)
    (c.left-there.ensures.left ∙ ap (λ (v : Parts). length (side c.args.e.now.end (slice_index_or v.holdings c.args.e.now.object holds_nothing))) c.self.view_is)

pub size-held-requires : goal.size-held-requires
size-held-requires g c = subst (λ (v : Parts). option_map_or is_file (at v.objects c.args.e.now.object) false ≡ true) (sym c.self.view_is)
    (serves_file _ _ c.requires (sym c.is_on_pipe.ensures ∙ c.if-is_on_pipe.false))

pub returns : goal.returns
returns g c = told_read_file g.R.Others.rest _ _ _ _ c.requires (sym c.is_on_pipe.ensures ∙ c.if-is_on_pipe.false)
    (c.size-held.ensures ∙ ap (λ (v : Parts). length (slice_index_or v.holdings c.args.e.now.object holds_nothing).first) c.self.view_is)
