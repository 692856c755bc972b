use Rattle.std.proofs.Common.{◌≡◌, ◌∙◌, sym, subst, true, length, slice_index_or}
use Rattle.ix_model.specs.{world.{World.is_pipe, Contents.{holds_nothing, side}}, rows.Walks.node}
use Rattle.ix_fcalls.{proofs.{Serving.serves_pipe, Lengths.{told_write_pipe, told_write_file}}}
use Rattle.ix_fcalls.proofs.files.Files.told_of_write.Goals as goal

pub left-there-requires-clause-pipe : goal.left-there-requires-clause-pipe
left-there-requires-clause-pipe g c = subst (λ v. is_pipe (node v.objects c.args.e.now.object) ≡ true) (sym c.self.view_is)
    (serves_pipe _ _ c.requires (sym c.is_on_pipe.ensures ∙ c.if-is_on_pipe.true))

pub returns-then-is_on_pipe : goal.returns-then-is_on_pipe
returns-then-is_on_pipe g c = told_write_pipe g.R.Others.rest c.args.self.now _ c.args.e.now _ _ _ (sym c.is_on_pipe.ensures ∙ c.if-is_on_pipe.true)
    (c.left-there.ensures.left ∙ (λ i. length (side (c.saturating_sub-other.ensures i) (slice_index_or (c.self.view_is i).holdings c.args.e.now.object holds_nothing))))
    c.told_of_pipe_write.ensures

pub told_of_file_write-requires-clause-file : goal.told_of_file_write-requires-clause-file
told_of_file_write-requires-clause-file g c = sym c.is_on_pipe.ensures ∙ c.if-is_on_pipe.false

pub returns : goal.returns
returns g c = told_write_file g.R.Others.rest c.args.self.now _ c.args.e.now _ _ (sym c.is_on_pipe.ensures ∙ c.if-is_on_pipe.false) c.told_of_file_write.ensures
