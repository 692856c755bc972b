use Rattle.std.proofs.Common.{◌∙◌, ap, length}
use Rattle.ix_model.specs.world.Contents.{held_at, side}
use Rattle.ix_tables.specs.Parts.{Parts}
use Rattle.ix_fcalls.proofs.Sizes.{size_nothing, size_of_file, size_of_pipe, no_size_of_file, no_size_of_pipe, no_size_of_dir}
use Rattle.ix_fcalls.proofs.files.Files.size.Goals as goal

pub returns-in_err-kind : goal.returns-in_err-kind
returns-in_err-kind c = c.from_residual.ensures ∙ size_nothing _ _ _ c.in_err-kind.ensures.object

pub returns-in-File : goal.returns-in-File
returns-in-File c = size_of_file _ _ _ c.in_ok-kind.field-0 _ c.in_ok-kind.ensures.object c.in-File.is c.if-end-eq0.true
    (c.size.ensures ∙ ap (λ (t : Parts). length (held_at t.holdings c.args.obj.0).first) c.self.view_is)

pub returns-in-Pipe : goal.returns-in-Pipe
returns-in-Pipe c = size_of_pipe _ _ _ c.in_ok-kind.field-0 _ c.in_ok-kind.ensures.object c.in-Pipe.is c.if-end-lt2.true
    (c.from.ensures ∙ c.left.ensures.left ∙ ap (λ (t : Parts). length (side c.args.end (held_at t.holdings c.args.obj.0))) c.self.view_is)

pub returns-in_default : goal.returns-in_default
returns-in_default c = no_size_of_file _ _ _ c.in_ok-kind.field-0 c.in_ok-kind.ensures.object c.in-File.is c.if-end-eq0.false

pub returns-in_default-2 : goal.returns-in_default-2
returns-in_default-2 c = no_size_of_pipe _ _ _ c.in_ok-kind.field-0 c.in_ok-kind.ensures.object c.in-Pipe.is c.if-end-lt2.false

pub returns-in_default-3 : goal.returns-in_default-3
returns-in_default-3 c = no_size_of_dir _ _ _ c.in_ok-kind.field-0 c.in_ok-kind.ensures.object c.in_default.is
