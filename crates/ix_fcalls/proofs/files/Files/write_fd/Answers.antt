use Rattle.std.proofs.{Common.{◌∙◌, sym, ap}, lemmas.Result.err_from_is_err_and}
use Rattle.ix_model.specs.rows.{Outcomes.Pass}
use Rattle.ix_fcalls.{specs.{Around.{frame_of}}, proofs.{ReadRow.{floats_none, floats_in}, WriteRow.{write_refused, write_passes}}}
use Rattle.ix_model.specs.declared.reply.Reply.TheVariants as reply
use Rattle.ix_fcalls.proofs.files.Files.write_fd.Goals as goal

pub returns-in_err-affect-clause-row : goal.returns-in_err-affect-clause-row
returns-in_err-affect-clause-row g c =
    let p = err_from_is_err_and c.from_residual-in_err-affect.result c.from_residual-in_err-affect.ensures.1 in
    rw (p.1, p.2) (write_refused _ _ _ _ _ _ c.in_ok-e.ensures.passed _ c.caller.ensures.living _ _ c.in_err-affect.ensures.row)

pub returns-then-is_pipe-clause-row : goal.returns-then-is_pipe-clause-row
returns-then-is_pipe-clause-row g c =
    write_passes _ _ _ _ _ _ c.in_ok-e.ensures.passed _ c.caller.ensures.living _ _ c.in_ok-affect.ensures.row (floats_none _ _ _ _ (sym c.is_pipe.ensures ∙ c.if-is_pipe.true))

pub returns-clause-row : goal.returns-clause-row
returns-clause-row g c =
    write_passes _ _ _ _ _ _ c.in_ok-e.ensures.passed _ c.caller.ensures.living _ _ c.in_ok-affect.ensures.row (floats_in _ _ _ _ (sym c.is_pipe.ensures ∙ c.if-is_pipe.false))
    ∙ ap (λ v. Pass (reply.Number 0) (frame_of g.R.Others.rest v c.args.who.now)) (sym c.float_entry.ensures)
