use Rattle.std.proofs.{Common.{◌∙◌, sym, ap, subst}, lemmas.Result.err_from_is_err_and}
use Rattle.ix_model.specs.rows.{Outcomes.Pass}
use Rattle.ix_model.specs.declared.reply.Reply.TheVariants as reply
use Rattle.ix_fcalls.specs.{Around.{frame_of}, Counted.IsCounted}
use Rattle.ix_fcalls.proofs.{Marking.counted_marked, ReadRow.{floats_none, floats_in, read_refused, read_waits, read_passes}}
use Rattle.ix_fcalls.proofs.files.Files.read_fd.Goals as goal

pub returns-in_err-observe-clause-row : goal.returns-in_err-observe-clause-row
returns-in_err-observe-clause-row g c =
    let p = err_from_is_err_and c.from_residual-in_err-observe.result c.from_residual-in_err-observe.ensures.1 in
    rw (p.1, p.2) (read_refused _ _ _ _ _ _ _ c.in_ok-e.ensures.passed _ _ _ c.join-seen.ensures.join c.in_err-observe.ensures.row)

pub returns-then-has_to_wait-clause-row : goal.returns-then-has_to_wait-clause-row
returns-then-has_to_wait-clause-row g c =
    read_waits _ _ _ _ _ _ _ c.in_ok-e.ensures.passed _ _ c.join-seen.ensures.join c.in_ok-observe.ensures.row (sym c.has_to_wait.ensures ∙ c.if-has_to_wait.true)

pub returns-then-is_pipe-clause-row : goal.returns-then-is_pipe-clause-row
returns-then-is_pipe-clause-row g c =
    read_passes _ _ _ _ _ _ _ c.in_ok-e.ensures.passed _ _ c.join-seen.ensures.join c.in_ok-observe.ensures.row _ _
    (sym c.has_to_wait.ensures ∙ c.if-has_to_wait.false) c.caller.ensures.living (floats_none _ _ _ _ (sym c.is_pipe.ensures ∙ c.if-is_pipe.true))

pub returns-clause-row : goal.returns-clause-row
returns-clause-row g c =
    read_passes _ _ _ _ _ _ _ c.in_ok-e.ensures.passed _ _ c.join-seen.ensures.join c.in_ok-observe.ensures.row _ _
    (sym c.has_to_wait.ensures ∙ c.if-has_to_wait.false) c.caller.ensures.living (floats_in _ _ _ _ (sym c.is_pipe.ensures ∙ c.if-is_pipe.false))
    ∙ ap (λ v. Pass (reply.Bytes 0) (frame_of g.R.Others.rest v c.observe.new.who)) (sym c.float_entry.ensures)

pub returns-clause-counted : goal.returns-clause-counted
returns-clause-counted g c = subst (λ v. IsCounted v c.observe.new.who) (sym c.float_entry.ensures) (counted_marked _ _ _ _ c.observe.ensures.counted)
