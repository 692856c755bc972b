use Rattle.std.proofs.{Common.{◌∙◌, sym, ap, subst, option_map}, lemmas.Bool.{lt-leb, le-leb}}
use Rattle.ix_model.specs.{rows.Outcomes.Pass, world.World.at}
use Rattle.ix_tables.specs.Parts.{Parts}
use Rattle.ix_fcalls.{specs.{Around.{frame_of, process_of}, Counted.IsCounted, Views.behind_of}, proofs.{Marking.counted_marked, SeekSteps.{seek_pipe, seek_past, seek_passed}}}
use Rattle.ix_model.specs.declared.reply.Reply.TheVariants as reply
use Rattle.ix_fcalls.proofs.files.Files.seek_fd.Goals as goal

pub returns-then-is_pipe-clause-row : goal.returns-then-is_pipe-clause-row
returns-then-is_pipe-clause-row g c = seek_pipe _ _ _ _ _ _ (sym c.behind.ensures.behind ∙ ap (option_map behind_of) c.in_ok-e.ensures.ok_part)
    (ap (λ (v : Parts). at v.objects c.in_ok-e.e.object) (sym c.self.view_is) ∙ c.in-Some.ensures.object) (sym c.is_pipe.ensures ∙ c.if-is_pipe.true)

pub returns-then-offset-gt1048576-clause-row : goal.returns-then-offset-gt1048576-clause-row
returns-then-offset-gt1048576-clause-row g c = seek_past _ _ _ _ _ _ (sym c.behind.ensures.behind ∙ ap (option_map behind_of) c.in_ok-e.ensures.ok_part)
    (ap (λ (v : Parts). at v.objects c.in_ok-e.e.object) (sym c.self.view_is) ∙ c.in-Some.ensures.object)
    (sym c.is_pipe.ensures ∙ c.if-is_pipe.false) (lt-leb c.args.offset 1048576 c.if-offset-gt1048576.true)

pub returns-clause-row : goal.returns-clause-row
returns-clause-row g c =
    seek_passed _ _ _ _ _ _ (sym c.behind.ensures.behind ∙ ap (option_map behind_of) c.in_ok-e.ensures.ok_part)
    (ap (λ (v : Parts). at v.objects c.in_ok-e.e.object) (sym c.self.view_is) ∙ c.in-Some.ensures.object)
    (process_of g.R.Others.rest c.caller.result.now) (sym c.is_pipe.ensures ∙ c.if-is_pipe.false) (le-leb c.args.offset 1048576 c.if-offset-gt1048576.false) c.caller.ensures.living
    ∙ ap (λ (v : Parts). Pass reply.Done (frame_of g.R.Others.rest v c.args.who.now)) (sym c.float_entry.ensures)

pub returns-clause-counted : goal.returns-clause-counted
returns-clause-counted g c = subst (λ v. IsCounted v c.args.who.now) (sym c.float_entry.ensures) (counted_marked _ _ _ _ c.requires.counted)
