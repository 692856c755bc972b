use Rattle.std.{proofs.{Common.{◌++◌, ◌∙◌, ap, codes}, lemmas.Result.on_ok_weaker}, specs.Fmt.decimal}
use Rattle.ix_flow.proofs.LineTexts.{line_of_file, line_of_write}
use Rattle.ix_flow.proofs.lines.push_piece.Goals as goal

pub returns-in_ok-push_number-in-Write-2-clause-text : goal.returns-in_ok-push_number-in-Write-2-clause-text
returns-in_ok-push_number-in-Write-2-clause-text c = λ h label falls.
    on_ok_weaker _
    (line_of_write h _ _ _ _ _ c.in_ok-push_number.ensures.text c.in_ok-push_number-2.ensures.text c.in_ok-push_number-3.ensures.text _ _ _ _ _ _ c.get.ensures
    _ _ c.in-Write.is label (c.first.ensures.first h falls)
    c.in_ok-push-in-Write.ensures.text c.in_ok-push_number-in-Write.ensures.text (c.in_ok-push_number-in-Write-2.ensures.text
    ∙ ap (λ n. c.push_number-in-Write.new.out.items ++ (decimal n ++ codes " ")) c.saturating_sub.ensures)) c.push_under.ensures.text

pub returns-in_ok-push_number-in-File-2-clause-text : goal.returns-in_ok-push_number-in-File-2-clause-text
returns-in_ok-push_number-in-File-2-clause-text c = λ h label falls.
    on_ok_weaker _
    (line_of_file h _ _ _ _ _ c.in_ok-push_number.ensures.text c.in_ok-push_number-2.ensures.text c.in_ok-push_number-3.ensures.text _ _ _ _ _ _ c.get-in-File.ensures
    _ c.in-File.is label (c.first-in-File.ensures.first h falls)
    c.in_ok-push-in-File.ensures.text c.in_ok-push_number-in-File.ensures.text c.in_ok-push_number-in-File-2.ensures.text) c.push_under-in-File.ensures.text
