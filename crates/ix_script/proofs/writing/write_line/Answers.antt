use Rattle.std.proofs.{Common.{sym, ◌∙◌}, lemmas.List.append-nil}
use Rattle.ix_script.{specs.scripts.Packed.line_in, proofs.back.{Respelling.{skipped_text, write_words, file_words}, TextBack.one_text}}
use Rattle.ix_script.proofs.writing.write_line.Goals as goal

pub returns-then-has_one_spelling : goal.returns-then-has_one_spelling
returns-then-has_one_spelling c =
    let k = c.requires in
    rw (one_text c.args.labels k.before c.args.text.now (line_in c.args.labels c.args.text.now) k.told k.said k.faultless (sym c.has_one_spelling.ensures ∙ c.if-has_one_spelling.true)) c.push.ensures

pub returns-then-is_skipped : goal.returns-then-is_skipped
returns-then-is_skipped c = rw (skipped_text c.args.labels c.args.text.now (sym c.is_skipped.ensures ∙ c.if-is_skipped.true)) (sym (append-nil _))

pub behind_words-requires-clause-plain : goal.behind_words-requires-clause-plain
behind_words-requires-clause-plain c = (write_words _ _ c.requires c.if-has_one_spelling.ensures c.if-is_skipped.ensures c.if-begins.ensures).plain

pub behind_words-requires-clause-more : goal.behind_words-requires-clause-more
behind_words-requires-clause-more c = (write_words _ _ c.requires c.if-has_one_spelling.ensures c.if-is_skipped.ensures c.if-begins.ensures).more

pub write_payload-requires-clause-last : goal.write_payload-requires-clause-last
write_payload-requires-clause-last c =
    let k = write_words _ _ c.requires c.if-has_one_spelling.ensures c.if-is_skipped.ensures c.if-begins.ensures in
    (k.last _ c.behind_words.ensures).within_text

pub write_payload-requires-clause-known : goal.write_payload-requires-clause-known
write_payload-requires-clause-known c =
    let k = write_words _ _ c.requires c.if-has_one_spelling.ensures c.if-is_skipped.ensures c.if-begins.ensures in
    (k.last _ c.behind_words.ensures).known

pub returns-then-begins : goal.returns-then-begins
returns-then-begins c =
    let k = write_words _ _ c.requires c.if-has_one_spelling.ensures c.if-is_skipped.ensures c.if-begins.ensures in
    rw (k.last c.behind_words.result.now c.behind_words.ensures).spelled_so c.write_payload.ensures

pub write_payload-requires-2-clause-last : goal.write_payload-requires-2-clause-last
write_payload-requires-2-clause-last c =
    rw (c.get.ensures, c.cut.ensures) (file_words _ _ c.requires c.if-has_one_spelling.ensures c.if-is_skipped.ensures c.if-begins.ensures).within_text

pub write_payload-requires-2-clause-known : goal.write_payload-requires-2-clause-known
write_payload-requires-2-clause-known c =
    rw (c.get.ensures, c.cut.ensures) (file_words _ _ c.requires c.if-has_one_spelling.ensures c.if-is_skipped.ensures c.if-begins.ensures).known

pub returns : goal.returns
returns c = rw (file_words c.args.labels c.args.text.now c.requires c.if-has_one_spelling.ensures c.if-is_skipped.ensures c.if-begins.ensures).spelled_so
    (rw (c.get.ensures, c.cut.ensures) at c.write_payload-2.ensures)
