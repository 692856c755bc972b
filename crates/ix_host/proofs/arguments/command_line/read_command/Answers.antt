use Rattle.std.proofs.Common.{rules, ◌≡◌, ◌∙◌, sym, subst, ap, [], map, string_bytes, true, false}
use Rattle.clap.specs.{Words.{App, HasKind, HasMatchesOf, app_of, fault_of, is_simple_and_free}, declared.error.kind.ErrorKind.TheVariants.OutOfMemory}
use Rattle.ix_host.{specs.command.CommandLine.command_line, proofs.words_in.LineWalk.{is_free, line_reads, line_refuses}}
use Rattle.ix_host.proofs.arguments.command_line.read_command.Goals as goal

pub returns-in-Ok-try_get_matches_from : goal.returns-in-Ok-try_get_matches_from
returns-in-Ok-try_get_matches_from c =
    let words = map string_bytes c.args.words.now in
    let app_is : app_of c.in-Ok.line ≡ command_line = search rules in
    let no_fault : fault_of command_line words ≡ [] =
    subst (λ (a : App). fault_of a words ≡ []) app_is (c.in-Ok-try_get_matches_from.ensures.kinds (ap is_simple_and_free app_is ∙ is_free)) in
    c.read_values.ensures ∙ line_reads words c.in-Ok-try_get_matches_from.matches no_fault
    (subst (λ (a : App). HasMatchesOf a words c.in-Ok-try_get_matches_from.matches) app_is c.in-Ok-try_get_matches_from.ensures.matches)

pub returns-in-Err-2 : goal.returns-in-Err-2
returns-in-Err-2 c =
    let words = map string_bytes c.args.words.now in
    let app_is : app_of c.in-Ok.line ≡ command_line = search rules in
    let has = subst (λ (a : App). HasKind (fault_of a words) c.in-Err-2.field-0) app_is (c.in-Err-2.ensures.kinds (ap is_simple_and_free app_is ∙ is_free)) in
    sym (line_refuses words c.in-Err-2.field-0 has (λ out. let is : c.kind.result ≡ OutOfMemory = search rules in let bad : false ≡ true = rw is at c.if-eq.ensures in cc))
