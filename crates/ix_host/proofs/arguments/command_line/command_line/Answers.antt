use Rattle.std.proofs.{Common.{rules, ◌≡◌, ◌∙◌, ap₂, codes}, lemmas.Result.IfOk-weaker}
use Rattle.clap.specs.Words.{app_of, rule_of, with_rule}
use Rattle.ix_host.specs.command.CommandLine.{bare_line, value}
use Rattle.ix_host.proofs.arguments.command_line.command_line.Goals as goal

pub returns : goal.returns
returns c =
    let command_is : rule_of c.action-command.result ≡ value (codes "command") = search rules in
    let count_is : rule_of c.action-count.result ≡ value (codes "count") = search rules in
    let bare : app_of c.disable_version_flag.result ≡ bare_line = search rules in
    let first : app_of c.in_ok-arg.field-0 ≡ with_rule bare_line (value (codes "command")) = c.in_ok-arg.ensures.shape (search rules) ∙ ap₂ with_rule bare command_is in
    IfOk-weaker c.arg-2.result _ _ (λ line h. h.shape (search rules) ∙ ap₂ with_rule first count_is) c.arg-2.ensures
