use Rattle.std.proofs.{Common.{refl, lit<}, lemmas.Fmt.decimal_digit}
use Rattle.ix_script.specs.lines.RuleTexts.{first_rule_text, rule_text}
use Rattle.ix_host.specs.report.Rules.{refusal_line}
use Rattle.ix_host.proofs.refusals.rules.too_long_line.Goals as goal

pub returns : goal.returns
unfolding refusal_line rule_text first_rule_text
returns c = rw (decimal_digit 1 (lit< tt)) refl
