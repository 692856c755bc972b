use Rattle.std.{proofs.Common.{sym, ap, ◌∙◌}, specs.Option.option_map_or}
use Rattle.serde_json.{specs.Events.members_len, proofs.Views.members_len-members_view}
use Rattle.ix_policy.specs.Fields.{key_count}
use Rattle.ix_policy.proofs.fields.key_count.Goals as goal

pub returns-in-Some : goal.returns-in-Some
unfolding key_count
returns-in-Some c =
    c.len.ensures.len
    ∙ sym (members_len-members_view c.in-Some.members.now.entries)
    ∙ ap (λ o. option_map_or members_len o 0) c.in-Some.ensures
