-- What the session server has still to ask for.
use Rattle.std.specs.Prelude.{ℕ, List}
use Rattle.ix_model.specs.declared.ids.Fd.{Fd}
use Rattle.ix_policy.specs.declared.rule.Rule.{Rule}
use Rattle.ix_asking.specs.Asking.{Asking}
use Rattle.ix_asking.specs.declared.serving.outcome.Outcome.{Outcome}
use Rattle.ix_asking.specs.serving.Serving.{Server, read}
use Rattle.ix_asking.specs.serving.Telling.{telling_asks, telling_most}
use Rattle.ix_sessserv.specs.Serving.{drop_all, fork, give_up, grant_rest, on_message, serves, set_ceiling}
use Rattle.ix_sessserv.specs.declared.server.At.{At}
use Rattle.ix_sessserv.specs.declared.server.At.TheVariants as at

abbrev pub asks_at : List Rule → Server → Fd → At → Asking Outcome
asks_at rules s hand at.Claim = serves rules s hand
asks_at rules s hand (at.Read client label) = read s (on_message rules s hand) client label
asks_at rules s hand (at.Fork rule) = fork rules s hand rule
asks_at rules s hand (at.Drop child rule) = drop_all rules s child rule
asks_at rules s hand (at.Ceiling child rule) = set_ceiling rules s child rule
asks_at rules s hand (at.Grant child rule) = grant_rest rules s child rule
asks_at rules s hand (at.GiveUp child why step) = give_up s child why step
asks_at rules s hand (at.Tell t) = telling_asks s t

abbrev pub most_at : At → ℕ
most_at at.Claim = 9
most_at (at.Read client label) = 8
most_at (at.Fork rule) = 7
most_at (at.Drop child rule) = 6
most_at (at.Ceiling child rule) = 5
most_at (at.Grant child rule) = 4
most_at (at.GiveUp child why step) = 3
most_at (at.Tell t) = telling_most t
