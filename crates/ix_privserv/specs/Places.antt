-- What the privilege server has still to ask for.
use Rattle.std.specs.Prelude.{ℕ, List}
use Rattle.ix_policy.specs.declared.rule.Rule.{Rule}
use Rattle.ix_asking.specs.Asking.{Asking}
use Rattle.ix_asking.specs.declared.serving.outcome.Outcome.{Outcome}
use Rattle.ix_asking.specs.serving.Serving.{Server, read}
use Rattle.ix_asking.specs.serving.Telling.{telling_asks, telling_most}
use Rattle.ix_privserv.specs.Serving.{grant, on_message, serves}
use Rattle.ix_privserv.specs.declared.server.At.{At}
use Rattle.ix_privserv.specs.declared.server.At.TheVariants as at

abbrev pub asks_at : List Rule → Server → At → Asking Outcome
asks_at rules s at.Claim = serves rules s
asks_at rules s (at.Read client label) = read s (on_message rules s) client label
asks_at rules s (at.Grant client want rule) = grant s client want rule
asks_at rules s (at.Tell t) = telling_asks s t

abbrev pub most_at : At → ℕ
most_at at.Claim = 5
most_at (at.Read client label) = 4
most_at (at.Grant client want rule) = 3
most_at (at.Tell t) = telling_most t
