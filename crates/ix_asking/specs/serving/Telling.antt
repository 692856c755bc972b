-- What a server that tells has still to ask for.
use Rattle.std.specs.Prelude.{ℕ}
use Rattle.ix_asking.specs.declared.serving.outcome.Outcome.{Outcome}
use Rattle.ix_asking.specs.declared.serving.telling.Telling.{Telling}
use Rattle.ix_asking.specs.declared.serving.telling.Telling.TheVariants as telling
use Rattle.ix_asking.specs.Asking.{Asking, Done}
use Rattle.ix_asking.specs.serving.Serving.{Server, write, unclaim}
use Rattle.ix_asking.specs.serving.Texts.{said}

abbrev pub telling_asks : Server → Telling → Asking Outcome
telling_asks s (telling.Write text o) = write s (said text) o
telling_asks s (telling.Unclaim o) = unclaim s o
telling_asks s (telling.Done o) = Done o

abbrev pub telling_most : Telling → ℕ
telling_most (telling.Write text o) = 2
telling_most (telling.Unclaim o) = 1
telling_most (telling.Done o) = 0
