-- What the texts of the code mean.
use Rattle.std.specs.Prelude.{ℕ, List, drop}
use Rattle.ix_asking.specs.declared.serving.text.Text.{Text}

-- its bytes
abbrev pub said : Text → List ℕ
said t = drop t.start t.bytes
