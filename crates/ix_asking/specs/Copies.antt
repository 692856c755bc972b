-- The line `copy`.
use Rattle.std.specs.Prelude.{ℕ, List, [], ◌∷◌}
use Rattle.ix_model.specs.history.Events as op
use Rattle.ix_model.specs.declared.ids.Fd.{Fd}
use Rattle.ix_model.specs.declared.ids.Pid.{Pid}
use Rattle.ix_asking.specs.Asking.{Asking, Done, Ask}

-- it writes the bytes that it read, where there are any
abbrev pub write_all : ℕ → Pid → Fd → List ℕ → Asking (Unit {0})
write_all line pid to [] = Done tt
write_all line pid to (b ∷ bytes) = Ask (record { line = line; pid = pid.0; op = op.WriteFd to.0 (b ∷ bytes) }) (λ a. Done tt)

-- what a `copy` asks for: it reads
abbrev pub copies : ℕ → Pid → Fd → Fd → ℕ → Asking (Unit {0})
copies line pid from to count =
    Ask (record { line = line; pid = pid.0; op = op.ReadFd from.0 count }) (λ a. write_all line pid to a.bytes)
