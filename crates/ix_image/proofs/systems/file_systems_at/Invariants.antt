use Rattle.std.proofs.Common.{◌≡◌, ◌-◌}
use Rattle.ix_image.{specs.Reading.file_systems_at, proofs.Looping.with_front}
use Rattle.ix_image.proofs.systems.file_systems_at.Given as goal

abbrev pub invariant-loop : goal.invariant-loop
invariant-loop l = with_front l.fss.items (file_systems_at (l.count - l.counter) l.rest) ≡ file_systems_at l.count l.bytes
