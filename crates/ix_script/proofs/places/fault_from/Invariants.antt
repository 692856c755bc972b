use Rattle.std.proofs.Common.{◌≡◌, ◌+◌, drop, map, option_map}
use Rattle.ix_script.{specs.{lines.{Kinds.places_fault, Forms.places_from}, reader.Placing.kind_in}, proofs.lines.Readings.lesser}
use Rattle.ix_script.proofs.places.fault_from.Given as goal

abbrev pub invariant-kinds : goal.invariant-kinds
invariant-kinds l =
    lesser (option_map (λ r. r.0) l.broken) (places_fault (places_from (l.from + l.i) (map (kind_in l.labels l.words) (drop l.i l.kinds)) l.words))
    ≡ places_fault (places_from l.from (map (kind_in l.labels l.words) l.kinds) l.words)
