-- What a `copy` has still to ask for.
use Rattle.std.specs.Prelude.{ℕ, List, take}
use Rattle.ix_asking.specs.declared.copying.Copying.{Copying}
use Rattle.ix_asking.specs.declared.copying.Part.{Part}
use Rattle.ix_asking.specs.declared.copying.Part.TheVariants as part
use Rattle.ix_asking.specs.declared.held.Held.{Held}
use Rattle.ix_asking.specs.Asking.{Asking, Done}
use Rattle.ix_asking.specs.Copies.{copies, write_all}

-- the bytes that are held
abbrev pub kept : Held → List ℕ
kept h = take h.len h.bytes

abbrev pub part_asks : Part → Copying → Asking (Unit {0})
part_asks part.Read c = copies c.line c.pid c.from c.to c.count
part_asks part.Write c = write_all c.line c.pid c.to (kept c.held)
part_asks part.Done c = Done tt

abbrev pub copying_asks : Copying → Asking (Unit {0})
copying_asks c = part_asks c.at c

abbrev pub copying_most : Copying → ℕ
copying_most c = elim c.at [ part.Read ↦ 2 | part.Write ↦ 1 | part.Done ↦ 0 ]
