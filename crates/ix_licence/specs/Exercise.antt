-- The exercise of a privilege.
use Rattle.std.specs.Prelude.{◌||◌, Result, Ok, Err, if◌then◌else◌}
use Rattle.ix_model.specs.world.Privs.{has_all}
use Rattle.ix_model.specs.declared.privs.PrivSet.{PrivSet}
use Rattle.ix_model.specs.declared.refusal.Refusal.{Refusal}
use Rattle.ix_model.specs.declared.refusal.Refusal.TheVariants as refusal
use Rattle.ix_licence.specs.declared.privs.Privs.{Privs}

-- it has to be in the capabilities, and in the licences of the process or in those of its program
abbrev pub exercised : Privs → PrivSet → Result (Unit {0}) Refusal
exercised p x =
    if has_all p.cap x then (if has_all p.lic x || has_all p.own x then Ok tt else Err refusal.NoLicence)
    else Err refusal.NoCapability
