-- The exercise of privileges, and the lines of the audit log.
use Rattle.std.specs.Prelude.{ℕ, ◌||◌, nat_lt, [], ◌∷◌, ◌++◌, length}
use Rattle.ix_label.specs.Category.{Categories}
use Rattle.ix_model.specs.world.Privs.{no_privileges, has_all}
use Rattle.ix_model.specs.rows.Outcomes.{Row, Pass}
use Rattle.ix_model.specs.rows.Rows.{◌>>=◌, ◌>>◌, need, frame, process}
use Rattle.ix_model.specs.declared.privs.PrivSet.{PrivSet}
use Rattle.ix_model.specs.declared.audit.Act.{Act}
use Rattle.ix_model.specs.declared.audit.AuditLine.{AuditLine}
use Rattle.ix_model.specs.declared.refusal.Refusal.TheVariants as refusal

-- a privilege has to be in the caller's capabilities, and in its licences or its own
unfoldable pub entitled : ℕ → PrivSet → Row (Unit {0})
entitled pid x = do
  p ← process pid
  need (has_all p.cap x) refusal.NoCapability
  need (has_all p.lic x || has_all p.own x) refusal.NoLicence

-- the log takes one line more
unfoldable pub log_has_room : Row (Unit {0})
log_has_room = do
  f ← frame
  need (nat_lt (length f.log) f.limits.log) refusal.LogFull

-- the exercise of a privilege, which the log has to have room for
unfoldable pub exercise : ℕ → PrivSet → Row (Unit {0})
exercise pid x = do
  entitled pid x
  log_has_room

-- one line more at the end of the log
unfoldable pub logged : AuditLine → Row (Unit {0})
logged l = λ f. Pass tt (record f { log = f.log ++ l ∷ [] })

-- a line without sets: the entry's place, the caller, the act, its target, and the label or ceiling before and after
abbrev pub audit_line : ℕ → ℕ → Act → ℕ → Categories → Categories → AuditLine
audit_line place pid act target was now = record { place = place; pid = record { 0 = pid }; act = act; target = target; was = was; now = now; cap = no_privileges; lic = no_privileges }
