-- The calls on labels, frozen marks, privileges and ceilings: their tests in order, their effects, replies and audit lines.
use Rattle.std.specs.Prelude.{ℕ, ◌==◌, Bool, true, false, not, ◌||◌, slice_get}
use Rattle.std.specs.Option.{option_map_or}
use Rattle.ix_label.specs.Category.{Categories, bottom, leq, same, join}
use Rattle.ix_model.specs.world.Naming.{PathOf}
use Rattle.ix_model.specs.world.Privs.{to_lower, to_grant, to_set_ceilings, to_thaw, to_read_the_log, either_of, without}
use Rattle.ix_model.specs.world.World.{Object, Process, is_dir, ceiling_of}
use Rattle.ix_model.specs.rows.Outcomes.{Row}
use Rattle.ix_model.specs.rows.Rows.{◌>>=◌, ◌>>◌, pass, need, some, only_if, frame, process, object, change_process, change_object, affect}
use Rattle.ix_model.specs.rows.Walks.{object_at}
use Rattle.ix_model.specs.rows.Auditing.{exercise, entitled, log_has_room, logged, audit_line}
use Rattle.ix_model.specs.declared.privs.PrivSet.{PrivSet}
use Rattle.ix_model.specs.declared.audit.Act.TheVariants as act
use Rattle.ix_model.specs.declared.refusal.Refusal.TheVariants as refusal
use Rattle.ix_model.specs.declared.reply.Reply.{Reply}
use Rattle.ix_model.specs.declared.reply.Reply.TheVariants as reply

-- ---- labels
-- LabelOf: the label of an object
unfoldable pub label_of : ℕ → PathOf → Row Reply
label_of pid path = do
  o ← object_at pid path
  x ← object o
  pass (reply.Lab x.label)

-- SelfLabel: the caller's own
unfoldable pub self_label : ℕ → Row Reply
self_label pid = do
  p ← process pid
  pass (reply.Lab p.label)

-- a label that isn't lowered has to take in the caller's; one that is lowered needs DOWN
unfoldable pub allowed : ℕ → Categories → Categories → Row (Unit {0})
allowed pid was now = do
  p ← process pid
  only_if (leq was now) (need (leq (join was p.label) now) refusal.NotAbove)
  only_if (not (leq was now)) (exercise pid to_lower)

-- an object's label changes only where it isn't frozen, and stays below its ceiling
unfoldable pub movable : Object → Categories → Row (Unit {0})
movable x now = do
  f ← frame
  only_if (not (same x.label now)) (do
    need (not x.frozen) refusal.FileFrozen
    need (leq now (ceiling_of f.fss x)) refusal.FsCeiling)

-- SetLabel: the object's label is that; a lowering is logged
unfoldable pub set_label : ℕ → ℕ → PathOf → Categories → Row Reply
set_label place pid path now = do
  o ← object_at pid path
  x ← object o
  allowed pid x.label now
  movable x now
  change_object o (λ y. record y { label = now })
  only_if (not (leq x.label now)) (logged (audit_line place pid act.DownFile o x.label now))
  pass reply.Done

-- SetSelf: the caller's label is that; a lowering needs DOWN, and is logged
unfoldable pub set_self : ℕ → ℕ → Categories → Row Reply
set_self place pid now = do
  p ← process pid
  only_if (not (leq p.label now)) (exercise pid to_lower)
  only_if (not (same p.label now)) (do
    need (not p.frozen) refusal.ProcFrozen
    need (leq now p.ceiling) refusal.ProcCeiling)
  change_process pid (λ q. record q { label = now })
  only_if (not (leq p.label now)) (logged (audit_line place pid act.DownSelf pid p.label now))
  pass reply.Done

-- ---- frozen marks
-- Freeze: an object's label moves no more
unfoldable pub freeze : ℕ → PathOf → Row Reply
freeze pid path = do
  o ← object_at pid path
  affect pid o bottom
  change_object o (λ x. record x { frozen = true })
  pass reply.Done

-- FreezeSelf: the caller's label moves no more
unfoldable pub freeze_self : ℕ → Row Reply
freeze_self pid = do
  change_process pid (λ p. record p { frozen = true })
  pass reply.Done

-- Thaw: not frozen, also where it wasn't
unfoldable pub thaw : ℕ → ℕ → PathOf → Row Reply
thaw place pid path = do
  o ← object_at pid path
  x ← object o
  exercise pid to_thaw
  change_object o (λ y. record y { frozen = false })
  logged (audit_line place pid act.ThawFile o x.label x.label)
  pass reply.Done

-- ThawSelf: the caller isn't frozen, also where it wasn't
unfoldable pub thaw_self : ℕ → ℕ → Row Reply
thaw_self place pid = do
  p ← process pid
  exercise pid to_thaw
  change_process pid (λ q. record q { frozen = false })
  logged (audit_line place pid act.ThawSelf pid p.label p.label)
  pass reply.Done

-- ---- privileges
-- SetPriv: the file's sets, which also affects it
unfoldable pub set_priv : ℕ → ℕ → PathOf → PrivSet → PrivSet → Row Reply
set_priv place pid path cap lic = do
  o ← object_at pid path
  x ← object o
  need (not (is_dir x)) refusal.IsDir
  exercise pid to_grant
  p ← process pid
  affect pid o bottom
  change_object o (λ y. record y { cap = cap; lic = lic })
  logged (record (audit_line place pid act.SetPriv o x.label (join x.label p.label)) { cap = cap; lic = lic })
  pass reply.Done

-- DropLic: the set goes from all three of the caller's
unfoldable pub drop_lic : ℕ → PrivSet → Row Reply
drop_lic pid set = do
  change_process pid (λ p. record p { cap = without p.cap set; lic = without p.lic set; own = without p.own set })
  pass reply.Done

-- GrantLic: the set joins the licences of a process
unfoldable pub grant_lic : ℕ → ℕ → ℕ → PrivSet → Row Reply
grant_lic place pid target set = do
  q ← process target
  exercise pid to_grant
  change_process target (λ p. record p { lic = either_of p.lic set })
  logged (record (audit_line place pid act.Grant target q.label q.label) { lic = set })
  pass reply.Done

-- ---- ceilings
-- CEIL is needed for a ceiling that isn't at or below the old one, and for that of a process that is neither the caller nor its child
abbrev pub needs_to_set_ceilings : ℕ → ℕ → Process → Categories → Bool
needs_to_set_ceilings pid target q now = not (leq now q.ceiling) || not (target == pid || option_map_or (λ r. r == pid) q.parent false)

-- SetCeiling: the ceiling of a process, not below its label
unfoldable pub set_ceiling : ℕ → ℕ → ℕ → Categories → Row Reply
set_ceiling place pid target now = do
  q ← process target
  need (leq q.label now) refusal.BelowLabel
  only_if (needs_to_set_ceilings pid target q now) (exercise pid to_set_ceilings)
  change_process target (λ p. record p { ceiling = now })
  only_if (needs_to_set_ceilings pid target q now) (logged (audit_line place pid act.Ceiling target q.ceiling now))
  pass reply.Done

-- ---- the log
-- ReadLog: a line of the log, counted from 0, before the one that this adds
unfoldable pub read_log : ℕ → ℕ → ℕ → Row Reply
read_log place pid index = do
  entitled pid to_read_the_log
  f ← frame
  l ← some (slice_get f.log index) refusal.EndOfList
  log_has_room
  p ← process pid
  logged (audit_line place pid act.ReadLog index p.label p.label)
  pass (reply.LogLine l)
