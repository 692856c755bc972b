-- Configs that differ no further than in what high files hold.
use Rattle.std.specs.Prelude.{◌==◌, Bool, not, ◌&&◌, ◌||◌}
use Rattle.std.specs.Cmp.Lexicographic.{pointwise}
use Rattle.std.proofs.Math.Bool.{beq}
use Rattle.ix_label.specs.Category.{Categories, leq, same}
use Rattle.ix_model.specs.world.Naming.{same_bytes}
use Rattle.ix_model.specs.declared.config.Config.{Config}
use Rattle.ix_model.specs.declared.config.FsSpec.{FsSpec}
use Rattle.ix_model.specs.declared.config.Limits.{Limits}
use Rattle.ix_model.specs.declared.config.ObjSpec.{ObjSpec}
use Rattle.ix_model.specs.declared.config.ProcSpec.{ProcSpec}
use Rattle.ix_twin.specs.Sameness.{same_path, same_privs}

-- two file systems are one
abbrev pub same_fs : FsSpec → FsSpec → Bool
same_fs a b = same_bytes a.name b.name && same a.ceiling b.ceiling && a.blocks == b.blocks && a.inodes == b.inodes

abbrev pub same_limits : Limits → Limits → Bool
same_limits a b = a.procs == b.procs && a.opens == b.opens && a.pipes == b.pipes && a.names == b.names && a.log == b.log

abbrev pub same_proc : ProcSpec → ProcSpec → Bool
same_proc a b = same a.label b.label && same a.ceiling b.ceiling && same_privs a.cap b.cap && same_privs a.lic b.lic

-- two object lines are one, but for the bytes of a file that isn't at or below L
abbrev pub same_object : Categories → ObjSpec → ObjSpec → Bool
same_object l a b =
    same_path a.path b.path && beq a.dir b.dir && same a.label b.label && beq a.frozen b.frozen && same_privs a.cap b.cap && same_privs a.lic b.lic
    && (not (leq a.label l) || same_bytes a.bytes b.bytes)

-- two configs differ in nothing but the journal's size and the bytes of files that aren't at or below L
unfoldable pub differ_above : Categories → Config → Config → Bool
differ_above l c d =
    pointwise same_fs c.fss d.fss && same_limits c.limits d.limits && pointwise same_proc c.procs d.procs && pointwise (same_object l) c.objects d.objects
