-- What the rule of floating says of a process that looks at something.
use Rattle.std.proofs.Common.{◌≡◌, ℕ, Bool, true, false, not, Ok, Err, Some, None, if◌then◌else◌}
use Rattle.ix_label.specs.Category.{Categories, join}
use Rattle.ix_model.specs.{world.World.{Frame, Process, at, living}, rows.Outcomes.{Refuse, Row}, declared.{refusal.Refusal.Refusal, views.Floating.Floating}}
use Rattle.ix_model.specs.rows.Rows.{◌>>◌, ◌>>=◌, on_pass, need, some, only_if, pass, refuse, process, change_process, observe}
use Rattle.ix_model.specs.declared.refusal.Refusal.TheVariants as refusal
use Rattle.ix_float.specs.Floating.{floated}

-- the tests of the row, and the same tests of the rule
tests_refuse : (a b c : Bool) (m : Row (Unit {0})) (f : Frame) (l : Categories) (why : Refusal)
    → Err why ≡ (if a then Ok None else if b then Err refusal.ProcFrozen else if c then Ok (Some l) else Err refusal.ProcCeiling)
    → only_if (not a) (◌>>◌ (need (not b) refusal.ProcFrozen) (◌>>◌ (need c refusal.ProcCeiling) m)) f ≡ Refuse why f
unfolding only_if need ◌>>◌ on_pass pass refuse
tests_refuse true b c m f l why h = cc
tests_refuse false true c m f l why h = cc
tests_refuse false false true m f l why h = cc
tests_refuse false false false m f l why h = cc

-- where the rule refuses, the row refuses the same
pub looked_in_vain : (f : Frame) (pid : ℕ) (p : Process) (seen : Categories) (x : Floating) (why : Refusal) → living (at f.processes pid) ≡ Some p
    → p.label ≡ x.label → p.ceiling ≡ x.ceiling → p.frozen ≡ x.frozen
    → Err why ≡ floated refusal.ProcFrozen refusal.ProcCeiling x seen → observe pid seen f ≡ Refuse why f
unfolding observe ◌>>=◌ on_pass process some pass
looked_in_vain f pid p seen x why is label ceiling frozen h = rw (is, label, ceiling, frozen) (tests_refuse _ _ _
    (change_process pid (λ q. record q { label = join q.label seen })) f _ _ h)
