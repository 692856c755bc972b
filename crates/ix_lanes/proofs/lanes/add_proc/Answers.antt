use Rattle.std.proofs.Common.{◌≡◌, [], refl, ◌∙◌, arith}
use Rattle.ix_script.specs.lines.Before.{proc_name_told}
use Rattle.ix_lanes.{specs.histories.Indexed.line_in, proofs.found.Roles.no-proc}
use Rattle.ix_lanes.proofs.lanes.add_proc.Goals as goal

pub returns-in_default : goal.returns-in_default
returns-in_default c =
    let none : proc_name_told (line_in c.args.script.now c.args.index) ≡ [] = no-proc _ (λ is. c.in_default.not-Header (c.role_at.ensures ∙ is)) in
    record { header = rw none refl; count = (rw none (omega arith), omega arith) }
