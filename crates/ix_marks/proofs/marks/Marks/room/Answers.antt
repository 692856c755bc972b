use Rattle.std.proofs.Common.{◌≡◌, ◌+◌, length, count_by, is_some, sym, ap, ◌∙◌, subst}
use Rattle.ix_marks.{specs.RowIndex.{RowOwners, AreDifferent}, proofs.Room.room}
use Rattle.ix_marks.proofs.marks.Marks.room.Goals as goal

pub returns : goal.returns
returns c =
    let owners : c.self.inside.owners ≡ c.args.self.now.owners = ap (λ k. k.owners) c.self.view_is in
    λ processes few all here none. room c.args.self.now.owners.pids c.args.self.now.owners.free c.args.self.now.sizes.rows
    (subst (λ (s : RowOwners). AreDifferent s.pids) owners c.lemma_rows_add_up.ensures.different)
    (subst (λ (s : RowOwners). s.free + count_by is_some s.pids ≡ length s.pids) owners c.lemma_rows_add_up.ensures.spare)
    (ap (λ (s : RowOwners). length s.pids) (sym owners) ∙ ap (λ k. k.sizes.rows) c.self.view_is)
    processes c.args.pid.0 few all here none
