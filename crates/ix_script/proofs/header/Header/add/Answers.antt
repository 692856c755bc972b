use Rattle.std.proofs.{Common.{refl, sym, ap, arith}, lemmas.List.append-nil}
use Rattle.ix_script.proofs.{lines.Follows.follows, reader.{Commands.{or_true, or_false}, Keeping.{header_next, no_names, nothing_made, quiet}, Validity.fits_of}}
use Rattle.ix_script.proofs.header.Header.add.Goals as goal

pub returns-in_ok-push-in-Limit : goal.returns-in_ok-push-in-Limit
returns-in_ok-push-in-Limit c =
    λ lines first told valid fault.
    header_next _ _ _ _ _ first told (fits_of _ valid) (follows _ _ fault)
    (rw c.in-Limit.is (omega arith)) c.in_ok-add_fs.ensures c.limits_after-self.ensures (rw c.in-Limit.is c.in_ok-push-in-Limit.ensures.ok) (rw c.in-Limit.is (no_names _))
    (rw c.in-Limit.is (nothing_made _)) (rw c.as_slice.ensures at c.take.ensures) (rw c.group.ensures at c.max-self.ensures)
    (rw c.in-Limit.is (sym (or_false _)))

pub returns-in-Fs : goal.returns-in-Fs
returns-in-Fs c =
    λ lines first told valid fault.
    header_next _ _ _ _ _ first told (fits_of _ valid) (follows _ _ fault)
    (rw c.in-Fs.is refl) c.in_ok-add_fs.ensures c.limits_after-self.ensures (rw c.in-Fs.is (sym (append-nil _))) (rw c.in-Fs.is (no_names _))
    (rw c.in-Fs.is (nothing_made _)) (rw c.as_slice.ensures at c.take.ensures) (rw c.group.ensures at c.max-self.ensures) (rw c.in-Fs.is (sym (or_false _)))

pub returns-in_ok-push-in-Proc : goal.returns-in_ok-push-in-Proc
returns-in_ok-push-in-Proc c =
    λ lines first told valid fault.
    header_next _ _ _ _ _ first told (fits_of _ valid) (follows _ _ fault)
    (rw c.in-Proc.is (omega arith)) c.in_ok-add_fs.ensures c.limits_after-self.ensures (rw c.in-Proc.is (sym (append-nil _)))
    (rw c.in-Proc.is (record { names = c.in_ok-push-in-Proc.ensures.names; count = c.in_ok-push-in-Proc.ensures.count }))
    (rw c.in-Proc.is (nothing_made _)) (rw c.as_slice.ensures at c.take.ensures) (rw c.group.ensures at c.max-self.ensures)
    (rw c.in-Proc.is (sym (or_false _)))

pub returns-in_ok-push-in-Dir : goal.returns-in_ok-push-in-Dir
returns-in_ok-push-in-Dir c =
    λ lines first told valid fault.
    header_next _ _ _ _ _ first told (fits_of _ valid) (follows _ _ fault)
    (rw c.in-Dir.is (omega arith)) c.in_ok-add_fs.ensures c.limits_after-self.ensures (rw c.in-Dir.is (sym (append-nil _))) (rw c.in-Dir.is (no_names _))
    (rw c.in-Dir.is (record { sites = λ os told. c.in_ok-push-in-Dir.ensures.sites os _ (ap (λ p. p.names) (sym c.path.ensures)) refl told; count = c.in_ok-push-in-Dir.ensures.count }))
    (rw c.as_slice.ensures at c.take.ensures) (rw c.group.ensures at c.max-self.ensures)
    (rw c.in-Dir.is (sym (or_false _)))

pub returns-in_ok-push-in-File : goal.returns-in_ok-push-in-File
returns-in_ok-push-in-File c =
    λ lines first told valid fault.
    header_next _ _ _ _ _ first told (fits_of _ valid) (follows _ _ fault)
    (rw c.in-File.is (omega arith)) c.in_ok-add_fs.ensures c.limits_after-self.ensures (rw c.in-File.is (sym (append-nil _))) (rw c.in-File.is (no_names _))
    (rw c.in-File.is (record { sites = λ os told. c.in_ok-push-in-File.ensures.sites os _ (ap (λ p. p.names) (sym c.path-in-File.ensures)) refl told; count = c.in_ok-push-in-File.ensures.count }))
    (rw c.as_slice.ensures at c.take.ensures) (rw c.group.ensures at c.max-self.ensures)
    (rw c.in-File.is (sym (or_false _)))

pub returns-in-Policy : goal.returns-in-Policy
returns-in-Policy c =
    λ lines first told valid fault.
    header_next _ _ _ _ _ first told (fits_of _ valid) (follows _ _ fault) (rw c.in-Policy.is (omega arith)) c.in_ok-add_fs.ensures c.limits_after-self.ensures
    (rw c.in-Policy.is (sym (append-nil _))) (rw c.in-Policy.is (no_names _))
    (rw c.in-Policy.is (nothing_made _)) (rw c.as_slice.ensures at c.take.ensures) (rw c.group.ensures at c.max-self.ensures)
    (rw c.in-Policy.is (sym (or_true _)))

pub returns-in_default : goal.returns-in_default
returns-in_default c =
    λ lines first told valid fault.
    let q = quiet _ c.in_default.not-Limit c.in_default.not-Fs c.in_default.not-Proc c.in_default.not-Dir c.in_default.not-File c.in_default.not-Policy in
    header_next _ _ _ _ _ first told (fits_of _ valid) (follows _ _ fault)
    (rw q.fss (omega arith)) c.in_ok-add_fs.ensures c.limits_after-self.ensures (rw q.whats (sym (append-nil _))) (rw q.procs (no_names _))
    (rw q.made (nothing_made _)) (rw c.as_slice.ensures at c.take.ensures) (rw c.group.ensures at c.max-self.ensures) (rw q.policy (sym (or_false _)))
