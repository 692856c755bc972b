use Rattle.std.proofs.{Common.{◌≡◌, ◌∙◌, ◌++◌, refl, sym, ap}, lemmas.List.append-nil}
use Rattle.ix_script.specs.lines.Before.{fs_told, limits_after, proc_told, object_told}
use Rattle.ix_script.proofs.{reader.Commands.on_ok, reader.Pushed.{fss_push, limits_push, procs_push, objects_push}, plan.Plan.add.Goals.{in-Some+in_ok-push, in_default}}
use Rattle.ix_script.proofs.plan.Plan.add.Goals as goal

pub returns : goal.returns
returns c = on_ok c.add_object.result (λ added lines was.
    let x = c.args.line.now in
    let fss : c.match-fs_spec.self.fss ≡ c.args.self.now.fss ++ fs_told x = elim c.match-fs_spec.branch [
      | in-Some+in_ok-push w ↦ rw (w.self-is, c.fs_spec.ensures, w.in-Some.is) w.in_ok-push.ensures.ok
      | in_default w ↦ rw (w.self-is, c.fs_spec.ensures, w.in_default.is) (sym (append-nil _))
    ] in
    let limits : c.match-fs_spec.self.limits ≡ c.args.self.now.limits = elim c.match-fs_spec.branch [ in-Some+in_ok-push w ↦ rw w.self-is refl | in_default w ↦ rw w.self-is refl ] in
    let procs : c.match-fs_spec.self.procs ≡ c.args.self.now.procs = elim c.match-fs_spec.branch [ in-Some+in_ok-push w ↦ rw w.self-is refl | in_default w ↦ rw w.self-is refl ] in
    let objects : c.match-fs_spec.self.objects ≡ c.args.self.now.objects = elim c.match-fs_spec.branch [ in-Some+in_ok-push w ↦ rw w.self-is refl | in_default w ↦ rw w.self-is refl ] in
    record {
      fss = fss ∙ ap (λ fs. fs ++ fs_told x) was.fss ∙ sym (fss_push _ x);
      limits = c.limits_after-self.ensures ∙ ap (λ l. limits_after l x) (limits ∙ was.limits) ∙ sym (limits_push _ x);
      procs = c.in_ok-add_proc.ensures ∙ ap (λ ps. ps ++ proc_told x) (procs ∙ was.procs) ∙ sym (procs_push _ x);
      objects = added ∙ ap (λ os. os ++ object_told x) (objects ∙ was.objects) ∙ sym (objects_push _ x);
    }) c.add_object.ensures
