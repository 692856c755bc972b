-- Labels that stay below a ceiling.
use Rattle.std.proofs.Common.{◌≡◌, ℕ, true, Option, Some, List, subst, sym, ap, ◌∙◌}
use Rattle.ix_label.specs.{Category.{Categories, leq, same}, Lattice.same-decides}
use Rattle.ix_model.specs.{declared.config.FsSpec.FsSpec, world.World.{World, Object, at, ceiling_of}, rows.Walks.node, laws.Sound.Sound}
use Rattle.ix_tables.specs.{Views.object_by, declared.row.ObjectRow.ObjectRow}

-- the same label is below the same ceiling
pub below_still : (was now ceiling : Categories) → same was now ≡ true → leq was ceiling ≡ true → leq now ceiling ≡ true
below_still was now ceiling s h = subst (λ (l : Categories). leq l ceiling ≡ true) ((same-decides was now).0 s) h

-- an object's label is below its ceiling, in a world that is sound but for its processes
pub below_ceiling : (w v : World) (o : ℕ) (x : ObjectRow) → Sound w → v ≡ record w { frame = record w.frame { processes = v.frame.processes } }
    → at v.frame.objects o ≡ Some (object_by (node v.frame.objects o) x)
    → x.float.ceiling ≡ ceiling_of v.frame.fss (object_by (node v.frame.objects o) x) → leq x.float.label x.float.ceiling ≡ true
below_ceiling w v o x s rest here ceiling =
    let y : Object = object_by (node v.frame.objects o) x in
    let objects : v.frame.objects ≡ w.frame.objects = ap (λ (u : World). u.frame.objects) rest in
    let fss : v.frame.fss ≡ w.frame.fss = ap (λ (u : World). u.frame.fss) rest in
    ap (leq x.float.label) (ceiling ∙ ap (λ (t : List FsSpec). ceiling_of t y) fss) ∙ s.labels.objects o y (ap (λ (t : List (Option Object)). at t o) (sym objects) ∙ here)
