-- Further file systems, under another name for the list of them, and the root.
use Rattle.std.proofs.Common.{◌≡◌, ◌≢◌, ℕ, Bool, false, List, [], ◌∷◌, length, refl, sym, ap, ◌∙◌}
use Rattle.ix_model.specs.{opening.Valid.is_mount, world.Naming.same_names, declared.config.FsSpec.FsSpec}

pub not_mount : (b : Bool) (fss gss : List FsSpec) (names : List (List ℕ)) → b ≡ is_mount fss names → b ≡ false → fss ≡ gss → is_mount gss names ≡ false
not_mount b fss gss names h f e = ap (λ fs. is_mount fs names) (sym e) ∙ sym h ∙ f

-- a path with a name isn't the root's
pub not_root : (names : List (List ℕ)) → length names ≢ 0 → same_names [] names ≡ false
not_root [] h = absurd (h refl)
not_root (name ∷ names) h = refl
