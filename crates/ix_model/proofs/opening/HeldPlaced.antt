-- What the objects of a config's lines hold, with one line more.
use Rattle.std.proofs.Common.{◌≡◌, ◌≢◌, ◌<◌, ℕ, Bool, true, false, List, [], Option, get_or, set, refl, sym, ap, ◌∙◌, if◌then◌else◌, length}
use Rattle.std.proofs.lemmas.List.{get_or-set_same, get_or-set_other}
use Rattle.ix_model.specs.{world.{World.{Object, Holding, is_dir}, Contents.holds_nothing}, opening.Opening.object_of, declared.config.{ObjSpec.ObjSpec, FsSpec.FsSpec, Limits.Limits}}
use Rattle.ix_model.proofs.{opening.{Lines.Line, Placing.{Place, with_one, not_new, each_after}, CountsPlaced.holding_for, Built.Held}, sound.Lengths.set_either}
use Rattle.ix_model.specs.declared.reply.Kind.TheVariants as kind

-- the object of a line is a directory where the line says so
dir_of : (k : ℕ) (b : ObjSpec) → is_dir (object_of k b) ≡ b.dir
dir_of k b = go _
  where
    go : (d : Bool) → (elim (if d then kind.Dir else kind.File) [ kind.Dir ↦ true | _ ↦ false ]) ≡ d
    go true = refl
    go false = refl

module _ (fss : List FsSpec) (l : Limits) (before : List ObjSpec) (t : List (Option Object)) (hs : List Holding) (b : ObjSpec) (o d k : ℕ) (p : Place t o d)
    (line : Line fss l before b) (inside : o < length hs) where
  new_holds : is_dir (object_of k b) ≡ true → (get_or (set hs o (holding_for b)) o holds_nothing).first ≡ []
  new_holds dir = ap (λ h. h.first) (get_or-set_same hs o _ holds_nothing inside) ∙ line.bare (sym (dir_of k b) ∙ dir)

  old_holds : (m : ℕ) → m ≢ o → (get_or hs m holds_nothing).first ≡ [] → (get_or (set hs o (holding_for b)) m holds_nothing).first ≡ []
  old_holds m other none = ap (λ h. h.first) (get_or-set_other hs o m _ holds_nothing other) ∙ none

  pub held_after : Held t hs → Held (with_one t b d k o) (set hs o (holding_for b))
  held_after r = record {
    directory = each_after t b o d k p _
        new_holds
        (λ dir. old_holds d (not_new t b o d k p d _ p.is_dir) (r.directory d p.dir p.is_dir dir))
        (λ m x other apart is dir. old_holds m other (r.directory m x is dir));
    second = λ m. set_either (λ h. h.second ≡ []) holds_nothing hs o m (holding_for b) (λ e. refl) (r.second m);
  }
