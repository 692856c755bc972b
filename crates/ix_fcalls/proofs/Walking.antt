-- One step of a walk, with the labels joined as it goes.
use Rattle.std.proofs.Common.{◌≡◌, ℕ, List, [], ◌∷◌, Option, Some, None, true, false, refl, sym, ap, ◌∙◌}
use Rattle.ix_label.specs.{Category.{Categories, bottom, join}, Lattice.{join-bottom, join-bottom_right, join-assoc}}
use Rattle.ix_model.specs.{world.World.{Object, is_dir}, rows.Walks.{Walk, node, child, walk_from, looking_into, lacking, join_all}}
use Rattle.ix_model.specs.rows.Walks as sought
use Rattle.ix_fcalls.specs.Views.{Seen, seen_in}

-- a walk with a label joined to what it sees
abbrev pub raised : Categories → Walk → Seen
raised label w = record { outcome = w.outcome; label = join label (join_all w.looked) }

-- nothing is joined at first
pub raised_none : (w : Walk) → raised bottom w ≡ seen_in w
raised_none w = ap (λ l. let s : Seen = record { outcome = w.outcome; label = l } in s) (join-bottom _)

raised_lacking : (label : Categories) (x : Object) (dir : ℕ) (names : List (List ℕ)) → record {
  outcome = (lacking dir names).outcome;
  label = join label x.label;
} ≡ raised label (looking_into x (lacking dir names))
raised_lacking label x dir [] = rw join-bottom_right refl
raised_lacking label x dir (name ∷ names) = rw join-bottom_right refl

module _ (t : List (Option Object)) (label : Categories) (n : ℕ) (dir : Option ℕ) (names : List (List ℕ)) where
  pub not_dir_here : (name : List ℕ) (rest : List (List ℕ)) → names ≡ name ∷ rest → is_dir (node t n) ≡ false
      → record { outcome = sought.NotDir; label = label } ≡ raised label (walk_from t n dir names)
  not_dir_here name rest h d = rw (h, d, join-bottom_right) refl

  pub missing_here : (name : List ℕ) (rest : List (List ℕ)) → names ≡ name ∷ rest → is_dir (node t n) ≡ true → child (node t n) name ≡ None
      → record { outcome = (lacking n rest).outcome; label = join label (node t n).label } ≡ raised label (walk_from t n dir names)
  missing_here name rest h d m =
      let e : walk_from t n dir names ≡ looking_into (node t n) (lacking n rest) = rw (h, d, m) refl in
      raised_lacking _ (node t n) n _ ∙ ap (raised label) (sym e)

  pub goes_on : (name : List ℕ) (rest : List (List ℕ)) (next : ℕ) → names ≡ name ∷ rest → is_dir (node t n) ≡ true → child (node t n) name ≡ Some next
      → raised (join label (node t n).label) (walk_from t next (Some n) rest) ≡ raised label (walk_from t n dir names)
  goes_on name rest next h d m = rw (h, d, m, join-assoc) refl

  pub ends_here : names ≡ [] → record { outcome = sought.Found n dir; label = label } ≡ raised label (walk_from t n dir names)
  ends_here h = rw (h, join-bottom_right) refl

pub ruleset steps = (raised_none, not_dir_here, missing_here, goes_on, ends_here)
