-- What another label of an object leaves as it was.
use Rattle.std.proofs.Common.{◌≡◌, ℕ, List, Option, map, sum, is_some, unwrap_or, refl, ap}
use Rattle.ix_label.specs.Category.{Categories}
use Rattle.ix_model.{specs.{world.{World.{Object, change}, Owners.names_in_all}, rows.Walks.{node, nothing}}, proofs.tables.Tables.{map_changed, seen_changed}}

pub names_relabelled : (t : List (Option Object)) (n : ℕ) (l : Categories) → names_in_all (change t n (λ y. record y { label = l })) ≡ names_in_all t
names_relabelled t n l = ap sum (map_changed _ _ (λ y. refl) t n)

pub names_kept : (t : List (Option Object)) (n m : ℕ) (l : Categories) → (node (change t n (λ y. record y { label = l })) m).names ≡ (node t m).names
names_kept t n m l = seen_changed (λ o. (unwrap_or o nothing).names) (λ y. record y { label = l }) (λ y. refl) t n m

pub standing_relabelled : (t : List (Option Object)) (n : ℕ) (l : Categories) → map is_some (change t n (λ y. record y { label = l })) ≡ map is_some t
standing_relabelled t n l = map_changed _ _ (λ y. refl) t n

pub ruleset relabelling = (names_relabelled, names_kept, standing_relabelled)
