-- The reader's steps over the whole image.
use Rattle.std.proofs.{Common.{◌≡◌, ℕ, ◌<◌, ◌≤◌, true, false, cond, ◌==◌, List, length, drop, Result, Ok, Err, refl, sym, ap, ◌∙◌}, lemmas.Bool.{lt-ltb, le-ltb}}
use Rattle.ix_model.specs.{opening.Valid.is_within, declared.config.FsSpec.FsSpec}
use Rattle.ix_image.specs.{declared.fault.{Fault.Fault, Stop.Stop}, Trees.{TreeOf, NodeOf, inodes_in}, Image.{is_count_of_file_systems, longest}, Meant.Stops}
use Rattle.ix_image.specs.{Fitting.names_fit, Reading.{◌>>=◌, breaks, ends, start_at, number_at, file_systems_at, nodes_at, fields_of, tree_in}}
use Rattle.ix_image.specs.declared.fault.Stop.TheVariants as stop

-- ---- all fields
-- what comes behind the objects
abbrev last_step : List FsSpec → List NodeOf × List ℕ → Result TreeOf Fault
last_step fss nodes = cond (length nodes.1 == 0) (Ok (record { fss = fss; nodes = nodes.0 })) (Err (breaks 7 nodes.1))

-- what comes behind the number of objects, and behind the file systems
abbrev behind_count : List FsSpec → ℕ × List ℕ → Result TreeOf Fault
behind_count fss objects = nodes_at fss 0 objects.0 objects.1 >>= last_step fss

abbrev behind_systems : List FsSpec → ℕ → List ℕ → Result TreeOf Fault
behind_systems fss most bytes = number_at (is_within 0 most) bytes >>= behind_count fss

module _ (bytes r s u : List ℕ) (k n : ℕ) (fss xs : List FsSpec) (start : start_at bytes ≡ Ok r) (count : number_at is_count_of_file_systems r ≡ Ok (k, s))
    (systems : file_systems_at k s ≡ Ok (fss, u))
    (same : xs ≡ fss) (most : n ≡ inodes_in xs) where
  behind : fields_of bytes ≡ behind_systems fss n u
  unfolding fields_of
  behind = rw (start, count, systems) (ap (λ m. behind_systems fss m u) (sym (most ∙ ap inodes_in same)))

  pub no_count : (f : Fault) → number_at (is_within 0 n) u ≡ Err f → fields_of bytes ≡ Err f
  no_count f e = behind ∙ ap (λ x. x >>= behind_count fss) e

  counted : (o : ℕ) (v : List ℕ) → number_at (is_within 0 n) u ≡ Ok (o, v) → fields_of bytes ≡ (nodes_at fss 0 o v >>= last_step fss)
  counted o v e = behind ∙ ap (λ x. x >>= behind_count fss) e

  pub no_nodes : (o : ℕ) (v : List ℕ) (f : Fault) → number_at (is_within 0 n) u ≡ Ok (o, v) → nodes_at xs 0 o v ≡ Err f → fields_of bytes ≡ Err f
  no_nodes o v f e d = counted o v e ∙ ap (λ x. x >>= last_step fss) (ap (λ ys. nodes_at ys 0 o v) (sym same) ∙ d)

  pub stopped : (o : ℕ) (v : List ℕ) (why : Stop) → number_at (is_within 0 n) u ≡ Ok (o, v) → Stops why (nodes_at xs 0 o v) → Stops why (fields_of bytes)
  stopped o v (stop.Fault f) e d = no_nodes o v f e d
  stopped o v stop.NoMemory e d = tt

  listed : (o : ℕ) (v : List ℕ) (nodes : List NodeOf) (w : List ℕ) → number_at (is_within 0 n) u ≡ Ok (o, v) → nodes_at xs 0 o v ≡ Ok (nodes, w) → fields_of bytes ≡ last_step fss (nodes, w)
  listed o v nodes w e d = counted o v e ∙ ap (λ x. x >>= last_step fss) (ap (λ ys. nodes_at ys 0 o v) (sym same) ∙ d)

  pub more_left : (o : ℕ) (v : List ℕ) (nodes : List NodeOf) (w : List ℕ) → number_at (is_within 0 n) u ≡ Ok (o, v) → nodes_at xs 0 o v ≡ Ok (nodes, w) → (length w == 0) ≡ false → fields_of bytes
      ≡ Err (breaks 7 w)
  more_left o v nodes w e d some = listed o v _ w e d ∙ ap (λ b. cond b (Ok (record { fss = fss; nodes = nodes })) (Err (breaks 7 w))) some

  pub none_left : (o : ℕ) (v : List ℕ) (nodes : List NodeOf) (w : List ℕ) → number_at (is_within 0 n) u ≡ Ok (o, v) → nodes_at xs 0 o v ≡ Ok (nodes, w) → (length w == 0) ≡ true → fields_of bytes
      ≡ Ok (record { fss = fss; nodes = nodes })
  none_left o v nodes w e d none = listed o v _ w e d ∙ ap (λ b. cond b (Ok (record { fss = fss; nodes = nodes })) (Err (breaks 7 w))) none

-- ---- the tree
pub too_long : (bytes : List ℕ) → longest < length bytes → tree_in bytes ≡ Err (breaks 9 (drop longest bytes))
unfolding tree_in
too_long bytes long = rw (lt-ltb) refl

pub misfit : (bytes : List ℕ) (t : TreeOf) → length bytes ≤ longest → fields_of bytes ≡ Ok t → names_fit t ≡ false → tree_in bytes ≡ Err (ends 8)
unfolding tree_in
misfit bytes t short e unfit = rw (le-ltb, e, unfit) refl

pub whole_tree : (bytes : List ℕ) (t : TreeOf) → length bytes ≤ longest → fields_of bytes ≡ Ok t → names_fit t ≡ true → tree_in bytes ≡ Ok t
unfolding tree_in
whole_tree bytes t short e fits = rw (le-ltb, e, fits) refl
