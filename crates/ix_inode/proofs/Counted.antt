-- The blocks that the files of one file system use, among those of all.
use Rattle.std.proofs.Common.{◌≡◌, ◌<◌, ◌+◌, ◌==◌, ◌∙◌, ℕ, zero, suc, true, false, List, [], ◌∷◌, ◌++◌, length, get_or, Option, Some, None, if◌then◌else◌, refl}
use Rattle.std.proofs.Common.{sym, ap, subst, arith}
use Rattle.std.{specs.Option.option_map_or, proofs.lemmas.Bool.Decides.nat_tests}
use Rattle.ix_label.specs.Category.{Categories}
use Rattle.ix_model.specs.rows.Telling.{blocks_for}
use Rattle.ix_blocks.specs.Files.{used}
use Rattle.ix_inode.specs.{declared.{node.Node.Node, volume.Volume.Volume}, Nodes.blocks_of, Volumes.{AreOn, all_nodes, all_bytes}}

-- ---- one file system
rest_on : (k : ℕ) (c : Categories) (x : Option Node) (ns : List (Option Node)) (b : List ℕ) (bs : List (List ℕ)) → AreOn k c (x ∷ ns) (b ∷ bs) → AreOn k c ns bs
rest_on k c x ns b bs h = record { fs = λ n. h.fs (suc n); below = λ n. h.below (suc n); empty = λ n. h.empty (suc n) }

same_number : (k j : ℕ) → j ≡ k → (j == k) ≡ true
same_number k j e = grind (arith, nat_tests, e)

other_number : (k j : ℕ) → (j ≡ k → ⊥) → (j == k) ≡ false
other_number k j ne = grind (arith, nat_tests, ne)

one_on : (k : ℕ) (x : Option Node) (b : List ℕ) → ((y : Node) → x ≡ Some y → y.fs ≡ k) → (x ≡ None → b ≡ [])
    → (if option_map_or (λ y. y.fs == k) x false then blocks_for (length b) else 0) ≡ blocks_for (length b)
one_on k None b fs empty = sym (ap (λ (xs : List ℕ). blocks_for (length xs)) (empty refl))
one_on k (Some y) b fs empty = ap (λ t. if t then blocks_for (length b) else 0) (same_number k y.fs (fs y refl))

one_off : (j k : ℕ) (x : Option Node) (b : List ℕ) → ((y : Node) → x ≡ Some y → y.fs ≡ j) → (j ≡ k → ⊥) → (if option_map_or (λ y. y.fs == k) x false then blocks_for (length b) else 0) ≡ 0
one_off j k None b fs ne = refl
one_off j k (Some y) b fs ne = ap (λ t. if t then blocks_for (length b) else 0) (other_number k y.fs (λ e. ne (sym (fs y refl) ∙ e)))

used_on : (k : ℕ) (c : Categories) (ns : List (Option Node)) (bs : List (List ℕ)) → AreOn k c ns bs → length bs ≡ length ns → blocks_of k ns bs ≡ used bs
used_on k c [] [] h long = refl
used_on k c [] (b ∷ bs) h long = absurd (omega (arith, long))
used_on k c (x ∷ ns) [] h long = absurd (omega (arith, long))
used_on k c (x ∷ ns) (b ∷ bs) h long = λ i. one_on k x b (h.fs 0) (h.empty 0) i + used_on k c ns bs (rest_on k c x ns b bs h) (omega (arith, long)) i

used_off : (j k : ℕ) (c : Categories) (ns : List (Option Node)) (bs : List (List ℕ)) → AreOn j c ns bs → (j ≡ k → ⊥) → blocks_of k ns bs ≡ 0
used_off j k c [] bs h ne = refl
used_off j k c (x ∷ ns) [] h ne = refl
used_off j k c (x ∷ ns) (b ∷ bs) h ne = λ i. one_off j k x b (h.fs 0) ne i + used_off j k c ns bs (rest_on j c x ns b bs h) ne i

used_append : (k : ℕ) (ns ms : List (Option Node)) (bs cs : List (List ℕ)) → length bs ≡ length ns → blocks_of k (ns ++ ms) (bs ++ cs) ≡ blocks_of k ns bs + blocks_of k ms cs
used_append k [] ms [] cs long = omega arith
used_append k [] ms (b ∷ bs) cs long = absurd (omega (arith, long))
used_append k (x ∷ ns) ms [] cs long = absurd (omega (arith, long))
used_append k (x ∷ ns) ms (b ∷ bs) cs long = omega (arith, used_append k ns ms bs cs (omega (arith, long)))

-- ---- all file systems, counted from a number on
pub record IsOn (k : ℕ) (v : Volume) : Type 0 where
  pub on : AreOn k v.spec.ceiling v.nodes v.blocks.files
  pub long : length v.blocks.files ≡ length v.nodes

abbrev AreOnes : ℕ → List Volume → Type 0
AreOnes j vs = (i : ℕ) (v : Volume) → i < length vs → v ≡ get_or vs i v → IsOn (i + j) v

rest_ones : (j : ℕ) (v : Volume) (vs : List Volume) → AreOnes j (v ∷ vs) → AreOnes (suc j) vs
rest_ones j v vs h = λ i w low is. subst (λ m. IsOn m w) (omega arith) (h (suc i) w (omega arith) is)

used_past : (vs : List Volume) (j k : ℕ) → AreOnes j vs → k < j → blocks_of k (all_nodes vs) (all_bytes vs) ≡ 0
used_past [] j k h low = refl
used_past (v ∷ vs) j k h low =
    let one = h 0 v (omega arith) refl in
    let here : blocks_of k v.nodes v.blocks.files ≡ 0 = used_off (0 + j) k v.spec.ceiling v.nodes v.blocks.files one.on (λ e. omega (arith, e, low)) in
    used_append k v.nodes (all_nodes vs) v.blocks.files (all_bytes vs) one.long ∙ (λ i. here i + used_past vs (suc j) k (rest_ones j v vs h) (omega arith) i)

pub used_here : (vs : List Volume) (j k i : ℕ) (v : Volume) → AreOnes j vs → k ≡ i + j → i < length vs → v ≡ get_or vs i v → blocks_of k (all_nodes vs) (all_bytes vs) ≡ used v.blocks.files
used_here [] j k i v h number low is = absurd (omega (arith, low))
used_here (w ∷ vs) j k zero v h number low is =
    let one = h 0 w (omega arith) refl in
    let here : blocks_of k w.nodes w.blocks.files ≡ used w.blocks.files =
    used_on k w.spec.ceiling w.nodes w.blocks.files (subst (λ m. AreOn m w.spec.ceiling w.nodes w.blocks.files) (sym number) one.on) one.long in
    let past : blocks_of k (all_nodes vs) (all_bytes vs) ≡ 0 = used_past vs (suc j) k (rest_ones j w vs h) (omega (arith, number)) in
    used_append k w.nodes (all_nodes vs) w.blocks.files (all_bytes vs) one.long ∙ omega (arith, here, past) ∙ ap (λ (u : Volume). used u.blocks.files) (sym is)
used_here (w ∷ vs) j k (suc i) v h number low is =
    let one = h 0 w (omega arith) refl in
    let here : blocks_of k w.nodes w.blocks.files ≡ 0 = used_off (0 + j) k w.spec.ceiling w.nodes w.blocks.files one.on (λ e. omega (arith, e, number)) in
    let rest : blocks_of k (all_nodes vs) (all_bytes vs) ≡ used v.blocks.files = used_here vs (suc j) k i v (rest_ones j w vs h) (omega (arith, number)) (omega (arith, low)) is in
    used_append k w.nodes (all_nodes vs) w.blocks.files (all_bytes vs) one.long ∙ omega (arith, here, rest)
