-- Objects: what is read is what was written, and what was written is read.
use Rattle.std.{proofs.Common.{◌≡◌, ℕ, zero, suc, ◌+◌, ◌^◌, ◌<◌, ◌≤◌, List, [], ◌∷◌, ◌++◌, length, Ok, refl, sym, ap, subst, ◌∙◌, append_assoc, arith}, specs.List.{flat_map, AllByRecursion}}
use Rattle.std.proofs.lemmas.{Bool.{and_parts, and_from, leb-true, le-leb, ltb-true, lt-ltb}, List.Concat.flat_map-cons}
use Rattle.ix_model.specs.{world.World.fs_at, declared.config.FsSpec.FsSpec}
use Rattle.ix_image.specs.{Trees.{NodeOf, are_links, inodes_in, home}, declared.marks.Marks.Marks, Labelled.label_bytes, Laws.AreBytes, Reading.{◌>>=◌, order_at, node_at, nodes_at}}
use Rattle.ix_image.{specs.Image.{four, held_bytes, marks_bytes, marks_of, node_bytes, IsNode, NumbersRise}, proofs.Objects.{marks_field, held_field}}
use Rattle.ix_image.proofs.Fielding.{OneField, Took, took_both, stepped, bind_ok, guard_ok, taken, word_field, label_below_field}

-- ---- numbers
-- a number of an object, from a least one on
record InOrder (fss : List FsSpec) (least n : ℕ) : Type 0 where
  from : least ≤ n
  inside : n < inodes_in fss

order_field : (fss : List FsSpec) (least : ℕ) → inodes_in fss ≤ 2 ^ 32 → OneField (order_at fss least) four (InOrder fss least)
unfolding order_at
order_field fss least few = record { takes = takes; again = again }
  where
    takes : (bytes : List ℕ) (n : ℕ) (rest : List ℕ) → AreBytes bytes → order_at fss least bytes ≡ Ok (n, rest) → Took bytes (four n) rest × InOrder fss least n
    takes bytes n rest are e =
        let s = stepped word_field _ _ _ are e in
        let g = guard_ok _ _ _ _ s.next in
        let p = and_parts _ _ g.0 in
        subst (λ p. Took bytes (four p.0) p.1 × InOrder fss least p.0) g.1 (s.took, record { from = leb-true _ _ p.0; inside = ltb-true _ _ p.1 })

    again : (n : ℕ) (rest : List ℕ) → InOrder fss least n → order_at fss least (four n ++ rest) ≡ Ok (n, rest)
    again n rest is =
        let test = and_from _ _ (le-leb _ _ is.from) (lt-ltb _ _ is.inside) in
        let low : n < 2 ^ 32 = omega (arith, is.inside) in
        rw (word_field.again, test) refl

-- ---- an object
abbrev IsNext : List FsSpec → ℕ → NodeOf → Type 0
IsNext fss least x = (least ≤ x.number) × IsNode fss x

pub node_field : (fss : List FsSpec) (least : ℕ) → inodes_in fss ≤ 2 ^ 32 → OneField (node_at fss least) node_bytes (IsNext fss least)
unfolding node_at
node_field fss least few = record { takes = takes; again = again }
  where
    takes : (bytes : List ℕ) (x : NodeOf) (rest : List ℕ) → AreBytes bytes → node_at fss least bytes ≡ Ok (x, rest) → Took bytes (node_bytes x) rest × IsNext fss least x
    takes bytes x rest are e =
        let a = stepped (order_field _ _ few) _ _ _ are e in
        let b = stepped marks_field _ _ _ a.took.are_bytes a.next in
        let g = stepped (label_below_field _) _ _ _ b.took.are_bytes b.next in
        let h = stepped (held_field _) _ _ _ g.took.are_bytes g.next in
        let made : NodeOf = record { number = a.value; frozen = b.value.frozen; cap = b.value.cap; lic = b.value.lic; label = g.value; holds = h.value } in
        let ah = took_both a.took (took_both b.took (took_both g.took h.took)) in
        taken bytes (made, h.rest) (x, rest) node_bytes (IsNext fss least) h.next (
          subst (λ (m : Marks). Took bytes (four a.value ++ (marks_bytes m ++ (label_bytes g.value ++ held_bytes h.value))) h.rest)
              (λ i. record b.value { is_dir = sym h.allowed.1 i }) ah,
          (
            a.allowed.from,
            record {
              inside = a.allowed.inside;
              cap = b.allowed.0;
              lic = b.allowed.1;
              label = g.allowed.0;
              below = g.allowed.1;
              holds =
                  h.allowed.0;
            },
          ),
        )

    again : (x : NodeOf) (rest : List ℕ) → IsNext fss least x → node_at fss least (node_bytes x ++ rest) ≡ Ok (x, rest)
    again x rest is =
        let ceiling = (fs_at fss (home fss x.number)).ceiling in
        let held = held_bytes x.holds ++ rest in
        let regrouped : node_bytes x ++ rest ≡ four x.number ++ (marks_bytes (marks_of x) ++ (label_bytes x.label ++ held)) =
        append_assoc (four x.number) (marks_bytes (marks_of x) ++ (label_bytes x.label ++ held_bytes x.holds)) rest
        ∙ ap (λ (b : List ℕ). four x.number ++ (marks_bytes (marks_of x) ++ b)) (append_assoc (label_bytes x.label) (held_bytes x.holds) rest) in
        ap (node_at fss least) regrouped ∙ rw (
          (order_field fss least few).again x.number (marks_bytes (marks_of x) ++ (label_bytes x.label ++ held)) (record { from = is.0; inside = is.1.inside }),
          marks_field.again (marks_of x) (label_bytes x.label ++ held) (is.1.cap, is.1.lic),
          (label_below_field ceiling).again x.label held (is.1.label, is.1.below),
          (held_field (are_links x.holds)).again x.holds rest (is.1.holds, refl),
        ) refl

-- ---- objects
abbrev AreNext : List FsSpec → ℕ → ℕ → List NodeOf → Type 0
AreNext fss least n xs = (length xs ≡ n) × (NumbersRise least xs × AllByRecursion (IsNode fss) xs)

module _ (fss : List FsSpec) (few : inodes_in fss ≤ 2 ^ 32) where
  nodes_take : (n least : ℕ) (bytes : List ℕ) (xs : List NodeOf) (rest : List ℕ) → AreBytes bytes → nodes_at fss least n bytes ≡ Ok (xs, rest) → Took bytes (flat_map node_bytes xs) rest
      × AreNext fss least n xs
  unfolding nodes_at
  nodes_take zero least bytes xs rest are e =
      let whole : Took bytes [] bytes = record { parts = refl; are_bytes = are } in
      taken bytes ([], bytes) (xs, rest) (flat_map node_bytes) (AreNext fss least 0) e (whole, (refl, (tt, tt)))
  nodes_take (suc n) least bytes xs rest are e =
      let s = stepped (node_field fss least few) bytes (λ first. nodes_at fss (first.0.number + 1) n first.1 >>= λ others. Ok (first.0 ∷ others.0, others.1)) (xs, rest) are e in
      let b = bind_ok (nodes_at fss (s.value.number + 1) n s.rest) (λ others. Ok (s.value ∷ others.0, others.1)) (xs, rest) s.next in
      let t = nodes_take n (s.value.number + 1) s.rest b.0.0 b.0.1 s.took.are_bytes b.1 in
      let whole : Took bytes (flat_map node_bytes (s.value ∷ b.0.0)) b.0.1 = subst (λ (x : List ℕ). Took bytes x b.0.1) (sym (flat_map-cons node_bytes s.value b.0.0)) (took_both s.took t.0) in
      taken bytes (s.value ∷ b.0.0, b.0.1) (xs, rest) (flat_map node_bytes) (AreNext fss least (suc n)) b.2
      (whole, (ap suc t.1.0, ((s.allowed.0, t.1.1.0), (s.allowed.1, t.1.1.1))))

  nodes_again : (least : ℕ) (xs : List NodeOf) (rest : List ℕ) → NumbersRise least xs → AllByRecursion (IsNode fss) xs → nodes_at fss least (length xs) (flat_map node_bytes xs ++ rest) ≡ Ok (xs, rest)
  unfolding nodes_at
  nodes_again least [] rest rise all = refl
  nodes_again least (x ∷ xs) rest rise all =
      ap (nodes_at fss least (suc (length xs))) (ap (λ b. b ++ rest) (flat_map-cons node_bytes x xs)
      ∙ append_assoc (node_bytes x) _ rest) ∙ rw (
        (node_field fss least few).again x (flat_map node_bytes xs ++ rest) (rise.0, all.0),
        nodes_again (x.number + 1) xs rest rise.1
            all.1,
      ) refl

  pub nodes_field : (n least : ℕ) → OneField (nodes_at fss least n) (flat_map node_bytes) (AreNext fss least n)
  nodes_field n least = record {
    takes = nodes_take n _;
    again = λ xs rest is. ap (λ k. nodes_at fss least k (flat_map node_bytes xs ++ rest)) (sym is.0) ∙ nodes_again _ xs _ is.1.0 is.1.1;
  }
