-- The lanes of a phase: the first of the script's in their order, and others.
use Rattle.std.proofs.Common.{◌≡◌, ℕ, suc, ◌+◌, ◌≤◌, ◌<◌, nat_lt, true, ◌&&◌, List, [], ◌∷◌, ◌++◌, length, get_or, take, inl, inr, refl, sym, ap, ◌∙◌, subst, arith}
use Rattle.std.proofs.{lemmas.{Bool.{cases_Bool, ltb-true}, List.{append-nil, append_assoc, length-append, take-append-le}}, Math.Seq.take-suc}
use Rattle.ix_model.{specs.world.Naming.same_bytes, proofs.tables.Alike.bytes_are}
use Rattle.ix_text.{specs.Bytes.is_empty, proofs.Tests.both}
use Rattle.ix_script.specs.lines.Before.{is_known, lanes_after}
use Rattle.ix_script.specs.declared.line.Line.TheVariants as line

-- one lane more keeps those before
kept_front : (k : ℕ) (lanes : List (List ℕ)) (name : List ℕ) → k ≤ length lanes → take k (lanes_after lanes (line.Lane name)) ≡ take k lanes
kept_front k lanes name low = elim (cases_Bool (is_known name lanes)) [
  | inl e ↦ rw e refl
  | inr e ↦ rw e (take-append-le k lanes _ low)
]

no_fewer : (lanes : List (List ℕ)) (name : List ℕ) → length lanes ≤ length (lanes_after lanes (line.Lane name))
no_fewer lanes name = elim (cases_Bool (is_known name lanes)) [
  | inl e ↦ rw e (omega arith)
  | inr e ↦ rw e (omega (arith, length-append lanes (name ∷ [])))
]

none_of : (others : List (List ℕ)) → is_empty others ≡ true → others ≡ []
none_of [] h = refl
none_of (x ∷ others) h = cc

-- so many lanes of the script in their order, and others: what a phase has with one lane more
pub record OneMore (k : ℕ) (all others before : List (List ℕ)) (name : List ℕ) : Type 0 where
  pub within : k ≤ length all
  pub lanes : take k all ++ others ≡ before ++ name ∷ []

-- what is known of the name of the next lane
pub record ComesNext (k : ℕ) (others all : List (List ℕ)) (name : List ℕ) : Type 0 where
  pub no_others : others ≡ []
  pub low : k < length all
  pub same : same_bytes name (get_or all k []) ≡ true
  pub is : name ≡ get_or all k []

pub comes_next : (k : ℕ) (others all : List (List ℕ)) (name : List ℕ) → (is_empty others && nat_lt k (length all) && same_bytes name (get_or all k [])) ≡ true
    → ComesNext k others all name
comes_next k others all name h =
    let p = both (is_empty others && nat_lt k _) (same_bytes name (get_or all k [])) h in
    let q = both (is_empty others) (nat_lt k _) p.0 in
    record { no_others = none_of _ q.0; low = ltb-true k _ q.1; same = p.1; is = bytes_are _ _ p.1 }

pub next_more : (k : ℕ) (all others lanes : List (List ℕ)) (name : List ℕ) → all ≡ lanes_after lanes (line.Lane name) → k ≤ length lanes
    → ComesNext k others all name → OneMore (k + 1) all others (take k lanes ++ others) name
next_more k all others lanes name is low n =
    let front = ap (take k) is ∙ kept_front k _ _ low in
    let more = take-suc all k [] n.low in
    let at : k + 1 ≡ suc k = omega arith in
    let whole =
    append-nil _ ∙ ap (λ j. take j all) at ∙ more ∙ ap (λ f. f ++ (get_or all k [] ∷ [])) (front ∙ sym (append-nil _))
    ∙ ap (λ x. (take k lanes ++ []) ++ x ∷ []) (sym n.is) in
    record {
      within = omega (arith, n.low);
      lanes = subst (λ os. take (k + 1) all ++ os ≡ (take k lanes ++ os) ++ name ∷ []) (sym n.no_others) whole;
    }

pub other_more : (k : ℕ) (all others lanes : List (List ℕ)) (name : List ℕ) → all ≡ lanes_after lanes (line.Lane name) → k ≤ length lanes
    → OneMore k all (others ++ name ∷ []) (take k lanes ++ others) name
other_more k all others lanes name is low = record {
  within = omega (arith, low, ap length is, no_fewer lanes name);
  lanes = ap (λ f. f ++ (others ++ name ∷ [])) (ap (take k) is ∙ kept_front k _ _ low) ∙ sym (append_assoc _ others _);
}
