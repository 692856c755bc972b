-- Before there is any process.
use Rattle.std.proofs.{Common.{◌≡◌, ◌+◌, ℕ, zero, suc, List, [], length, replicate, refl, sym, subst, arith, get_or}, lemmas.List.{length-replicate, FromFn.length-range_with_len}}
use Rattle.ix_links.{specs.Chains.{Chains, all_free}, proofs.Making.{times-range, total-empty}}
use Rattle.ix_proc.specs.{Kin.AreKin, declared.slot.{Slot.Slot, Record.Record}}

no_chain : (m i : ℕ) → get_or (replicate {A = List ℕ} m []) i [] ≡ []
no_chain zero i = refl
no_chain (suc m) zero = refl
no_chain (suc m) (suc i) = no_chain m i

pub kin_none : (t : List Slot) (rs : List Record) (k : Chains) (m : ℕ) → t ≡ [] → k ≡ all_free m (m + 1) → AreKin t rs k m
kin_none t rs k m empty new = subst (λ (c : Chains). AreKin t rs c m) (sym new) (subst (λ (u : List Slot). AreKin u rs (all_free m (m + 1)) m) (sym empty) (record {
  children = λ p s e. absurd (cc e);
  roots = no_chain (m + 1) m;
  parents = λ p s q e h. absurd (cc e);
  idle = λ i low none. no_chain (m + 1) i;
  whole = λ i. omega (arith, times-range m i);
  spare = omega (arith, length-range_with_len 0 m);
  wide = length-replicate (m + 1) [];
  pooled = omega (arith, length-range_with_len 0 m, total-empty length (m + 1) refl);
}))
