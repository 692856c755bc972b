use Rattle.std.proofs.Common.{◌≡◌, ◌*◌, ◌-◌, ◌++◌, [], zero, suc, take, ℕ, Option, None, replicate, refl, ap, ◌∙◌, arith}
use Rattle.ix_numbers.proofs.Tied.{none_stands}
use Rattle.ix_open.{specs.{Entries.table_of, Indexed.seen}, proofs.{Tabled.none_tables, Indexed.{index_none, seen_none}, Counted.counted_none}}
use Rattle.ix_open.proofs.opens.Opens.new.Goals as goal

-- what a list that was empty is filled up to
filled : {A : Type 0} (n : ℕ) (x : A) → take {A = A} n [] ++ replicate (n - 0) x ≡ replicate n x
filled zero x = refl
filled {A = A} (suc n) x = let all : suc n - 0 ≡ suc n = omega arith in ap (λ k. replicate {A = A} k x) all

pub invariant_of-result : goal.invariant_of-result
invariant_of-result c =
    let empty : c.resize.new.self.items ≡ replicate {A = Option ℕ} c.args.opens None = c.in_ok-resize.ensures.items
    ∙ rw (c.new-keys.ensures.items, c.new-keys.ensures.len) (filled {A = Option ℕ} c.args.opens None) in
    let zeros : c.resize-2.new.self.items ≡ replicate (2 * c.args.objects) 0 = c.in_ok-resize-2.ensures.items
    ∙ rw (c.new-counts.ensures.items, c.new-counts.ensures.len) (filled (2 * c.args.objects) 0) in (
      index_none c.in_ok-entries.entries c.resize.new.self.items c.args.opens empty c.in_ok-entries.ensures.empty c.in_ok-entries.ensures.capacity,
      (
        rw empty (c.in_ok-numbers.ensures ∙ none_stands ℕ c.args.opens),
        rw (zeros, empty, seen_none c.in_ok-entries.entries c.args.opens) (counted_none c.args.opens c.args.objects (omega (arith, c.ranges.opens))),
      ),
    )

pub returns : goal.returns
returns c =
    let empty : c.resize.new.self.items ≡ replicate {A = Option ℕ} c.args.opens None = c.in_ok-resize.ensures.items
    ∙ rw (c.new-keys.ensures.items, c.new-keys.ensures.len) (filled {A = Option ℕ} c.args.opens None) in
    ap (λ ks. table_of (seen c.in_ok-entries.entries ks) c.args.objects) empty
    ∙ ap (λ es. table_of es c.args.objects) (seen_none c.in_ok-entries.entries c.args.opens) ∙ none_tables c.args.opens c.args.objects
