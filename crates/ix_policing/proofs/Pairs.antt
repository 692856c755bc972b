-- The greatest request of the two rules that decide a request stands for it.
use Rattle.std.proofs.Common.{◌≡◌, ◌⊎◌, inl, inr, ℕ, true, List, Option, Some, None, sym, ap, ◌∙◌}
use Rattle.ix_policy.specs.Deciding.{decide, matches, numbered}
use Rattle.ix_policy.specs.declared.{request.Request.Request, rule.Rule.Rule}
use Rattle.ix_policing.specs.{Common.{common, greatest}, Outcomes.is_asked, Unnamed.IsUnnamed, Within.is_within}
use Rattle.ix_policing.proofs.Commons.{below_common, common_from, common_within, IsCommon}
use Rattle.ix_policing.proofs.Deciders.{decided, same_number, unnamed_at, Decided, Undecided}

-- that is a request which the same rules decide, and the other is within it
pub record Stands (a b : List Rule) (other : List ℕ) (q : Request) (o : Option Request) : Type 0 where
  pub request : Request
  pub is : o ≡ Some request
  pub first : (decide a request).rule ≡ (decide a q).rule
  pub second : (decide b request).rule ≡ (decide b q).rule
  pub within : is_within other q request ≡ true

module _ (a b : List Rule) (other : List ℕ) (free_a : IsUnnamed other a) (free_b : IsUnnamed other b) (q : Request) (asked : is_asked q ≡ true) where
  -- where the two rules match what is asked, and each policy is decided by one of them or by none
  from_pair : (o : Option Request) (r s : Rule) → o ≡ common r s other → matches r q ≡ true → matches s q ≡ true
      → ((x : Rule) → numbered a (decide a q).rule ≡ Some x → (t : Request) → IsCommon r s other t → matches x t ≡ true)
      → ((x : Rule) → numbered b (decide b q).rule ≡ Some x → (t : Request) → IsCommon r s other t → matches x t ≡ true)
      → Stands a b other q o
  from_pair o r s are rq sq in_a in_b =
      let c = common_from r s other q asked rq sq in
      record {
        request = c.0;
        is = are ∙ c.1.is;
        first = same_number a c.0 q (record {
          below = λ n y there on_t. below_common r s y other c.0 q c.1.is rq sq (unnamed_at other a n y free_a there) on_t;
          decider = λ x there. in_a x there c.0 c.1;
        });
        second = same_number b c.0 q (record {
          below = λ n y there on_t. below_common r s y other c.0 q c.1.is rq sq (unnamed_at other b n y free_b there) on_t;
          decider = λ x there. in_b x there c.0 c.1;
        });
        within = common_within r s other c.0 q c.1.is rq sq;
      }

  first_alone : (d : Decided a q (decide a q).rule) → Undecided b q (decide b q).rule
      → Stands a b other q (greatest (numbered a (decide a q).rule) (numbered b (decide b q).rule) other)
  unfolding greatest
  first_alone d v =
      let none : numbered b (decide b q).rule ≡ None = ap (numbered b) v.is in
      from_pair (greatest (numbered a (decide a q).rule) (numbered b (decide b q).rule) other) d.rule d.rule
      (ap (λ x. greatest x (numbered b (decide b q).rule) other) d.there ∙ ap (λ y. greatest (Some d.rule) y other) none)
      d.match_is d.match_is
      (λ x there t c. let e : Some d.rule ≡ Some x = sym d.there ∙ there in let same : d.rule ≡ x = cc in ap (λ y. matches y t) (sym same) ∙ c.left)
      (λ x there t c. let e = sym none ∙ there in cc)

  second_alone : Undecided a q (decide a q).rule → (d : Decided b q (decide b q).rule)
      → Stands a b other q (greatest (numbered a (decide a q).rule) (numbered b (decide b q).rule) other)
  unfolding greatest
  second_alone u d =
      let none : numbered a (decide a q).rule ≡ None = ap (numbered a) u.is in
      from_pair (greatest (numbered a (decide a q).rule) (numbered b (decide b q).rule) other) d.rule d.rule
      (ap (λ x. greatest x (numbered b (decide b q).rule) other) none ∙ ap (λ y. greatest None y other) d.there)
      d.match_is d.match_is
      (λ x there t c. let e = sym none ∙ there in cc)
      (λ x there t c. let e : Some d.rule ≡ Some x = sym d.there ∙ there in let same : d.rule ≡ x = cc in ap (λ y. matches y t) (sym same) ∙ c.left)

  both_decided : (d : Decided a q (decide a q).rule) → (e : Decided b q (decide b q).rule)
      → Stands a b other q (greatest (numbered a (decide a q).rule) (numbered b (decide b q).rule) other)
  unfolding greatest
  both_decided d e =
      from_pair (greatest (numbered a (decide a q).rule) (numbered b (decide b q).rule) other) d.rule e.rule
      (ap (λ x. greatest x (numbered b (decide b q).rule) other) d.there ∙ ap (λ y. greatest (Some d.rule) y other) e.there)
      d.match_is e.match_is
      (λ x there t c. let o : Some d.rule ≡ Some x = sym d.there ∙ there in let same : d.rule ≡ x = cc in ap (λ y. matches y t) (sym same) ∙ c.left)
      (λ x there t c. let o : Some e.rule ≡ Some x = sym e.there ∙ there in let same : e.rule ≡ x = cc in ap (λ y. matches y t) (sym same) ∙ c.right)

  -- no rule of either decides the request, or the greatest request of the rules that do stands for it
  pub stands : (Undecided a q (decide a q).rule × Undecided b q (decide b q).rule)
      ⊎ Stands a b other q (greatest (numbered a (decide a q).rule) (numbered b (decide b q).rule) other)
  stands = elim (decided a q) [
    | inl u ↦ elim (decided b q) [
      | inl v ↦ inl (u, v)
      | inr e ↦ inr (second_alone u e)
    ]
    | inr d ↦ elim (decided b q) [
      | inl v ↦ inr (first_alone d v)
      | inr e ↦ inr (both_decided d e)
    ]
  ]
